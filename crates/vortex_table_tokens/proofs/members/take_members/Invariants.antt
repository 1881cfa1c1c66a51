use Rattle.std.proofs.Common.{List, length}
use Rattle.json.specs.Token.{Token}
use Rattle.serde_json.specs.Data.{Members, no_members}
use Rattle.vortex_table_tokens.specs.Begins.{BeginsMembers}
use Rattle.vortex_table_tokens.specs.Members.{IsReadAs}
use Rattle.vortex_table_tokens.proofs.members.take_members.Given as goal

-- the members that are left come with those read
abbrev pub invariant-members : goal.invariant-members
invariant-members l =
    (ms : Members) × IsReadAs ms l.line × ((all : Members) (new : List Token) → BeginsMembers 126 l.reader ms all new → BeginsMembers 126 l.initial.reader no_members all new)

abbrev pub decreases-members : goal.decreases-members
decreases-members l = length l.reader
