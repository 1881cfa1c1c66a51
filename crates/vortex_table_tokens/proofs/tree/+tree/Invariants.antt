use Rattle.std.proofs.Common.{◌≡◌, ◌+◌, ◌*◌, List, true, length}
use Rattle.json.specs.Token.{Token}
use Rattle.serde_json.specs.Data.{Items, Members, no_members}
use Rattle.serde_json.specs.View.{items_view, members_view}
use Rattle.vortex_table_request.specs.Parsed.{items_keep_whole, members_keep_whole}
use Rattle.vortex_table_tokens.specs.Begins.{BeginsItems, BeginsMembers}
use Rattle.vortex_table_tokens.proofs.Grammar.{items_before}
use Rattle.vortex_table_tokens.proofs.tree.+tree.Given as goal

abbrev pub decreases-read_tree : goal.decreases-read_tree
decreases-read_tree l = 2 * l.depth

abbrev pub decreases-read_items : goal.decreases-read_items
decreases-read_items l = 2 * l.depth + 1

abbrev pub decreases-read_members : goal.decreases-read_members
decreases-read_members l = 2 * l.depth + 1

-- the items that are left come after those found
abbrev pub invariant-read_items-items : goal.invariant-read_items-items
invariant-read_items-items l =
    ((ds : Items) (new : List Token) → BeginsItems l.depth l.reader ds new → BeginsItems l.depth l.initial.reader (items_before l.found.items ds) new)
    × (items_keep_whole (items_view l.found.items) ≡ true)

abbrev pub decreases-read_items-items : goal.decreases-read_items-items
decreases-read_items-items l = length l.reader

-- the members that are left come with those found
abbrev pub invariant-read_members-members : goal.invariant-read_members-members
invariant-read_members-members l =
    ((ms : Members) (new : List Token) → BeginsMembers l.depth l.reader (members_view l.found.entries) ms new → BeginsMembers l.depth l.initial.reader no_members ms new)
    × (members_keep_whole (members_view l.found.entries) ≡ true)

abbrev pub decreases-read_members-members : goal.decreases-read_members-members
decreases-read_members-members l = length l.reader
