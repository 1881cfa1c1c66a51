use Rattle.std.proofs.Common.{◌≡◌, Some, ap, arith}
use Rattle.json.specs.Json.{read_key}
use Rattle.serde_json.specs.Data.{no_members, put}
use Rattle.serde_json.specs.View.{members_view}
use Rattle.vortex_table_tokens.proofs.Grammar.{one_member, no_more_members}
use Rattle.vortex_table_tokens.proofs.MemberLemmas.{no_parts}
use Rattle.vortex_table_tokens.proofs.members.take_members.Goals as goal

pub members-init : goal.members-init
members-init c = (no_members, no_parts _ (ap members_view c.new.ensures.empty), λ all new h. h)

pub members-preserved : goal.members-preserved
members-preserved c =
    let l = c.members in
    let k = c.in-Some.name.now in
    let s = c.next_key.new.self in
    let r = c.take_member.new.reader in
    let named : read_key l.reader ≡ Some (Some k, s) = grind arith in
    let h = c.in_ok-take_member.ensures in
    let ms = put k h.0 l.invariant.0 in
    (ms, h.3 l.invariant.0 l.invariant.1, λ all new more. l.invariant.2 all new (one_member 126 l.reader s r new k h.0 l.invariant.0 all named h.1 more))

pub returns : goal.returns
returns c =
    let l = c.members in
    let ms = l.invariant.0 in
    (ms, l.invariant.2 ms c.next_key.new.self (no_more_members 126 l.reader c.next_key.new.self ms (grind arith)), l.invariant.1)
