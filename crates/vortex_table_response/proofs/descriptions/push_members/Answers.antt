use Rattle.vortex_table_response.proofs.Pieces.{six_pieces}
use Rattle.vortex_table_response.proofs.descriptions.push_members.Goals as goal

pub returns : goal.returns
returns c =
    six_pieces c.args.out.now.items _ _ _ _ _ _ _ _ _ _ _ _ c.in_ok-push_member.ensures c.in_ok-push_member-2.ensures c.in_ok-push_member-3.ensures
    c.in_ok-push_member-4.ensures c.in_ok-push_member-5.ensures c.in_ok-extend_from_slice.ensures.items
