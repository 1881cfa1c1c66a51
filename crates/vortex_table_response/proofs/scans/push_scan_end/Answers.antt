use Rattle.vortex_table_response.proofs.Pieces.{seven_pieces}
use Rattle.vortex_table_response.proofs.scans.push_scan_end.Goals as goal

pub returns : goal.returns
returns c =
    seven_pieces c.args.out.now.items _ _ _ _ _ _ _ _ _ _ _ _ _ _ c.in_ok-extend_from_slice.ensures.items c.in_ok-push_number.ensures c.in_ok-extend_from_slice-2.ensures.items
    c.in_ok-push_numbers.ensures c.in_ok-extend_from_slice-3.ensures.items c.in_ok-push_numbers-2.ensures c.in_ok-extend_from_slice-4.ensures.items
