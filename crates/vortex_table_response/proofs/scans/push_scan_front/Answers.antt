use Rattle.vortex_table_response.proofs.type_texts.Pieces.{five_pieces}
use Rattle.vortex_table_response.proofs.scans.push_scan_front.Goals as goal

pub returns : goal.returns
returns c =
    five_pieces c.args.out.now.items _ _ _ _ _ _ _ _ _ _ c.in_ok-extend_from_slice.ensures.items c.in_ok-push_dtype.ensures c.in_ok-extend_from_slice-2.ensures.items
    c.in_ok-push_number.ensures c.in_ok-extend_from_slice-3.ensures.items
