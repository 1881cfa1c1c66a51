use Rattle.vortex_scalar_ops.proofs.native_row.Tuple4NativeRow.into_cells.Goals as goal

pub returns : goal.returns
returns g c = c.in_ok-all.ensures _ _ (c.in_ok-three.ensures _ _ (c.in_ok-two.ensures _ _ (c.in_ok-one.ensures _ _ c.in_ok-none.ensures)))
