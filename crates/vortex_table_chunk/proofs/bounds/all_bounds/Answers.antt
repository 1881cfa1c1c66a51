use Rattle.std.proofs.Common.{◌≡◌, ◌<◌, sym, subst, refl, true, length, get_or, arith}
use Rattle.vortex_model.specs.Kept.{is_leaf_at}
use Rattle.vortex_model_table.specs.Scan.{kind_at}
use Rattle.vortex_model_table.specs.ZoneMap.{values_at}
use Rattle.vortex_arrays_model.specs.Layout.{array_type_of, rows_of}
use Rattle.vortex_table_chunk.specs.zones.Bounds.{IsBoundsOf}
use Rattle.vortex_table_chunk.specs.zones.Typed.{is_typed_as}
use Rattle.vortex_table_chunk.proofs.LeafBounds.{leaf_pushed, type_pushed}
use Rattle.vortex_table_chunk.proofs.LeafPlaces.{leaf_leads}
use Rattle.vortex_table_chunk.proofs.bounds.all_bounds.Goals as goal

pub bounds-max_lengths-index : goal.bounds-max_lengths-index
bounds-max_lengths-index c = let same = c.requires.lengths in omega (arith, same, c.loop-index-test.true)

pub leaf_bounds-requires : goal.leaf_bounds-requires
leaf_bounds-requires c =
    let k = array_type_of c.args.array.now in let i = c.loop-index.index in let leaf = c.index-leaves-index.result in
    let inside = subst (λ ls. i < length ls) c.requires.leaves c.loop-index-test.true in
    let is = subst (λ ls. leaf ≡ get_or ls i leaf) c.requires.leaves c.index-leaves-index.is in
    subst (λ js. is_leaf_at k js ≡ true) (sym c.as_slice.ensures) (leaf_leads k i leaf inside is)

pub loop-index-preserved : goal.loop-index-preserved
loop-index-preserved c =
    let b = c.in_ok-bounds.bounds in
    let lengths = c.args.max_lengths.now in let i = c.loop-index.index in let same = c.requires.lengths in
    let within : i < length lengths = omega (arith, same, c.loop-index-test.true) in
    let L = get_or lengths i 0 in
    let k = array_type_of c.args.array.now in let rows = rows_of c.args.array.now in (
      leaf_pushed k lengths c.args.leaves.now i 0 L c.index-leaves-index.result c.loop-index.all.items c.push.new.self.items b rows
          within refl c.loop-index-test.true c.index-leaves-index.is c.in_ok-push.ensures.items c.loop-index.invariant.0
          (subst (λ is. IsBoundsOf (kind_at k is) L b (values_at is rows)) c.as_slice.ensures c.in_ok-bounds.ensures.statistics),
      type_pushed k c.args.leaves.now i c.index-leaves-index.result c.loop-index.all.items c.push.new.self.items b
          c.loop-index-test.true c.index-leaves-index.is c.in_ok-push.ensures.items c.loop-index.invariant.1
          (subst (λ is. is_typed_as (kind_at k is) b ≡ true) c.as_slice.ensures c.in_ok-bounds.ensures.types),
    )
