use Rattle.std.proofs.Common.{◌≡◌, ◌<◌, sym, subst, refl, true, length, get_or, arith}
use Rattle.vortex_model.specs.Kept.{is_leaf_at}
use Rattle.vortex_model_table.specs.Scan.{kind_at}
use Rattle.vortex_model_table.specs.ZoneMap.{values_at}
use Rattle.vortex_arrays_model.specs.Layout.{array_type_of, rows_of}
use Rattle.vortex_table_chunk.specs.zones.Bounds.{IsBoundsOf, WereBoundsOf}
use Rattle.vortex_table_chunk.specs.zones.Typed.{is_typed_as}
use Rattle.vortex_table_chunk.proofs.LeafBounds.{leaf_pushed, type_pushed}
use Rattle.vortex_table_chunk.proofs.LeafPlaces.{leaf_leads}
use Rattle.vortex_table_chunk.proofs.retyped.push_retyped.Goals as goal

pub retyped_bounds-requires-clause-leaf : goal.retyped_bounds-requires-clause-leaf
retyped_bounds-requires-clause-leaf c =
    let k = array_type_of c.args.array.now in let i = c.args.index in let leaf = c.index-leaves-index.result in
    let inside = subst (λ ls. i < length ls) c.requires.leaves c.requires.within in
    let is = subst (λ ls. leaf ≡ get_or ls i leaf) c.requires.leaves c.index-leaves-index.is in
    subst (λ js. is_leaf_at k js ≡ true) (sym c.as_slice-positions.ensures) (leaf_leads k i leaf inside is)

pub returns-clause-statistics : goal.returns-clause-statistics
returns-clause-statistics c = λ before.
    let b = c.in_ok-bounds.bounds in
    let lengths = c.args.max_lengths.now in let i = c.args.index in let same = c.requires.lengths in let inside = c.requires.within in
    let within : i < length lengths = omega (arith, same, inside) in
    let L = get_or lengths i 0 in let rows = rows_of c.args.array.now in let k = array_type_of c.args.array.now in
    leaf_pushed k lengths c.args.leaves.now i 0 L c.index-leaves-index.result c.args.all.now.items c.push-2.new.self.items b rows
    within refl inside c.index-leaves-index.is c.in_ok-push-2.ensures.items before
    (subst (λ is. IsBoundsOf (kind_at k is) L b (values_at is rows)) c.as_slice-positions.ensures c.in_ok-bounds.ensures.statistics)

pub returns-clause-types : goal.returns-clause-types
returns-clause-types c = λ typed before.
    let b = c.in_ok-bounds.bounds in let k = array_type_of c.args.array.now in
    type_pushed k c.args.leaves.now c.args.index c.index-leaves-index.result c.args.all.now.items c.push-2.new.self.items b
    c.requires.within c.index-leaves-index.is c.in_ok-push-2.ensures.items before
    (subst (λ is. is_typed_as (kind_at k is) b ≡ true) c.as_slice-positions.ensures (c.in_ok-bounds.ensures.types typed))

pub returns-in-Some-carried_integers-clause-statistics : goal.returns-in-Some-carried_integers-clause-statistics
returns-in-Some-carried_integers-clause-statistics c = λ before.
    let b = c.in-Some-carried_integers.bounds in let old = c.in-Some.same.now in let is = c.as_slice-positions.result.now in
    let lengths = c.args.max_lengths.now in let i = c.args.index in let same = c.requires.lengths in let inside = c.requires.within in
    let within : i < length lengths = omega (arith, same, inside) in
    let L = get_or lengths i 0 in let rows = rows_of c.args.array.now in let k = array_type_of c.args.array.now in
    let here : WereBoundsOf L old (values_at is rows) = subst (λ rs. WereBoundsOf L old (values_at is rs)) (sym c.requires.rows) c.in-Some.ensures in
    leaf_pushed k lengths c.args.leaves.now i 0 L c.index-leaves-index.result c.args.all.now.items c.push.new.self.items b rows
    within refl inside c.index-leaves-index.is c.in_ok-push.ensures.items before
    (subst (λ js. IsBoundsOf (kind_at k js) L b (values_at js rows)) c.as_slice-positions.ensures (c.in-Some-carried_integers.ensures.statistics L (values_at is rows) here))

pub returns-in-Some-carried_integers-clause-types : goal.returns-in-Some-carried_integers-clause-types
returns-in-Some-carried_integers-clause-types c = λ typed before.
    let b = c.in-Some-carried_integers.bounds in let old = c.in-Some.same.now in let is = c.as_slice-positions.result.now in
    let k = array_type_of c.args.array.now in let leaves = c.args.leaves.now in let i = c.args.index in let leaf = c.index-leaves-index.result in
    let L = get_or c.args.max_lengths.now i 0 in
    let here : WereBoundsOf L old (values_at is (rows_of c.args.array.now)) = subst (λ rs. WereBoundsOf L old (values_at is rs)) (sym c.requires.rows) c.in-Some.ensures in
    let inside = subst (λ ls. i < length ls) c.requires.leaves c.requires.within in
    let at_leaf = subst (λ ls. leaf ≡ get_or ls i leaf) c.requires.leaves c.index-leaves-index.is in
    let leads : is_leaf_at k is ≡ true = subst (λ js. is_leaf_at k js ≡ true) (sym c.as_slice-positions.ensures) (leaf_leads k i leaf inside at_leaf) in
    type_pushed k leaves i leaf c.args.all.now.items c.push.new.self.items b
    c.requires.within c.index-leaves-index.is c.in_ok-push.ensures.items before
    (subst (λ js. is_typed_as (kind_at k js) b ≡ true) c.as_slice-positions.ensures (c.in-Some-carried_integers.ensures.types L typed leads here))
