use Rattle.std.proofs.Common.{◌∙◌, refl, ap, List, [], ◌∷◌, length, map, ℕ, Some, arith}
use Rattle.std.proofs.lemmas.Simd.{map-map}
use Rattle.std.proofs.Math.Logic.{∥∥₁_map}
use Rattle.vortex_arrays_model.specs.Layout.{string_content}
use Rattle.vortex_arrays_core.specs.LayoutOf.{strings_of}
use Rattle.vortex_arrays_view.specs.Views.{value_of}
use Rattle.vortex_stats_mask.specs.Columns.{shown}
use Rattle.vortex_table_zonemaps.proofs.Columns.{known_long, known_part}
use Rattle.vortex_table_zonemaps.proofs.ViewLemmas.{part_headed}
use Rattle.vortex_table_zonemaps.proofs.column.strings_in.Goals as goal

pub values_in-requires : goal.values_in-requires
values_in-requires c =
    let s = c.args.s.now in let cs = c.requires.0 in let within = c.requires.2 in
    let long = (known_long (λ (v : List ℕ). string_content (strings_of s.kind) (value_of v (s.bytes.items ∷ []))) s.views cs (length cs) refl c.requires.1.1).0 in
    omega (arith, long, within)

pub flags_in-requires : goal.flags_in-requires
flags_in-requires c =
    let s = c.args.s.now in let cs = c.requires.0 in let within = c.requires.2 in
    let long = (known_long (λ (v : List ℕ). string_content (strings_of s.kind) (value_of v (s.bytes.items ∷ []))) s.views cs (length cs) refl c.requires.1.1).1 in
    omega (arith, long, within)

pub invariant_of-result : goal.invariant_of-result
invariant_of-result c =
    let s = c.args.s.now in let js = c.flags_in.result.now in record {
      headed = ∥∥₁_map (part_headed (string_content (strings_of s.kind)) s c.requires.0 c.args.first c.args.count c.requires.2 c.requires.1 c.values_in.result.now js (c.as_slice.result.now ∷ []) c.values_in.ensures (ap (λ b. b ∷ []) c.as_slice.ensures.value))
          (λ heads. c.string_items.ensures.headed (Some js) heads);
    }

pub returns : goal.returns
returns c = λ cs is within.
    let s = c.args.s.now in let f = string_content (strings_of s.kind) in let vs = c.values_in.result.now in let js = c.flags_in.result.now in
    ap (shown (Some js)) (c.string_items.ensures.values ∙ map-map f (λ v. value_of v (c.as_slice.result.now ∷ [])) vs ∙ (λ i. map (λ v. f (value_of v (c.as_slice.ensures.value i ∷ []))) vs))
    ∙ known_part (λ (v : List ℕ). f (value_of v (s.bytes.items ∷ []))) s.views cs c.args.first c.args.count within is.1 vs js c.values_in.ensures c.flags_in.ensures
