use Rattle.std.proofs.Common.{◌≡◌, drop, length}
use Rattle.vortex_model.specs.LogicalType.{eq_fields, eq_variants, bare_fields, bare_variants}
use Rattle.vortex_dtype_core.specs.View.{fields_of, variants_of}
use Rattle.vortex_dtype_core.proofs.eq_ignore_nullability.+eq_bare.Given as goal

abbrev pub invariant-eq_bare_parts-loop-i : goal.invariant-eq_bare_parts-loop-i
invariant-eq_bare_parts-loop-i l = record {
  eq_length : length l.xs ≡ length l.ys;
  left : eq_fields (bare_fields (fields_of (drop l.i l.xs))) (bare_fields (fields_of (drop l.i l.ys))) ≡ eq_fields (bare_fields (fields_of l.xs)) (bare_fields (fields_of l.ys));
}

abbrev pub invariant-eq_bare_choices-loop-i : goal.invariant-eq_bare_choices-loop-i
invariant-eq_bare_choices-loop-i l = record {
  eq_length : length l.xs ≡ length l.ys;
  left : eq_variants (bare_variants (variants_of (drop l.i l.xs))) (bare_variants (variants_of (drop l.i l.ys))) ≡ eq_variants (bare_variants (variants_of l.xs)) (bare_variants (variants_of l.ys));
}
