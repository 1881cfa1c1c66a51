use Rattle.std.proofs.Common.{◌≡◌, ◌<◌, true, sym, ap, subst, ◌∙◌}
use Rattle.vortex_model.specs.Content.{content_of}
use Rattle.vortex_model.specs.Valid.{valid}
use Rattle.vortex_dtype_core.specs.View.{type_of}
use Rattle.vortex_arrays_model.specs.Layout.{len_of, array_type_of}
use Rattle.vortex_arrays_core.specs.RawRows.{raw_row}
use Rattle.vortex_arrays_core.proofs.RawRowsLemmas.{says, raw_valid}
use Rattle.vortex_arrays_core.proofs.array.ArrayRef.execute_scalar.Goals as goal

pub new_unchecked-requires : goal.new_unchecked-requires
new_unchecked-requires c =
    let kind : type_of c.in_ok-dtype.dtype ≡ array_type_of c.args.self.now = c.in_ok-dtype.ensures.cases ∙ c.dtype.ensures in
    let within : c.args.i < len_of c.args.self.now = subst (λ n. c.args.i < n) c.len.ensures.count c.if-i-len.false in
    let row = raw_row c.args.self.now c.args.i in
    let held : valid (array_type_of c.args.self.now) row ≡ true = (c.tests_of_validity_are_right.ensures (array_type_of c.args.self.now) row).1 (raw_valid c.args.self.now c.is_sound.ensures c.args.i within) in
    subst (λ r. valid (type_of c.in_ok-dtype.dtype) r ≡ true) (sym c.in_ok-value.ensures) (subst (λ k. valid k row ≡ true) (sym kind) held)

pub returns-clause-made : goal.returns-clause-made
returns-clause-made c = (
  subst (λ n. c.args.i < n) c.len.ensures.count c.if-i-len.false,
  c.new_unchecked.ensures.dtype ∙ c.in_ok-dtype.ensures.cases ∙ c.dtype.ensures,
  ap content_of (c.new_unchecked.ensures.value ∙ c.in_ok-value.ensures) ∙ says c.args.self.now c.args.i,
)
