use Rattle.std.proofs.Common.{◌≡◌, ap, subst, ◌∙◌, map}
use Rattle.vortex_arrays_builder.specs.Plain.{IsPlainFault}
use Rattle.vortex_arrays_builder.specs.TooLarge.{AreTooLarge}
use Rattle.vortex_dtype_core.specs.View.{type_of}
use Rattle.vortex_scalar_value.specs.View.{raw_of, raw_at, content_at}
use Rattle.vortex_table_layout.proofs.RowLemmas.{all_valid, same_rows}
use Rattle.vortex_table_layout.proofs.rows.plain_rows.Goals as goal

pub build_plain-requires-clause-valid : goal.build_plain-requires-clause-valid
build_plain-requires-clause-valid c =
    let same : map raw_at c.as_slice.result.now ≡ map raw_of c.args.rows.now = ap (map raw_at) c.as_slice.ensures.value ∙ c.in_ok-values.ensures in
    all_valid c.as_slice.result.now c.args.rows.now same (type_of c.args.dtype.now) c.requires.valid

pub returns-in-Err-Total-clause-refused : goal.returns-in-Err-Total-clause-refused
returns-in-Err-Total-clause-refused c =
    let k = type_of c.args.dtype.now in let values = c.as_slice.result.now in
    let same : map raw_at values ≡ map raw_of c.args.rows.now = ap (map raw_at) c.as_slice.ensures.value ∙ c.in_ok-values.ensures in
    λ fault. subst (AreTooLarge k) (same_rows values c.args.rows.now same) (subst (λ e. IsPlainFault e k (map content_at values)) c.in-Err-Total.field-0-is c.in-Err-Total.ensures.refused)
