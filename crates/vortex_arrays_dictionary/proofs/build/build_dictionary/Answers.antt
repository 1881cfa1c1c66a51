use Rattle.std.proofs.Common.{◌≡◌, ◌≤◌, ◌-◌, true, length, map, sym, ap, subst, ◌∙◌, arith}
use Rattle.std.specs.List.{All}
use Rattle.std.proofs.lemmas.List.{length-map}
use Rattle.vortex_model.specs.Valid.{valid}
use Rattle.vortex_dtype_core.specs.View.{type_of}
use Rattle.vortex_dtype_ptype.specs.View.{nullability_of_flag}
use Rattle.vortex_scalar_value.specs.View.{raw_at, content_at}
use Rattle.vortex_arrays_model.specs.Layout.{HasLength}
use Rattle.vortex_arrays_core.specs.LayoutOf.{valid_of}
use Rattle.vortex_arrays_builder.specs.Plain.{IsPlainFault}
use Rattle.vortex_arrays_builder.specs.TooLarge.{AreTooLarge}
use Rattle.vortex_arrays_dictionary.specs.Distinct.{distinct}
use Rattle.vortex_arrays_dictionary.specs.Numbering.{IsNumbering}
use Rattle.vortex_arrays_dictionary.proofs.BuildLemmas.{values_held, held_values, numbered, built_sound, built_rows, built_dictionary, value_rows, value_dictionary, each_distinct}
use Rattle.vortex_arrays_dictionary.proofs.build.build_dictionary.Goals as goal

pub build_plain-requires-clause-valid : goal.build_plain-requires-clause-valid
build_plain-requires-clause-valid c =
    let k = type_of c.args.dtype.now in
    let items = c.in_ok-numbering.numbering.values.items in
    let p = c.in_ok-numbering.ensures k c.requires.kind (values_held k c.args.values.now c.requires.valid) in
    subst (λ vs. All (λ value. valid k (raw_at value) ≡ true) vs) (sym c.as_slice.ensures.value) (held_values k items p.held)

pub returns-in_err-distinct-clause-refused : goal.returns-in_err-distinct-clause-refused
returns-in_err-distinct-clause-refused c =
    let k = type_of c.args.dtype.now in
    let vs = c.args.values.now in
    let e = c.in_err-distinct.field-0.0 in
    let p = c.in_ok-numbering.ensures k c.requires.kind (values_held k vs c.requires.valid) in
    let same = ap (map content_at) c.as_slice.ensures.value ∙ each_distinct vs c.in_ok-numbering.numbering.values.items p.each_once in
    let fault : IsPlainFault e k (distinct (map content_at vs)) = subst (IsPlainFault e k) same c.in_err-distinct.ensures.refused in
    grind (arith, fault)

pub returns-clause-accepted : goal.returns-clause-accepted
returns-clause-accepted c =
    let k = type_of c.args.dtype.now in
    let vs = c.args.values.now in
    let p = c.in_ok-numbering.ensures k c.requires.kind (values_held k vs c.requires.valid) in
    let same = ap (map content_at) c.as_slice.ensures.value ∙ each_distinct vs c.in_ok-numbering.numbering.values.items p.each_once in
    subst (λ cs. ¬ AreTooLarge k cs) same c.in_ok-distinct.ensures.accepted

pub codes_of-requires-clause-small : goal.codes_of-requires-clause-small
codes_of-requires-clause-small c =
    let k = type_of c.args.dtype.now in
    let items = c.in_ok-numbering.numbering.values.items in
    let ns = c.in_ok-numbering.numbering.numbers.items in
    let p = c.in_ok-numbering.ensures k c.requires.kind (values_held k c.args.values.now c.requires.valid) in
    let many : length (map raw_at items) ≡ c.len.result = omega (arith, length-map items raw_at, c.in_ok-numbering.numbering.values.ok.0) in
    subst (All (λ n. n ≤ c.len.result - 1)) (sym c.as_slice-numbers.ensures.value) (subst (λ m. All (λ n. n ≤ m - 1) ns) many p.small)

pub codes_of-requires-clause-fits : goal.codes_of-requires-clause-fits
codes_of-requires-clause-fits c =
    let k = type_of c.args.dtype.now in
    let p = c.in_ok-numbering.ensures k c.requires.kind (values_held k c.args.values.now c.requires.valid) in
    subst (HasLength (valid_of c.in_ok-nulls.nulls)) (sym p.many ∙ ap length (sym c.as_slice-numbers.ensures.value)) c.in_ok-nulls.ensures.fits

pub of_dict-requires : goal.of_dict-requires
of_dict-requires c =
    let k = type_of c.args.dtype.now in
    let vs = c.args.values.now in
    let items = c.in_ok-numbering.numbering.values.items in
    let ns = c.as_slice-numbers.result.now in
    let p = c.in_ok-numbering.ensures k c.requires.kind (values_held k vs c.requires.valid) in
    let q : IsNumbering k (map raw_at vs) (map raw_at items) ns = subst (IsNumbering k (map raw_at vs) (map raw_at items)) (sym c.as_slice-numbers.ensures.value) p in
    let r = numbered k vs items ns (nullability_of_flag c.nullability.result) (valid_of c.in_ok-nulls.nulls) c.in_ok-distinct.distinct c.requires.kind c.requires.valid q c.nullability.ensures c.in_ok-nulls.ensures (c.in_ok-distinct.ensures.rows ∙ ap (map content_at) c.as_slice.ensures.value) in
    λ s t. built_sound k (map raw_at vs) (map raw_at items) ns c.len.result (valid_of c.in_ok-nulls.nulls) c.in_ok-codes.codes c.in_ok-distinct.distinct r c.in_ok-codes.ensures s t

pub returns-clause-rows : goal.returns-clause-rows
returns-clause-rows c =
    let k = type_of c.args.dtype.now in
    let vs = c.args.values.now in
    let items = c.in_ok-numbering.numbering.values.items in
    let ns = c.as_slice-numbers.result.now in
    let p = c.in_ok-numbering.ensures k c.requires.kind (values_held k vs c.requires.valid) in
    let q : IsNumbering k (map raw_at vs) (map raw_at items) ns = subst (IsNumbering k (map raw_at vs) (map raw_at items)) (sym c.as_slice-numbers.ensures.value) p in
    let r = numbered k vs items ns (nullability_of_flag c.nullability.result) (valid_of c.in_ok-nulls.nulls) c.in_ok-distinct.distinct c.requires.kind c.requires.valid q c.nullability.ensures c.in_ok-nulls.ensures (c.in_ok-distinct.ensures.rows ∙ ap (map content_at) c.as_slice.ensures.value) in
    value_rows vs c.in_ok-array.array (built_rows k (map raw_at vs) (map raw_at items) ns c.len.result (valid_of c.in_ok-nulls.nulls) c.in_ok-codes.codes c.in_ok-distinct.distinct c.in_ok-array.array r c.in_ok-codes.ensures c.in_ok-array.ensures)

pub returns-clause-layout : goal.returns-clause-layout
returns-clause-layout c =
    let k = type_of c.args.dtype.now in
    let vs = c.args.values.now in
    let items = c.in_ok-numbering.numbering.values.items in
    let ns = c.as_slice-numbers.result.now in
    let p = c.in_ok-numbering.ensures k c.requires.kind (values_held k vs c.requires.valid) in
    let q : IsNumbering k (map raw_at vs) (map raw_at items) ns = subst (IsNumbering k (map raw_at vs) (map raw_at items)) (sym c.as_slice-numbers.ensures.value) p in
    let r = numbered k vs items ns (nullability_of_flag c.nullability.result) (valid_of c.in_ok-nulls.nulls) c.in_ok-distinct.distinct c.requires.kind c.requires.valid q c.nullability.ensures c.in_ok-nulls.ensures (c.in_ok-distinct.ensures.rows ∙ ap (map content_at) c.as_slice.ensures.value) in
    let many : c.len.result ≡ length (map raw_at items) = omega (arith, length-map items raw_at, c.in_ok-numbering.numbering.values.ok.0) in
    value_dictionary vs c.in_ok-array.array (built_dictionary k (map raw_at vs) (map raw_at items) ns c.len.result (valid_of c.in_ok-nulls.nulls) c.in_ok-codes.codes c.in_ok-distinct.distinct c.in_ok-array.array r c.in_ok-codes.ensures many c.in_ok-distinct.ensures.layout c.in_ok-array.ensures)
