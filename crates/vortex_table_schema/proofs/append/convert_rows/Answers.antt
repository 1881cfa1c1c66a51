use Rattle.std.proofs.Common.{◌≡◌, ◌∙◌, ap, sym, map, None}
use Rattle.std.specs.Cow.{cow_slice_items}
use Rattle.vortex_model_table.specs.Command.{first_invalid}
use Rattle.vortex_dtype_core.specs.View.{type_of}
use Rattle.vortex_scalar_value.specs.View.{raw_in}
use Rattle.vortex_table_schema.proofs.OwnType.{rows_of_one_type}
use Rattle.vortex_table_schema.proofs.append.convert_rows.Goals as goal

pub keep_rows-requires-clause-valid : goal.keep_rows-requires-clause-valid
keep_rows-requires-clause-valid c =
    let s = type_of c.args.source.now in
    let t = type_of c.args.target.now in
    let same : s ≡ t = c.eq.ensures.equal.0 c.if-eq.true in
    let all : first_invalid 0 s (map raw_in (cow_slice_items c.args.values)) ≡ None = c.requires.valid in
    ap (λ k. first_invalid 0 k (map raw_in c.in-Owned.values.items)) (sym same)
    ∙ ap (λ vs. first_invalid 0 s (map raw_in (cow_slice_items vs))) (sym c.in-Owned.is) ∙ all

pub returns-then-eq-clause-converts : goal.returns-then-eq-clause-converts
returns-then-eq-clause-converts c =
    let s = type_of c.args.source.now in
    let t = type_of c.args.target.now in
    let same : s ≡ t = c.eq.ensures.equal.0 c.if-eq.true in
    rows_of_one_type s t (map raw_in (cow_slice_items c.args.values)) same c.requires.kept c.requires.valid
