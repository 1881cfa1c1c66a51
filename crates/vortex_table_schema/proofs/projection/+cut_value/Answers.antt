use Rattle.std.proofs.Common.{sym, ap, ◌∙◌}
use Rattle.vortex_scalar_value.specs.View.{raw_of, raw_at, raws_in}
use Rattle.vortex_table_schema.specs.Cut.{tree_of, parts_of, raw_cut}
use Rattle.vortex_table_schema.specs.declared.projection.Projection as projection
use Rattle.vortex_table_schema.proofs.Projections.{kept_record, is_tuple, no_record, tree_of-Fields, cut_null}
use Rattle.vortex_table_schema.proofs.projection.+cut_value.Goals as goal

pub cut_value-returns-in_ok-kept-in-Some : goal.cut_value-returns-in_ok-kept-in-Some
cut_value-returns-in_ok-kept-in-Some t c =
    let rs = raws_in c.in-Some.values.now in
    let fields = c.in-Fields.fields in
    kept_record c.in_ok-kept-in-Some.kept rs fields c.in_ok-kept-in-Some.ensures
    ∙ ap (raw_cut (tree_of (projection.Fields fields))) (sym (is_tuple rs (raw_of c.args.value.now) c.in-Some.ensures))
    ∙ (λ i. raw_cut (tree_of (sym c.in-Fields.is i)) (raw_of c.args.value.now))

pub cut_value-returns-in_ok-copy-in-None : goal.cut_value-returns-in_ok-copy-in-None
cut_value-returns-in_ok-copy-in-None t c =
    let fields = c.in-Fields.fields in
    c.in_ok-copy-in-None.ensures.cases ∙ sym (ap (λ u. raw_cut u (raw_of c.args.value.now)) (tree_of-Fields fields) ∙ no_record (parts_of fields.items) (raw_of c.args.value.now) c.in-None.ensures)
    ∙ (λ i. raw_cut (tree_of (sym c.in-Fields.is i)) (raw_of c.args.value.now))

pub cut_cell-returns-in-None : goal.cut_cell-returns-in-None
cut_cell-returns-in-None t c =
    let tree = tree_of c.args.projection.now in
    sym (ap (λ v. raw_cut tree (raw_at v)) c.in-None.is ∙ cut_null tree)
