use Rattle.std.proofs.Common.{Some, IfSome, sym, ap, ◌∙◌, subst}
use Rattle.vortex_arrays_model.specs.Layout.{array_type_of}
use Rattle.vortex_table_tokens.specs.Members.{IsType}
use Rattle.vortex_table_tokens.proofs.members.rows_of.Goals as goal

pub returns-in_ok-array-in-Some-clause-kind : goal.returns-in_ok-array-in-Some-clause-kind
returns-in_ok-array-in-Some-clause-kind c =
    let rows = c.in_ok-array-in-Some in
    subst (λ o. IfSome o (IsType (array_type_of rows.array))) c.in-Some.ensures (c.in_ok-dtype-in-Some.ensures ∙ ap Some (sym rows.ensures.kind))
