use Rattle.std.proofs.Common.{◌≡◌, ◌∷◌, [], Some, None, subst, ap, ◌∙◌}
use Rattle.std.specs.Prelude.{MatchOption, IfSome}
use Rattle.vortex_model.specs.LogicalType.{Fields}
use Rattle.vortex_model.specs.Path.{type_at}
use Rattle.vortex_dtype_core.specs.Parts.{fields_in_type}
use Rattle.vortex_dtype_core.specs.View.{fields_in}
use Rattle.vortex_arrays_model.specs.Layout.{array_type_of}
use Rattle.vortex_arrays_model.specs.Column.{IsPart}
use Rattle.vortex_arrays_core.specs.Flags.{flags_of, flags_at}
use Rattle.vortex_arrays_struct.proofs.Columns.{column_of_part, flags_of_part}
use Rattle.vortex_arrays_struct.proofs.column.column_named.Goals as goal

pub returns-in-Some-2-clause-made : goal.returns-in-Some-2-clause-made
returns-in-Some-2-clause-made c =
    let a = c.args.array.now in let here = c.in-Some-find.position ∷ [] in
    let fs : Fields = fields_in c.in-Some.fields.now in
    let e : Some fs ≡ fields_in_type (array_type_of a) = c.in-Some.ensures ∙ ap fields_in_type c.dtype.ensures in
    let part : IsPart a here c.in-Some-2.column = subst (λ o. MatchOption o (type_at (array_type_of a) here ≡ None) (λ f. IsPart a here f)) c.in-Some-2.is c.in_ok-column.ensures.made in
    column_of_part a c.in-Some-2.column fs c.args.name.now c.in-Some-find.position e c.in-Some-find.ensures part

pub returns-in-Some-2-clause-flags : goal.returns-in-Some-2-clause-flags
returns-in-Some-2-clause-flags c =
    let a = c.args.array.now in let here = c.in-Some-find.position ∷ [] in
    let fs : Fields = fields_in c.in-Some.fields.now in
    let e : Some fs ≡ fields_in_type (array_type_of a) = c.in-Some.ensures ∙ ap fields_in_type c.dtype.ensures in
    let part : IsPart a here c.in-Some-2.column = subst (λ o. MatchOption o (type_at (array_type_of a) here ≡ None) (λ f. IsPart a here f)) c.in-Some-2.is c.in_ok-column.ensures.made in
    let flags = subst (λ o. IfSome o (λ f. flags_of f ≡ flags_at (flags_of a) here)) c.in-Some-2.is c.in_ok-column.ensures.flags in
    flags_of_part a c.in-Some-2.column fs c.args.name.now c.in-Some-find.position e c.in-Some-find.ensures part flags
