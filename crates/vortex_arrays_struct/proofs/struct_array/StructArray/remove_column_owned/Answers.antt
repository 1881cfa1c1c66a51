use Rattle.std.proofs.Common.{rules, ◌≡◌, ◌∙◌, Some, ap, subst}
use Rattle.vortex_dtype_ptype.specs.View.{IsFirstPlace}
use Rattle.vortex_arrays_model.specs.Layout.{records, len_of}
use Rattle.vortex_arrays_struct.specs.Records.{columns_in, validity_in, names_in}
use Rattle.vortex_arrays_struct.proofs.EditLemmas.{removed_at, removed_array}
use Rattle.vortex_arrays_struct.proofs.struct_array.StructArray.remove_column_owned.Goals as goal

pub returns-in_ok-rest-in-Some : goal.returns-in_ok-rest-in-Some
returns-in_ok-rest-in-Some c =
    let cs = columns_in c.args.self.now in
    let names : c.deref.result.now ≡ names_in (columns_in c.args.self.now) = search rules in
    let first : IsFirstPlace (names_in (columns_in c.args.self.now)) c.args.name.now (Some c.in-Some.place) =
    subst (λ o. IsFirstPlace (names_in (columns_in c.args.self.now)) c.args.name.now o) c.in-Some.is (subst (λ xs. IsFirstPlace xs c.args.name.now c.find.result) names c.find.ensures) in (
      c.in_ok-rest-in-Some.ensures.rest ∙ ap (λ ds. records ds (len_of c.args.self.now) (validity_in c.args.self.now)) (removed_at cs c.args.name.now c.in-Some.place first),
      removed_array cs c.args.name.now c.in-Some.place c.in_ok-rest-in-Some.column first c.in_ok-rest-in-Some.ensures.column,
    )
