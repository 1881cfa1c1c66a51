use Rattle.std.proofs.Common.{◌≡◌, ◌↔◌, IsTrue, sym, subst}
use Rattle.vortex_arrays_model.specs.Layout.{by_array, HasLength}
use Rattle.vortex_arrays_core.specs.LayoutOf.{valid_of}
use Rattle.vortex_arrays_validity.specs.Validities.{NoneNull}
use Rattle.vortex_arrays_validity.proofs.Rows.{counted}
use Rattle.vortex_arrays_validity.proofs.validity_ext.ValidityValidityExt.execute_no_nulls.Goals as goal

pub returns-in-Array : goal.returns-in-Array
returns-in-Array c =
    let is : valid_of c.args.self.now ≡ by_array c.in-Array.rows = search in
    subst (λ v. IsTrue c.are_true.result ↔ NoneNull v c.args.len) (sym is)
    (counted c.in-Array.rows c.args.len c.are_true.result
    (subst (λ v. HasLength v c.args.len) is c.requires) c.are_true.ensures)
