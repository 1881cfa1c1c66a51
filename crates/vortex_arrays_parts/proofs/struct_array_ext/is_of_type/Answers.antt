use Rattle.std.proofs.Common.{◌≡◌, true, sym, subst, ◌∙◌}
use Rattle.vortex_model.specs.LogicalType.{eq_type}
use Rattle.vortex_model.proofs.Tests.{kind_so}
use Rattle.vortex_dtype_core.specs.Equal.{eq_type_equiv}
use Rattle.vortex_dtype_core.specs.View.{type_of}
use Rattle.vortex_arrays_parts.proofs.struct_array_ext.is_of_type.Goals as goal

pub returns : goal.returns
returns c =
    let k = type_of c.dtype.result.now in (
      (λ t. sym c.dtype.ensures ∙ kind_so k (type_of c.args.dtype.now) (sym c.eq.ensures ∙ t)),
      (λ e. c.eq.ensures ∙ subst (λ l. eq_type k l ≡ true) (c.dtype.ensures ∙ e) (eq_type_equiv.refl k)),
    )
