use Rattle.std.proofs.Common.{ap, ◌∙◌, subst, IsTrue}
use Rattle.vortex_model.specs.LogicalType.{union}
use Rattle.vortex_dtype_ptype.specs.View.{nullability_of_flag}
use Rattle.vortex_dtype_core.proofs.Views.{type_of-Union}
use Rattle.vortex_dtype_proto.specs.Messages.{are_tags}
use Rattle.vortex_dtype_proto.specs.Shapes.{is_shaped}
use Rattle.vortex_dtype_proto.proofs.Shaped.{union_as_types}
use Rattle.vortex_dtype_proto.proofs.laws.unions_are_shaped.Goals as goal

pub returns-clause-shaped : goal.returns-clause-shaped
returns-clause-shaped c =
    ap is_shaped (type_of-Union c.in_ok-variants.variants c.args.nullability)
    ∙ ap (λ vs. is_shaped (union vs (nullability_of_flag c.args.nullability))) c.in_ok-variants.ensures.made
    ∙ union_as_types c.args.names c.args.tags.items c.args.dtypes.items (nullability_of_flag c.args.nullability) (subst (λ ts. IsTrue (are_tags ts)) c.deref.ensures.value c.have_byte_tags.ensures) c.in_ok-variants.ensures.accepted
