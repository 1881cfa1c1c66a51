use Rattle.std.proofs.Common.{ap, ◌∙◌}
use Rattle.vortex_model.specs.LogicalType.{struct}
use Rattle.vortex_dtype_ptype.specs.View.{nullability_of_flag}
use Rattle.vortex_dtype_core.proofs.Views.{type_of-Struct}
use Rattle.vortex_table_schema.proofs.Projections.{tree_of-Fields}
use Rattle.vortex_table_schema.proofs.cut.ProjectedFields.into_cut.Goals as goal

pub returns-clause-dtype : goal.returns-clause-dtype
returns-clause-dtype c = type_of-Struct c.in_ok-fields.fields c.args.nullability ∙ ap (λ fs. struct fs (nullability_of_flag c.args.nullability)) c.in_ok-fields.ensures

pub returns-clause-projection : goal.returns-clause-projection
returns-clause-projection c = tree_of-Fields c.args.self.kept
