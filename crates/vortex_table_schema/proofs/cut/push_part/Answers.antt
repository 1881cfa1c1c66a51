use Rattle.std.proofs.Common.{◌++◌, ◌∷◌, [], ap, ◌∙◌, map}
use Rattle.vortex_dtype_core.specs.View.{type_of, field_of}
use Rattle.vortex_table_schema.proofs.Paths.{part_added}
use Rattle.vortex_table_schema.proofs.cut.push_part.Goals as goal

pub returns : goal.returns
returns c =
    part_added c.args.parts.now.items c.push.new.self.items _ c.in_ok-push.ensures.items
    ∙ ap (λ x. map field_of c.args.parts.now.items ++ (x, type_of c.args.dtype) ∷ []) c.in_ok-name.ensures.cases
