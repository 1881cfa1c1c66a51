use Rattle.std.proofs.Common.{ap, ◌∙◌, nat_eq}
use Rattle.std.specs.Cmp.Lexicographic.{pointwise}
use Rattle.vortex_table_schema.proofs.Places.{by_steps}
use Rattle.vortex_table_schema.proofs.leaves.LeafPath.equals.Goals as goal

pub returns : goal.returns
returns c = c.eq.ensures ∙ ap (λ xs. pointwise nat_eq xs c.args.steps.now) c.as_slice.ensures ∙ by_steps c.args.self.now c.args.steps.now
