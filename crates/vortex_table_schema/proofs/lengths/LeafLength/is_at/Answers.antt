use Rattle.std.proofs.Common.{ap, ◌∙◌, nat_eq}
use Rattle.std.specs.Cmp.Lexicographic.{pointwise}
use Rattle.vortex_table_schema.proofs.Places.{by_steps}
use Rattle.vortex_table_schema.proofs.lengths.LeafLength.is_at.Goals as goal

pub returns : goal.returns
returns c =
    c.eq.ensures ∙ ap (λ xs. pointwise nat_eq xs c.args.positions.now) (c.as_slice.ensures.value ∙ ap (λ p. p.0) c.self.view_is)
    ∙ by_steps c.args.self.now.0 c.args.positions.now
