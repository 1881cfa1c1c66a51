use Rattle.std.proofs.Common.{ap, sym, subst, ◌∙◌, rules}
use Rattle.vortex_model_table.specs.Command.{first_unconvertible}
use Rattle.vortex_table_schema.specs.Error.{Explains}
use Rattle.vortex_table_chunk.specs.Chunk.{chunk_rows}
use Rattle.vortex_table_chunk.proofs.Formed.{of_type}
use Rattle.vortex_table_layout.specs.Retyping.{source_of, target_of, lengths_of}
use Rattle.vortex_table_layout.proofs.retyping.Retyping.test_chunk.Goals as goal

pub returns-in_err-_rows-clause-refused : goal.returns-in_err-_rows-clause-refused
returns-in_err-_rows-clause-refused c =
    let r = c.args.self.now in let s = source_of r in let t = target_of r in let chunk = c.args.chunk.now in let first = c.args.first in let e = c.in_err-_rows.field-0.0 in
    let why : Explains ⊥ (first_unconvertible first s t (chunk_rows chunk)) e
    = subst (λ k. Explains ⊥ (first_unconvertible first k t (chunk_rows chunk)) e) (of_type (lengths_of r) s chunk c.requires.formed) c.in_err-_rows.ensures.refused in
    let gives = c.from_residual.ensures.1 in
    search (rules, why, gives)

pub returns-clause-converts : goal.returns-clause-converts
returns-clause-converts c =
    let r = c.args.self.now in let chunk = c.args.chunk.now in
    ap (λ k. first_unconvertible c.args.first k (target_of r) (chunk_rows chunk)) (sym (of_type (lengths_of r) (source_of r) chunk c.requires.formed)) ∙ c.in_ok-_rows.ensures.converts
