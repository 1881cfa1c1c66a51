use Rattle.std.proofs.Common.{ap, ◌∙◌, ◌+◌, drop, rules, arith}
use Rattle.vortex_model_table.specs.Command.{first_unconvertible}
use Rattle.vortex_table_schema.specs.Error.{Explains}
use Rattle.vortex_table_layout.specs.Retyping.{source_of, target_of}
use Rattle.vortex_table_layout.proofs.ConvertedRows.{all_rows, within, count_more, chunk_tested, chunk_passed}
use Rattle.vortex_table_layout.proofs.retyping.Retyping.test_chunks.Goals as goal

pub returns-in_err-test_chunk-clause-refused : goal.returns-in_err-test_chunk-clause-refused
returns-in_err-test_chunk-clause-refused c =
    let r = c.args.self.now in let s = source_of r in let t = target_of r in let chunks = c.args.chunks.now in let at = c.loop-chunk in
    let e = c.in_err-test_chunk.field-0.0 in let all = first_unconvertible 0 s t (all_rows chunks) in
    let why : Explains ⊥ all e
    = chunk_tested s t chunks at.chunk-index c.chunk-item.result c.loop-chunk-test.true c.chunk-item.is at.first at.invariant.counted all e at.invariant.left c.in_err-test_chunk.ensures.refused in
    let gives = c.from_residual.ensures.1 in
    search (rules, why, gives)

pub overflow_add-first : goal.overflow_add-first
overflow_add-first c =
    let r = c.args.self.now in let at = c.loop-chunk in let chunk = c.chunk-item.result in let few = c.requires.fits in
    let all = within (source_of r) (target_of r) c.args.chunks.now at.chunk-index chunk c.loop-chunk-test.true c.chunk-item.is at.first at.invariant.counted in
    let size = c.len-first.ensures.count in
    omega (arith, all, few, size)

pub loop-chunk-preserved : goal.loop-chunk-preserved
loop-chunk-preserved c =
    let r = c.args.self.now in let s = source_of r in let t = target_of r in let chunks = c.args.chunks.now in let at = c.loop-chunk in let i = at.chunk-index in
    let chunk = c.chunk-item.result in
    let inside = c.loop-chunk-test.true in let is = c.chunk-item.is in let counted = at.invariant.counted in
    let size = c.len-first.ensures.count in record {
      counted = ap (λ n. at.first + n) size ∙ count_more s t chunks i chunk inside is at.first counted;
      left = ap (λ n. first_unconvertible (at.first + n) s t (all_rows (drop (i + 1) chunks))) size
          ∙ chunk_passed s t chunks i chunk inside is at.first counted (first_unconvertible 0 s t (all_rows chunks)) c.in_ok-test_chunk.ensures.converts at.invariant.left;
    }
