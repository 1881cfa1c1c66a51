use Rattle.std.proofs.Common.{ap, sym, subst, ◌++◌, ◌∷◌, [], ◌∙◌, ◌+◌, drop, map, rules, arith}
use Rattle.std.specs.List.{All}
use Rattle.std.proofs.lemmas.List.Elements.{All-nil, All-push}
use Rattle.vortex_model_table.specs.Command.{first_unconvertible}
use Rattle.vortex_arrays_builder.specs.Types.{IsPlainLayout}
use Rattle.vortex_table_schema.specs.Error.{Explains}
use Rattle.vortex_table_chunk.specs.Chunk.{chunk_rows}
use Rattle.vortex_table_chunk.specs.Formed.{is_formed}
use Rattle.vortex_table_chunk.specs.declared.chunk.Chunk.{Chunk}
use Rattle.vortex_table_layout.specs.Retyping.{source_of, target_of, lengths_of}
use Rattle.vortex_table_layout.specs.AnyTooLarge.{AnyTooLarge}
use Rattle.vortex_table_layout.proofs.ConvertedRows.{all_pushed, all_rows, within, count_more, chunk_refused, chunk_passed, chunk_kept}
use Rattle.vortex_table_layout.proofs.retyping.Retyping.convert_chunks.Goals as goal

pub returns-in_err-new-clause-refused : goal.returns-in_err-new-clause-refused
returns-in_err-new-clause-refused c =
    let r = c.args.self.now in let s = source_of r in let t = target_of r in let chunks = c.args.chunks.now in let at = c.loop-chunk in
    let e = c.in_err-new.field-0.0 in let all = first_unconvertible 0 s t (all_rows chunks) in
    let why : Explains (AnyTooLarge t (map chunk_rows chunks)) all e
    = chunk_refused s t chunks at.chunk-index c.chunk-item.result c.loop-chunk-test.true c.chunk-item.is at.first at.invariant.counted t all e at.invariant.left c.in_err-new.ensures.refused in
    let gives = c.from_residual-in_err-new.ensures.1 in
    search (rules, why, gives)

pub overflow_add-first : goal.overflow_add-first
overflow_add-first c =
    let r = c.args.self.now in let at = c.loop-chunk in let chunk = c.chunk-item.result in let few = c.requires.fits in
    let all = within (source_of r) (target_of r) c.args.chunks.now at.chunk-index chunk c.loop-chunk-test.true c.chunk-item.is at.first at.invariant.counted in
    let size = c.len-first.ensures.count in
    omega (arith, all, few, size)

pub loop-chunk-preserved : goal.loop-chunk-preserved
loop-chunk-preserved c =
    let r = c.args.self.now in let s = source_of r in let t = target_of r in let chunks = c.args.chunks.now in let at = c.loop-chunk in let i = at.chunk-index in
    let chunk = c.chunk-item.result in let old = at.converted.items in let new = c.push.new.self.items in let made = c.in_ok-new.new in
    let inside = c.loop-chunk-test.true in let is = c.chunk-item.is in let counted = at.invariant.counted in
    let size = c.len-first.ensures.count in record {
      counted = ap (λ n. at.first + n) size ∙ count_more s t chunks i chunk inside is at.first counted;
      formed = all_pushed (is_formed (lengths_of r) t) old new made c.in_ok-push.ensures.items at.invariant.formed c.in_ok-new.ensures.formed;
      rows = chunk_kept s t chunks i chunk inside is at.first counted old new made c.in_ok-push.ensures.items at.invariant.rows c.in_ok-new.ensures.rows;
      plain = subst (All (λ (x : Chunk). IsPlainLayout x.array)) (sym c.in_ok-push.ensures.items)
          (All-push (λ (x : Chunk). IsPlainLayout x.array) old made at.invariant.plain c.in_ok-new.ensures.layout);
      left = ap (λ n. first_unconvertible (at.first + n) s t (all_rows (drop (i + 1) chunks))) size
          ∙ chunk_passed s t chunks i chunk inside is at.first counted (first_unconvertible 0 s t (all_rows chunks)) c.in_ok-new.ensures.converts at.invariant.left;
    }
