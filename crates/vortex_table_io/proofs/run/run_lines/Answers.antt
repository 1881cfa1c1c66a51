use Rattle.std.proofs.Common.{◌≡◌, ◌≢◌, ◌≤◌, ◌+◌, ℕ, List, [], ◌++◌, take, length, sym, ap, ◌∙◌, append_assoc, append-nil, arith, rules, length-append, inl, inr, refl}
use Rattle.std.proofs.lemmas.Result.{err_from_is_err_and, on_ok_weaker, on_err_weaker}
use Rattle.vortex_table_io.proofs.ReplyLemmas.{FeedOk-none, FeedOk-append, FeedErr-append, part_read, part_stopped, whole_read, ends_all, ends_part}
use Rattle.vortex_table_io.specs.declared.call.Call.TheVariants.{AtEnd, Flushed, Failed}
use Rattle.vortex_table_io.specs.Streams.{is_end, is_failure}
use Rattle.vortex_table_io.proofs.CallLemmas.{passed-none, passed-append, passed-some, ends-none, ends-append, err-ends, any-ends}
use Rattle.vortex_table_io.proofs.run.run_lines.Goals as goal

-- a read that returned no byte
none : (new mid old input buf : List ℕ) (n : ℕ) → n ≡ 0 → new ≡ mid ++ take n buf → mid ≡ old ++ input → new ≡ old ++ input
none new mid old input buf n z e h = e ∙ ap (λ (k : ℕ). mid ++ take k buf) z ∙ append-nil mid ∙ h

-- a read that returned some bytes
some : (new mid old input piece buf : List ℕ) (n : ℕ) → piece ≡ take n buf → new ≡ mid ++ take n buf → mid ≡ old ++ input → new ≡ old ++ (input ++ piece)
some new mid old input piece buf n is e h =
    e ∙ ap (λ (x : List ℕ). mid ++ x) (sym is) ∙ ap (λ (x : List ℕ). x ++ piece) h ∙ append_assoc old input piece

longer : (input piece : List ℕ) (turns n : ℕ) → turns ≤ length input → length piece ≡ n → n ≢ 0 → turns + 1 ≤ length (input ++ piece)
longer input piece turns n h b z = omega (arith, length-append input piece)

pub loop-init : goal.loop-init
loop-init g c = record {
  input = [];
  so_far = sym (append-nil _);
  goes = FeedOk-none c.new-buffer.ensures;
  long = omega arith;
  reads = passed-none _;
  same = refl;
  writes = passed-none _;
}

pub returns-in-Err-clause-part : goal.returns-in-Err-clause-part
returns-in-Err-clause-part g c =
    let before = c.loop.invariant in
    part_read g.met.M.LineHandler.may_lack_memory (c.in-Err.ensures.bytes ∙ before.so_far) before.goes

pub returns-in-Ok-eq0-clause-ok : goal.returns-in-Ok-eq0-clause-ok
returns-in-Ok-eq0-clause-ok g c =
    let before = c.loop.invariant in
    let history = g.R.Source.history in
    on_ok_weaker c.finish.result (λ end. ends_all c.loop.buffer.line.bytes
    (none (history c.read.new.self) (history c.loop.reader) (history c.args.reader.now) before.input c.read.new.buf c.in-Ok-eq0.field-0 c.in-Ok-eq0.field-0-test c.in-Ok-eq0.ensures.bytes before.so_far)
    c.loop.buffer.one_line before.goes end) c.finish.ensures.ok

pub returns-in-Ok-eq0-clause-part : goal.returns-in-Ok-eq0-clause-part
returns-in-Ok-eq0-clause-part g c =
    let before = c.loop.invariant in
    let history = g.R.Source.history in
    on_err_weaker c.finish.result (λ end. ends_part g.met.M.LineHandler.may_lack_memory c.loop.buffer.line.bytes
    (none (history c.read.new.self) (history c.loop.reader) (history c.args.reader.now) before.input c.read.new.buf c.in-Ok-eq0.field-0 c.in-Ok-eq0.field-0-test c.in-Ok-eq0.ensures.bytes before.so_far)
    c.loop.buffer.one_line before.goes end) c.finish.ensures.part

pub returns-in_err-feed-in-Ok-clause-part : goal.returns-in_err-feed-in-Ok-clause-part
returns-in_err-feed-in-Ok-clause-part g c =
    let before = c.loop.invariant in
    let history = g.R.Source.history in
    let failed = err_from_is_err_and c.from_residual.result c.from_residual.ensures.1 in
    rw (failed.1) (part_stopped g.met.M.LineHandler.may_lack_memory
    (some (history c.read.new.self) (history c.loop.reader) (history c.args.reader.now) before.input c.split_at.result.0.now c.read.new.buf c.in-Ok.n c.split_at.ensures.front c.in-Ok.ensures.bytes before.so_far)
    (FeedErr-append before.goes c.in_err-feed-in-Ok.ensures.part))

pub loop-preserved : goal.loop-preserved
loop-preserved g c =
    let before = c.loop.invariant in
    let history = g.R.Source.history in
    let piece = c.split_at.result.0.now in
    record {
      input = before.input ++ piece;
      so_far = some (history c.read.new.self) (history c.loop.reader) (history c.args.reader.now) before.input piece c.read.new.buf c.in-Ok.n c.split_at.ensures.front c.in-Ok.ensures.bytes before.so_far;
      goes = FeedOk-append before.goes c.in_ok-feed-in-Ok.ensures.ok;
      long = longer before.input piece c.loop.counter c.in-Ok.n before.long c.split_at.ensures.front_len (search rules);
      reads = passed-append _ _ _ before.reads (passed-some _ _ c.in-Ok.n _ AtEnd (search rules) c.in-Ok.ensures.call);
      same = c.in-Ok.ensures.fixed ∙ before.same;
      writes = passed-append _ _ _ before.writes c.in_ok-feed-in-Ok.ensures.fine;
    }

pub returns-clause-part : goal.returns-clause-part
returns-clause-part g c =
    let before = c.loop.invariant in part_read g.met.M.LineHandler.may_lack_memory before.so_far before.goes

-- ---- what stays

pub returns-in-Err-clause-fixed : goal.returns-in-Err-clause-fixed
returns-in-Err-clause-fixed g c = c.in-Err.ensures.fixed ∙ c.loop.invariant.same

pub returns-in-Ok-eq0-clause-fixed : goal.returns-in-Ok-eq0-clause-fixed
returns-in-Ok-eq0-clause-fixed g c = c.in-Ok-eq0.ensures.fixed ∙ c.loop.invariant.same

pub returns-in_err-feed-in-Ok-clause-fixed : goal.returns-in_err-feed-in-Ok-clause-fixed
returns-in_err-feed-in-Ok-clause-fixed g c = c.in-Ok.ensures.fixed ∙ c.loop.invariant.same

pub returns-clause-fixed : goal.returns-clause-fixed
returns-clause-fixed g c = c.loop.invariant.same

-- ---- how the calls ended

pub returns-in-Err-clause-answered : goal.returns-in-Err-clause-answered
returns-in-Err-clause-answered g c =
    let before = c.loop.invariant in λ not. whole_read (c.in-Err.ensures.bytes ∙ before.so_far) c.loop.buffer.one_line before.goes

pub returns-clause-answered : goal.returns-clause-answered
returns-clause-answered g c =
    let before = c.loop.invariant in λ not. whole_read before.so_far c.loop.buffer.one_line before.goes

pub returns-in-Ok-eq0-clause-ends : goal.returns-in-Ok-eq0-clause-ends
returns-in-Ok-eq0-clause-ends g c =
    let before = c.loop.invariant in
    let reads = ends-none _ _ _ c.in-Ok-eq0.field-0 _ AtEnd c.in-Ok-eq0.field-0-test (search rules) before.reads c.in-Ok-eq0.ensures.call in
    on_ok_weaker c.finish.result (λ ends. (reads, ends-append Flushed _ _ _ before.writes ends)) c.finish.ensures.ends

pub returns-in-Ok-eq0-clause-all_read : goal.returns-in-Ok-eq0-clause-all_read
returns-in-Ok-eq0-clause-all_read g c =
    let before = c.loop.invariant in
    let reads = ends-none _ _ _ c.in-Ok-eq0.field-0 _ AtEnd c.in-Ok-eq0.field-0-test (search rules) before.reads c.in-Ok-eq0.ensures.call in
    on_ok_weaker c.finish.result (λ ends. (
      any-ends is_end refl AtEnd _ _ reads c.requires.not_ended,
      any-ends is_failure refl AtEnd _ _ reads c.requires.reads,
      any-ends is_failure refl Flushed _ _ (ends-append Flushed _ _ _ before.writes ends) c.requires.writes,
    )) c.finish.ensures.ends

pub returns-in-Ok-eq0-clause-write : goal.returns-in-Ok-eq0-clause-write
returns-in-Ok-eq0-clause-write g c = λ is.
    let before = c.loop.invariant in
    let reads = ends-none _ _ _ c.in-Ok-eq0.field-0 _ AtEnd c.in-Ok-eq0.field-0-test (search rules) before.reads c.in-Ok-eq0.ensures.call in
    (inr reads, ends-append Failed _ _ _ before.writes (err-ends c.finish.result _ _ _ is c.finish.ensures.err))

pub returns-in_err-feed-in-Ok-clause-write : goal.returns-in_err-feed-in-Ok-clause-write
returns-in_err-feed-in-Ok-clause-write g c = λ is.
    let before = c.loop.invariant in (
      inl (passed-append _ _ _ before.reads (passed-some _ _ c.in-Ok.n _ AtEnd (search rules) c.in-Ok.ensures.call)),
      ends-append Failed _ _ _ before.writes c.in_err-feed-in-Ok.ensures.err.1,
    )
