use Rattle.std.proofs.Common.{suc, sym, ◌∙◌, subst, map, ap, add-one, take, arith}
use Rattle.vortex_table_schema.specs.Leaves.{leaf_positions}
use Rattle.vortex_table_chunk.specs.Chunk.{chunk_rows}
use Rattle.vortex_table_chunk.specs.zones.Join.{CanJoin, AreJoinsOf}
use Rattle.vortex_table_layout.specs.InOrder.{AreJoinedInOrder}
use Rattle.vortex_table_layout.specs.Retyping.{target_of, lengths_of}
use Rattle.vortex_table_layout.proofs.InOrder.{from_first, can_go_on, go_on, third_on, none_left}
use Rattle.vortex_table_layout.proofs.retyping.Retyping.join_chunks.Goals as goal

pub join_bounds-requires : goal.join_bounds-requires
join_bounds-requires c =
    let k = target_of c.args.self.now in let L = lengths_of c.args.self.now in let chunks = c.args.chunks.now in
    let a = c.index-chunks-0.result in let b = c.index-chunks-1.result in let many = c.requires.many in
    subst (λ left. CanJoin left c.deref-2.result.now) (sym (c.deref.ensures.value ∙ ap (λ x. x.bounds.items) (sym c.index-chunks-0.is))) (subst (λ right. CanJoin a.bounds.items right) (sym (c.deref-2.ensures.value ∙ ap (λ x. x.bounds.items) (sym c.index-chunks-1.is)))
    (can_go_on k L chunks c.requires.formed 1 b a.bounds.items c.requires.fits many c.index-chunks-1.is (from_first k L chunks c.requires.formed a (omega (arith, many)) c.index-chunks-0.is)))

pub loop-chunk-init : goal.loop-chunk-init
loop-chunk-init c =
    let k = target_of c.args.self.now in let L = lengths_of c.args.self.now in let chunks = c.args.chunks.now in
    let a = c.index-chunks-0.result in let b = c.index-chunks-1.result in let many = c.requires.many in
    go_on k L chunks c.requires.formed 1 b a.bounds.items c.in_ok-joined.joined.items (omega arith) many c.index-chunks-1.is
    (from_first k L chunks c.requires.formed a (omega (arith, many)) c.index-chunks-0.is)
    (subst (λ left. AreJoinsOf left b.bounds.items c.in_ok-joined.joined.items) (c.deref.ensures.value ∙ ap (λ x. x.bounds.items) (sym c.index-chunks-0.is))
    (subst (λ right. AreJoinsOf c.deref.result.now right c.in_ok-joined.joined.items) (c.deref-2.ensures.value ∙ ap (λ x. x.bounds.items) (sym c.index-chunks-1.is)) c.in_ok-joined.ensures))

pub join_bounds-requires-in-loop-chunk : goal.join_bounds-requires-in-loop-chunk
join_bounds-requires-in-loop-chunk c =
    let k = target_of c.args.self.now in let L = lengths_of c.args.self.now in let chunks = c.args.chunks.now in
    let n = suc (suc c.loop-chunk.chunk-index) in let b = c.chunk-item.result in
    let there = third_on chunks c.loop-chunk.chunk-index b c.requires.many c.loop-chunk-test.true c.chunk-item.is in
    subst (λ left. CanJoin left c.deref-in-loop-chunk-2.result.now) (sym c.deref-in-loop-chunk.ensures.value) (subst (λ right. CanJoin c.loop-chunk.joined.items right) (sym c.deref-in-loop-chunk-2.ensures.value)
    (can_go_on k L chunks c.requires.formed n b c.loop-chunk.joined.items c.requires.fits there.0 there.1 c.loop-chunk.invariant))

pub loop-chunk-preserved : goal.loop-chunk-preserved
loop-chunk-preserved c =
    let k = target_of c.args.self.now in let L = lengths_of c.args.self.now in let chunks = c.args.chunks.now in
    let i = c.loop-chunk.chunk-index in let b = c.chunk-item.result in let all = c.in_ok-joined-2.joined.items in
    let there = third_on chunks i b c.requires.many c.loop-chunk-test.true c.chunk-item.is in
    subst (λ n. ∥ AreJoinedInOrder k L (leaf_positions k) all (map chunk_rows (take (suc (suc n)) chunks)) ∥₁) (sym (add-one i))
    (go_on k L chunks c.requires.formed (suc (suc i)) b c.loop-chunk.joined.items all (omega arith) there.0 there.1 c.loop-chunk.invariant
    (subst (λ left. AreJoinsOf left b.bounds.items all) c.deref-in-loop-chunk.ensures.value (subst (λ right. AreJoinsOf c.deref-in-loop-chunk.result.now right all) c.deref-in-loop-chunk-2.ensures.value c.in_ok-joined-2.ensures)))

pub returns : goal.returns
returns c =
    let k = target_of c.args.self.now in let L = lengths_of c.args.self.now in let chunks = c.args.chunks.now in
    subst (λ cs. ∥ AreJoinedInOrder k L (leaf_positions k) c.loop-chunk.joined.items (map chunk_rows cs) ∥₁) (none_left chunks c.loop-chunk.chunk-index c.requires.many c.loop-chunk-test.false)
    c.loop-chunk.invariant
