use Rattle.std.proofs.Common.{rules, ◌≡◌, ◌∙◌, ◌<◌, map, length, drop, subst, ap}
use Rattle.std.proofs.lemmas.List.{length-map, take_at}
use Rattle.vortex_arrays_parts.specs.Values.{lent}
use Rattle.vortex_arrays_parts.proofs.ViewLemmas.{all_viewed, shortened}
use Rattle.vortex_arrays_parts.proofs.build.views_of.Goals as goal

pub returns-clause-views : goal.returns-clause-views
returns-clause-views c =
    let vs = c.args.values.now in
    let old : c.deref_mut.result.now ≡ c.in_ok-buffers.views.items = search rules in
    let many : length c.inline_short.new.views ≡ c.in_ok-buffers.views.len = search rules in
    let made = all_viewed (map lent vs) c.in_ok-bytes-2.bytes c.as_slice.result.now c.in_ok-buffers.buffers.items c.in_ok-buffers.views.items c.inline_short.new.views
    (c.in_ok-bytes-2.ensures.ok ∙ c.in_ok-bytes.ensures.bytes) (c.as_slice.ensures.value ∙ c.in_ok-bytes.ensures.lengths) c.in_ok-buffers.ensures.built (c.inline_short.ensures.count ∙ ap length old)
    (λ i l. c.inline_short.ensures.views i (subst (λ n. i < n) (length-map vs lent) l)
    ∙ ap (λ xs. shortened (map lent vs) xs i) old) in
    rw (take_at c.inline_short.new.views (drop (length c.inline_short.new.views) c.in_ok-buffers.views.items) c.in_ok-buffers.views.len many) made
