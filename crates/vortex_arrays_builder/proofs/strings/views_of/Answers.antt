use Rattle.std.proofs.Common.{rules, refl, ◌≡◌, ◌∙◌, ◌<◌, [], map, length, take, drop, get_or, cond, leb, ap, subst}
use Rattle.std.proofs.lemmas.List.{length-map, take_at}
use Rattle.vortex_model.specs.Content.{raw_null}
use Rattle.vortex_scalar_value.specs.View.{raw_at}
use Rattle.vortex_arrays_view.specs.Made.{short_view}
use Rattle.vortex_arrays_view.specs.Built.{limit_of}
use Rattle.vortex_arrays_builder.specs.Strings.{bytes_in, AreViewsOf}
use Rattle.vortex_arrays_builder.proofs.StringLemmas.{views_made, not_large}
use Rattle.vortex_arrays_builder.proofs.strings.views_of.Goals as goal

pub returns-clause-views : goal.returns-clause-views
returns-clause-views c =
    let vs = c.args.values.now in
    let old : c.deref_mut.result.now ≡ c.in_ok-buffers.views.items = search rules in
    let many : length c.inline_short.new.views ≡ c.in_ok-buffers.views.len = search rules in
    let made = views_made (map raw_at vs) c.in_ok-bytes-2.bytes c.as_slice.result.now (limit_of 2147483647) c.in_ok-buffers.buffers.items c.in_ok-buffers.views.items c.inline_short.new.views
    (c.in_ok-bytes-2.ensures.ok ∙ c.in_ok-bytes.ensures.bytes) (c.as_slice.ensures.value ∙ c.in_ok-bytes.ensures.lengths) c.in_ok-buffers.ensures.built (c.inline_short.ensures.count ∙ ap length old)
    (λ i l. c.inline_short.ensures.views i (subst (λ n. i < n) (length-map vs raw_at) l)
    ∙ ap (λ xs. cond (leb (length (bytes_in (get_or (map raw_at vs) i raw_null))) 12) (short_view (bytes_in (get_or (map raw_at vs) i raw_null))) (get_or xs i [])) old) in
    rw (take_at c.inline_short.new.views (drop (length c.inline_short.new.views) c.in_ok-buffers.views.items) c.in_ok-buffers.views.len many) made

pub returns-clause-accepted : goal.returns-clause-accepted
returns-clause-accepted c =
    let rs = map raw_at c.args.values.now in
    let new = c.inline_short.new.views in
    let many : length new ≡ c.in_ok-buffers.views.len = search rules in
    let views : AreViewsOf rs c.in_ok-buffers.buffers.items new =
    subst (AreViewsOf rs c.in_ok-buffers.buffers.items) (take_at new (drop (length new) c.in_ok-buffers.views.items) c.in_ok-buffers.views.len many) (returns-clause-views c) in
    not_large rs c.in_ok-bytes-2.bytes c.as_slice.result.now (limit_of 2147483647) c.in_ok-buffers.buffers.items c.in_ok-buffers.views.items new
    (c.in_ok-bytes-2.ensures.ok ∙ c.in_ok-bytes.ensures.bytes) (c.as_slice.ensures.value ∙ c.in_ok-bytes.ensures.lengths) refl c.in_ok-buffers.ensures.built views
