use Rattle.std.proofs.Common.{rules, arith, ◌≡◌, ◌∙◌, ap, ℕ, ◌+◌, ◌-◌, ◌<◌, ◌≤◌, ◌^◌, List, [], ◌∷◌, ◌++◌, length, take, drop, get_or, inl, inr}
use Rattle.std.proofs.lemmas.Bool.{cases_lt}
use Rattle.vortex_arrays_view.specs.Made.{view_of}
use Rattle.vortex_arrays_view.proofs.Cut.{part}
use Rattle.vortex_arrays_view.proofs.Placed.{IsOpen, open_already, opened, next_within, placed_next, places_too_many, places_all, places_nothing}
use Rattle.vortex_arrays_view.proofs.build.place_values.Goals.{then-end-start+in-Some+in_ok-slice+in_ok-push, else-end-start, then-start-stop+in_ok-slice-2+in_ok-push-2, else-start-stop}
use Rattle.vortex_arrays_view.proofs.build.place_values.Goals as goal

pub slice_bounds-value-end : goal.slice_bounds-value-end
slice_bounds-value-end c =
    let h : c.loop-i.stop + get_or c.args.lengths.now c.loop-i.i 0 ≤ length c.args.bytes.now = next_within c.args.bytes.now c.args.lengths.now c.args.first c.args.limit c.loop-i.i c.loop-i.start c.loop-i.stop c.loop-i.buffers.items c.loop-i.views.items c.requires.whole c.loop-i.invariant.places c.loop-i-test.true in
    search (rules, h)

pub returns-in_default-clause-refused : goal.returns-in_default-clause-refused
returns-in_default-clause-refused c =
    let full : 4294967296 ≤ c.loop-i.index + 1 = elim (cases_lt (c.loop-i.index + 1) 4294967296) [ inl l ↦ absurd (c.in_default.ensures l) | inr g ↦ g ] in
    places_too_many c.args.bytes.now c.args.lengths.now c.args.first c.args.limit c.loop-i.i c.loop-i.start c.loop-i.stop c.loop-i.buffers.items c.loop-i.views.items c.requires.whole c.loop-i.invariant.places c.loop-i-test.true c.if-end-start.true (omega (arith, full, c.loop-i.invariant.next))

pub loop-i-preserved : goal.loop-i-preserved
loop-i-preserved c =
    let next : IsOpen c.args.bytes.now c.args.lengths.now c.args.first c.args.limit c.loop-i.i c.if-end-start.start c.loop-i.stop c.if-end-start.index c.if-end-start.buffers.items c.loop-i.views.items =
    elim c.if-end-start.branch [
      | then-end-start+in-Some+in_ok-slice+in_ok-push w ↦
          let begins : c.if-end-start.start ≡ c.loop-i.stop = w.start-is in
          let more : c.if-end-start.index ≡ c.loop-i.index + 1 = search rules in
          let puts : c.if-end-start.buffers.items ≡ c.loop-i.buffers.items ++ part c.args.bytes.now c.loop-i.start c.loop-i.stop ∷ [] = search rules in
          opened c.args.bytes.now c.args.lengths.now c.args.first c.args.limit c.loop-i.i c.loop-i.start c.loop-i.stop c.loop-i.buffers.items c.loop-i.views.items c.requires.whole c.loop-i.invariant.places
          c.loop-i.index c.if-end-start.index c.if-end-start.start c.if-end-start.buffers.items c.loop-i-test.true w.if-end-start.true c.requires.within c.loop-i.invariant.next more begins puts
      | else-end-start w ↦
          open_already c.args.bytes.now c.args.lengths.now c.args.first c.args.limit c.loop-i.i c.loop-i.start c.loop-i.stop c.loop-i.index c.if-end-start.index c.if-end-start.start c.loop-i.buffers.items c.loop-i.views.items c.if-end-start.buffers.items
          c.loop-i.invariant.places c.loop-i.invariant.next w.if-end-start.false w.index-is w.start-is (ap (λ v. v.items) w.buffers-is)
    ] in
    let fits : c.if-end-start.index < 2 ^ 32 =
    elim c.if-end-start.branch [
      | then-end-start+in-Some+in_ok-slice+in_ok-push w ↦ let more : c.if-end-start.index ≡ c.loop-i.index + 1 = search rules in omega (arith, more, w.in-Some.ensures.0)
      | else-end-start w ↦ omega (arith, w.index-is, c.loop-i.invariant.fits)
    ] in
    let made : c.make_view.result ≡ view_of (take (c.loop-i.stop + get_or c.args.lengths.now c.loop-i.i 0 - c.loop-i.stop) (drop c.loop-i.stop c.args.bytes.now)) c.if-end-start.index (c.loop-i.stop - c.if-end-start.start) = c.make_view.ensures ∙ ap (λ (b : List ℕ). view_of (take (c.loop-i.stop + get_or c.args.lengths.now c.loop-i.i 0 - c.loop-i.stop) (drop c.loop-i.stop b)) c.if-end-start.index (c.loop-i.stop - c.if-end-start.start)) c.as_slice-all.ensures in
    record {
      places = placed_next c.args.bytes.now c.args.lengths.now c.args.first c.args.limit c.loop-i.i c.if-end-start.start c.loop-i.stop c.if-end-start.index c.if-end-start.buffers.items c.loop-i.views.items c.requires.whole next
          c.make_view.result c.loop-i-test.true (omega (arith, c.requires.limit)) fits made;
      fits = fits;
      next = next.next;
    }

pub returns-clause-built : goal.returns-clause-built
returns-clause-built c =
    let done : length c.args.lengths.now ≡ c.loop-i.i = omega (arith, c.loop-i-test.false, c.loop-i.auto.i-end) in
    elim c.if-start-stop.branch [
      | then-start-stop+in_ok-slice-2+in_ok-push-2 w ↦
          let puts : c.if-start-stop.buffers.items ≡ c.loop-i.buffers.items ++ part c.args.bytes.now c.loop-i.start c.loop-i.stop ∷ [] = search rules in
          rw puts (places_all c.args.bytes.now c.args.lengths.now c.args.first c.args.limit c.loop-i.i c.loop-i.start c.loop-i.stop c.loop-i.buffers.items c.loop-i.views.items c.requires.whole c.loop-i.invariant.places done w.if-start-stop.true (omega (arith, c.loop-i.invariant.fits, c.loop-i.invariant.next)))
      | else-start-stop w ↦
          let puts : c.if-start-stop.buffers.items ≡ c.loop-i.buffers.items = ap (λ v. v.items) w.buffers-is in
          rw puts (places_nothing c.args.bytes.now c.args.lengths.now c.args.first c.args.limit c.loop-i.i c.loop-i.start c.loop-i.stop c.loop-i.buffers.items c.loop-i.views.items c.requires.whole c.loop-i.invariant.places done w.if-start-stop.false c.ranges.first.fits)
    ]
