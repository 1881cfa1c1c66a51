use Rattle.std.proofs.Common.{◌≡◌, ◌∙◌, suc, ◌+◌, ◌-◌, ◌∷◌, ◌<◌, ◌++◌, sym, ap, subst, arith, get_or, take, length-take, replicate, rules}
use Rattle.std.proofs.lemmas.List.Elements.{All-from_get_or, recursion_from_All}
use Rattle.vortex_model.specs.Valid.{AreBytes}
use Rattle.vortex_model_table.specs.Bounds.{IsLeastAbove}
use Rattle.vortex_scalar_builders.proofs.CountedUp.{upper, no_upper, rebuilt}
use Rattle.vortex_scalar_builders.proofs.byte_bounds.counted_up.Goals as goal

pub returns-then-end-eq0 : goal.returns-then-end-eq0
returns-then-end-eq0 c = no_upper c.args.bytes.now c.args.limit c.requires (λ k le lt. c.counted_length-end.ensures.full k (omega arith) lt)

pub returns : goal.returns
returns c =
    let v = c.args.bytes.now in
    let e = c.counted_length-end.result in
    let n = c.args.limit in
    let j = e - 1 in
    let x = get_or v j 0 in
    let pos : 0 < e = omega arith in
    let bytes : AreBytes v = recursion_from_All (λ b. b < 256) v (All-from_get_or (λ b. b < 256) v 0 (λ k _. omega (arith, c.type_inv.bytes k))) in
    let built : c.resize.new.self.items ≡ take j v ++ suc x ∷ replicate (n - e) 0 =
    rebuilt (take j v) c.extend_from_slice.new.self.items c.push.new.self.items c.resize.new.self.items x (x + 1) e n _ (omega arith)
    (c.in_ok-extend_from_slice.ensures.items ∙ ap (λ xs. xs ++ take j v) c.in_ok-high.ensures.items) c.in_ok-push.ensures.items c.in_ok-resize.ensures.items
    (omega (arith, c.in_ok-push.ensures.len, c.in_ok-extend_from_slice.ensures.len, c.in_ok-high.ensures.len, length-take j v, c.counted_length-end.ensures.within, c.requires)) (omega (arith, length-take j v, c.counted_length-end.ensures.within, c.requires)) c.counted_length-end.ensures.within in
    subst (λ h. IsLeastAbove v n h) (sym built) (upper v j e n bytes c.requires (omega arith) c.counted_length-end.ensures.within c.counted_length-end.ensures.full (c.counted_length-end.ensures.room pos))

pub overflow_sub-end : goal.overflow_sub-end
overflow_sub-end c = search rules

pub returns-in_err-push : goal.returns-in_err-push
returns-in_err-push c = search rules

pub returns-in_err-high : goal.returns-in_err-high
returns-in_err-high c = search rules

pub returns-in_err-resize : goal.returns-in_err-resize
returns-in_err-resize c = search rules

pub slice_bounds-extend_from_slice-count : goal.slice_bounds-extend_from_slice-count
slice_bounds-extend_from_slice-count c = search rules

pub overflow_add-bytes : goal.overflow_add-bytes
overflow_add-bytes c = search rules

pub bounds-bytes-end : goal.bounds-bytes-end
bounds-bytes-end c = search rules

pub returns-in_err-extend_from_slice : goal.returns-in_err-extend_from_slice
returns-in_err-extend_from_slice c = search rules

pub slice_bounds-extend_from_slice-length : goal.slice_bounds-extend_from_slice-length
slice_bounds-extend_from_slice-length c = search rules
