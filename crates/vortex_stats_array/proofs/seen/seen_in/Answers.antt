use Rattle.std.proofs.Common.{◌≡◌, sym, ap, ◌∙◌, subst, map}
use Rattle.std.specs.List.{range_with_len}
use Rattle.vortex_model.specs.Content.{content_of}
use Rattle.vortex_scalar_core.specs.Scalar.{scalar_type, scalar_raw}
use Rattle.vortex_arrays_model.specs.Layout.{constant, len_of, content_at}
use Rattle.vortex_arrays_core.specs.LayoutOf.{layout_of}
use Rattle.vortex_stats_array.specs.Counted.{StandIn}
use Rattle.vortex_stats_array.specs.Running.{ReadsRows, IsSeen}
use Rattle.vortex_stats_array.proofs.seen.seen_in.Goals as goal

pub returns-in-None-Constant : goal.returns-in-None-Constant
returns-in-None-Constant g c read rows stand =
    let s = c.in-None-Constant.field-0-1 in let said = g.V.LeafValue.said in let seen = c.seen_constant.result in
    let is : constant (scalar_type s) (scalar_raw s) c.in-None-Constant.len ≡ c.args.array.now = sym (ap layout_of c.in-None-Constant.is-1) ∙ c.layout.ensures.layout in
    let alone = subst (λ o. StandIn o (content_at c.args.array.now) (len_of c.args.array.now) rows) c.in-None-Constant.is-0 stand in
    subst (IsSeen said seen) alone
    (subst (λ a. ReadsRows said (len_of a) (λ i v. g.F.Fn.post c.args.value (i, tt) v) (content_at a) → IsSeen said seen (map (content_at a) (range_with_len 0 (len_of a)))) is
    (c.seen_constant.ensures (content_of (scalar_raw s))) read)
