use Rattle.std.proofs.Common.{◌≡◌, ◌∙◌, sym, subst, map}
use Rattle.std.specs.Prelude.{IfOk}
use Rattle.vortex_model.specs.Content.{integer}
use Rattle.vortex_stats_mask.specs.Integers.{integers_in}
use Rattle.vortex_stats_select.specs.Coded.{is_marked}
use Rattle.vortex_stats_select.proofs.CodedLemmas.{naturals_marked, integers_marked}
use Rattle.vortex_stats_select.proofs.spread.spread_numbers.Goals as goal

pub returns-in-U8 : goal.returns-in-U8
returns-in-U8 c =
    let mask = c.args.mask.now in
    subst (λ ms. IfOk c.spread_kind.result (λ rows. rows.items ≡ ms))
    (naturals_marked mask c.in-U8.codes.now ∙ (λ i. map (is_marked mask) (map integer (integers_in (sym c.in-U8.is i)))))
    c.spread_kind.ensures

pub returns-in-U16 : goal.returns-in-U16
returns-in-U16 c =
    let mask = c.args.mask.now in
    subst (λ ms. IfOk c.spread_kind-in-U16.result (λ rows. rows.items ≡ ms))
    (naturals_marked mask c.in-U16.codes.now ∙ (λ i. map (is_marked mask) (map integer (integers_in (sym c.in-U16.is i)))))
    c.spread_kind-in-U16.ensures

pub returns-in-U32 : goal.returns-in-U32
returns-in-U32 c =
    let mask = c.args.mask.now in
    subst (λ ms. IfOk c.spread_kind-in-U32.result (λ rows. rows.items ≡ ms))
    (naturals_marked mask c.in-U32.codes.now ∙ (λ i. map (is_marked mask) (map integer (integers_in (sym c.in-U32.is i)))))
    c.spread_kind-in-U32.ensures

pub returns-in-U64 : goal.returns-in-U64
returns-in-U64 c =
    let mask = c.args.mask.now in
    subst (λ ms. IfOk c.spread_kind-in-U64.result (λ rows. rows.items ≡ ms))
    (naturals_marked mask c.in-U64.codes.now ∙ (λ i. map (is_marked mask) (map integer (integers_in (sym c.in-U64.is i)))))
    c.spread_kind-in-U64.ensures

pub returns-in-I8 : goal.returns-in-I8
returns-in-I8 c =
    let mask = c.args.mask.now in
    subst (λ ms. IfOk c.spread_kind-in-I8.result (λ rows. rows.items ≡ ms))
    (integers_marked mask c.in-I8.codes.now ∙ (λ i. map (is_marked mask) (map integer (integers_in (sym c.in-I8.is i)))))
    c.spread_kind-in-I8.ensures

pub returns-in-I16 : goal.returns-in-I16
returns-in-I16 c =
    let mask = c.args.mask.now in
    subst (λ ms. IfOk c.spread_kind-in-I16.result (λ rows. rows.items ≡ ms))
    (integers_marked mask c.in-I16.codes.now ∙ (λ i. map (is_marked mask) (map integer (integers_in (sym c.in-I16.is i)))))
    c.spread_kind-in-I16.ensures

pub returns-in-I32 : goal.returns-in-I32
returns-in-I32 c =
    let mask = c.args.mask.now in
    subst (λ ms. IfOk c.spread_kind-in-I32.result (λ rows. rows.items ≡ ms))
    (integers_marked mask c.in-I32.codes.now ∙ (λ i. map (is_marked mask) (map integer (integers_in (sym c.in-I32.is i)))))
    c.spread_kind-in-I32.ensures

pub returns-in-I64 : goal.returns-in-I64
returns-in-I64 c =
    let mask = c.args.mask.now in
    subst (λ ms. IfOk c.spread_kind-in-I64.result (λ rows. rows.items ≡ ms))
    (integers_marked mask c.in-I64.codes.now ∙ (λ i. map (is_marked mask) (map integer (integers_in (sym c.in-I64.is i)))))
    c.spread_kind-in-I64.ensures
