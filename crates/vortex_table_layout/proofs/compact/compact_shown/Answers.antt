use Rattle.std.proofs.Common.{◌≡◌, ◌∙◌, true, replicate}
use Rattle.std.proofs.lemmas.Result.{IfOk-weaker, IfErr-weaker}
use Rattle.vortex_table_layout.proofs.ShownLemmas.{shown_all, made_shown, type_shown, rows_shown, fault_shown}
use Rattle.vortex_table_layout.proofs.compact.compact_shown.Goals as goal

pub returns-clause-made : goal.returns-clause-made
returns-clause-made c =
    let a = c.args.array.now in let b = c.in_ok-shown.shown in
    let all : c.deref.result.now ≡ replicate c.len.result true = c.deref.ensures.value ∙ c.in_ok-seen.ensures.items_if_clones_equal (λ y h. h) in
    let shown = shown_all c.deref.result.now c.len.result a b all c.len.ensures.count c.len.ensures.sound c.in_ok-shown.ensures in
    IfOk-weaker c.compact_part.result _ _ (λ r h. made_shown a b r shown h c.requires) c.compact_part.ensures.made

pub returns-clause-dtype : goal.returns-clause-dtype
returns-clause-dtype c =
    let a = c.args.array.now in let b = c.in_ok-shown.shown in
    let all : c.deref.result.now ≡ replicate c.len.result true = c.deref.ensures.value ∙ c.in_ok-seen.ensures.items_if_clones_equal (λ y h. h) in
    let shown = shown_all c.deref.result.now c.len.result a b all c.len.ensures.count c.len.ensures.sound c.in_ok-shown.ensures in
    IfOk-weaker c.compact_part.result _ _ (λ r h. type_shown a b r shown h) c.compact_part.ensures.made

pub returns-clause-rows : goal.returns-clause-rows
returns-clause-rows c =
    let a = c.args.array.now in let b = c.in_ok-shown.shown in
    let all : c.deref.result.now ≡ replicate c.len.result true = c.deref.ensures.value ∙ c.in_ok-seen.ensures.items_if_clones_equal (λ y h. h) in
    let shown = shown_all c.deref.result.now c.len.result a b all c.len.ensures.count c.len.ensures.sound c.in_ok-shown.ensures in
    IfOk-weaker c.compact_part.result _ _ (λ r h. rows_shown a b r c.len.ensures.sound c.len-rows.ensures.sound shown h) c.compact_part.ensures.made

pub returns-clause-refused : goal.returns-clause-refused
returns-clause-refused c =
    let a = c.args.array.now in let b = c.in_ok-shown.shown in
    let all : c.deref.result.now ≡ replicate c.len.result true = c.deref.ensures.value ∙ c.in_ok-seen.ensures.items_if_clones_equal (λ y h. h) in
    let shown = shown_all c.deref.result.now c.len.result a b all c.len.ensures.count c.len.ensures.sound c.in_ok-shown.ensures in
    IfErr-weaker c.compact_part.result _ _ (λ x f. fault_shown x a b c.len.ensures.sound shown f) c.compact_part.ensures.refused
