-- The nulls of structs in their columns.
use Rattle.std.proofs.Common.{◌≡◌, ◌<◌, ◌+◌, ℕ, suc, Bool, cond, List, [], ◌∷◌, ◌++◌, length, get_or, refl, sym, ap, subst, ◌∙◌, arith, inl, inr}
use Rattle.std.proofs.lemmas.Bool.{cases_eq}
use Rattle.std.proofs.lemmas.List.{get_or_push, get_or_append_left, length_push}
use Rattle.vortex_arrays_model.specs.Layout.{Layout, records, Valid, required, all_valid, all_null, by_array, Columns, len_of, HasLength, HaveLength}
use Rattle.vortex_arrays_model.specs.Column.{IsMasked}
use Rattle.vortex_arrays_core.specs.Flags.{flags_of}
use Rattle.vortex_arrays_model.specs.Parts.{columns_of}
use Rattle.vortex_arrays_model.proofs.PicksLemmas.{each_length, field_length, have_length}
use Rattle.vortex_arrays_struct.specs.Records.{columns_in, validity_in, names_in, arrays_in}
use Rattle.vortex_arrays_struct.specs.Edited.{AreMasked, IsPushed, IsPushedInto, without_nulls}
use Rattle.vortex_arrays_struct.proofs.EditLemmas.{columns_again, as_many}
use Rattle.vortex_arrays_struct.proofs.Fitting.{item_at}

-- the first n fields with the nulls
pub record AreFirstMasked (v : Valid) (fs gs : List Layout) (n : ℕ) : Type 0 where
  pub many : length gs ≡ n
  pub each : (k : ℕ) (d : Layout) → k < n → IsPushedInto v (get_or fs k d) (get_or gs k d)

pub none_masked : (v : Valid) (fs gs : List Layout) → length gs ≡ 0 → AreFirstMasked v fs gs 0
none_masked v fs gs e = record { many = e; each = λ k d l. absurd (omega (arith, l)) }

pub one_masked : (v : Valid) (fs gs : List Layout) (n : ℕ) (a b : Layout) → AreFirstMasked v fs gs n → n < length fs → a ≡ get_or fs n a → IsMasked v a b → flags_of b ≡ flags_of a → AreFirstMasked v fs (gs ++ b ∷ []) (n + 1)
one_masked v fs gs n a b h l e m flag = record {
  many = length_push gs b ∙ ap (λ k. k + 1) h.many;
  each = λ k d w. elim (cases_eq k n) [
    | inl same ↦
        let old : get_or fs k d ≡ a = ap (λ j. get_or fs j d) same ∙ item_at fs n a d l e in
        let new : get_or (gs ++ b ∷ []) k d ≡ b = get_or_push gs b d k (h.many ∙ sym same) in
        subst (λ x. IsPushedInto v x (get_or (gs ++ b ∷ []) k d)) (sym old) (subst (IsPushedInto v a) (sym new) (m, flag))
    | inr other ↦
        let before : k < n = omega (arith, w, other) in
        subst (IsPushedInto v (get_or fs k d)) (sym (get_or_append_left gs (b ∷ []) d k (let c = h.many in omega (arith, c, before)))) (h.each k d before)
  ];
}

masked_columns : (v : Valid) (xs : List (List ℕ)) (fs gs : List Layout) → length xs ≡ length fs → length gs ≡ length fs → ((k : ℕ) (d : Layout) → k < length fs → IsPushedInto v (get_or fs k d) (get_or gs k d)) → AreMasked v (columns_of xs fs) (columns_of xs gs)
masked_columns v [] [] [] e f h = refl
masked_columns v xs [] (b ∷ gs) e f h = absurd (cc (f))
masked_columns v (x ∷ xs) [] [] e f h = absurd (cc (e))
masked_columns v xs (a ∷ fs) [] e f h = absurd (cc (f))
masked_columns v [] (a ∷ fs) (b ∷ gs) e f h = absurd (cc (e))
masked_columns v (x ∷ xs) (a ∷ fs) (b ∷ gs) e f h = (refl, h 0 a (omega arith), masked_columns v xs fs gs (omega (arith, e)) (omega (arith, f)) (λ k d l. h (suc k) d (omega (arith, l))))

pub all_masked : (v : Valid) (xs : List (List ℕ)) (fs gs : List Layout) (n i : ℕ) → length xs ≡ length fs → HaveLength (columns_of xs fs) n → AreFirstMasked v fs gs i → i ≡ length fs → AreMasked v (columns_of xs fs) (columns_of xs gs) × HaveLength (columns_of xs gs) n
all_masked v xs fs gs n i e s h f =
    let each : (k : ℕ) (d : Layout) → k < length fs → IsPushedInto v (get_or fs k d) (get_or gs k d) = λ k d l. h.each k d (subst (λ m. k < m) (sym f) l) in
    let many : length gs ≡ length fs = h.many ∙ f in (
      masked_columns v xs fs gs e many each,
      have_length xs gs n
          (λ k d l. let m = each k d (subst (λ j. k < j) many l) in m.0.sound)
          (λ k d l. let w : k < length fs = subst (λ j. k < j) many l in let m = each k d w in m.0.len ∙ each_length xs fs n k d s w),
    )

pub field_fits : (xs : List (List ℕ)) (fs : List Layout) (n k : ℕ) (v : Valid) (a : Layout) → HasLength v n → HaveLength (columns_of xs fs) n → a ≡ get_or fs k a → k < length fs → HasLength v (len_of a)
field_fits xs fs n k v a h s e l = subst (HasLength v) (sym (field_length xs fs n k a s e l)) h

pub ruleset fields = (none_masked, one_masked, all_masked, field_fits)

-- the nulls are kept, or there are none
pub forgotten_fits : (v : Valid) (n : ℕ) → HasLength v n → HasLength (without_nulls v) n
forgotten_fits required n h = tt
forgotten_fits all_valid n h = tt
forgotten_fits all_null n h = tt
forgotten_fits (by_array a) n h = tt

pub of_columns : (v : Valid) (cs ds : Columns) → AreMasked v (columns_of (names_in cs) (arrays_in cs)) ds → AreMasked v cs ds
of_columns v cs ds h = subst (λ es. AreMasked v es ds) (columns_again cs) h

pub fit_columns : (cs : Columns) (n : ℕ) → HaveLength cs n → HaveLength (columns_of (names_in cs) (arrays_in cs)) n
fit_columns cs n h = subst (λ es. HaveLength es n) (sym (columns_again cs)) h

pub pushed_so : (a r : Layout) (remove : Bool) (ds : Columns) (w : Valid) (n : ℕ) → AreMasked (validity_in a) (columns_in a) ds → r ≡ records ds n w → n ≡ len_of a → w ≡ cond remove (without_nulls (validity_in a)) (validity_in a) → IsPushed a remove r
pushed_so a r remove ds w n m e f g = record { columns = ds; masked = m; made = e ∙ (λ t. records ds (f t) (g t)) }

pub ruleset pushed = (forgotten_fits, of_columns, fit_columns, as_many, pushed_so)
