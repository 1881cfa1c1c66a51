-- Arrays made of a struct array's columns, one after another.
use Rattle.std.proofs.Common.{◌≡◌, ◌<◌, ◌+◌, ℕ, List, [], ◌∷◌, ◌++◌, length, get_or, sym, ap, subst, ◌∙◌, arith, inl, inr}
use Rattle.std.proofs.lemmas.Bool.{cases_eq}
use Rattle.std.proofs.lemmas.List.{get_or_append_left, get_or_push, length_push}
use Rattle.vortex_model.proofs.Lists.{same_item}
use Rattle.vortex_arrays_model.specs.Layout.{Layout, len_of, IsSound, HaveLength}
use Rattle.vortex_arrays_model.specs.Parts.{columns_of}
use Rattle.vortex_arrays_model.proofs.PicksLemmas.{have_length, each_length}

-- xs are made of the first n columns
pub record FirstMade (P : Layout → Layout → Type 0) (fs : List Layout) (n : ℕ) (xs : List Layout) : Type 0 where
  pub many : length xs ≡ n
  pub each : (k : ℕ) (d : Layout) → k < n → P (get_or fs k d) (get_or xs k d)
  pub sound : (k : ℕ) (d : Layout) → k < n → IsSound (get_or xs k d)

pub first_none : (P : Layout → Layout → Type 0) (fs : List Layout) (xs : List Layout) → length xs ≡ 0 → FirstMade P fs 0 xs
first_none P fs xs e = record { many = e; each = λ k d l. absurd (omega arith); sound = λ k d l. absurd (omega arith) }

pub first_more : (P : Layout → Layout → Type 0) (fs : List Layout) (n : ℕ) (xs ys : List Layout) (a b : Layout) → FirstMade P fs n xs → n < length fs → a ≡ get_or fs n a → P a b → IsSound b → ys ≡ xs ++ b ∷ [] → FirstMade P fs (n + 1) ys
first_more P fs n xs ys a b h l e c s made = subst (FirstMade P fs (n + 1)) (sym made) (record {
  many = length_push xs b ∙ ap (λ k. k + 1) h.many;
  each = λ k d q. elim (cases_eq k n) [
    | inl same ↦
        let here : a ≡ get_or fs k d = same_item fs k a d (subst (λ i. i < length fs) (sym same) l) (subst (λ i. a ≡ get_or fs i a) (sym same) e) in
        subst (λ x. P x (get_or (xs ++ b ∷ []) k d)) here (subst (P a) (sym (get_or_push xs b d k (h.many ∙ sym same))) c)
    | inr other ↦
        let before : k < n = omega (arith, other) in
        subst (P (get_or fs k d)) (sym (get_or_append_left xs (b ∷ []) d k (let m = h.many in omega (arith, m)))) (h.each k d before)
  ];
  sound = λ k d q. elim (cases_eq k n) [
    | inl same ↦ subst IsSound (sym (get_or_push xs b d k (h.many ∙ sym same))) s
    | inr other ↦
        let before : k < n = omega (arith, other) in
        subst IsSound (sym (get_or_append_left xs (b ∷ []) d k (let m = h.many in omega (arith, m)))) (h.sound k d before)
  ];
})

pub first_many : (P : Layout → Layout → Type 0) (fs : List Layout) (n : ℕ) (xs : List Layout) → FirstMade P fs n xs → n ≡ length fs → length xs ≡ length fs
first_many P fs n xs h e = h.many ∙ e

pub first_fit : (P : Layout → Layout → Type 0) → ((a b : Layout) → P a b → len_of b ≡ len_of a) → (ns : List (List ℕ)) (fs : List Layout) (n m : ℕ) (xs : List Layout) → FirstMade P fs n xs → n ≡ length fs → HaveLength (columns_of ns fs) m → HaveLength (columns_of ns xs) m
first_fit P same ns fs n m xs h e fit =
    let many : length xs ≡ length fs = h.many ∙ e in
    have_length ns xs m
    (λ k d l. h.sound k d (omega (arith, l, many, e)))
    (λ k d l. same (get_or fs k d) (get_or xs k d) (h.each k d (omega (arith, l, many, e))) ∙ each_length ns fs m k d fit (omega (arith, l, many)))
