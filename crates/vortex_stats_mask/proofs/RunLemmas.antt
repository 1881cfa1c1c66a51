-- Masks whose rows are set one by one.
use Rattle.std.proofs.Common.{◌≡◌, ℕ, ◌+◌, ◌<◌, ◌≤◌, inl, inr, Result, Ok, Err, IfOk, List, [], ◌∷◌, Bool, false, ◌&&◌, suc, zero, length, get_or, set, map, replicate, refl, sym, subst, ◌∙◌, arith}
use Rattle.std.proofs.lemmas.Bool.{cases_eq}
use Rattle.std.proofs.lemmas.List.{ext_get_or, get_or-map, get_or-set_same, get_or-set_other, length-map, length-set, length-replicate}
use Rattle.vortex_stats_mask.specs.Columns.{both_rows}
use Rattle.vortex_stats_mask.specs.Runs.{Says}

pub said_none : (P : ℕ → Bool → Type 0) (many : ℕ) → Says P (replicate many false) 0 many
said_none P many = record { rows = λ i l. absurd (omega arith); count = length-replicate many false }

pub said_more : (P : ℕ → Bool → Type 0) (mask : List Bool) (first j many : ℕ) (b : Bool) → first + j < many → P (first + j) b → Says P mask (first + j) many → Says P (set mask (first + j) b) (first + (j + 1)) many
said_more P mask first j many b l holds s = record {
  rows = λ i h. elim (cases_eq i (first + j)) [
    | inl e ↦ subst (λ k. P k (get_or (set mask (first + j) b) k false)) (sym e) (subst (P (first + j)) (sym (get_or-set_same mask (first + j) b false (omega (arith, s.count)))) holds)
    | inr d ↦ subst (P i) (sym (get_or-set_other mask (first + j) i b false d)) (s.rows i (omega arith))
  ];
  count = length-set mask (first + j) b ∙ s.count;
}

-- up to an equal index
pub said_to : (P : ℕ → Bool → Type 0) (mask : List Bool) (n m many : ℕ) → n ≡ m → Says P mask n many → Says P mask m many
said_to P mask n m many e s = subst (λ k. Says P mask k many) e s

pub ruleset said = (said_none, said_more, said_to)

-- two facts of a result hold together
pub both_tell : {V E : Type 0} (r : Result V E) (P Q R : V → Type 0) → IfOk r P → IfOk r Q → ((v : V) → P v → Q v → R v) → IfOk r R
both_tell (Ok v) P Q R p q f = f v p q
both_tell (Err e) P Q R p q f = tt

-- the answers for the rows make the mask
pub told_all : {A : Type 0} (f : A → Bool) (xs : List A) (bs : List Bool) → length bs ≡ length xs → ((i : ℕ) (d : A) → i < length xs → get_or bs i false ≡ f (get_or xs i d)) → bs ≡ map f xs
told_all f [] bs e h = ext_get_or false bs [] e (λ k l. let m : k < 0 = subst (λ n. k < n) e l in absurd (omega (arith, m)))
told_all f (x ∷ xs) bs e h =
    ext_get_or false bs (map f (x ∷ xs)) (e ∙ sym (length-map (x ∷ xs) f)) (λ k l.
    let m : k < length (x ∷ xs) = subst (λ n. k < n) e l in
    h k x m ∙ sym (get_or-map f (x ∷ xs) k x false m))

-- ---- masks whose rows are set anew

-- the first n rows are as P says beside what they were, and the others as they were
pub record Retold (P : ℕ → Bool → Bool → Type 0) (all mask : List Bool) (n : ℕ) : Type 0 where
  pub rows : (i : ℕ) → i < n → P i (get_or all i false) (get_or mask i false)
  pub rest : (i : ℕ) → n ≤ i → get_or mask i false ≡ get_or all i false
  pub count : length mask ≡ length all

pub retold_none : (P : ℕ → Bool → Bool → Type 0) (all : List Bool) → Retold P all all 0
retold_none P all = record { rows = λ i l. absurd (omega arith); rest = λ i l. refl; count = refl }

pub retold_more : (P : ℕ → Bool → Bool → Type 0) (all mask : List Bool) (n : ℕ) (b : Bool) → n < length all → P n (get_or mask n false) b → Retold P all mask n → Retold P all (set mask n b) (n + 1)
retold_more P all mask n b l holds s = record {
  rows = λ i h. elim (cases_eq i n) [
    | inl e ↦ subst (λ k. P k (get_or all k false) (get_or (set mask n b) k false)) (sym e)
        (subst (P n (get_or all n false)) (sym (get_or-set_same mask n b false (omega (arith, s.count))))
        (subst (λ was. P n was b) (s.rest n (omega arith)) holds))
    | inr d ↦ subst (P i (get_or all i false)) (sym (get_or-set_other mask n i b false d)) (s.rows i (omega arith))
  ];
  rest = λ i h. get_or-set_other mask n i b false (λ e. absurd (omega (arith, e, h))) ∙ s.rest i (omega arith);
  count = length-set mask n b ∙ s.count;
}

pub ruleset retold = (retold_none, retold_more)

-- each row beside a test of the item there
pub told_beside : {A : Type 0} (f : A → Bool) (old new : List Bool) (xs : List A) → length new ≡ length old → length old ≤ length xs →
    ((i : ℕ) (d : A) → i < length old → get_or new i false ≡ (get_or old i false && f (get_or xs i d))) → new ≡ both_rows old (map f xs)
told_beside f [] [] xs e h t = refl
told_beside f [] (n ∷ ns) xs e h t = absurd (omega (arith, e))
told_beside f (o ∷ os) [] xs e h t = absurd (omega (arith, e))
told_beside f (o ∷ os) (n ∷ ns) [] e h t = absurd (omega (arith, h))
told_beside f (o ∷ os) (n ∷ ns) (x ∷ xs) e h t = λ i. t zero x (omega arith) i
    ∷ told_beside f os ns xs (omega (arith, e)) (omega (arith, h)) (λ k d l. t (suc k) d (omega (arith, l))) i
