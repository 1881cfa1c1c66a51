-- Which chunks are marked as left out.
use Rattle.std.proofs.Common.{◌≡◌, refl, sym, ◌∙◌, ap, subst, ℕ, ◌+◌, ◌<◌, ◌≤◌, List, length, drop, get_or, set, replicate, arith, Bool, true, false, inl, inr}
use Rattle.std.specs.Prelude.{◌==◌, ◌||◌}
use Rattle.std.proofs.lemmas.Bool.{cases_eq, ne_eqb, eq-eqb}
use Rattle.std.proofs.lemmas.List.{length-set, length-replicate, get_or-replicate, get_or-set_same, get_or-set_other}
use Rattle.example_planner.specs.Split.{is_among, AreMarks}
use Rattle.example_planner.proofs.Gathered.{next_item, none_left}

-- Of each chunk its mark or the numbers from k on say whether it is left out.
pub record AreMarked (left : List ℕ) (k count : ℕ) (marks : List Bool) : Type 0 where
  pub long : length marks ≡ count
  pub told : (i : ℕ) → i < count → (get_or marks i false || is_among i (drop k left)) ≡ is_among i left

or_false : (b : Bool) → (b || false) ≡ b
or_false true = refl
or_false false = refl

or_true : (b c : Bool) → (b || (true || c)) ≡ true
or_true true c = refl
or_true false c = refl

pub unmarked : (left : List ℕ) (count : ℕ) (marks : List Bool) → marks ≡ replicate count false → AreMarked left 0 count marks
unmarked left count marks e = subst (AreMarked left 0 count) (sym e) (record {
  long = length-replicate count false;
  told = λ i l. ap (λ b. b || is_among i left) (get_or-replicate count i false false l);
})

module _ (left : List ℕ) (k count n : ℕ) (marks : List Bool) (more : k < length left) (is : n ≡ get_or left k n) (so : AreMarked left k count marks) where
  -- what the next number adds
  added : (i : ℕ) → is_among i (drop k left) ≡ ((n == i) || is_among i (drop (k + 1) left))
  added i = ap (is_among i) (next_item left k n more is)

  other : (i : ℕ) → (n == i) ≡ false → is_among i (drop k left) ≡ is_among i (drop (k + 1) left)
  other i ne = added i ∙ ap (λ b. b || is_among i (drop (k + 1) left)) ne

  -- it is not that of a chunk
  pub passed : count ≤ n → AreMarked left (k + 1) count marks
  passed past = record {
    long = so.long;
    told = λ i l. ap (λ b. get_or marks i false || b) (sym (other i (ne_eqb n i (λ e. omega (arith, l, e, past))))) ∙ so.told i l;
  }

  pub marked : n < count → AreMarked left (k + 1) count (set marks n true)
  marked within = let same = so.long in record {
    long = length-set marks n true ∙ so.long;
    told = λ i l. elim (cases_eq i n) [
      | inl e ↦
          let put : get_or (set marks n true) i false ≡ true = ap (λ j. get_or (set marks n true) j false) e ∙ get_or-set_same marks n true false (omega (arith, same, within)) in
          ap (λ b. b || is_among i (drop (k + 1) left)) put
          ∙ sym (ap (λ b. get_or marks i false || (b || is_among i (drop (k + 1) left))) (eq-eqb n i (sym e)) ∙ or_true (get_or marks i false) (is_among i (drop (k + 1) left)))
          ∙ ap (λ b. get_or marks i false || b) (sym (added i)) ∙ so.told i l
      | inr differs ↦
          ap (λ b. b || is_among i (drop (k + 1) left)) (get_or-set_other marks n i true false differs)
          ∙ ap (λ b. get_or marks i false || b) (sym (other i (ne_eqb n i (λ e. differs (sym e))))) ∙ so.told i l
    ];
  }

pub all_marked : (left : List ℕ) (k count : ℕ) (marks : List Bool) → length left ≤ k → AreMarked left k count marks → AreMarks left count marks
all_marked left k count marks past so = record {
  long = so.long;
  told = λ i l. sym (or_false (get_or marks i false)) ∙ ap (λ ns. get_or marks i false || is_among i ns) (sym (none_left left k past)) ∙ so.told i l;
}
