-- The marks of the values that codes refer to, and the rows of a dictionary.
use Rattle.std.proofs.Common.{◌≡◌, ◌≢◌, ◌<◌, ◌+◌, ℕ, zero, suc, pos, negsuc, Bool, true, false, not, IsTrue, List, length, get_or, set, replicate, refl, sym, ap, subst, ◌∙◌, arith, ⊎_elim, get_or-set_same, get_or-set_other}
use Rattle.std.proofs.lemmas.Bool.{cases_eq}
use Rattle.vortex_model.specs.Content.{Content, null, boolean, integer, text, byte_string, tuple, tagged, scalar}
use Rattle.vortex_arrays_model.specs.Layout.{Layout, dictionary, len_of, content_at, pick, number_in, IsCode, IsSound, IsReferenced, AllReferenced}
use Rattle.vortex_arrays_model.specs.Referenced.{MarksReferenced, Occurs, OccursMarked}
use Rattle.vortex_arrays_model.proofs.CanonicalLemmas.{last_or_before}

unmarked : (b : Bool) (n j : ℕ) → get_or (replicate n b) j b ≡ b
unmarked b zero j = refl
unmarked b (suc n) zero = refl
unmarked b (suc n) (suc j) = unmarked b n j

number_of : {j k : ℕ} → integer (pos j) ≡ integer (pos k) → j ≡ k
number_of e = ap number_in e

not_null : (k : ℕ) → integer (pos k) ≡ null → ⊥
not_null k e = cc

differs : (b : Bool) → not b ≡ b → ⊥
differs true e = cc
differs false e = cc

pub marks_none : (c : Layout) (b : Bool) (n : ℕ) → MarksReferenced c 0 b (replicate n (not b))
marks_none c b n = record {
  referenced = λ j e. absurd (differs b (sym (unmarked (not b) n j) ∙ e));
  marked = λ i j l e. absurd (omega arith);
}

later : (c : Layout) (n j : ℕ) → IsReferenced c n j → IsReferenced c (n + 1) j
later c n j h = record { row = h.row; before = let l = h.before in omega (arith, l); referenced = h.referenced }

-- a code j sets bit j, and a null code sets none
pub marks_more : (c : Layout) (n j : ℕ) (b : Bool) (mask : List Bool) → MarksReferenced c n b mask → content_at c n ≡ integer (pos j) → j < length mask → MarksReferenced c (n + 1) b (set mask j b)
marks_more c n j b mask h e l = record {
  referenced = λ k t. ⊎_elim
      (λ (same : k ≡ j). record { row = n; before = omega arith; referenced = e ∙ ap (λ x. integer (pos x)) (sym same) })
      (λ (other : k ≢ j). later c n k (h.referenced k (sym (get_or-set_other mask j k b (not b) other) ∙ t)))
      (cases_eq k j);
  marked = λ i k w f. ⊎_elim
      (λ (same : k ≡ j). subst (λ x. get_or (set mask j b) x (not b) ≡ b) (sym same) (get_or-set_same mask j b (not b) l))
      (λ (other : k ≢ j). get_or-set_other mask j k b (not b) other ∙ ⊎_elim
      (λ (earlier : i < n). h.marked i k earlier f)
      (λ (now : i ≡ n). absurd (other (number_of (sym f ∙ ap (content_at c) now ∙ e))))
      (last_or_before i n w))
      (cases_eq k j);
}

pub marks_same : (c : Layout) (n : ℕ) (b : Bool) (mask : List Bool) → MarksReferenced c n b mask → content_at c n ≡ null → MarksReferenced c (n + 1) b mask
marks_same c n b mask h e = record {
  referenced = λ k t. later c n k (h.referenced k t);
  marked = λ i k w f. ⊎_elim
      (λ (earlier : i < n). h.marked i k earlier f)
      (λ (now : i ≡ n). absurd (not_null k (sym f ∙ ap (content_at c) now ∙ e)))
      (last_or_before i n w);
}

-- all bits are set: each value is referenced
pub all_marked : (c v : Layout) (b : Bool) (mask : List Bool) → MarksReferenced c (len_of c) b mask → ((j : ℕ) → j < len_of v → get_or mask j (not b) ≡ b) → AllReferenced c v
all_marked c v b mask h all = λ j l. h.referenced j (all j l)

pub all_referenced : (c v : Layout) (b : Bool) (mask : List Bool) → MarksReferenced c (len_of c) b mask → AllReferenced c v → (j : ℕ) → j < len_of v → get_or mask j (not b) ≡ b
all_referenced c v b mask h all j l = let n = all j l in h.marked n.row j n.before n.referenced

by_code : (c v : Layout) (b : Bool) (mask : List Bool) (x : Content) (i : ℕ) (y : Content) → MarksReferenced c (len_of c) b mask → x ≢ null → i < len_of c → IsCode (len_of v) y → content_at c i ≡ y → pick y (λ j. content_at v j) ≡ x → OccursMarked v b mask x
by_code c v b mask x i null h ne l k e p = absurd (ne (sym p))
by_code c v b mask x i (integer (pos j)) h ne l k e p = record { value = j; within = k; marked = h.marked i j l e; stands = p }
by_code c v b mask x i (integer (negsuc j)) h ne l k e p = absurd k
by_code c v b mask x i (boolean t) h ne l k e p = absurd k
by_code c v b mask x i (text t) h ne l k e p = absurd k
by_code c v b mask x i (byte_string t) h ne l k e p = absurd k
by_code c v b mask x i (tuple t) h ne l k e p = absurd k
by_code c v b mask x i (tagged t y) h ne l k e p = absurd k
by_code c v b mask x i (scalar t y) h ne l k e p = absurd k

-- Apart from null, the rows of a dictionary are its marked values.
pub rows_are_marked : (c v : Layout) (f b : Bool) (mask : List Bool) (x : Content) → IsSound (dictionary c v f) → MarksReferenced c (len_of c) b mask → x ≢ null → Occurs (dictionary c v f) x → OccursMarked v b mask x
rows_are_marked c v f b mask x s h ne o = by_code c v b mask x o.row (content_at c o.row) h ne o.within (s.3 o.row o.within) refl o.stands

pub marked_are_rows : (c v : Layout) (f b : Bool) (mask : List Bool) (x : Content) → MarksReferenced c (len_of c) b mask → OccursMarked v b mask x → Occurs (dictionary c v f) x
marked_are_rows c v f b mask x h o = let n = h.referenced o.value o.marked in record { row = n.row; within = n.before; stands = ap (λ y. pick y (λ j. content_at v j)) n.referenced ∙ o.stands }

-- a flagged dictionary has each of its values in some row
pub flagged_values_are_rows : (c v : Layout) (f : Bool) (x : Content) → IsSound (dictionary c v f) → IsTrue f → Occurs v x → Occurs (dictionary c v f) x
flagged_values_are_rows c v f x s t o = let n = s.4 t o.row o.within in record { row = n.row; within = n.before; stands = ap (λ y. pick y (λ j. content_at v j)) n.referenced ∙ o.stands }

pub ruleset marks = (marks_none, marks_more, marks_same, all_marked, all_referenced)
