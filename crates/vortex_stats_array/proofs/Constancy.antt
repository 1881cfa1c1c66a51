-- Whether all values are one, by the least, the greatest and the number of nulls.
use Rattle.std.proofs.Common.{◌≡◌, refl, sym, ◌∙◌, ap, ℕ, ◌+◌, List, [], ◌∷◌, Bool, true, false, not, ◌&&◌, ◌==◌, if◌then◌else◌, Option, Some, None, inl, inr, arith}
use Rattle.std.specs.List.{AllByRecursion, list_all}
use Rattle.std.proofs.lemmas.Bool.Decides.{nat_tests}
use Rattle.std.specs.Cmp.{first_so, second_so}
use Rattle.vortex_model.specs.Content.{Content, null, is_null, equal_content}
use Rattle.vortex_model.proofs.Contents.{null_so}
use Rattle.vortex_model_table.specs.Statistics.{is_at_most, non_null, null_count_of, least_value, greatest_value, is_constant}
use Rattle.vortex_model_table.specs.ZoneLaws.{AllCompare}
use Rattle.vortex_stats_array.specs.Running.{constant_by}
use Rattle.vortex_model_table.proofs.Chains.{not_above_chain}
use Rattle.vortex_model_table.proofs.Equality.{content_so, content_passes}
use Rattle.vortex_model_laws.proofs.Groups.{at_least_chain}
use Rattle.vortex_model_laws.proofs.Honesty.{Among, all_among, each_among, no_null_among, nulls_first}
use Rattle.vortex_model_laws.proofs.JoinOrder.{some_end, at_most_total, at_least_total}
use Rattle.vortex_model_laws.proofs.Leasts.{IsEnd, picked_end, end_picked, at_most_both, at_least_both, is_at_least, all_mapped}

-- ---- the values that are not null

kept_behind : (v d : Content) (ds : List Content) (b : Bool) → is_null d ≡ b → is_null v ≡ false → Among v (d ∷ ds) → (Among v ds → Among v (non_null ds)) →
    Among v (if not b then d ∷ non_null ds else non_null ds)
kept_behind v d ds true g e (inl s) more = let clash : false ≡ true = sym e ∙ ap is_null (sym s) ∙ g in absurd (cc (clash))
kept_behind v d ds true g e (inr a) more = more a
kept_behind v d ds false g e (inl s) more = inl s
kept_behind v d ds false g e (inr a) more = inr (more a)

pub kept : (v : Content) (cs : List Content) → Among v cs → is_null v ≡ false → Among v (non_null cs)
kept v [] h e = absurd h
kept v (d ∷ ds) h e = kept_behind v d ds (is_null d) refl e h (λ a. kept v ds a e)

abbrev pub IsValueIn : Content → List Content → Type 0
IsValueIn v cs = Among v cs × (is_null v ≡ false)

value_behind : (v d : Content) (ds : List Content) (b : Bool) → is_null d ≡ b → Among v (if not b then d ∷ non_null ds else non_null ds) → (Among v (non_null ds) → IsValueIn v ds) →
    IsValueIn v (d ∷ ds)
value_behind v d ds true g a more = let r = more a in (inr r.0, r.1)
value_behind v d ds false g (inl s) more = (inl s, ap is_null (sym s) ∙ g)
value_behind v d ds false g (inr a) more = let r = more a in (inr r.0, r.1)

pub value_in : (v : Content) (cs : List Content) → Among v (non_null cs) → IsValueIn v cs
value_in v [] h = absurd h
value_in v (d ∷ ds) h = value_behind v d ds (is_null d) refl h (λ a. value_in v ds a)

-- ---- lists of one value

abbrev AreAll : Content → List Content → Type 0
AreAll v xs = AllByRecursion (λ x. v ≡ x) xs

tests_pass : (v : Content) (xs : List Content) → AreAll v xs → list_all (equal_content v) xs ≡ true
tests_pass v [] h = refl
tests_pass v (x ∷ xs) h = (λ i. content_passes v x h.0 i && tests_pass v xs h.1 i)

constant_made : (v : Content) (xs : List Content) → AreAll v xs → is_constant xs ≡ true
constant_made v [] h = refl
constant_made v (c ∷ cs) h = tests_pass c cs (all_mapped (λ x. v ≡ x) (λ x. c ≡ x) (λ x e. sym h.0 ∙ e) cs h.1)

passed : (c : Content) (xs : List Content) → list_all (equal_content c) xs ≡ true → AreAll c xs
passed c [] h = tt
passed c (x ∷ xs) h = (content_so c x (first_so (equal_content c x) (list_all (equal_content c) xs) h), passed c xs (second_so (equal_content c x) (list_all (equal_content c) xs) h))

two_of_one : (v w : Content) (cs : List Content) → is_constant cs ≡ true → Among v cs → Among w cs → v ≡ w
two_of_one v w [] h a b = absurd a
two_of_one v w (c ∷ cs) h a b =
    let all : AreAll c (c ∷ cs) = (refl, passed c cs h) in
    sym (all_among (λ x. c ≡ x) v (c ∷ cs) all a) ∙ all_among (λ x. c ≡ x) w (c ∷ cs) all b

-- ---- the test

null_behind : (c : Content) (cs : List Content) (b : Bool) → is_null c ≡ b → (if not b then c ∷ non_null cs else non_null cs) ≡ [] → (non_null cs ≡ [] → AreAll null cs) → AreAll null (c ∷ cs)
null_behind c cs true g h more = (sym (null_so c g), more h)
null_behind c cs false g h more = absurd (cc (h))

only_nulls : (cs : List Content) → non_null cs ≡ [] → AreAll null cs
only_nulls [] e = tt
only_nulls (c ∷ cs) e = null_behind c cs (is_null c) refl e (λ h. only_nulls cs h)

zero_so : (n : ℕ) → (n == 0) ≡ true → n ≡ 0
zero_so n h = grind (arith, nat_tests, h)

so_zero : (n : ℕ) → n ≡ 0 → (n == 0) ≡ true
so_zero n h = grind (arith, nat_tests, h)

no_nulls : (cs : List Content) → AllByRecursion (λ c. is_null c ≡ false) cs → null_count_of cs ≡ 0
no_nulls [] h = refl
no_nulls (c ∷ cs) h = nulls_first c cs ∙ (λ i. (if h.0 i then 1 else 0) + no_nulls cs h.1 i)

-- ---- values that compare have a least and a greatest

clash_of : (o : Option Content) (v : Content) → o ≡ None → o ≡ Some v → ⊥
clash_of o v e f = let clash : None ≡ Some v = sym e ∙ f in cc (clash)

nothing_least : (cs : List Content) → AllCompare cs → least_value cs ≡ None → cs ≡ []
nothing_least [] h e = refl
nothing_least (c ∷ cs) h e =
    let v = some_end is_at_most not_above_chain at_most_both at_most_total c cs h in
    absurd (clash_of (least_value (c ∷ cs)) v.0 e (end_picked is_at_most at_most_both v.0 (c ∷ cs) v.1))

nothing_greatest : (cs : List Content) → AllCompare cs → greatest_value cs ≡ None → cs ≡ []
nothing_greatest [] h e = refl
nothing_greatest (c ∷ cs) h e =
    let v = some_end is_at_least at_least_chain at_least_both at_least_total c cs h in
    absurd (clash_of (greatest_value (c ∷ cs)) v.0 e (end_picked is_at_least at_least_both v.0 (c ∷ cs) v.1))

module _ (cs : List Content) (l g : Content) (least : IsEnd is_at_most l (non_null cs)) (greatest : IsEnd is_at_least g (non_null cs)) where
  same_when : null_count_of cs ≡ 0 → is_at_most g l ≡ true → AreAll l cs
  same_when none below =
      each_among (λ x. l ≡ x) cs (λ x a.
      let there : is_null x ≡ false = no_null_among x cs none a in
      let inside = kept x cs a there in
      let from = all_among (λ c. is_at_most l c ≡ true) x (non_null cs) least.1 inside in
      let to = all_among (λ c. is_at_least g c ≡ true) x (non_null cs) greatest.1 inside in
      at_most_both l x from (not_above_chain x g l to below))

  none_null : is_constant cs ≡ true → null_count_of cs ≡ 0
  none_null h =
      no_nulls cs (each_among (λ c. is_null c ≡ false) cs (λ c a.
      let own = value_in l cs least.0 in
      ap is_null (two_of_one c l cs h a own.0) ∙ own.1))

  below_when : is_constant cs ≡ true → is_at_most g l ≡ true
  below_when h =
      let own = value_in l cs least.0 in let other = value_in g cs greatest.0 in
      ap (λ x. is_at_most x l) (two_of_one g l cs h other.0 own.0) ∙ all_among (λ c. is_at_most l c ≡ true) l (non_null cs) least.1 least.0

  both_tests : is_constant cs ≡ (null_count_of cs == 0) && is_at_most g l
  both_tests = by_tests (null_count_of cs == 0) (is_at_most g l) (is_constant cs) refl refl refl
    where
      by_tests : (a b c : Bool) → (null_count_of cs == 0) ≡ a → is_at_most g l ≡ b → is_constant cs ≡ c → c ≡ a && b
      by_tests true true c p q r = sym r ∙ constant_made l cs (same_when (zero_so (null_count_of cs) p) q)
      by_tests a b false p q r = by_two a b p q
        where
          by_two : (a b : Bool) → (null_count_of cs == 0) ≡ a → is_at_most g l ≡ b → false ≡ a && b
          by_two true true p q = let clash : false ≡ true = sym r ∙ constant_made l cs (same_when (zero_so (null_count_of cs) p) q) in clash
          by_two true false p q = refl
          by_two false b p q = refl
      by_tests a b true p q r =
          (λ i. (sym (so_zero (null_count_of cs) (none_null r)) ∙ p) i && (sym (below_when r) ∙ q) i)

pub constancy : (cs : List Content) → AllCompare (non_null cs) → is_constant cs ≡ constant_by (least_value (non_null cs)) (greatest_value (non_null cs)) (null_count_of cs)
constancy cs compare = by_values (least_value (non_null cs)) (greatest_value (non_null cs)) refl refl
  where
    by_values : (p q : Option Content) → least_value (non_null cs) ≡ p → greatest_value (non_null cs) ≡ q → is_constant cs ≡ constant_by p q (null_count_of cs)
    by_values (Some l) (Some g) e f = both_tests cs l g (picked_end is_at_most l (non_null cs) e) (picked_end is_at_least g (non_null cs) f)
    by_values None q e f = constant_made null cs (only_nulls cs (nothing_least (non_null cs) compare e))
    by_values (Some l) None e f = constant_made null cs (only_nulls cs (nothing_greatest (non_null cs) compare f))
