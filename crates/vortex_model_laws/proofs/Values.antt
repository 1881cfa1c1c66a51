-- Bounds of repeated values.
use Rattle.std.proofs.Common.{◌≡◌, refl, sym, ◌∙◌, ap, ℕ, zero, suc, pos, ◌+ℤ◌, ◌*ℤ◌, ◌+◌, ◌<◌, arith, List, [], ◌∷◌, Bool, true, false, not, ◌&&◌, if◌then◌else◌, Option, Some, None, inl, inr}
use Rattle.std.specs.Prelude.{replicate}
use Rattle.std.specs.List.{list_all}
use Rattle.std.proofs.Math.IntN.{+ℤ_comm, suc_ℤ-*ℤ, zero-*ℤ}
use Rattle.std.proofs.lemmas.List.{length-replicate}
use Rattle.vortex_model.specs.LogicalType.{LogicalType}
use Rattle.vortex_model.specs.Content.{Content, is_null, equal_content}
use Rattle.vortex_model_table.specs.Typing.{sum_kind}
use Rattle.vortex_model_table.specs.Statistics.{Precision, exact, absent, non_null, null_count_of, is_at_most, number_in, sum_of}
use Rattle.vortex_model_table.specs.Bounds.{low, high, is_longer}
use Rattle.vortex_model_table.specs.ZoneMap.{bound_of, low_of_values, high_of_values, sum_in, zone_of}
use Rattle.vortex_model_table.proofs.Equality.{content_passes}
use Rattle.vortex_model_laws.proofs.Honesty.{Among, each_among, all_among, nulls_first}
use Rattle.vortex_model_laws.proofs.Leasts.{is_at_least, IsEnd, picked, picked_end, end_picked, at_most_both, at_least_both, among_contains, contains_among}
use Rattle.vortex_model_laws.specs.Values.{HoldTheSame, IsOfOneValue}
use Rattle.vortex_model_laws.proofs.Alone.{among_kept}

-- ---- the end of values

module _ (R : Content → Content → Bool) (antisym : (c d : Content) → R c d ≡ true → R d c ≡ true → c ≡ d) (xs ys : List Content)
    (to : (v : Content) → Among v xs → Among v ys) (from : (v : Content) → Among v ys → Among v xs) where
  end_to : (v : Content) → IsEnd R v xs → IsEnd R v ys
  end_to v h = (to v h.0, each_among (λ c. R v c ≡ true) ys (λ c a. all_among (λ d. R v d ≡ true) c xs h.1 (from c a)))

  end_from : (v : Content) → IsEnd R v ys → IsEnd R v xs
  end_from v h = (from v h.0, each_among (λ c. R v c ≡ true) xs (λ c a. all_among (λ d. R v d ≡ true) c ys h.1 (to c a)))

  same_picked : picked R xs ≡ picked R ys
  same_picked = by_picked (picked R xs) (picked R ys) refl refl
    where
      by_picked : (o p : Option Content) → picked R xs ≡ o → picked R ys ≡ p → o ≡ p
      by_picked (Some v) p e f = sym (end_picked R antisym v ys (end_to v (picked_end R v xs e))) ∙ f
      by_picked None (Some w) e f = sym e ∙ end_picked R antisym w xs (end_from w (picked_end R w ys f))
      by_picked None None e f = refl

-- ---- non-null values

pub kept_among : (v : Content) (cs : List Content) → Among v (non_null cs) → Among v cs
kept_among v [] a = absurd a
kept_among v (c ∷ cs) a = by_test (is_null c) a (kept_among v cs)
  where
    by_test : (b : Bool) → Among v (if not b then c ∷ non_null cs else non_null cs) → (Among v (non_null cs) → Among v cs) → Among v (c ∷ cs)
    by_test true h more = inr (more h)
    by_test false (inl e) more = inl e
    by_test false (inr h) more = inr (more h)

among_left_in : (v : Content) (cs : List Content) → is_null v ≡ false → Among v cs → Among v (non_null cs)
among_left_in v [] n a = absurd a
among_left_in v (c ∷ cs) n a = by_test (is_null c) refl a (among_left_in v cs n)
  where
    by_test : (b : Bool) → is_null c ≡ b → Among v (c ∷ cs) → (Among v cs → Among v (non_null cs)) → Among v (if not b then c ∷ non_null cs else non_null cs)
    by_test true e (inl s) more = let clash : true ≡ false = sym e ∙ ap is_null s ∙ n in absurd (cc (clash))
    by_test true e (inr h) more = more h
    by_test false e (inl s) more = inl s
    by_test false e (inr h) more = inr (more h)

module _ (cs ds : List Content) (same : HoldTheSame cs ds) where
  carried : (v : Content) → Among v (non_null cs) → Among v (non_null ds)
  carried v a =
      let n = among_kept v cs a in
      among_left_in v ds n (contains_among v ds ((same v n).0 (among_contains v cs (kept_among v cs a))))

  carried_back : (v : Content) → Among v (non_null ds) → Among v (non_null cs)
  carried_back v a =
      let n = among_kept v ds a in
      among_left_in v cs n (contains_among v cs ((same v n).1 (among_contains v ds (kept_among v ds a))))

  low_same : (L : ℕ) → low_of_values L cs ≡ low_of_values L ds
  low_same L =
      ap (λ o. elim o as (λ o. Precision Content) [ None ↦ absent | Some v ↦ bound_of (is_longer L v) (low L v) ])
      (same_picked is_at_most at_most_both (non_null cs) (non_null ds) carried carried_back)

  high_same : (L : ℕ) → high_of_values L cs ≡ high_of_values L ds
  high_same L =
      ap (λ o. elim o as (λ o. Precision Content) [ None ↦ absent | Some v ↦ (elim (high L v) [ None ↦ absent | Some h ↦ bound_of (is_longer L v) h ]) ])
      (same_picked is_at_least at_least_both (non_null cs) (non_null ds) carried carried_back)

pub bounds_of_values : (L : ℕ) (cs ds : List Content) → HoldTheSame cs ds → (low_of_values L cs ≡ low_of_values L ds) × (high_of_values L cs ≡ high_of_values L ds)
bounds_of_values L cs ds same = (low_same cs ds same L, high_same cs ds same L)

-- ---- one value

repeated_is : (n : ℕ) (c v : Content) → Among v (replicate n c) → c ≡ v
repeated_is zero c v a = absurd a
repeated_is (suc n) c v (inl e) = e
repeated_is (suc n) c v (inr h) = repeated_is n c v h

repeated_same : (n : ℕ) (c : Content) → HoldTheSame (replicate (suc n) c) (c ∷ [])
repeated_same n c v m = (
  (λ h. among_contains v (c ∷ []) (inl (repeated_is (suc n) c v (contains_among v (replicate (suc n) c) h)))),
  (λ h. among_contains v (replicate (suc n) c) (inl (only (contains_among v (c ∷ []) h)))),
)
  where
    only : Among v (c ∷ []) → c ≡ v
    only (inl e) = e
    only (inr h) = absurd h

repeated_nulls : (n : ℕ) (c : Content) → null_count_of (replicate n c) ≡ (if is_null c then n else 0)
repeated_nulls n c = by_null (is_null c) refl n
  where
    none_of : (b : Bool) → ◌≡◌ {A = ℕ} 0 (if b then 0 else 0)
    none_of true = refl
    none_of false = refl

    one_more : (b : Bool) (m : ℕ) → (if b then 1 else 0) + (if b then m else 0) ≡ (if b then suc m else 0)
    one_more true m = (let same : 1 + m ≡ suc m = omega arith in same)
    one_more false m = refl

    by_null : (b : Bool) → is_null c ≡ b → (m : ℕ) → null_count_of (replicate m c) ≡ (if b then m else 0)
    by_null b e zero = none_of b
    by_null b e (suc m) = nulls_first c (replicate m c) ∙ (λ i. (if e i then 1 else 0) + by_null b e m i) ∙ one_more b m

repeated_sum : (n : ℕ) (c : Content) → sum_of (replicate n c) ≡ pos n *ℤ number_in c
repeated_sum zero c = sym (zero-*ℤ (number_in c))
repeated_sum (suc n) c =
    ap (λ z. number_in c +ℤ z) (repeated_sum n c) ∙ +ℤ_comm (number_in c) (pos n *ℤ number_in c) ∙ sym (suc_ℤ-*ℤ (pos n) (number_in c))

repeated_passes : (n : ℕ) (c : Content) → list_all (equal_content c) (replicate n c) ≡ true
repeated_passes zero c = refl
repeated_passes (suc n) c = (λ i. content_passes c c refl i && repeated_passes n c i)

pub constant_zone : (k : LogicalType) (L n : ℕ) (c : Content) → 0 < n → IsOfOneValue k L n c (zone_of k L (replicate n c))
constant_zone k L zero c h = absurd (omega (arith, h))
constant_zone k L (suc n) c h =
    let same = bounds_of_values L (replicate (suc n) c) (c ∷ []) (repeated_same n c) in record {
      low = same.0;
      high = same.1;
      nulls = repeated_nulls (suc n) c;
      rows = length-replicate (suc n) c;
      total = ap (sum_in (sum_kind k)) (repeated_sum (suc n) c);
      constant = ap exact (repeated_passes n c);
    }
