-- The zone map of a group shows no more than that of each of its chunks, so a scan skips no chunk
-- with its group that it would not skip alone.
use Rattle.std.proofs.Common.{◌≡◌, refl, sym, ◌∙◌, ap, subst, ℕ, suc, ◌+◌, ◌<◌, ◌≤◌, arith, List, [], ◌∷◌, ◌++◌, length, map, filter_map, flat_map, take, drop, Bool, true, false, not, ◌&&◌, if◌then◌else◌, nat_lt, Option, Some, None, option_map, option_and_then, inl, inr}
use Rattle.std.specs.Prelude.{sum}
use Rattle.std.specs.List.{AllByRecursion, list_any}
use Rattle.std.proofs.lemmas.Bool.Decides.{nat_tests}
use Rattle.std.proofs.lemmas.List.{length-append, length-map, length-take-le, map-append, take-append-drop}
use Rattle.std.proofs.lemmas.List.Sums.{count_by-le-length}
use Rattle.std.specs.Cmp.{first_so, second_so}
use Rattle.vortex_model.specs.LogicalType.{LogicalType}
use Rattle.vortex_model.specs.Content.{Content, is_null}
use Rattle.vortex_model.specs.Valid.{IsContent}
use Rattle.vortex_model.specs.Path.{Names, Positions, positions, type_at, at}
use Rattle.vortex_model.specs.Kept.{is_leaf}
use Rattle.vortex_model.proofs.Booleans.{or_false_left, or_false_right}
use Rattle.vortex_model.proofs.Lists.{map_twice, front_of_all, back_of_all}
use Rattle.vortex_model_table.specs.Expression.{Expression}
use Rattle.vortex_model_table.specs.Statistics.{Precision, exact, inexact, absent, non_null, is_at_most, null_count_of, least_value, greatest_value, IsNotAbove, IsHonest, IsHonestLeast, IsHonestGreatest}
use Rattle.vortex_model_table.specs.Bounds.{low, high, is_longer}
use Rattle.vortex_model_table.specs.ZoneMap.{ZoneMap, bound_of, is_absent, value_in, is_exactly, bound_among, group_bounds, zone_of, values_at, statistics_of}
use Rattle.vortex_model_table.specs.Rewrite.{falsifier, satisfier}
use Rattle.vortex_model_table.specs.Table.{Table, IsTable, bound_length}
use Rattle.vortex_model_table.specs.Scan.{chunk_zone, chunk_zone_at, if_leaf, group_zone, proves, Outcome, skipped_in_group, skipped, whole, tested, is_skipped, is_whole, is_tested, chunk_outcome, is_many, group_outcomes, grouped, outcomes, numbers, tested_lengths, saturated}
use Rattle.vortex_model_table.proofs.Chains.{not_above_chain}
use Rattle.vortex_model_laws.proofs.Columns.{all_at_type}
use Rattle.vortex_model_laws.proofs.Honesty.{Among, all_among, among_map}
use Rattle.vortex_model_laws.proofs.Leasts.{is_at_least, picked, picked_end}
use Rattle.vortex_model_laws.proofs.Outcomes.{sum_first, tested_first}
use Rattle.vortex_model_laws.proofs.Zones.{honest_zone}
use Rattle.vortex_model_laws.specs.Tighter.{IsRaised, IsLowered, IsTighter, TellsMore, IsAsEachAlone}
use Rattle.vortex_model_laws.proofs.Tighter.{null_is_least, stays_true}

-- ---- the bound of a group and that of one of its chunks

module _ (R : Content → Content → Bool) where
  -- where the group has a bound, the chunk has one, to which the group's is related
  abbrev Reaches : Option Content → Option Content → Type 0
  Reaches None q = Unit {0}
  Reaches (Some v) None = ⊥
  Reaches (Some v) (Some w) = R v w ≡ true

  value_among_all : (p : Precision Content) (ps : List (Precision Content)) → Among p ps → (w : Content) → value_in p ≡ Some w → Among w (filter_map value_in ps)
  value_among_all p [] h w e = absurd h
  value_among_all p (exact v ∷ ps) (inl s) w e = inl (let f : Some v ≡ Some w = ap value_in s ∙ e in cc (f))
  value_among_all p (inexact v ∷ ps) (inl s) w e = inl (let f : Some v ≡ Some w = ap value_in s ∙ e in cc (f))
  value_among_all p (absent ∷ ps) (inl s) w e = absurd (let f : None ≡ Some w = ap value_in s ∙ e in cc (f))
  value_among_all p (exact v ∷ ps) (inr h) w e = inr (value_among_all p ps h w e)
  value_among_all p (inexact v ∷ ps) (inr h) w e = inr (value_among_all p ps h w e)
  value_among_all p (absent ∷ ps) (inr h) w e = value_among_all p ps h w e

  none_absent : (p : Precision Content) (ps : List (Precision Content)) → Among p ps → list_any is_absent ps ≡ false → is_absent p ≡ false
  none_absent p [] h e = absurd h
  none_absent p (q ∷ ps) (inl s) e = ap is_absent (sym s) ∙ or_false_left (is_absent q) (list_any is_absent ps) e
  none_absent p (q ∷ ps) (inr h) e = none_absent p ps h (or_false_right (is_absent q) (list_any is_absent ps) e)

  of_value : (v : Content) (ps : List (Precision Content)) → AllByRecursion (λ c. R v c ≡ true) (filter_map value_in ps) → (p : Precision Content) → Among p ps → is_absent p ≡ false → Reaches (Some v) (value_in p)
  of_value v ps h (exact w) a e = all_among (λ c. R v c ≡ true) w (filter_map value_in ps) h (value_among_all (exact w) ps a w refl)
  of_value v ps h (inexact w) a e = all_among (λ c. R v c ≡ true) w (filter_map value_in ps) h (value_among_all (inexact w) ps a w refl)
  of_value v ps h absent a e = absurd (cc (e))

  shown_of : (b : Bool) (v : Content) (q : Option Content) → Reaches (Some v) q → Reaches (value_in (bound_of b v)) q
  shown_of true v q h = h
  shown_of false v q h = h

  by_pick : (ps : List (Precision Content)) (p : Precision Content) → Among p ps → list_any is_absent ps ≡ false → (o : Option Content) → picked R (filter_map value_in ps) ≡ o →
      Reaches (value_in (elim o [ None ↦ absent | Some v ↦ bound_of (not (list_any (is_exactly v) ps)) v ])) (value_in p)
  by_pick ps p a e None f = tt
  by_pick ps p a e (Some v) f =
      shown_of (not (list_any (is_exactly v) ps)) v (value_in p)
      (of_value v ps (picked_end R v (filter_map value_in ps) f).1 p a (none_absent p ps a e))

  pub group_reaches : (ps : List (Precision Content)) (p : Precision Content) → Among p ps → Reaches (value_in (bound_among (picked R) ps)) (value_in p)
  group_reaches ps p a = by_test (list_any is_absent ps) refl
    where
      by_test : (b : Bool) → list_any is_absent ps ≡ b →
          Reaches (value_in (if b then absent else (elim (picked R (filter_map value_in ps)) [ None ↦ absent | Some v ↦ bound_of (not (list_any (is_exactly v) ps)) v ]))) (value_in p)
      by_test true e = tt
      by_test false e = by_pick ps p a e (picked R (filter_map value_in ps)) refl

raised_from : (p q : Option Content) → Reaches is_at_most p q → IsRaised p q
raised_from None q h = tt
raised_from (Some v) None h = h
raised_from (Some v) (Some w) h = h

lowered_from : (p q : Option Content) → ((w : Content) → q ≡ Some w → is_null w ≡ false) → Reaches is_at_least p q → IsLowered p q
lowered_from None q n h = tt
lowered_from (Some v) None n h = h
lowered_from (Some v) (Some w) n h = (n w refl, h)

-- ---- the zone map of a leaf's values

pub among_kept : (x : Content) (cs : List Content) → Among x (non_null cs) → is_null x ≡ false
among_kept x [] h = absurd h
among_kept x (c ∷ cs) h = by_test (is_null c) refl h (among_kept x cs)
  where
    by_test : (b : Bool) → is_null c ≡ b → Among x (if not b then c ∷ non_null cs else non_null cs) → (Among x (non_null cs) → is_null x ≡ false) → is_null x ≡ false
    by_test true e g more = more g
    by_test false e (inl s) more = ap is_null (sym s) ∙ e
    by_test false e (inr g) more = more g

below_all : (p : Precision Content) (cs : List Content) (v : Content) → IsHonestLeast p cs → value_in p ≡ Some v → AllByRecursion (IsNotAbove v) (non_null cs)
below_all (exact b) cs v h e = let s : b ≡ v = cc (e) in subst (λ x. AllByRecursion (IsNotAbove x) (non_null cs)) s h.least
below_all (inexact b) cs v h e = let s : b ≡ v = cc (e) in subst (λ x. AllByRecursion (IsNotAbove x) (non_null cs)) s h
below_all absent cs v h e = absurd (cc (e))

above_all : (p : Precision Content) (cs : List Content) (v : Content) → IsHonestGreatest p cs → value_in p ≡ Some v → AllByRecursion (λ c. IsNotAbove c v) (non_null cs)
above_all (exact b) cs v h e = let s : b ≡ v = cc (e) in subst (λ x. AllByRecursion (λ c. IsNotAbove c x) (non_null cs)) s h.greatest
above_all (inexact b) cs v h e = let s : b ≡ v = cc (e) in subst (λ x. AllByRecursion (λ c. IsNotAbove c x) (non_null cs)) s h
above_all absent cs v h e = absurd (cc (e))

some_low : (L : ℕ) (cs : List Content) (v : Content) (o : Option Content) → least_value cs ≡ o → value_in (elim o [ None ↦ absent | Some x ↦ bound_of (is_longer L x) (low L x) ]) ≡ Some v →
    (x : Content) × Among x cs
some_low L cs v None e h = absurd (cc (h))
some_low L cs v (Some x) e h = (x, (picked_end is_at_most x cs e).0)

some_high : (L : ℕ) (cs : List Content) (v : Content) (o : Option Content) → greatest_value cs ≡ o →
    value_in (elim o [ None ↦ absent | Some x ↦ (elim (high L x) [ None ↦ absent | Some h ↦ bound_of (is_longer L x) h ]) ]) ≡ Some v → (x : Content) × Among x cs
some_high L cs v None e h = absurd (cc (h))
some_high L cs v (Some x) e h = (x, (picked_end is_at_least x cs e).0)

module _ (u : LogicalType) (L : ℕ) (cs : List Content) (leaf : is_leaf u ≡ true) (typed : AllByRecursion (IsContent u) cs) where
  honest : IsHonest (statistics_of (zone_of u L cs)) cs
  honest = honest_zone u u L cs leaf typed

  pub zone_ordered : (v w : Content) → value_in (zone_of u L cs).low ≡ Some v → value_in (zone_of u L cs).high ≡ Some w → IsNotAbove v w
  zone_ordered v w e f =
      let x = some_low L (non_null cs) v (least_value (non_null cs)) refl e in
      not_above_chain v x.0 w
      (all_among (IsNotAbove v) x.0 (non_null cs) (below_all (zone_of u L cs).low cs v honest.least e) x.1)
      (all_among (λ c. IsNotAbove c w) x.0 (non_null cs) (above_all (zone_of u L cs).high cs w honest.greatest f) x.1)

  pub high_not_null : (w : Content) → value_in (zone_of u L cs).high ≡ Some w → is_null w ≡ false
  high_not_null w e =
      let x = some_high L (non_null cs) w (greatest_value (non_null cs)) refl e in
      null_is_least x.0 w (among_kept x.0 cs x.1) (all_among (λ c. IsNotAbove c w) x.0 (non_null cs) (above_all (zone_of u L cs).high cs w honest.greatest e) x.1)

-- ---- sums

module _ {X : Type 0} (f g : X → ℕ) (small : (x : X) → f x ≤ g x) where
  sums_small : (xs : List X) → sum (map f xs) ≤ sum (map g xs)
  sums_small [] = omega arith
  sums_small (x ∷ xs) =
      let a = sum_first (f x) (map f xs) in let b = sum_first (g x) (map g xs) in let s = small x in let more = sums_small xs in omega (arith, a, b, s, more)

  each_alike : (x : X) (xs : List X) → Among x xs → sum (map f xs) ≡ sum (map g xs) → f x ≡ g x
  each_alike x [] h e = absurd h
  each_alike x (y ∷ ys) (inl same) e =
      let a = sum_first (f y) (map f ys) in let b = sum_first (g y) (map g ys) in let s = small y in let more = sums_small ys in
      subst (λ z. f z ≡ g z) same (omega (arith, a, b, s, more, e))
  each_alike x (y ∷ ys) (inr h) e =
      let a = sum_first (f y) (map f ys) in let b = sum_first (g y) (map g ys) in let s = small y in let more = sums_small ys in
      each_alike x ys h (omega (arith, a, b, s, more, e))

each_zero : {X : Type 0} (f : X → ℕ) (x : X) (xs : List X) → Among x xs → sum (map f xs) ≡ 0 → f x ≡ 0
each_zero f x [] h e = absurd h
each_zero f x (y ∷ ys) (inl same) e = let a = sum_first (f y) (map f ys) in subst (λ z. f z ≡ 0) same (omega (arith, a, e))
each_zero f x (y ∷ ys) (inr h) e = let a = sum_first (f y) (map f ys) in each_zero f x ys h (omega (arith, a, e))

no_fewer : (chunks : List (List Content)) → AllByRecursion (λ chunk. 0 < length chunk) chunks → length chunks ≤ sum (map length chunks)
no_fewer [] h = omega arith
no_fewer (chunk ∷ chunks) h =
    let a = sum_first (length chunk) (map length chunks) in let more = no_fewer chunks h.1 in let here : 0 < length chunk = h.0 in omega (arith, a, more, here)

many_chunks : (n : ℕ) → nat_lt 1 n ≡ true → 1 < n
many_chunks n e = grind (arith, nat_tests, e)

-- ---- a group and one of its chunks

module _ (t : Table) (chunks : List (List Content)) (rows : AllByRecursion (λ chunk. AllByRecursion (IsContent t.kind) chunk) chunks) (chunk : List Content) (here : Among chunk chunks) where
  tells_leaf : (is : Positions) (u : LogicalType) → type_at t.kind is ≡ Some u → is_leaf u ≡ true →
      IsTighter (sum (map length chunks)) (length chunk) (group_bounds (map (λ c. chunk_zone_at t c is u) chunks)) (chunk_zone_at t chunk is u)
  tells_leaf is u e w =
      let zone : List Content → ZoneMap = λ c. chunk_zone_at t c is u in
      let L = bound_length t is in let cs = values_at is chunk in
      let typed = all_at_type t.kind is u chunk e (all_among (λ c. AllByRecursion (IsContent t.kind) c) chunk chunks rows here) in
      let place = among_map zone chunk chunks here in record {
        low = raised_from (value_in (bound_among least_value (map (λ z. z.low) (map zone chunks)))) (value_in (zone chunk).low)
            (group_reaches is_at_most (map (λ z. z.low) (map zone chunks)) (zone chunk).low (among_map (λ z. z.low) (zone chunk) (map zone chunks) place));
        high = lowered_from (value_in (bound_among greatest_value (map (λ z. z.high) (map zone chunks)))) (value_in (zone chunk).high) (high_not_null u L cs w typed)
            (group_reaches is_at_least (map (λ z. z.high) (map zone chunks)) (zone chunk).high (among_map (λ z. z.high) (zone chunk) (map zone chunks) place));
        ordered = zone_ordered u L cs w typed;
        none_null = λ f. each_zero (λ c. (zone c).nulls) chunk chunks here (ap sum (sym (map_twice (λ z. z.nulls) zone chunks)) ∙ f);
        only_null = λ f. each_alike (λ c. (zone c).nulls) length
            (λ c. subst (λ l. null_count_of (values_at is c) ≤ l) (length-map c (λ row. at row is)) (count_by-le-length is_null (values_at is c)))
            chunk chunks here (ap sum (sym (map_twice (λ z. z.nulls) zone chunks)) ∙ f);
      }

  abbrev wide_zone : Positions × LogicalType → ZoneMap
  wide_zone leaf = group_bounds (map (λ c. chunk_zone_at t c leaf.0 leaf.1) chunks)

  abbrev narrow_zone : Positions × LogicalType → ZoneMap
  narrow_zone leaf = chunk_zone_at t chunk leaf.0 leaf.1

  abbrev Tells : Option (Positions × LogicalType) → Type 0
  Tells o = TellsMore (sum (map length chunks)) (length chunk) (option_map wide_zone o) (option_map narrow_zone o)

  tells_at : (is : Positions) (p : Option LogicalType) → type_at t.kind is ≡ p → Tells (if_leaf is p)
  tells_at is None e = tt
  tells_at is (Some u) e = by_test (is_leaf u) refl
    where
      by_test : (b : Bool) → is_leaf u ≡ b → Tells (if b then Some (is, u) else None)
      by_test true w = tells_leaf is u e w
      by_test false w = tt

  tells_by : (o : Option Positions) → Tells (option_and_then (λ is. if_leaf is (type_at t.kind is)) o)
  tells_by None = tt
  tells_by (Some is) = tells_at is (type_at t.kind is) refl

  -- the chunk's zone maps are at least as tight as the group's
  pub chunk_tells_more : (xs : Names) → TellsMore (sum (map length chunks)) (length chunk) (group_zone t chunks xs) (chunk_zone t chunk xs)
  chunk_tells_more xs = tells_by (positions t.kind xs)

-- ---- outcomes

-- the outcome of a chunk that is judged alone
abbrev alone : Outcome → Outcome
alone skipped_in_group = skipped
alone o = o

module _ (t : Table) (e : Expression) where
  abbrev AreRows : List (List Content) → Type 0
  AreRows chunks = AllByRecursion (λ chunk. AllByRecursion (IsContent t.kind) chunk) chunks

  abbrev AreFilled : List (List Content) → Type 0
  AreFilled chunks = AllByRecursion (λ chunk. 0 < length chunk) chunks

  alone_already : (chunk : List Content) → alone (chunk_outcome t e chunk) ≡ chunk_outcome t e chunk
  alone_already chunk = by_tests (proves (chunk_zone t chunk) (length chunk) (falsifier t.kind e)) (proves (chunk_zone t chunk) (length chunk) (satisfier t.kind e))
    where
      by_tests : (b c : Bool) → alone (if b then skipped else (if c then whole else tested)) ≡ (if b then skipped else (if c then whole else tested))
      by_tests true c = refl
      by_tests false true = refl
      by_tests false false = refl

  -- a chunk that is skipped with its group is skipped alone
  skipped_alone : (chunks : List (List Content)) → AreRows chunks → AreFilled chunks → is_many chunks ≡ true →
      proves (group_zone t chunks) (sum (map length chunks)) (falsifier t.kind e) ≡ true → (chunk : List Content) → Among chunk chunks → chunk_outcome t e chunk ≡ skipped
  skipped_alone chunks rows filled many proved chunk here =
      let n : ℕ = sum (map length chunks) in
      let least : length chunks ≤ n = no_fewer chunks filled in
      let two : 1 < length chunks = many_chunks (length chunks) many in
      ap (λ b. if b then skipped else (if proves (chunk_zone t chunk) (length chunk) (satisfier t.kind e) then whole else tested))
      ((stays_true t.kind n (length chunk) (inr (let l : 1 < n = omega (arith, least, two) in l)) (group_zone t chunks) (chunk_zone t chunk) (chunk_tells_more t chunks rows chunk here) e).0 proved)

  all_skipped : (chunks : List (List Content)) → ((chunk : List Content) → Among chunk chunks → chunk_outcome t e chunk ≡ skipped) →
      map alone (map (λ chunk. skipped_in_group) chunks) ≡ map (chunk_outcome t e) chunks
  all_skipped [] h = refl
  all_skipped (chunk ∷ chunks) h = λ i. sym (h chunk (inl refl)) i ∷ all_skipped chunks (λ c g. h c (inr g)) i

  all_alone_already : (chunks : List (List Content)) → map alone (map (chunk_outcome t e) chunks) ≡ map (chunk_outcome t e) chunks
  all_alone_already [] = refl
  all_alone_already (chunk ∷ chunks) = λ i. alone_already chunk i ∷ all_alone_already chunks i

  group_alone : (chunks : List (List Content)) → AreRows chunks → AreFilled chunks → map alone (group_outcomes t e chunks) ≡ map (chunk_outcome t e) chunks
  group_alone chunks rows filled = by_test (is_many chunks && proves (group_zone t chunks) (sum (map length chunks)) (falsifier t.kind e)) refl
    where
      by_test : (b : Bool) → is_many chunks && proves (group_zone t chunks) (sum (map length chunks)) (falsifier t.kind e) ≡ b →
          map alone (if b then map (λ chunk. skipped_in_group) chunks else map (chunk_outcome t e) chunks) ≡ map (chunk_outcome t e) chunks
      by_test true f =
          all_skipped chunks (skipped_alone chunks rows filled (first_so (is_many chunks) (proves (group_zone t chunks) (sum (map length chunks)) (falsifier t.kind e)) f)
          (second_so (is_many chunks) (proves (group_zone t chunks) (sum (map length chunks)) (falsifier t.kind e)) f))
      by_test false f = all_alone_already chunks

  less_first : (n : ℕ) (sizes : List ℕ) (chunks : List (List Content)) → sum (n ∷ sizes) ≡ length chunks → sum sizes ≡ length (drop n chunks)
  less_first n sizes chunks h =
      let m : ℕ = sum sizes in let l : ℕ = length chunks in let f : ℕ = length (take n chunks) in let b : ℕ = length (drop n chunks) in
      let split : n + m ≡ l = sym (sum_first n sizes) ∙ h in
      let small : f ≡ n = length-take-le n chunks (omega (arith, split)) in
      let parts : f + b ≡ l = sym (length-append (take n chunks) (drop n chunks)) ∙ ap length (take-append-drop n chunks) in
      omega (arith, split, small, parts)

  all_groups_alone : (sizes : List ℕ) (chunks : List (List Content)) → sum sizes ≡ length chunks → AreRows chunks → AreFilled chunks →
      map alone (flat_map (group_outcomes t e) (grouped sizes chunks)) ≡ map (chunk_outcome t e) chunks
  all_groups_alone [] [] h rows filled = refl
  all_groups_alone [] (chunk ∷ chunks) h rows filled = absurd (omega (arith, h))
  all_groups_alone (n ∷ sizes) chunks h rows filled =
      let front = take n chunks in let back = drop n chunks in
      let joined = take-append-drop n chunks in
      let split_rows = subst AreRows (sym joined) rows in
      let split_filled = subst AreFilled (sym joined) filled in
      let Is : List Content → Type 0 = λ chunk. AllByRecursion (IsContent t.kind) chunk in
      let Has : List Content → Type 0 = λ chunk. 0 < length chunk in
      map-append alone (group_outcomes t e front) (flat_map (group_outcomes t e) (grouped sizes back))
      ∙ (λ i. group_alone front (front_of_all Is front back split_rows) (front_of_all Has front back split_filled) i
      ++ all_groups_alone sizes back (less_first n sizes chunks h) (back_of_all Is front back split_rows) (back_of_all Has front back split_filled) i)
      ∙ sym (map-append (chunk_outcome t e) front back)
      ∙ ap (map (chunk_outcome t e)) joined

numbers_alone : (p : Outcome → Bool) → ((o : Outcome) → p (alone o) ≡ p o) → (i : ℕ) (os : List Outcome) → numbers p i (map alone os) ≡ numbers p i os
numbers_alone p h i [] = refl
numbers_alone p h i (o ∷ os) = λ j. if h o j then i ∷ numbers_alone p h (suc i) os j else numbers_alone p h (suc i) os j

skipped_as : (o : Outcome) → is_skipped (alone o) ≡ is_skipped o
skipped_as skipped_in_group = refl
skipped_as skipped = refl
skipped_as whole = refl
skipped_as tested = refl

whole_as : (o : Outcome) → is_whole (alone o) ≡ is_whole o
whole_as skipped_in_group = refl
whole_as skipped = refl
whole_as whole = refl
whole_as tested = refl

tested_as : (o : Outcome) → is_tested (alone o) ≡ is_tested o
tested_as skipped_in_group = refl
tested_as skipped = refl
tested_as whole = refl
tested_as tested = refl

lengths_alone : (os : List Outcome) (chunks : List (List Content)) → tested_lengths (map alone os) chunks ≡ tested_lengths os chunks
lengths_alone [] chunks = refl
lengths_alone (o ∷ os) [] = refl
lengths_alone (o ∷ os) (chunk ∷ chunks) =
    tested_first (alone o) (map alone os) chunk chunks ∙ (λ i. (if tested_as o i then length chunk else 0) + lengths_alone os chunks i) ∙ sym (tested_first o os chunk chunks)

pub as_each_alone : (t : Table) (e : Expression) → IsTable t → IsAsEachAlone t e
as_each_alone t e is =
    let each = all_groups_alone t e t.groups t.chunks is.grouped is.rows is.not_empty in record {
      skipped = sym (numbers_alone is_skipped skipped_as 0 (outcomes t e)) ∙ ap (numbers is_skipped 0) each;
      whole = sym (numbers_alone is_whole whole_as 0 (outcomes t e)) ∙ ap (numbers is_whole 0) each;
      tested = ap saturated (sym (lengths_alone (outcomes t e) t.chunks) ∙ ap (λ os. tested_lengths os t.chunks) each);
    }
