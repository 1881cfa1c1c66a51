-- Statistics of values with one more at the start.
use Rattle.std.proofs.Common.{◌≡◌, refl, sym, ap, ◌∙◌, ℕ, ℤ, pos, ◌+◌, ◌+ℤ◌, List, [], ◌∷◌, length, not, false, subst, arith, if◌then◌else◌, Option, Some, None, option_map}
use Rattle.std.proofs.lemmas.Int.{ints}
use Rattle.std.proofs.lemmas.List.Sums.{sum_by-append}
use Rattle.vortex_model.specs.LogicalType.{LogicalType, IntKind}
use Rattle.vortex_model.specs.Content.{Content, null, is_null}
use Rattle.vortex_model_table.specs.Bounds.{low, high, is_longer}
use Rattle.vortex_model_table.specs.Typing.{sum_kind}
use Rattle.vortex_model_table.specs.ZoneMap.{bound_of, low_of_values, high_of_values, sum_in, zone_of}
use Rattle.vortex_model_table.specs.Statistics.{absent, is_constant, is_at_most, least_value, greatest_value, non_null, null_count_of, number_in, sum_of}
use Rattle.vortex_model_table.specs.ZoneLaws.{AllCompare}
use Rattle.vortex_model_laws.proofs.JoinOrder.{fewer_compare}
use Rattle.vortex_model_laws.proofs.LeafOrder.{least_in_front, greatest_in_front}
use Rattle.vortex_stats_array.specs.declared.running.Running.{Running}
use Rattle.vortex_stats_array.specs.declared.array_stats.ArrayStats.{ArrayStats}
use Rattle.vortex_stats_array.specs.Sums.{sum_in_parts, known_sum}
use Rattle.vortex_stats_array.specs.Zones.{bound_content, known_constancy, zone_in, low_at, high_by, high_at}
use Rattle.vortex_stats_array.specs.Running.{content_or_null, lesser, greater, in_front, DoCompare, IsSeen, constant_by}
use Rattle.vortex_stats_array.proofs.Constancy.{constancy}

pub least_step : (c : Content) (o : Option Content) → Some (in_front lesser c o) ≡ Some (elim o [ None ↦ c | Some d ↦ (if is_at_most c d then c else d) ])
least_step c None = refl
least_step c (Some d) = refl

pub greatest_step : (c : Content) (o : Option Content) → Some (in_front greater c o) ≡ Some (elim o [ None ↦ c | Some d ↦ (if is_at_most c d then d else c) ])
greatest_step c None = refl
greatest_step c (Some d) = refl

-- a value is not null, so it is among those that aren't
pub kept_in_front : (c : Content) (cs : List Content) → is_null c ≡ false → c ∷ non_null cs ≡ non_null (c ∷ cs)
kept_in_front c cs e = sym (ap (λ b. if not b then c ∷ non_null cs else non_null cs) e)

-- with a value at the start the others compare, and it compares with them
pub front_compares : (c : Content) (cs : List Content) → is_null c ≡ false → DoCompare (c ∷ cs) → AllCompare (c ∷ non_null cs)
front_compares c cs e h = subst AllCompare (sym (kept_in_front c cs e)) h

pub rest_compare : (c : Content) (cs : List Content) → is_null c ≡ false → DoCompare (c ∷ cs) → DoCompare cs
rest_compare c cs e h = fewer_compare c (non_null cs) (front_compares c cs e h)

pub no_null_in_front : (c : Content) (cs : List Content) → is_null c ≡ false → null_count_of cs ≡ null_count_of (c ∷ cs)
no_null_in_front c cs e =
    let split : null_count_of (c ∷ cs) ≡ (0 + 0) + null_count_of cs
    = sum_by-append (λ x. if is_null x then 1 else 0) (c ∷ []) cs ∙ ap (λ b. (0 + (if b then 1 else 0)) + null_count_of cs) e in
    omega (arith, split)

module _ {V : Type 0} (said : V → Content) (old new : Running V) where
  pub with_value : (o : Option V) (v : V) (z : ℤ) → o ≡ Some v → is_null (said v) ≡ false →
      option_map said new.least ≡ Some (in_front lesser (said v) (option_map said old.least)) →
      option_map said new.greatest ≡ Some (in_front greater (said v) (option_map said old.greatest)) →
      new.null_count ≡ old.null_count → z ≡ number_in (said v) → sum_in_parts new.sum ≡ z +ℤ sum_in_parts old.sum →
      (cs : List Content) → IsSeen said old cs → IsSeen said new (content_or_null said o ∷ cs)
  with_value o v z is there least greatest nulls number sum cs h =
      let c = said v in
      subst (λ p. IsSeen said new (content_or_null said p ∷ cs)) (sym is) (record {
        least = λ compare.
            least ∙ ap (λ l. Some (in_front lesser c l)) (h.least (rest_compare c cs there compare)) ∙ least_step c (least_value (non_null cs))
            ∙ sym (least_in_front c (non_null cs) (front_compares c cs there compare)) ∙ ap least_value (kept_in_front c cs there);
        greatest = λ compare.
            greatest ∙ ap (λ g. Some (in_front greater c g)) (h.greatest (rest_compare c cs there compare)) ∙ greatest_step c (greatest_value (non_null cs))
            ∙ sym (greatest_in_front c (non_null cs) (front_compares c cs there compare)) ∙ ap greatest_value (kept_in_front c cs there);
        nulls = nulls ∙ h.nulls ∙ no_null_in_front c cs there;
        total = sum ∙ (λ i. number i +ℤ h.total i);
      })

  -- null at the start is counted, and changes nothing else
  pub with_null : (o : Option V) → o ≡ None → option_map said new.least ≡ option_map said old.least →
      option_map said new.greatest ≡ option_map said old.greatest → new.null_count ≡ old.null_count + 1 →
      sum_in_parts new.sum ≡ sum_in_parts old.sum → (cs : List Content) → IsSeen said old cs → IsSeen said new (content_or_null said o ∷ cs)
  with_null o is least greatest nulls sum cs h =
      let counts = h.nulls in
      let split : null_count_of (null ∷ cs) ≡ (0 + 1) + null_count_of cs = sum_by-append (λ x. if is_null x then 1 else 0) (null ∷ []) cs in
      let added : sum_of cs ≡ pos 0 +ℤ sum_of cs = omega (arith, ints) in
      subst (λ p. IsSeen said new (content_or_null said p ∷ cs)) (sym is) (record {
        least = λ compare. least ∙ h.least compare;
        greatest = λ compare. greatest ∙ h.greatest compare;
        nulls = omega (arith, nulls, counts, split);
        total = sum ∙ h.total ∙ added;
      })

pub none_seen : {V : Type 0} (said : V → Content) (new : Running V) → new.least ≡ None → new.greatest ≡ None → new.null_count ≡ 0 →
    sum_in_parts new.sum ≡ pos 0 → IsSeen said new []
none_seen said new least greatest nulls sum = record {
  least = λ compare. ap (option_map said) least;
  greatest = λ compare. ap (option_map said) greatest;
  nulls = nulls;
  total = sum;
}

-- ---- the statistics of the values so far

low_step : (L : ℕ) (o : Option Content) → low_at L o ≡ elim o [ None ↦ absent | Some v ↦ bound_of (is_longer L v) (low L v) ]
low_step L None = refl
low_step L (Some v) = refl

high_by_step : (L : ℕ) (v : Content) (o : Option Content) → high_by L v o ≡ elim o [ None ↦ absent | Some h ↦ bound_of (is_longer L v) h ]
high_by_step L v None = refl
high_by_step L v (Some h) = refl

high_step : (L : ℕ) (o : Option Content) → high_at L o ≡ elim o [ None ↦ absent | Some v ↦ (elim (high L v) [ None ↦ absent | Some h ↦ bound_of (is_longer L v) h ]) ]
high_step L None = refl
high_step L (Some v) = high_by_step L v (high L v)

pub zone_seen : {V : Type 0} (said : V → Content) (L : ℕ) (k : LogicalType) (r : Running V) (s : ArrayStats) (i : Option IntKind) (cs : List Content) →
    bound_content s.min ≡ low_at L (option_map said r.least) → bound_content s.max ≡ high_at L (option_map said r.greatest) →
    s.null_count ≡ r.null_count → s.row_count ≡ length cs → known_sum s.sum ≡ sum_in i (sum_in_parts r.sum) → i ≡ sum_kind k →
    s.is_constant ≡ Some (constant_by (option_map said r.least) (option_map said r.greatest) r.null_count) →
    IsSeen said r cs → DoCompare cs → zone_in s ≡ zone_of k L cs
zone_seen said L k r s i cs lowest highest nulls rows total kind constant h compare =
    let least : bound_content s.min ≡ low_of_values L cs = lowest ∙ ap (low_at L) (h.least compare) ∙ low_step L (least_value (non_null cs)) in
    let greatest : bound_content s.max ≡ high_of_values L cs = highest ∙ ap (high_at L) (h.greatest compare) ∙ high_step L (greatest_value (non_null cs)) in
    let sum : known_sum s.sum ≡ sum_in (sum_kind k) (sum_of cs) = total ∙ (λ j. sum_in (kind j) (h.total j)) in
    let same : s.is_constant ≡ Some (is_constant cs) = constant ∙ (λ j. Some (constant_by (h.least compare j) (h.greatest compare j) (h.nulls j))) ∙ ap (λ b. Some b) (sym (constancy cs compare)) in
    (λ j. record {
      low = least j;
      high = greatest j;
      nulls = (nulls ∙ h.nulls) j;
      rows = rows j;
      total = sum j;
      constant = known_constancy (same j);
    })
