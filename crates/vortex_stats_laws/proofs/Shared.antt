-- The combination of two statistics of the same rows is one of them, or inexact.
use Rattle.std.proofs.Common.{◌≡◌, refl, subst, List, [], ◌∷◌, Bool, true, false, if◌then◌else◌, Option, Some, None, option_map, option_and_then}
use Rattle.std.specs.List.{AllByRecursion}
use Rattle.std.specs.Option.{option_map_or}
use Rattle.std.specs.declared.cmp.Ordering.{Ordering}
use Rattle.std.specs.declared.cmp.Ordering.TheVariants.{Less, Equal, Greater}
use Rattle.std.specs.Ordering.{is_eq, is_lt, flip_args}
use Rattle.vortex_model.specs.Content.{Content, Raw, raw_number}
use Rattle.vortex_model_table.specs.Statistics.{Precision, exact, inexact, absent, is_constant, is_sorted, is_strictly_sorted}
use Rattle.vortex_stats_bound.specs.Order.{Comparison}
use Rattle.vortex_stats_bound.specs.declared.intersection.IntersectionResult.{IntersectionResult}
use Rattle.vortex_stats_bound.specs.declared.intersection.IntersectionResult.TheVariants.{Value, Empty}
use Rattle.vortex_stats_bound.specs.Bounds.{intersection_lower, intersection_upper, intersection_plain, common_value, first_unless_greater}
use Rattle.vortex_stats_expr.specs.declared.stat.Stat.{Stat}
use Rattle.vortex_stats_expr.specs.declared.stat.Stat.TheVariants as stat
use Rattle.vortex_stats_set.specs.Sets.{is_set}
use Rattle.vortex_stats_set.specs.Pairs.{Pairs, known, put, or_nothing}
use Rattle.vortex_stats_set.specs.Merge.{raw_order}
use Rattle.vortex_stats_set.specs.Combine.{common, combined, after, combined_in_turn}
use Rattle.vortex_stats_laws.specs.Laws.{IsHonestOf}
use Rattle.vortex_stats_laws.proofs.Told.{Told, AreTold, told_of, honest_of, truth_guess, put_keeps, pairs_told}

-- ---- what holds of both holds of their intersection

abbrev Common : Option (IntersectionResult (Precision Raw)) → Precision Raw → Type 0
Common o r = option_and_then common_value o ≡ Some r

module _ (P : Precision Raw → Type 0) where
  same_kept : (o : Option Ordering) (a : Raw) (r : Precision Raw) → P (exact a) →
      Common (option_map (λ x. if is_eq x then Value (exact a) else Empty) o) r → P r
  same_kept None a r h e = absurd (cc (e))
  same_kept (Some Less) a r h e = absurd (cc (e))
  same_kept (Some Equal) a r h e = let is : exact a ≡ r = cc (e) in subst P is h
  same_kept (Some Greater) a r h e = absurd (cc (e))

  bounded_kept : (o : Option Ordering) (a : Raw) (r : Precision Raw) → P (exact a) →
      Common (option_map (λ x. if is_lt x then Empty else Value (exact a)) o) r → P r
  bounded_kept None a r h e = absurd (cc (e))
  bounded_kept (Some Less) a r h e = absurd (cc (e))
  bounded_kept (Some Equal) a r h e = let is : exact a ≡ r = cc (e) in subst P is h
  bounded_kept (Some Greater) a r h e = let is : exact a ≡ r = cc (e) in subst P is h

  chosen_kept : (o : Option Ordering) (a b : Raw) (r : Precision Raw) → P (inexact a) →
      P (inexact b) →
      Common (option_map (λ v. Value (inexact v)) (first_unless_greater o a b)) r → P r
  chosen_kept None a b r h g e = absurd (cc (e))
  chosen_kept (Some Less) a b r h g e = let is : inexact a ≡ r = cc (e) in subst P is h
  chosen_kept (Some Equal) a b r h g e = let is : inexact a ≡ r = cc (e) in subst P is h
  chosen_kept (Some Greater) a b r h g e = let is : inexact b ≡ r = cc (e) in subst P is g

  lower_kept : (C : Comparison Raw) (p q r : Precision Raw) → P p → P q →
      Common (intersection_lower C p q) r → P r
  lower_kept C (exact a) (exact b) r h g e = same_kept (C a b) a r h e
  lower_kept C (exact a) (inexact b) r h g e = bounded_kept (C a b) a r h e
  lower_kept C (exact a) absent r h g e = absurd (cc (e))
  lower_kept C (inexact a) (exact b) r h g e = bounded_kept (C b a) b r g e
  lower_kept C (inexact a) (inexact b) r h g e = chosen_kept (C b a) a b r h g e
  lower_kept C (inexact a) absent r h g e = absurd (cc (e))
  lower_kept C absent (exact b) r h g e = absurd (cc (e))
  lower_kept C absent (inexact b) r h g e = absurd (cc (e))
  lower_kept C absent absent r h g e = absurd (cc (e))

  upper_kept : (C : Comparison Raw) (p q r : Precision Raw) → P p → P q →
      Common (intersection_upper C p q) r → P r
  upper_kept C p q r h g e = lower_kept (flip_args C) p q r h g e

  module _ (guess : (a : Raw) → P (inexact a)) where
    unless_kept : (o : Option Ordering) (a : Raw) (r : Precision Raw) → P (exact a) →
        Common (option_map (λ x. Value (if is_lt x then inexact a else exact a)) o) r → P r
    unless_kept None a r h e = absurd (cc (e))
    unless_kept (Some Less) a r h e = let is : inexact a ≡ r = cc (e) in subst P is (guess a)
    unless_kept (Some Equal) a r h e = let is : exact a ≡ r = cc (e) in subst P is h
    unless_kept (Some Greater) a r h e = let is : exact a ≡ r = cc (e) in subst P is h

    plain_kept : (C : Comparison Raw) (p q r : Precision Raw) → P p → P q →
        Common (intersection_plain C p q) r → P r
    plain_kept C (exact a) (exact b) r h g e = same_kept (C a b) a r h e
    plain_kept C (exact a) (inexact b) r h g e = unless_kept (C a b) a r h e
    plain_kept C (exact a) absent r h g e = absurd (cc (e))
    plain_kept C (inexact a) (exact b) r h g e = unless_kept (C b a) b r g e
    plain_kept C (inexact a) (inexact b) r h g e = chosen_kept (C a b) a b r h g e
    plain_kept C (inexact a) absent r h g e = absurd (cc (e))
    plain_kept C absent q r h g e = absurd (cc (e))

-- where values may not compare at all
if_one : (P : Type 0) (one : Bool) (o : Option (IntersectionResult (Precision Raw)))
    (r : Precision Raw) → (Common o r → P) → Common (if one then o else None) r → P
if_one P true o r f e = f e
if_one P false o r f e = absurd (cc (e))

-- ---- one statistic

sum_guess : (cs : List Content) (a : Raw) → Told stat.Sum (inexact a) cs
sum_guess cs (raw_number i z) = tt
sum_guess cs a = tt

common_told : (s : Stat) (one : Bool) (p q r : Precision Raw) (cs : List Content) → Told s p cs →
    Told s q cs → common s one p q ≡ Some r → Told s r cs
common_told stat.IsConstant one p q r cs h g e =
    plain_kept (λ x. Told stat.IsConstant x cs) (λ a. truth_guess a
    (is_constant cs)) raw_order p q r h g e
common_told stat.IsSorted one p q r cs h g e =
    plain_kept (λ x. Told stat.IsSorted x cs) (λ a. truth_guess a
    (is_sorted cs)) raw_order p q r h g e
common_told stat.IsStrictSorted one p q r cs h g e =
    plain_kept (λ x. Told stat.IsStrictSorted x cs) (λ a. truth_guess a
    (is_strictly_sorted cs)) raw_order p q r h g e
common_told stat.Max one p q r cs h g e =
    if_one (Told stat.Max r cs) one (intersection_upper raw_order p q) r (upper_kept
    (λ x. Told stat.Max x cs) raw_order p q r h g) e
common_told stat.Min one p q r cs h g e =
    if_one (Told stat.Min r cs) one (intersection_lower raw_order p q) r (lower_kept
    (λ x. Told stat.Min x cs) raw_order p q r h g) e
common_told stat.Sum one p q r cs h g e =
    if_one (Told stat.Sum r cs) one (intersection_plain raw_order p q) r (plain_kept
    (λ x. Told stat.Sum x cs) (sum_guess cs) raw_order p q r h g) e
common_told stat.NullCount one p q r cs h g e =
    upper_kept (λ x. Told stat.NullCount x cs) raw_order p q r h g e
common_told stat.UncompressedSizeInBytes one p q r cs h g e = tt
common_told stat.NaNCount one p q r cs h g e =
    upper_kept (λ x. Told stat.NaNCount x cs) raw_order p q r h g e

taken_told : (s : Stat) (one : Bool) (p q : Precision Raw) (m o : Option (Precision Raw))
    (cs : List Content) → ((r : Precision Raw) → m ≡ Some r → Told s r cs) →
    option_map (λ r. Some r) m ≡ Some o → Told s (or_nothing o) cs
taken_told s one p q None o cs f e = absurd (cc (e))
taken_told s one p q (Some r) o cs f e = let is : Some r ≡ o = cc (e) in
    subst (λ o. Told s (or_nothing o) cs) is (f r refl)

combined_told : (s : Stat) (one : Bool) (p q : Precision Raw) (o : Option (Precision Raw))
    (cs : List Content) → Told s p cs → Told s q cs → combined s one p q ≡ Some o →
    Told s (or_nothing o) cs
combined_told s one absent absent o cs h g e = let is : None ≡ o = cc (e) in
    subst (λ o. Told s (or_nothing o) cs) is h
combined_told s one absent (exact b) o cs h g e = let is : Some (exact b) ≡ o = cc (e) in
    subst (λ o. Told s (or_nothing o) cs) is g
combined_told s one absent (inexact b) o cs h g e = let is : Some (inexact b) ≡ o = cc (e) in
    subst (λ o. Told s (or_nothing o) cs) is g
combined_told s one (exact a) absent o cs h g e = let is : Some (exact a) ≡ o = cc (e) in
    subst (λ o. Told s (or_nothing o) cs) is h
combined_told s one (inexact a) absent o cs h g e = let is : Some (inexact a) ≡ o = cc (e) in
    subst (λ o. Told s (or_nothing o) cs) is h
combined_told s one (exact a) (exact b) o cs h g e =
    taken_told s one (exact a) (exact b) (common s one (exact a) (exact b)) o cs
    (λ r k. common_told s one (exact a) (exact b) r cs h g k) e
combined_told s one (exact a) (inexact b) o cs h g e =
    taken_told s one (exact a) (inexact b) (common s one (exact a) (inexact b)) o cs
    (λ r k. common_told s one (exact a) (inexact b) r cs h g k) e
combined_told s one (inexact a) (exact b) o cs h g e =
    taken_told s one (inexact a) (exact b) (common s one (inexact a) (exact b)) o cs
    (λ r k. common_told s one (inexact a) (exact b) r cs h g k) e
combined_told s one (inexact a) (inexact b) o cs h g e =
    taken_told s one (inexact a) (inexact b) (common s one (inexact a) (inexact b)) o cs
    (λ r k. common_told s one (inexact a) (inexact b) r cs h g k) e

-- ---- all statistics

in_turn_told : (one : Bool) (xs es : Pairs) (cs : List Content) → AreTold xs cs →
    AllByRecursion (λ e. Told e.0 e.1 cs) es → AreTold (combined_in_turn one xs es).0 cs
in_turn_told one xs [] cs h g = h
in_turn_told one xs (e ∷ es) cs h g =
    by_option (combined e.0 one (known xs e.0) e.1) refl (λ zs k. in_turn_told one zs es cs k g.1)
  where
    by_option : (m : Option (Option (Precision Raw))) → combined e.0 one (known xs e.0) e.1 ≡ m →
        ((zs : Pairs) → AreTold zs cs → AreTold (combined_in_turn one zs es).0 cs) →
        AreTold (option_map_or (λ ys. combined_in_turn one ys es) (after xs e.0 m) (xs, false)).0 cs
    by_option None k rest = h
    by_option (Some o) k rest =
        rest (put xs e.0 o) (put_keeps xs e.0 o cs (combined_told e.0 one (known xs e.0) e.1 o cs
        (h e.0) g.0 k) h)

pub combined_honest : (one : Bool) (xs ys : Pairs) (cs : List Content) → is_set ys ≡ true →
    IsHonestOf xs cs → IsHonestOf ys cs →
    IsHonestOf (combined_in_turn one xs ys).0 cs
combined_honest one xs ys cs u h g =
    honest_of (combined_in_turn one xs ys).0 cs (in_turn_told one xs ys cs (told_of xs cs h)
    (pairs_told ys cs u (told_of ys cs g)))
