-- Unions of honest bounds are honest of both lists of values.
use Rattle.std.proofs.Common.{◌≡◌, refl, ◌∙◌, ap, subst, List, ◌++◌, Bool, true, if◌then◌else◌, Option, Some, None, option_map}
use Rattle.std.specs.List.{AllByRecursion}
use Rattle.std.specs.declared.cmp.Ordering.{Ordering}
use Rattle.std.specs.declared.cmp.Ordering.TheVariants.{Less, Equal, Greater}
use Rattle.std.specs.Ordering.{is_le, is_gt, ordering_reverse}
use Rattle.vortex_model.specs.Content.{Content, Raw, content_of}
use Rattle.vortex_model.specs.Order.{content_cmp, is_known}
use Rattle.vortex_model.proofs.Lists.{all_append}
use Rattle.vortex_model_table.specs.Statistics.{Precision, exact, inexact, absent, non_null, is_at_most, IsHonestLeast, IsHonestGreatest}
use Rattle.vortex_model_table.proofs.Chains.{not_above_chain}
use Rattle.vortex_model_table.proofs.ContentOrder.{reversed}
use Rattle.vortex_model_laws.proofs.Groups.{among_left, among_right, at_least_chain}
use Rattle.vortex_model_laws.proofs.Honesty.{Among, all_among, each_among}
use Rattle.vortex_model_laws.proofs.Leasts.{IsEnd, all_mapped, as_least, as_greatest, of_least, of_greatest}
use Rattle.vortex_stats_bound.specs.Precision.{precision_map, known_value}
use Rattle.vortex_stats_bound.specs.Bounds.{first_unless_greater, union_lower, union_upper}
use Rattle.vortex_stats_set.specs.Merge.{raw_order}
use Rattle.vortex_stats_set.specs.Pairs.{or_nothing}

abbrev Order : Type 0
Order = Content → Content → Option Ordering

-- ---- by an order, which is that of contents one way or the other

module _ (K : Order) (chain : (c d e : Content) → is_known is_le (K c d) ≡ true →
    is_known is_le (K d e) ≡ true → is_known is_le (K c e) ≡ true)
    (turned : (c d : Content) → K d c ≡ option_map ordering_reverse (K c d)) where
  abbrev pub before : Content → Content → Bool
  before c d = is_known is_le (K c d)

  abbrev pub IsBeforeAll : Content → List Content → Type 0
  IsBeforeAll v us = AllByRecursion (λ c. before v c ≡ true) us

  abbrev pub Bounds : Precision Content → List Content → Type 0
  Bounds (exact v) us = IsEnd before v us
  Bounds (inexact v) us = IsBeforeAll v us
  Bounds absent us = Unit {0}

  -- what is before a bound of values is before them
  further : (v w : Content) (us : List Content) → before v w ≡ true → IsBeforeAll w us →
      IsBeforeAll v us
  further v w us h g = all_mapped (λ c. before w c ≡ true) (λ c. before v c ≡ true)
      (λ x k. chain v w x h k) us g

  back : (c d : Content) → K c d ≡ Some Greater → before d c ≡ true
  back c d e = ap (is_known is_le) (turned c d ∙ ap (option_map ordering_reverse) e)

  module _ (a b : Raw) (us vs : List Content) where
    abbrev v : Content
    v = content_of a

    abbrev w : Content
    w = content_of b

    left_all : before v w ≡ true → IsBeforeAll v us → IsBeforeAll w vs → IsBeforeAll v (us ++ vs)
    left_all h f g = all_append (λ c. before v c ≡ true) us vs f (further v w vs h g)

    right_all : before w v ≡ true → IsBeforeAll v us → IsBeforeAll w vs → IsBeforeAll w (us ++ vs)
    right_all h f g = all_append (λ c. before w c ≡ true) us vs (further w v us h f) g

    abbrev Bound : Option (Precision Raw) → Type 0
    Bound o = Bounds (precision_map content_of (or_nothing o)) (us ++ vs)

    two_exact : IsEnd before v us → IsEnd before w vs → (o : Option Ordering) → K v w ≡ o →
        Bound (option_map (λ r. exact r) (first_unless_greater o a b))
    two_exact f g None e = tt
    two_exact f g (Some Less) e = (among_left v us vs f.0, left_all (ap (is_known is_le) e) f.1 g.1)
    two_exact f g (Some Equal) e = (
      among_left v us vs f.0,
      left_all (ap
          (is_known is_le) e) f.1 g.1,
    )
    two_exact f g (Some Greater) e = (among_right w us vs g.0, right_all (back v w e) f.1 g.1)

    two_inexact : IsBeforeAll v us → IsBeforeAll w vs → (o : Option Ordering) → K v w ≡ o →
        Bound (option_map (λ r. inexact r) (first_unless_greater o a b))
    two_inexact f g None e = tt
    two_inexact f g (Some Less) e = left_all (ap (is_known is_le) e) f g
    two_inexact f g (Some Equal) e = left_all (ap (is_known is_le) e) f g
    two_inexact f g (Some Greater) e = right_all (back v w e) f g

    exact_left : IsEnd before v us → IsBeforeAll w vs → (o : Option Ordering) → K v w ≡ o →
        Bound (option_map (λ x. if is_gt x then inexact b else exact a) o)
    exact_left f g None e = tt
    exact_left f g (Some Less) e = (among_left v us vs f.0, left_all (ap (is_known is_le) e) f.1 g)
    exact_left f g (Some Equal) e = (among_left v us vs f.0, left_all (ap (is_known is_le) e) f.1 g)
    exact_left f g (Some Greater) e = right_all (back v w e) f.1 g

    exact_right : IsBeforeAll v us → IsEnd before w vs → (o : Option Ordering) → K w v ≡ o →
        Bound (option_map (λ x. if is_gt x then inexact a else exact b) o)
    exact_right f g None e = tt
    exact_right f g (Some Less) e = (
      among_right w us vs g.0,
      right_all (ap
          (is_known is_le) e) f g.1,
    )
    exact_right f g (Some Equal) e = (
      among_right w us vs g.0,
      right_all (ap
          (is_known is_le) e) f g.1,
    )
    exact_right f g (Some Greater) e = left_all (back w v e) f g.1

  pub united : (p q : Precision Raw) (us vs : List Content) →
      Bounds (precision_map content_of p) us → Bounds (precision_map content_of q) vs →
      Bounds (precision_map content_of (or_nothing (union_lower (λ a b. K (content_of a)
      (content_of b)) p q))) (us ++ vs)
  united (exact a) (exact b) us vs h g = two_exact a b us vs h g (K (content_of a)
      (content_of b)) refl
  united (exact a) (inexact b) us vs h g = exact_left a b us vs h g (K (content_of a)
      (content_of b)) refl
  united (exact a) absent us vs h g = tt
  united (inexact a) (exact b) us vs h g = exact_right a b us vs h g (K (content_of b)
      (content_of a)) refl
  united (inexact a) (inexact b) us vs h g = two_inexact a b us vs h g (K (content_of a)
      (content_of b)) refl
  united (inexact a) absent us vs h g = tt
  united absent (exact b) us vs h g = tt
  united absent (inexact b) us vs h g = tt
  united absent absent us vs h g = tt

  -- a bound of other lists of the same values
  pub moved : (p : Precision Content) (us vs : List Content) → ((c : Content) → Among c us →
      Among c vs) → ((c : Content) → Among c vs → Among c us) → Bounds p us → Bounds p vs
  moved (exact v) us vs to from h = (
    to v h.0,
    each_among (λ c. before v c ≡ true) vs
        (λ c here. all_among (λ c. before v c ≡ true) c us h.1 (from c here)),
  )
  moved (inexact v) us vs to from h = each_among (λ c. before v c ≡ true) vs (λ c here. all_among
      (λ c. before v c ≡ true) c us h (from c here))
  moved absent us vs to from h = tt

  -- a known bound is before all
  pub bound_before : (p : Precision Raw) (us : List Content) (a : Raw) →
      Bounds (precision_map content_of p) us → known_value p ≡ Some a →
      IsBeforeAll (content_of a) us
  bound_before (exact r) us a h e = let same : r ≡ a = cc (e) in
      subst (λ r. IsBeforeAll (content_of r) us) same h.1
  bound_before (inexact r) us a h e = let same : r ≡ a = cc (e) in
      subst (λ r. IsBeforeAll (content_of r) us) same h
  bound_before absent us a h e = absurd (cc (e))

-- ---- both ways

abbrev pub turned_cmp : Order
turned_cmp c d = content_cmp d c

pub turned_back : (c d : Content) → turned_cmp d c ≡ option_map ordering_reverse (turned_cmp c d)
turned_back c d = reversed d c

abbrev pub LowBounds : Precision Content → List Content → Type 0
LowBounds p us = Bounds content_cmp not_above_chain reversed p us

abbrev pub HighBounds : Precision Content → List Content → Type 0
HighBounds p us = Bounds turned_cmp at_least_chain turned_back p us

pub to_low : (p : Precision Content) (cs : List Content) → IsHonestLeast p cs →
    LowBounds p (non_null cs)
to_low (exact v) cs h = of_least v (non_null cs) h
to_low (inexact v) cs h = h
to_low absent cs h = tt

pub from_low : (p : Precision Content) (cs : List Content) → LowBounds p (non_null cs) →
    IsHonestLeast p cs
from_low (exact v) cs h = as_least v (non_null cs) h
from_low (inexact v) cs h = h
from_low absent cs h = tt

pub to_high : (p : Precision Content) (cs : List Content) → IsHonestGreatest p cs →
    HighBounds p (non_null cs)
to_high (exact v) cs h = of_greatest v (non_null cs) h
to_high (inexact v) cs h = h
to_high absent cs h = tt

pub from_high : (p : Precision Content) (cs : List Content) → HighBounds p (non_null cs) →
    IsHonestGreatest p cs
from_high (exact v) cs h = as_greatest v (non_null cs) h
from_high (inexact v) cs h = h
from_high absent cs h = tt

pub lows_united : (p q : Precision Raw) (us vs : List Content) →
    LowBounds (precision_map content_of p) us → LowBounds (precision_map content_of q) vs →
    LowBounds (precision_map content_of (or_nothing (union_lower raw_order p q))) (us ++ vs)
lows_united p q us vs h g = united content_cmp not_above_chain reversed p q us vs h g

pub highs_united : (p q : Precision Raw) (us vs : List Content) →
    HighBounds (precision_map content_of p) us → HighBounds (precision_map content_of q) vs →
    HighBounds (precision_map content_of (or_nothing (union_upper raw_order p q))) (us ++ vs)
highs_united p q us vs h g = united turned_cmp at_least_chain turned_back p q us vs h g

pub low_moved : (p : Precision Content) (us vs : List Content) → ((c : Content) → Among c us →
    Among c vs) → ((c : Content) → Among c vs → Among c us) → LowBounds p us → LowBounds p vs
low_moved p us vs to from h = moved content_cmp not_above_chain reversed p us vs to from h

pub high_moved : (p : Precision Content) (us vs : List Content) → ((c : Content) → Among c us →
    Among c vs) → ((c : Content) → Among c vs → Among c us) → HighBounds p us → HighBounds p vs
high_moved p us vs to from h = moved turned_cmp at_least_chain turned_back p us vs to from h

pub low_before : (p : Precision Raw) (us : List Content) (a : Raw) →
    LowBounds (precision_map content_of p) us → known_value p ≡ Some a →
    AllByRecursion (λ c. is_at_most (content_of a) c ≡ true) us
low_before p us a h e = bound_before content_cmp not_above_chain reversed p us a h e

pub high_behind : (p : Precision Raw) (us : List Content) (a : Raw) →
    HighBounds (precision_map content_of p) us → known_value p ≡ Some a →
    AllByRecursion (λ c. is_at_most c (content_of a) ≡ true) us
high_behind p us a h e = bound_before turned_cmp at_least_chain turned_back p us a h e
