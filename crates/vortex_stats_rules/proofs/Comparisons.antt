-- What proofs a comparison has, by its sides.
use Rattle.std.proofs.Common.{◌≡◌, List, [], Bool, true, false, not, ◌&&◌, refl, if◌then◌else◌}
use Rattle.vortex_model_table.specs.Expression.{Comparison}
use Rattle.vortex_stats_bind.specs.Bound.{Bound}
use Rattle.vortex_stats_rules.specs.Table.{is_comparable, may_be_nan, refuted, kept_from_nan, comparison_proofs}

if_both : (a b : Bool) (proofs : List Bound) → a ≡ true → b ≡ true → (if not (a && b) then [] else proofs) ≡ proofs
if_both true true proofs h i = refl
if_both true false proofs h i = cc (i)
if_both false b proofs h i = cc (h)

left_open : (a b : Bool) (proofs : List Bound) → a ≡ false → (if not (a && b) then [] else proofs) ≡ []
left_open false b proofs h = refl
left_open true b proofs h = cc (h)

right_open : (a b : Bool) (proofs : List Bound) → b ≡ false → (if not (a && b) then [] else proofs) ≡ []
right_open true false proofs h = refl
right_open false b proofs h = refl
right_open true true proofs h = cc (h)

module _ (op : Comparison) (x y : Bound) where
  abbrev kept : List Bound
  kept = kept_from_nan (may_be_nan x) (may_be_nan y) x y (refuted op x y)

  pub all_there : is_comparable x ≡ true → is_comparable y ≡ true →
      comparison_proofs op x y ≡ kept_from_nan (may_be_nan x) (may_be_nan y) x y (refuted op x y)
  all_there = if_both (is_comparable x) (is_comparable y) kept

  pub unbounded_left : is_comparable x ≡ false → comparison_proofs op x y ≡ []
  unbounded_left = left_open (is_comparable x) (is_comparable y) kept

  pub unbounded_right : is_comparable y ≡ false → comparison_proofs op x y ≡ []
  unbounded_right = right_open (is_comparable x) (is_comparable y) kept

pub ruleset of_sides = (all_there, unbounded_left, unbounded_right)
