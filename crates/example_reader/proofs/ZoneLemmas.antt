-- An honest row of the table of zones is what a reader's law asks for.
use Rattle.std.proofs.Common.{◌≡◌, refl, sym, ap, ◌∙◌, subst, zero, suc, ℕ, List, [], ◌∷◌, map, Bool, true, false, not, Option, Some, None, inl, inr}
use Rattle.std.specs.Prelude.{slice_index_or, if◌then◌else◌}
use Rattle.std.specs.Option.{unwrap_or}
use Rattle.vortex_model.specs.LogicalType.{LogicalType, null_only}
use Rattle.vortex_model.specs.Kept.{is_leaf}
use Rattle.vortex_model.specs.Path.{Names, Positions, positions, type_at}
use Rattle.vortex_model.specs.Content.{Content, null}
use Rattle.vortex_model_table.specs.Expression.{Expression, statistic, Aggregate, min, max, null_count}
use Rattle.vortex_model_table.specs.Statistics.{exact, inexact, absent, null_count_of}
use Rattle.vortex_model_table.specs.Truth.{is_true}
use Rattle.vortex_model_rules.specs.Rules.{Answer}
use Rattle.vortex_stats_bind.specs.Bound.{Bound, place, placeholder, column_at, bound_of, expression_of, in_row, bound_value, evaluate_bound}
use Rattle.vortex_stats_bind.specs.Bindings.{IsBoundTo}
use Rattle.vortex_stats_bind.specs.Replaced.{answered, replaced, typed_null}
use Rattle.vortex_stats_expr.specs.Aggregate.{aggregate_of}
use Rattle.vortex_stats_expr.specs.declared.aggregate.AggregateFn.{AggregateFn}
use Rattle.vortex_stats_expr.specs.declared.aggregate.AggregateFn.TheVariants as aggregate
use Rattle.vortex_stats_evaluate.specs.Readers.{IsHonestValue, IsZone}
use Rattle.vortex_stats_evaluate.specs.Readers.{IsProofOf}
use Rattle.vortex_stats_pruner.specs.Pruning.{is_proved, MarksUnselected}
use Rattle.example_reader.specs.Zones.{row_counts, column_answer, zone_answers, the_answers, IsLower, IsUpper, IsNullCount, IsHonestOf, LeavesNoRowOut, is_read}

-- ---- statistics that the table has not

pub other_none : (is : Positions) (k : LogicalType) (a : AggregateFn) → (a ≡ aggregate.Min → ⊥) → (a ≡ aggregate.Max → ⊥) → (a ≡ aggregate.NullCount → ⊥) →
    None ≡ column_answer is k (aggregate_of a)
other_none is k aggregate.Min low high nulls = absurd (low refl)
other_none is k aggregate.Max low high nulls = absurd (high refl)
other_none is k aggregate.NullCount low high nulls = absurd (nulls refl)
other_none is k a low high nulls = refl

pub ruleset others = (other_none)

-- ---- statistics of which one thing is known

of_lower : (c : Content) (values : List Content) → IsLower c values → IsHonestValue min values c
of_lower c values (inl h) = inl h
of_lower c values (inr h) = inr (
  record { least = inexact c; greatest = absent; total = absent; nulls = absent; nans = absent; bytes = absent; constant = absent; sorted = absent; strictly_sorted = absent },
  record { least = h; greatest = tt; total = tt; nulls = tt; nans = tt; constant = tt; sorted = tt; strictly_sorted = tt },
  refl,
)

of_upper : (c : Content) (values : List Content) → IsUpper c values → IsHonestValue max values c
of_upper c values (inl h) = inl h
of_upper c values (inr h) = inr (
  record { least = absent; greatest = inexact c; total = absent; nulls = absent; nans = absent; bytes = absent; constant = absent; sorted = absent; strictly_sorted = absent },
  record { least = tt; greatest = h; total = tt; nulls = tt; nans = tt; constant = tt; sorted = tt; strictly_sorted = tt },
  refl,
)

of_nulls : (c : Content) (values : List Content) → IsNullCount c values →
    IsHonestValue null_count values c
of_nulls c values (inl h) = inl h
of_nulls c values (inr h) = inr (
  record { least = absent; greatest = absent; total = absent; nulls = exact (null_count_of values); nans = absent; bytes = absent; constant = absent; sorted = absent; strictly_sorted = absent },
  record { least = tt; greatest = tt; total = tt; nulls = refl; nans = tt; constant = tt; sorted = tt; strictly_sorted = tt },
  h,
)

-- ---- a zone

typed : (o : Option LogicalType) (u : LogicalType) → u ≡ unwrap_or o null_only →
    is_leaf u ≡ true → o ≡ Some u
typed None u e l =
    let no : false ≡ true = subst (λ t. is_leaf t ≡ true) e l in
    absurd (cc (no))
typed (Some t) u e l = ap Some (sym e)

-- a column of a leaf type is where the type of the rows has a leaf
leaf_at : (k : LogicalType) (xs : Names) (o : Option Positions) (is : Positions)
    (u : LogicalType) → place xs is u ≡ column_at k xs o → is_leaf u ≡ true → type_at k is ≡ Some u
leaf_at k xs None is u h l = absurd (cc (h))
leaf_at k xs (Some js) is u h l =
    let here : is ≡ js = cc (h) in
    let kind : u ≡ unwrap_or (type_at k js) null_only = cc (h) in
    ap (type_at k) here ∙ typed (type_at k js) u kind l

-- what is asked of is bound too
asked : (k : LogicalType) (x : Bound) (a : Aggregate) (l : LogicalType) →
    IsBoundTo k (placeholder x a l) → x ≡ bound_of k (expression_of x)
asked k x a l bound =
    let tree : placeholder x a l ≡ bound_of k (statistic (expression_of x) a) = bound.tree in
    cc (tree)

module _ (k : LogicalType) (zone : Content) (rows : List Content) (h : IsHonestOf k zone rows) where
  at_column : (xs : Names) (is : Positions) (u : LogicalType) (a : Aggregate) (l : LogicalType)
      (b : Bool) → (b ≡ true → (type_at k is ≡ Some u) × (is_leaf u ≡ true)) →
      IsHonestValue a (map (bound_value (place xs is u)) rows)
      (evaluate_bound (in_row zone) (unwrap_or (if b then column_answer is u a else None) (typed_null l)))
  at_column xs is u a l false f = inl refl
  at_column xs is u min l true f = of_lower _ _ (h.lower is u (f refl).0 (f refl).1)
  at_column xs is u max l true f = of_upper _ _ (h.upper is u (f refl).0 (f refl).1)
  at_column xs is u null_count l true f = of_nulls _ _ (h.nulls is u (f refl).0 (f refl).1)
  at_column xs is u a l true f = inl refl

  honest : (x : Bound) (a : Aggregate) (l : LogicalType) → x ≡ bound_of k (expression_of x) →
      IsHonestValue a (map (bound_value x) rows) (evaluate_bound (in_row zone) (unwrap_or (zone_answers x a) (typed_null l)))
  honest (place xs is u) a l bound =
      at_column xs is u a l (is_leaf u) (λ leaf. (leaf_at k xs (positions k xs) is u bound leaf, leaf))
  honest x a l bound = inl refl

  pub is_zone : IsZone k the_answers (in_row zone) rows
  is_zone = record {
    typed = h.typed;
    counted = h.counted;
    honest = λ x a l bound. honest x a l (asked k x a l bound);
  }

-- ---- the zones that a mask doesn't have

skipped : (mask : List Bool) (i : ℕ) → slice_index_or (map not mask) i true ≡ false →
    slice_index_or mask i false ≡ true
skipped [] i h = absurd (cc (h))
skipped (true ∷ mask) zero h = refl
skipped (false ∷ mask) zero h = absurd (cc (h))
skipped (b ∷ mask) (suc i) h = skipped mask i h

-- what a pruner of the predicate shows about the zones that aren't read
pub none_left_out : (k l : LogicalType) (e x : Expression) (counts : Bound)
    (zones : List Content) (mask read : List Bool) → l ≡ k → x ≡ e → counts ≡ row_counts →
    MarksUnselected l x (answered (Some counts) zone_answers (λ k. typed_null k)) zones mask →
    read ≡ map not mask → LeavesNoRowOut k e zones read
none_left_out k l e x counts zones mask read kind tree same marks is i rows honest unread =
    let marked : MarksUnselected k e the_answers zones mask =
    subst (λ m. MarksUnselected m e the_answers zones mask) kind
    (subst (λ y. MarksUnselected l y the_answers zones mask) tree
    (subst (λ c. MarksUnselected l x (answered (Some c) zone_answers (λ k. typed_null k)) zones mask)
    same marks)) in
    marked i rows (skipped mask i (subst (λ m. slice_index_or m i true ≡ false) is unread))
    (is_zone k (slice_index_or zones i null) rows honest)

-- ---- exactly which zones are read

at_a_zone : (k : LogicalType) (a : Answer) (o : Option Bound) → IsProofOf k a o →
    (zone : Content) → not (is_proved the_answers o zone) ≡ is_read k a zone
at_a_zone k a None p zone = sym (ap (λ x. is_read k x zone) p.answer)
at_a_zone k a (Some f) p zone =
    ap (λ b. not (is_true (bound_value (replaced the_answers b) zone))) p.bound.tree
    ∙ sym (ap (λ x. is_read k x zone) p.answer)

at_each_zone : (f g : Content → Bool) → ((zone : Content) → not (f zone) ≡ g zone) →
    (zones : List Content) → map not (map f zones) ≡ map g zones
at_each_zone f g h [] = refl
at_each_zone f g h (zone ∷ zones) = λ i. h zone i ∷ at_each_zone f g h zones i

pub read_exactly : (k : LogicalType) (a : Answer) (o : Option Bound) (counts : Bound)
    (zones : List Content) (mask read : List Bool) → IsProofOf k a o → counts ≡ row_counts →
    mask ≡ map (is_proved (answered (Some counts) zone_answers (λ k. typed_null k)) o) zones →
    read ≡ map not mask → read ≡ map (is_read k a) zones
read_exactly k a o counts zones mask read p same is made =
    made ∙ ap (map not) (is ∙ ap (λ c. map
    (is_proved (answered (Some c) zone_answers (λ k. typed_null k)) o) zones) same)
    ∙ at_each_zone (is_proved the_answers o) (is_read k a) (at_a_zone k a o p) zones
