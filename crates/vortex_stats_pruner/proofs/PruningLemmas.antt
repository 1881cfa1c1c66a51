-- Why proofs of a pruner are sound, and what the zones that a mask has hold.
use Rattle.std.proofs.Common.{◌≡◌, refl, sym, ap, ◌∙◌, subst, ℕ, zero, suc, List, [], ◌∷◌, map, length, replicate, Bool, true, false, Option, Some, None}
use Rattle.std.specs.Prelude.{IfSome, slice_index_or, option_map}
use Rattle.std.specs.List.{AllByRecursion, AllByRecursion-prop}
use Rattle.std.specs.Coded.{Coded-set, coded_bool}
use Rattle.std.proofs.Math.Logic.{∥∥₁_elim}
use Rattle.vortex_model.specs.LogicalType.{LogicalType}
use Rattle.vortex_model.specs.Content.{Content, null}
use Rattle.vortex_model.proofs.Lists.{map_twice}
use Rattle.vortex_model_table.specs.Expression.{Expression, HasFormedLiterals}
use Rattle.vortex_model_table.specs.Truth.{is_true, selects, HasTruth}
use Rattle.vortex_model_rules.specs.Rules.{Rule, answer_of, fals, sat}
use Rattle.vortex_arrays_model.specs.Layout.{Layout, len_of, rows_of}
use Rattle.vortex_arrays_model.proofs.RowsLemmas.{row_count}
use Rattle.vortex_stats_bind.specs.Bound.{Bound, expression_of, in_row, bound_value}
use Rattle.vortex_stats_bind.specs.Bindings.{IsBound, IsBoundTo}
use Rattle.vortex_stats_bind.specs.Replaced.{Answers, replaced}
use Rattle.vortex_stats_bind.proofs.Alike.{expression_of_bound}
use Rattle.vortex_stats_evaluate.specs.Readers.{IsZone, IsProofOf, SelectsNone, SelectsEach, FalsifiedZonesHoldNone, SatisfiedZonesHoldAll}
use Rattle.vortex_stats_evaluate.proofs.ByCalls.{of_bound, none_sound, each_sound}
use Rattle.vortex_stats_pruner.specs.Pruning.{AreSound, is_proved, MarksUnselected, MarksSelected}
use Rattle.vortex_stats_mask.specs.Wanted.{is_wanted}
use Rattle.vortex_stats_mask.proofs.Truths.{wanted_true}
use Rattle.vortex_stats_select.specs.Wants.{row_among, value_at, wanted_rows}

-- ---- proofs that are made

-- the proofs of a predicate that is bound to rows of a type, which is also this one
pub are_sound : (k l : LogicalType) (e x : Expression) (rules : List Rule) → l ≡ k → x ≡ e →
    HasTruth k e → HasFormedLiterals e → FalsifiedZonesHoldNone rules →
    SatisfiedZonesHoldAll rules → (falsifier satisfier : Option Bound) →
    IsProofOf k (fals k rules e) falsifier → IsProofOf k (sat k rules e) satisfier →
    ∥ AreSound l x falsifier satisfier ∥₁
are_sound k l e x rules same tree truth formed none each f s of_f of_s =
    let sound : AreSound k e f s = record {
      none = none_sound k e rules truth formed none f of_f;
      each = each_sound k e rules truth formed each s of_s;
    } in
    ∣ subst (λ m. AreSound m x f s) (sym same) (subst (λ y. AreSound k y f s) (sym tree) sound) ∣₁

-- by what the calls that make them answer of the bound predicate
pub are_sound_by : (k l : LogicalType) (e : Expression) (b : Bound) (rules : List Rule) →
    IsBound k e b → l ≡ k → HasTruth k e → HasFormedLiterals e → FalsifiedZonesHoldNone rules →
    SatisfiedZonesHoldAll rules → (f s : Option Bound) →
    (IsBoundTo k b → fals k rules (expression_of b) ≡ answer_of (option_map expression_of f)) →
    (IsBoundTo k b → IfSome f (IsBoundTo k)) →
    (IsBoundTo k b → sat k rules (expression_of b) ≡ answer_of (option_map expression_of s)) →
    (IsBoundTo k b → IfSome s (IsBoundTo k)) → ∥ AreSound l (expression_of b) f s ∥₁
are_sound_by k l e b rules h same truth formed none each f s made_f bound_f made_s bound_s =
    are_sound k l e (expression_of b) rules same (expression_of_bound k e b h) truth formed none
    each f s (of_bound k e b h (λ x. fals k rules x) f made_f bound_f)
    (of_bound k e b h (λ x. sat k rules x) s made_s bound_s)

-- ---- zones

pub marked : (p : Content → Bool) (zones : List Content) (i : ℕ) →
    slice_index_or (map p zones) i false ≡ true → p (slice_index_or zones i null) ≡ true
marked p [] i h = absurd (cc (h))
marked p (c ∷ zones) zero h = h
marked p (c ∷ zones) (suc i) h = marked p zones i h

none_in : (k : LogicalType) (e : Expression) (o : Option Bound) (answers : Answers)
    (zone : Content) (rows : List Content) →
    IfSome o (λ f. (answers : Answers) → SelectsNone k answers e (replaced answers f)) →
    is_proved answers o zone ≡ true → IsZone k answers (in_row zone) rows →
    AllByRecursion (λ row. selects k e row ≡ false) rows
none_in k e None answers zone rows law proved honest = absurd (cc (proved))
none_in k e (Some f) answers zone rows law proved honest =
    law answers (in_row zone) rows honest proved

each_in : (k : LogicalType) (e : Expression) (o : Option Bound) (answers : Answers)
    (zone : Content) (rows : List Content) →
    IfSome o (λ s. (answers : Answers) → SelectsEach k answers e (replaced answers s)) →
    is_proved answers o zone ≡ true → IsZone k answers (in_row zone) rows →
    AllByRecursion (λ row. selects k e row ≡ true) rows
each_in k e None answers zone rows law proved honest = absurd (cc (proved))
each_in k e (Some s) answers zone rows law proved honest =
    law answers (in_row zone) rows honest proved

module _ (k : LogicalType) (e : Expression) (f s : Option Bound) (answers : Answers)
    (zones : List Content) (mask : List Bool) (sound : ∥ AreSound k e f s ∥₁) where
  pub marks_unselected : mask ≡ map (is_proved answers f) zones →
      MarksUnselected k e answers zones mask
  marks_unselected is i rows marks honest =
      let proved = marked (is_proved answers f) zones i (subst (λ m. slice_index_or m i false ≡ true) is marks) in
      ∥∥₁_elim sound (AllByRecursion-prop (λ row. selects k e row ≡ false) (λ row. Coded-set coded_bool (selects k e row) false) rows)
      (λ laws. none_in k e f answers (slice_index_or zones i null) rows laws.none proved honest)

  pub marks_selected : mask ≡ map (is_proved answers s) zones →
      MarksSelected k e answers zones mask
  marks_selected is i rows marks honest =
      let proved = marked (is_proved answers s) zones i (subst (λ m. slice_index_or m i false ≡ true) is marks) in
      ∥∥₁_elim sound (AllByRecursion-prop (λ row. selects k e row ≡ true) (λ row. Coded-set coded_bool (selects k e row) true) rows)
      (λ laws. each_in k e s answers (slice_index_or zones i null) rows laws.each proved honest)

-- without a proof no zone is marked
all_false : (answers : Answers) (zones : List Content) →
    replicate (length zones) false ≡ map (is_proved answers None) zones
all_false answers [] = refl
all_false answers (c ∷ cs) = ap (λ rest. false ∷ rest) (all_false answers cs)

pub unmarked : (answers : Answers) (o : Option Bound) (a : Layout) (n : ℕ) → o ≡ None →
    n ≡ len_of a → replicate n false ≡ map (is_proved answers o) (rows_of a)
unmarked answers o a n none is =
    ap (λ m. replicate m false) (is ∙ sym (row_count a)) ∙ all_false answers (rows_of a)
    ∙ ap (λ q. map (is_proved answers q) (rows_of a)) (sym none)

-- with one those are where it is true, bound to the table
pub proved_by : (answers : Answers) (o : Option Bound) (f bound : Bound) (zones : List Content)
    (mask : List Bool) → o ≡ Some f → bound ≡ replaced answers f →
    mask ≡ wanted_rows true bound (map (row_among 1) zones) →
    mask ≡ map (is_proved answers o) zones
proved_by answers o f bound zones mask is same m =
    m ∙ map_twice (λ row. is_wanted true (value_at bound row)) (row_among 1) zones
    ∙ (λ i. map (λ zone. sym (wanted_true (bound_value bound zone)) i) zones)
    ∙ (λ i. map (λ zone. is_true (bound_value (same i) zone)) zones)
    ∙ ap (λ q. map (is_proved answers q) zones) (sym is)

-- ---- by name, for the tactics

pub ruleset proving = (unmarked, proved_by)
