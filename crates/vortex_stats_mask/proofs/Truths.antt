-- The wanted truths of connectives and comparisons.
use Rattle.std.proofs.Common.{◌≡◌, refl, sym, ap, ◌∙◌, Bool, true, false, not, ◌||◌, if◌then◌else◌, Option, Some, None, option_map}
use Rattle.std.specs.declared.cmp.Ordering.{Ordering}
use Rattle.std.specs.declared.cmp.Ordering.TheVariants.{Less, Equal, Greater}
use Rattle.std.specs.Ordering.{ordering_reverse}
use Rattle.std.proofs.Math.Bool.{or_comm}
use Rattle.vortex_model.specs.Content.{Content, null, boolean, is_null}
use Rattle.vortex_model.specs.Order.{content_cmp}
use Rattle.vortex_model_table.specs.Expression.{Comparison, equal, not_equal, greater, at_least, less, at_most}
use Rattle.vortex_model_table.specs.Truth.{test_of, compared, kleene_and, kleene_or, kleene_not, is_true}
use Rattle.vortex_model_table.proofs.ContentOrder.{reversed}
use Rattle.vortex_stats_mask.specs.Wanted.{is_wanted, joined_by, negated, swapped}

-- ---- connectives

pub wanted_of_and : (want : Bool) (c d : Content) → is_wanted want (kleene_and c d) ≡ joined_by want (is_wanted want c) (is_wanted want d)
wanted_of_and true (boolean false) d = refl
wanted_of_and true (boolean true) (boolean false) = refl
wanted_of_and true (boolean true) (boolean true) = refl
wanted_of_and true (boolean true) d = refl
wanted_of_and true c (boolean false) = refl
wanted_of_and true c (boolean true) = refl
wanted_of_and true c d = refl
wanted_of_and false (boolean false) d = refl
wanted_of_and false (boolean true) (boolean false) = refl
wanted_of_and false (boolean true) (boolean true) = refl
wanted_of_and false (boolean true) d = refl
wanted_of_and false c (boolean false) = refl
wanted_of_and false c (boolean true) = refl
wanted_of_and false c d = refl

pub wanted_of_or : (want : Bool) (c d : Content) → is_wanted want (kleene_or c d) ≡ joined_by (not want) (is_wanted want c) (is_wanted want d)
wanted_of_or true (boolean true) d = refl
wanted_of_or true (boolean false) (boolean false) = refl
wanted_of_or true (boolean false) (boolean true) = refl
wanted_of_or true (boolean false) d = refl
wanted_of_or true c (boolean false) = refl
wanted_of_or true c (boolean true) = refl
wanted_of_or true c d = refl
wanted_of_or false (boolean true) d = refl
wanted_of_or false (boolean false) (boolean false) = refl
wanted_of_or false (boolean false) (boolean true) = refl
wanted_of_or false (boolean false) d = refl
wanted_of_or false c (boolean false) = refl
wanted_of_or false c (boolean true) = refl
wanted_of_or false c d = refl

pub wanted_of_not : (want : Bool) (c : Content) → is_wanted want (kleene_not c) ≡ is_wanted (not want) c
wanted_of_not true (boolean b) = refl
wanted_of_not false (boolean false) = refl
wanted_of_not false (boolean true) = refl
wanted_of_not true c = refl
wanted_of_not false c = refl

-- ---- comparisons

tests_negated : (op : Comparison) (o : Ordering) → not (test_of op o) ≡ test_of (negated op) o
tests_negated equal Less = refl
tests_negated equal Equal = refl
tests_negated equal Greater = refl
tests_negated not_equal Less = refl
tests_negated not_equal Equal = refl
tests_negated not_equal Greater = refl
tests_negated greater Less = refl
tests_negated greater Equal = refl
tests_negated greater Greater = refl
tests_negated at_least Less = refl
tests_negated at_least Equal = refl
tests_negated at_least Greater = refl
tests_negated less Less = refl
tests_negated less Equal = refl
tests_negated less Greater = refl
tests_negated at_most Less = refl
tests_negated at_most Equal = refl
tests_negated at_most Greater = refl

abbrev by_order : Comparison → Option Ordering → Content
by_order op None = null
by_order op (Some o) = boolean (test_of op o)

negated_by_order : (op : Comparison) (o : Option Ordering) → is_wanted false (by_order op o) ≡ is_true (by_order (negated op) o)
negated_by_order op None = refl
negated_by_order op (Some o) = tests_negated op o

negated_unless : (op : Comparison) (b : Bool) (o : Option Ordering) → is_wanted false (if b then null else by_order op o) ≡ is_true (if b then null else by_order (negated op) o)
negated_unless op true o = refl
negated_unless op false o = negated_by_order op o

-- A comparison is false where the opposite one is true.
pub wanted_false : (op : Comparison) (c d : Content) → is_wanted false (compared op c d) ≡ is_true (compared (negated op) c d)
wanted_false op c d = negated_unless op (is_null c || is_null d) (content_cmp c d)

tests_swapped : (op : Comparison) (o : Ordering) → test_of op o ≡ test_of (swapped op) (ordering_reverse o)
tests_swapped equal Less = refl
tests_swapped equal Equal = refl
tests_swapped equal Greater = refl
tests_swapped not_equal Less = refl
tests_swapped not_equal Equal = refl
tests_swapped not_equal Greater = refl
tests_swapped greater Less = refl
tests_swapped greater Equal = refl
tests_swapped greater Greater = refl
tests_swapped at_least Less = refl
tests_swapped at_least Equal = refl
tests_swapped at_least Greater = refl
tests_swapped less Less = refl
tests_swapped less Equal = refl
tests_swapped less Greater = refl
tests_swapped at_most Less = refl
tests_swapped at_most Equal = refl
tests_swapped at_most Greater = refl

swapped_by_order : (op : Comparison) (o : Option Ordering) → by_order op o ≡ by_order (swapped op) (option_map ordering_reverse o)
swapped_by_order op None = refl
swapped_by_order op (Some o) = ap boolean (tests_swapped op o)

-- the sides of a comparison are swapped
pub compared_swapped : (op : Comparison) (c d : Content) → compared op c d ≡ compared (swapped op) d c
compared_swapped op c d =
    (λ i. if or_comm (is_null c) (is_null d) i then null else swapped_by_order op (content_cmp c d) i)
    ∙ (λ i. if is_null d || is_null c then null else by_order (swapped op) (sym (reversed c d) i))

pub wanted_true : (c : Content) → is_true c ≡ is_wanted true c
wanted_true (boolean b) = refl
wanted_true c = refl
