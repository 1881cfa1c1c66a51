-- Paths, and the predicate of a scan.
use Rattle.std.specs.Prelude.{ℕ, zero, suc, List, [], ◌∷◌, Bool, is_some, Option, Some, None, if◌then◌else◌, option_map, option_and_then}
use Rattle.serde_json.specs.Data.{Data, null, boolean as truth, number, string, array, object, Items, no_items, item}
use Rattle.serde_json.specs.Find.{at, as_array, as_bool, as_null, as_str}
use Rattle.vortex_model.specs.LogicalType.{LogicalType}
use Rattle.vortex_model.specs.Content.{content_of}
use Rattle.vortex_model.specs.Valid.{valid}
use Rattle.vortex_model.specs.Path.{Step, name, element}
use Rattle.vortex_model_table.specs.Expression.{Expression, literal, column, negation, is_null, is_not_null, is_nan, between, like, row_count, statistic}
use Rattle.vortex_stats_expr.specs.Tree.{combined}
use Rattle.vortex_table_request.specs.Kinds.{type_in, strings_of}
use Rattle.vortex_table_request.specs.Rows.{reading}
use Rattle.vortex_table_request.specs.FormNames.{aggregate_named, form_in}
use Rattle.vortex_table_request.specs.declared.forms.Form.{Form}
use Rattle.vortex_table_request.specs.declared.forms.Form.TheVariants as form
use Rattle.vortex_table_request.specs.declared.forms.Leaf.{Leaf}
use Rattle.vortex_table_request.specs.declared.forms.Leaf.TheVariants as leaf
use Rattle.vortex_table_request.specs.declared.forms.Unary.{Unary}
use Rattle.vortex_table_request.specs.declared.forms.Unary.TheVariants as unary
use Rattle.vortex_table_request.specs.declared.forms.Binary.{Binary}
use Rattle.vortex_table_request.specs.declared.forms.Binary.TheVariants as binary

-- ---- paths

-- null is a step to the elements
abbrev pub step_in : Data → Option Step
step_in d = if is_some (as_null d) then Some element else option_map name (as_str d)

abbrev pub steps_in : Items → Option (List Step)
steps_in no_items = Some []
steps_in (item d ds) = option_and_then (λ s. option_map (λ ss. s ∷ ss) (steps_in ds)) (step_in d)

abbrev pub path_in : Data → Option (List Step)
path_in d = option_and_then steps_in (as_array d)

abbrev pub paths_in : Items → Option (List (List Step))
paths_in no_items = Some []
paths_in (item d ds) = option_and_then (λ p. option_map (λ ps. p ∷ ps) (paths_in ds)) (path_in d)

-- ---- predicates

-- a literal of the type, if the type has its value
abbrev pub literal_at : LogicalType → Data → Option Expression
literal_at k d =
    option_and_then (λ r. if valid k r then Some (literal k (content_of r)) else None) (reading k d)

-- `["lit",type,content]`
abbrev pub literal_in : Data → Option Expression
literal_in d = option_and_then (λ k. option_and_then (literal_at k) (at 2 d))
    (option_and_then type_in (at 1 d))

abbrev pub behind_first : Items → Items
behind_first no_items = no_items
behind_first (item d ds) = ds

-- `["col",name,..]`
abbrev pub column_in : Data → Option Expression
column_in d = option_map column (option_and_then (λ ds. strings_of (behind_first ds)) (as_array d))

-- a predicate without operands
abbrev pub leaf_in : Leaf → Data → Option Expression
leaf_in leaf.Literal d = literal_in d
leaf_in leaf.Column d = column_in d
leaf_in leaf.RowCount d = Some row_count

-- a predicate with one operand: `[test,x]` and `["stat",x,name]`
abbrev pub unary_in : Unary → Expression → Data → Option Expression
unary_in unary.Not x d = Some (negation x)
unary_in unary.IsNull x d = Some (is_null x)
unary_in unary.IsNotNull x d = Some (is_not_null x)
unary_in unary.IsNan x d = Some (is_nan x)
unary_in unary.Stat x d =
    option_map (statistic x) (option_and_then aggregate_named (option_and_then as_str (at 2 d)))

-- the flag at this index
abbrev pub flag_at : ℕ → Data → Option Bool
flag_at i d = option_and_then as_bool (at i d)

-- a predicate with two operands: `[op,x,y]` and `["like",x,pattern,negated,ignore_case]`
abbrev pub binary_in : Binary → Expression → Expression → Data → Option Expression
binary_in (binary.Operator o) x y d = Some (combined o x y)
binary_in binary.Like x y d =
    option_and_then (λ negated. option_map (λ ignores_case. like x y negated ignores_case)
    (flag_at 4 d)) (flag_at 3 d)

-- `["between",x,lo,hi,lower_strict,upper_strict]`
abbrev pub between_in : Expression → Expression → Expression → Data → Option Expression
between_in x lo hi d =
    option_and_then (λ lower. option_map (λ upper. between x lo hi lower upper) (flag_at 5 d))
    (flag_at 4 d)

-- the predicate at this index, by the predicates of the items
abbrev pub operand : ℕ → List (Option Expression) → Option Expression
operand i [] = None
operand zero (x ∷ xs) = x
operand (suc i) (x ∷ xs) = operand i xs

-- an array of this form, by the predicates of the items
abbrev pub predicate_of : Form → Data → List (Option Expression) → Option Expression
predicate_of (form.Leaf l) d xs = leaf_in l d
predicate_of (form.Unary u) d xs = option_and_then (λ x. unary_in u x d) (operand 1 xs)
predicate_of (form.Binary b) d xs =
    option_and_then (λ x. option_and_then (λ y. binary_in b x y d) (operand 2 xs)) (operand 1 xs)
predicate_of form.Between d xs =
    option_and_then (λ x. option_and_then (λ lo. option_and_then (λ hi. between_in x lo hi d)
    (operand 3 xs)) (operand 2 xs)) (operand 1 xs)

-- the predicate of a value, at any depth
abbrev mutual
  pub predicate_in : Data → Option Expression
  predicate_in null = None
  predicate_in (truth b) = None
  predicate_in (number n) = None
  predicate_in (string s) = None
  predicate_in (array ds) =
      option_and_then (λ f. predicate_of f (array ds) (predicates_in ds)) (form_in (array ds))
  predicate_in (object ms) = None

  -- the predicate of each item, if it is one
  pub predicates_in : Items → List (Option Expression)
  predicates_in no_items = []
  predicates_in (item d ds) = predicate_in d ∷ predicates_in ds
