-- Scans with callers' rules on examples. The rules are sound, so the law's premise can be met.
use Rattle.std.proofs.Common.{◌≡◌, refl, ℕ, pos, List, [], ◌∷◌, Some, None, Bool, true, false, if◌then◌else◌, subst}
use Rattle.std.specs.Prelude.{codes}
use Rattle.vortex_model.specs.LogicalType.{LogicalType, integer_type, struct, field, no_fields, non_nullable, nullable, i32}
use Rattle.vortex_model.specs.Content.{Content, null, integer, tuple, nothing, first}
use Rattle.vortex_model_table.specs.Expression.{Expression, literal, column, compare, negation, equal, at_most}
use Rattle.vortex_model_table.specs.Rewrite.{boolean_literal}
use Rattle.vortex_model_table.specs.Sound.{IsSoundFalsifier, IsSoundSatisfier}
use Rattle.vortex_model_table.specs.Table.{Table}
use Rattle.vortex_model_table.specs.Scan.{ScanAnswer, scanned}
use Rattle.vortex_model_rules.specs.Rules.{no_proof, proof, fault, eq_root, root_of, of_not, Rule}
use Rattle.vortex_model_rules.specs.PushNot.{push_not}
use Rattle.vortex_model_rules.specs.NullComparison.{null_comparison}
use Rattle.vortex_model_rules.specs.Laws.{KeepsItsLaw}
use Rattle.vortex_model_rules.specs.Scanned.{scanned_with}
use Rattle.vortex_model_rules.proofs.Examples.{never, not_literal}

abbrev row_of : ℕ → Content
row_of n = tuple (first (integer (pos n)) nothing)

abbrev rows_in : List (List Content) → List ℕ → Table
rows_in chunks groups = record { kind = struct (field (codes "a") (integer_type i32 non_nullable) no_fields) non_nullable; default = 16; lengths = []; chunks = chunks; groups = groups }

abbrev table : Table
table = rows_in ((row_of 1 ∷ row_of 2 ∷ []) ∷ []) (1 ∷ [])

abbrev paths : List (List (List ℕ))
paths = (codes "a" ∷ []) ∷ []

abbrev not_true : Expression
not_true = negation (boolean_literal true)

abbrev not_false : Expression
not_false = negation (boolean_literal false)

abbrev all_rows : List Content
all_rows = row_of 1 ∷ row_of 2 ∷ []

abbrev found : List Content → List ℕ → List ℕ → ℕ → ℕ → ScanAnswer
found rows skipped whole tested proofs = record { rows = rows; kind = table.kind; skipped = skipped; whole = whole; rows_tested = tested; proofs = proofs }

-- ---- NOT of a literal has no built-in proof

without : scanned table paths not_true ≡ found [] [] [] 2 0
without = refl

with_none : scanned_with table [] paths not_true ≡ Some (found [] [] [] 2 0)
with_none = refl

-- with the two rules the chunk is skipped, by one proof
skipped_with_rules : scanned_with table (never ∷ not_literal ∷ []) paths not_true ≡ Some (found [] (0 ∷ []) [] 0 1)
skipped_with_rules = refl

-- or it is taken whole, by two proofs
whole_with_rules : scanned_with table (never ∷ not_literal ∷ []) paths not_false ≡ Some (found all_rows [] (0 ∷ []) 0 2)
whole_with_rules = refl

-- a rule whose proof is never true changes no row
never_true : scanned_with table (never ∷ []) paths not_false ≡ Some (found all_rows [] [] 2 2)
never_true = refl

-- ---- faults

abbrev faulty : Rule
faulty = record { root = of_not; falsify = λ k e. no_proof; satisfy = λ k e. fault }

no_answer : scanned_with table (never ∷ faulty ∷ []) paths not_true ≡ None
no_answer = refl

-- also without rows
no_rows_no_answer : scanned_with (rows_in [] []) (faulty ∷ []) paths not_true ≡ None
no_rows_no_answer = refl

-- but not where the rules get no such node
other_node : scanned_with table (faulty ∷ []) paths (boolean_literal true) ≡ Some (found all_rows [] (0 ∷ []) 0 2)
other_node = refl

-- ---- sound rules

false_falsifies : (k : LogicalType) (e : Expression) → IsSoundFalsifier k e (boolean_literal false)
false_falsifies k e rows given typed honest t = absurd (let z = t.1 in cc (z))

false_satisfies : (k : LogicalType) (e : Expression) → IsSoundSatisfier k e (boolean_literal false)
false_satisfies k e rows given typed honest t = absurd (let z = t.1 in cc (z))

-- the answer where a test passes
where_passed : (P : Expression → Type 0) (b : Bool) (q p : Expression) → P q → (if b then proof q else no_proof) ≡ proof p → P p
where_passed P true q p h e = let f : q ≡ p = cc (e) in subst P f h
where_passed P false q p h e = absurd (cc (e))

never_keeps : (k : LogicalType) → KeepsItsLaw k never
never_keeps k = record {
  falsifies = λ e p has formed is. where_passed (IsSoundFalsifier k e) (eq_root of_not (root_of e)) (boolean_literal false) p (false_falsifies k e) is;
  satisfies = λ e p has formed is. where_passed (IsSoundSatisfier k e) (eq_root of_not (root_of e)) (boolean_literal false) p (false_satisfies k e) is;
}

-- ---- the two rules of the model

abbrev a : Expression
a = column (codes "a" ∷ [])

abbrev number : ℕ → Expression
number n = literal (integer_type i32 non_nullable) (integer (pos n))

-- NOT (a <= 2) is a > 2, which is true of neither 1 nor 2
above_two : scanned_with table (push_not ∷ []) paths (negation (compare at_most a (number 2))) ≡ Some (found [] (0 ∷ []) [] 0 1)
above_two = refl

-- an all-null chunk has no bounds, and without the rule is tested row by row
abbrev nulls : Table
nulls = record {
  kind = struct (field (codes "a") (integer_type i32 nullable) no_fields) non_nullable;
  default = 16;
  lengths = [];
  chunks = (tuple (first null nothing) ∷ tuple (first null nothing) ∷ []) ∷ [];
  groups = 1 ∷ [];
}

nulls_tested : scanned nulls paths (compare equal a (number 8)) ≡ record (found [] [] [] 2 1) { kind = nulls.kind }
nulls_tested = refl

nulls_skipped : scanned_with nulls (null_comparison ∷ []) paths (compare equal a (number 8)) ≡ Some (record (found [] (0 ∷ []) [] 0 1) { kind = nulls.kind })
nulls_skipped = refl
