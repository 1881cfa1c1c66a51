-- Statements of the laws of callers' rules.
use Rattle.std.specs.Prelude.{◌≡◌, ◌↔◌, ◌⊎◌, List, [], ◌∷◌, ◌++◌, length, Some, None, IfSome, true, false, Contains}
use Rattle.std.specs.List.{AllByRecursion, list_any}
use Rattle.vortex_model.specs.LogicalType.{LogicalType}
use Rattle.vortex_model.specs.Content.{Content, boolean}
use Rattle.vortex_model.specs.Valid.{IsContent}
use Rattle.vortex_model_table.specs.Expression.{Expression, compare, Comparison, HasFormedLiterals}
use Rattle.vortex_model_table.specs.Truth.{Given, evaluate, value_at, HasTruth}
use Rattle.vortex_model_table.specs.Rewrite.{falsifier, satisfier}
use Rattle.vortex_model_table.specs.Sound.{Placeholders, of_proof, IsSoundFalsifier, IsSoundSatisfier}
use Rattle.vortex_model.specs.Path.{Names}
use Rattle.vortex_model_table.specs.Table.{Table, IsTable}
use Rattle.vortex_model_table.specs.Scan.{ScanAnswer, scanned}
use Rattle.vortex_model_table.specs.Pruning.{IsAsked}
use Rattle.vortex_model_table.specs.Command.{predicate_fault}
use Rattle.vortex_model_table.specs.Class.{Hopeless, is_wide, is_bounded}
use Rattle.vortex_model_laws.specs.Exact.{box_of_chunk}
use Rattle.vortex_model_rules.specs.Faults.{proof_fault}
use Rattle.vortex_model_rules.specs.Scanned.{scanned_with}
use Rattle.vortex_model_rules.specs.Rules.{proof, is_fault, answer_of, Rule, asked, falsify_answers, satisfy_answers, fals, sat, handed_over}
use Rattle.vortex_model_rules.specs.PushNot.{as_truth, pushed_in, push_not}
use Rattle.vortex_model_rules.specs.NullComparison.{null_comparison, IsCountedNull}

-- without rules the proofs are the built-in ones
abbrev pub NoRulesAddNothing : Type 0
NoRulesAddNothing = (k : LogicalType) (e : Expression) →
    (fals k [] e ≡ answer_of (falsifier k e)) × (sat k [] e ≡ answer_of (satisfier k e))

-- A sound rule: each proof that it answers at a node is sound, where the node has a truth and its
-- literals are of their types.
pub record KeepsItsLaw (k : LogicalType) (rule : Rule) : Type 0 where
  pub falsifies : (e p : Expression) → HasTruth k e → HasFormedLiterals e →
      asked rule.root rule.falsify k e ≡ proof p → IsSoundFalsifier k e p
  pub satisfies : (e p : Expression) → HasTruth k e → HasFormedLiterals e →
      asked rule.root rule.satisfy k e ≡ proof p → IsSoundSatisfier k e p

-- With sound rules a falsifier is sound.
abbrev pub FalsifiersWithRulesAreSound : Type 0
FalsifiersWithRulesAreSound = (k : LogicalType) (rules : List Rule) (e p : Expression) →
    AllByRecursion (KeepsItsLaw k) rules → HasTruth k e → HasFormedLiterals e →
    fals k rules e ≡ proof p → IsSoundFalsifier k e p

-- With sound rules a satisfier is sound.
abbrev pub SatisfiersWithRulesAreSound : Type 0
SatisfiersWithRulesAreSound = (k : LogicalType) (rules : List Rule) (e p : Expression) →
    AllByRecursion (KeepsItsLaw k) rules → HasTruth k e → HasFormedLiterals e →
    sat k rules e ≡ proof p → IsSoundSatisfier k e p

-- A scan with sound rules answers the rows of one without rules.
abbrev pub ScansWithRulesLoseNone : Type 0
ScansWithRulesLoseNone = (t : Table) (rules : List Rule) (paths : List Names) (e : Expression)
    (a : ScanAnswer) → AllByRecursion (KeepsItsLaw t.kind) rules → IsAsked t e → IsTable t →
    scanned_with t rules paths e ≡ Some a → a.rows ≡ (scanned t paths e).rows

-- a scan with an empty list of rules is one without rules
abbrev pub ScansWithNoRulesAreScans : Type 0
ScansWithNoRulesAreScans = (t : Table) (paths : List Names) (e : Expression) → IsAsked t e →
    IsTable t → scanned_with t [] paths e ≡ Some (scanned t paths e)

-- A falsifier is a fault exactly where a rule's answer at some node of `handed_over` is one; a
-- satisfier exactly where one at the root is.
abbrev pub FaultsAreThoseOfAnswers : Type 0
FaultsAreThoseOfAnswers = (k : LogicalType) (rules : List Rule) (e : Expression) →
    (is_fault (fals k rules e) ≡
    list_any (λ node. list_any is_fault (falsify_answers k rules node)) (handed_over e))
    × (is_fault (sat k rules e) ≡ list_any is_fault (satisfy_answers k rules e))

-- ---- two rules

-- pushing NOTs inward keeps the truth of a predicate, whatever the columns are
abbrev pub PushingInKeepsTheTruth : Type 0
PushingInKeepsTheTruth = (g : Given) (e : Expression) →
    as_truth (evaluate g (pushed_in e)) ≡ as_truth (evaluate g e)

-- a predicate that a scan accepts keeps its value at each row of the type
abbrev pub PushingInKeepsTheValue : Type 0
PushingInKeepsTheValue = (k : LogicalType) (e : Expression) (row : Content) →
    predicate_fault k e ≡ None → HasFormedLiterals e → IsContent k row →
    value_at k (pushed_in e) row ≡ value_at k e row

abbrev pub PushNotKeepsItsLaw : Type 0
PushNotKeepsItsLaw = (k : LogicalType) → KeepsItsLaw k push_not

abbrev pub NullComparisonKeepsItsLaw : Type 0
NullComparisonKeepsItsLaw = (k : LogicalType) → KeepsItsLaw k null_comparison

-- the built-in proofs of a predicate that a scan accepts have no fault
abbrev pub BuiltInProofsAreFaultless : Type 0
BuiltInProofsAreFaultless = (k : LogicalType) (e : Expression) → predicate_fault k e ≡ None →
    IfSome (falsifier k e) (λ p. proof_fault k p ≡ None)
    × IfSome (satisfier k e) (λ p. proof_fault k p ≡ None)

-- with `push_not`, the proofs are the built-in ones of the predicate with its NOTs pushed inward
abbrev pub PushNotProvesAsPushedIn : Type 0
PushNotProvesAsPushedIn = (k : LogicalType) (e : Expression) → predicate_fault k e ≡ None →
    (fals k (push_not ∷ []) e ≡ answer_of (falsifier k (pushed_in e)))
    × (sat k (push_not ∷ []) e ≡ answer_of (satisfier k (pushed_in e)))

-- a scan with `push_not` has the whole answer of a scan of that predicate without rules
abbrev pub ScansWithPushNotAreScansPushedIn : Type 0
ScansWithPushNotAreScansPushedIn = (t : Table) (paths : List Names) (e : Expression) →
    IsAsked t e → IsTable t →
    scanned_with t (push_not ∷ []) paths e ≡ Some (scanned t paths (pushed_in e))

-- Where that predicate is of the wide class, such a scan skips a chunk that has all its bounds
-- exactly where no choice of values in the chunk's box makes the predicate true.
abbrev pub PushNotSkipsExactlyTheHopeless : Type 0
PushNotSkipsExactlyTheHopeless = (t : Table) (paths : List Names) (e : Expression) (a : ScanAnswer)
    (before : List (List Content)) (chunk : List Content) (after : List (List Content)) →
    IsTable t → IsAsked t e → is_wide (pushed_in e) ≡ true → t.chunks ≡ before ++ chunk ∷ after →
    is_bounded (box_of_chunk t chunk) (pushed_in e) ≡ true →
    scanned_with t (push_not ∷ []) paths e ≡ Some a →
    Contains a.skipped (length before) ↔ Hopeless t.kind e (box_of_chunk t chunk)

-- Where a side of a comparison is null at each row by its null count, the falsifier with
-- `null_comparison` exists and is true.
abbrev pub NullSidesAreProved : Type 0
NullSidesAreProved = (k : LogicalType) (op : Comparison) (x y : Expression) (given : Placeholders)
    (rows : List Content) → predicate_fault k (compare op x y) ≡ None →
    IsCountedNull given rows x ⊎ IsCountedNull given rows y →
    (p : Expression) × (fals k (null_comparison ∷ []) (compare op x y) ≡ proof p)
    × (evaluate (of_proof given rows) p ≡ boolean true)

-- With both rules no scan of an accepted predicate is refused for a rule's fault.
abbrev pub TheTwoRulesMakeNoFault : Type 0
TheTwoRulesMakeNoFault = (k : LogicalType) (e : Expression) → predicate_fault k e ≡ None →
    (is_fault (fals k (push_not ∷ null_comparison ∷ []) e) ≡ false)
    × (is_fault (sat k (push_not ∷ null_comparison ∷ []) e) ≡ false)
