-- Statements of the laws of bounds, predicates, scans and tables.
use Rattle.std.specs.Prelude.{◌≡◌, ◌↔◌, ℕ, List, [], ◌∷◌, ◌++◌, map, length, Bool, true, false, Some, IfSome}
use Rattle.std.specs.List.{AllByRecursion, range_with_len}
use Rattle.vortex_model.specs.LogicalType.{LogicalType, boolean_type, non_nullable}
use Rattle.vortex_model.specs.Content.{Content, boolean, integer, text, byte_string}
use Rattle.vortex_model.specs.Valid.{IsContent, AreBytes}
use Rattle.vortex_model.specs.Path.{Names, column as column_value}
use Rattle.vortex_model.specs.Order.{IsAtMost}
use Rattle.vortex_model_table.specs.Bounds.{IsLow, IsHigh, low, high}
use Rattle.vortex_model_table.specs.Expression.{Expression, literal, reads_columns}
use Rattle.vortex_model_table.specs.Truth.{Satisfies}
use Rattle.vortex_model_table.specs.Cut.{covers, cut_row, cut_type}
use Rattle.vortex_model_table.specs.Table.{Table, IsTable, rows_of, answer}
use Rattle.vortex_model_table.specs.Scan.{skipped_chunks}
use Rattle.vortex_model_table.specs.Rewrite.{Sign, letter, wildcard, signs_of, exact_text, beginning, shape_of, falsifier, satisfier}
use Rattle.vortex_model_table.specs.Class.{Box, IsIn, Hopeless}
use Rattle.vortex_model_table.specs.Command.{Command, append_array, step}

abbrev pub truth_value : Bool → Expression
truth_value b = literal (boolean_type non_nullable) (boolean b)

-- WHERE true answers every row, and WHERE false none
abbrev pub TrueSelectsAll : Type 0
TrueSelectsAll = (t : Table) (paths : List Names) →
    answer t paths (truth_value true) ≡ map (cut_row paths t.kind) (rows_of t)

abbrev pub FalseSelectsNone : Type 0
FalseSelectsNone = (t : Table) (paths : List Names) → answer t paths (truth_value false) ≡ []

-- WHERE false skips every chunk
abbrev pub FalseSkipsAll : Type 0
FalseSkipsAll = (t : Table) → IsTable t → skipped_chunks t (truth_value false) ≡
    range_with_len 0 (length t.chunks)

-- each path that one list covers is covered by the other
abbrev pub CoverTheSame : List Names → List Names → Type 0
CoverTheSame paths others = (here : Names) → covers paths here ≡ covers others here

-- path lists that cover the same paths give equal answers, of equal types
abbrev pub CoversTellAnswers : Type 0
CoversTellAnswers =
    (t : Table) (paths others : List Names) (e : Expression) → CoverTheSame paths others →
    (answer t paths e ≡ answer t others e) × (cut_type paths t.kind ≡ cut_type others t.kind)

-- the root path keeps the whole row
abbrev pub RootIsWhole : Type 0
RootIsWhole = (k : LogicalType) (row : Content) → IsContent k row → cut_row ([] ∷ []) k row ≡ row

-- the root path keeps the whole type
abbrev pub RootTypeIsWhole : Type 0
RootTypeIsWhole = (k : LogicalType) → cut_type ([] ∷ []) k ≡ k

-- the rows of an answer are of its type
abbrev pub AnswersAreOfTheirType : Type 0
AnswersAreOfTheirType = (t : Table) (paths : List Names) (e : Expression) → IsTable t →
    AllByRecursion (IsContent (cut_type paths t.kind)) (answer t paths e)

-- no row whose columns are in a hopeless box satisfies the predicate
abbrev pub HopelessBoxesHoldNone : Type 0
HopelessBoxesHoldNone = (k : LogicalType) (e : Expression) (box : Box) (row : Content) →
    Hopeless k e box → IsIn k box (λ xs. column_value k xs row) e → ¬ (Satisfies k e row)

-- a boolean, an integer, a string or bytes
abbrev pub is_leaf_value : Content → Bool
is_leaf_value (boolean b) = true
is_leaf_value (integer z) = true
is_leaf_value (text v) = true
is_leaf_value (byte_string v) = true
is_leaf_value c = false

-- a value is not below its low
abbrev pub LowsAreBelow : Type 0
LowsAreBelow =
    (v : Content) (L : ℕ) (l : Content) → is_leaf_value v ≡ true → IsLow v L l → IsAtMost l v

-- a value is not above its high, where it has one
abbrev pub HighsAreAbove : Type 0
HighsAreAbove = (v : Content) (L : ℕ) (h : Content) → is_leaf_value v ≡ true → IsHigh v L (Some h) →
    IsAtMost v h

-- the built-in falsifiers and satisfiers read columns only through placeholders
abbrev pub BuiltInProofsReadNoColumns : Type 0
BuiltInProofsReadNoColumns = (k : LogicalType) (e : Expression) →
    IfSome (falsifier k e) (λ proof. reads_columns proof ≡ false) ×
    IfSome (satisfier k e) (λ proof. reads_columns proof ≡ false)

-- A pattern's shape is an exact string where its signs are that string's letters, and a prefix
-- where a wildcard follows these.
abbrev pub ShapesAreSpelled : Type 0
ShapesAreSpelled = (form t : List ℕ) →
    ((shape_of form ≡ exact_text t) ↔ (signs_of form ≡ Some (map letter t)))
    × ((shape_of form ≡ beginning t) ↔
    ((rest : List Sign) × (signs_of form ≡ Some (map letter t ++ wildcard ∷ rest))))

-- an appended array has rows of its type
abbrev pub IsFormed : Command → Type 0
IsFormed (append_array s rows) = AllByRecursion (IsContent s) rows
IsFormed c = Unit {0}

-- each command, accepted or refused, keeps what holds of tables
abbrev pub StepsKeepTables : Type 0
StepsKeepTables = (t : Table) (c : Command) → IsFormed c → IsTable t → IsTable (step t c)

-- `low` and `high` of bytes meet their definitions
abbrev pub LowsOfBytes : Type 0
LowsOfBytes = (v : List ℕ) (L : ℕ) → IsLow (byte_string v) L (low L (byte_string v))

abbrev pub HighsOfBytes : Type 0
HighsOfBytes = (v : List ℕ) (L : ℕ) → AreBytes v → IsHigh (byte_string v) L (high L (byte_string v))
