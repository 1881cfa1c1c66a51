-- Why a command is refused.
use Rattle.std.specs.Prelude.{ℕ, Option, Some, None}

-- An argument is the index of the row, path or entry at fault.
pub data Refusal : Type 0 where
  not_a_record : Refusal
  unkept_type : Refusal
  repeated_name : Refusal
  invalid_value : ℕ → Refusal
  not_convertible : ℕ → Refusal
  total_passed : Refusal
  no_such_group : Refusal
  unknown_path : ℕ → Refusal
  element_step : ℕ → Refusal
  placeholder : Refusal
  unknown_column : Refusal
  not_a_leaf : Refusal
  unequal_types : Refusal
  not_boolean : Refusal
  unsupported_like : Refusal
  no_table : Refusal
  unsupported_predicate : Refusal
  repeated_path : ℕ → Refusal

-- the number of a refusal in an answer
abbrev pub number_of : Refusal → ℕ
number_of not_a_record = 2
number_of unkept_type = 3
number_of repeated_name = 4
number_of (invalid_value i) = 5
number_of (not_convertible i) = 6
number_of total_passed = 7
number_of no_such_group = 8
number_of (unknown_path i) = 9
number_of (element_step i) = 10
number_of placeholder = 11
number_of unknown_column = 12
number_of not_a_leaf = 13
number_of unequal_types = 14
number_of not_boolean = 15
number_of unsupported_like = 16
number_of no_table = 19
number_of unsupported_predicate = 20
number_of (repeated_path i) = 21

-- the index beside the number in an answer, where there is one
abbrev pub index_of : Refusal → Option ℕ
index_of (invalid_value i) = Some i
index_of (not_convertible i) = Some i
index_of (unknown_path i) = Some i
index_of (element_step i) = Some i
index_of (repeated_path i) = Some i
index_of r = None

-- the first refusal, or else the second
abbrev pub or_else : Option Refusal → Option Refusal → Option Refusal
or_else None q = q
or_else (Some r) q = Some r
