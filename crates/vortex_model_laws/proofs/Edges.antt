-- Definitions evaluated at their limits.
use Rattle.std.proofs.Common.{◌≡◌, refl, ℤ, pos, negsuc, List, [], ◌∷◌, map, Option, Some, None, true, false, Bool}
use Rattle.std.specs.Prelude.{codes}
use Rattle.vortex_model.specs.LogicalType.{LogicalType, IntKind, boolean_type, integer_type, float, decimal, struct, no_fields, field, non_nullable, nullable, list, u8, u16, u32, u64, i8, i16, i32, i64, f32, f64}
use Rattle.vortex_model.specs.Content.{null, boolean, integer, text, tuple, nothing, Raw, raw_null, raw_number, raw_tuple, no_raws}
use Rattle.vortex_model.specs.Valid.{in_range, valid}
use Rattle.vortex_model.specs.Path.{name, element}
use Rattle.vortex_model_table.specs.Expression.{Expression, literal, column, compare, both, either, negation, is_null, is_nan, statistic, equal, not_equal, greater, at_least, less, at_most, min, max, sum, min_max, nan_count, all_non_nan}
use Rattle.vortex_model.specs.Refusal.{Refusal, not_a_record, invalid_value, not_convertible, unknown_path, element_step, placeholder, unknown_column, not_a_leaf, unequal_types, not_boolean, unsupported_predicate}
use Rattle.vortex_model_table.specs.Scan.{ScanAnswer, saturated}
use Rattle.vortex_model_table.specs.Command.{Command, create, append, scan, predicate_fault, path_fault}
use Rattle.vortex_model_table.specs.Truth.{liked, kleene_and, kleene_or}
use Rattle.vortex_model_table.specs.Typing.{type_of_aggregate}
use Rattle.vortex_model_table.specs.Rewrite.{falsifier, satisfier, shape_of, no_shape, beginning, exact_text}
use Rattle.vortex_model_table.specs.Reply.{lines}
use Rattle.vortex_model_table.proofs.Examples.{number, one, raw_row, raw_record, row, record_of, n32, rows32, a, A, b, N, L64, path, col, lit32, made, answer_of, refused, numbers, p, q}

-- ---- the limits of the integer types

abbrev at_ends : IntKind → ℤ → ℤ → ℤ → ℤ → List Bool
at_ends i below least greatest above = map (in_range i) (below ∷ least ∷ greatest ∷ above ∷ [])

abbrev inside : List Bool
inside = false ∷ true ∷ true ∷ false ∷ []

ends_u8 : at_ends u8 (negsuc 0) (pos 0) (pos 255) (pos 256) ≡ inside
ends_u8 = refl

ends_u16 : at_ends u16 (negsuc 0) (pos 0) (pos 65535) (pos 65536) ≡ inside
ends_u16 = refl

ends_u32 : at_ends u32 (negsuc 0) (pos 0) (pos 4294967295) (pos 4294967296) ≡ inside
ends_u32 = refl

ends_u64 : at_ends u64 (negsuc 0) (pos 0) (pos 18446744073709551615) (pos 18446744073709551616) ≡ inside
ends_u64 = refl

ends_i8 : at_ends i8 (negsuc 128) (negsuc 127) (pos 127) (pos 128) ≡ inside
ends_i8 = refl

ends_i16 : at_ends i16 (negsuc 32768) (negsuc 32767) (pos 32767) (pos 32768) ≡ inside
ends_i16 = refl

ends_i32 : at_ends i32 (negsuc 2147483648) (negsuc 2147483647) (pos 2147483647) (pos 2147483648) ≡ inside
ends_i32 = refl

ends_i64 : at_ends i64 (negsuc 9223372036854775808) (negsuc 9223372036854775807) (pos 9223372036854775807) (pos 9223372036854775808) ≡ inside
ends_i64 = refl

abbrev U64 : LogicalType
U64 = one a (integer_type u64 non_nullable)

abbrev of_kind : IntKind → List ℤ → List Raw
of_kind i zs = map (λ z. raw_row (raw_number i z)) zs

too_large_for_u64 : refused (create U64 16 [] ∷ []) (append U64 (of_kind u64 (pos 18446744073709551615 ∷ pos 18446744073709551616 ∷ []))) ≡ Some (invalid_value 1)
too_large_for_u64 = refl

negative_for_u64 : refused (create U64 16 [] ∷ []) (append L64 (of_kind i64 (pos 9223372036854775807 ∷ negsuc 0 ∷ []))) ≡ Some (not_convertible 1)
negative_for_u64 = refl

too_large_for_i64 : refused (create L64 16 [] ∷ []) (append U64 (of_kind u64 (pos 9223372036854775807 ∷ pos 9223372036854775808 ∷ []))) ≡ Some (not_convertible 1)
too_large_for_i64 = refl

-- all rows are tested for validity before any is for conversion
invalid_before_unconvertible : refused (create L64 16 [] ∷ []) (append U64 (of_kind u64 (pos 9223372036854775808 ∷ negsuc 0 ∷ []))) ≡ Some (invalid_value 1)
invalid_before_unconvertible = refl

-- a raw value has an integer type of its own
of_another_kind : valid U64 (raw_row (raw_number i64 (pos 1))) ≡ false
of_another_kind = refl

abbrev ends_of_i64 : List Command
ends_of_i64 = create L64 16 [] ∷ append L64 (of_kind i64 (negsuc 9223372036854775807 ∷ [])) ∷ append L64 (of_kind i64 (pos 9223372036854775807 ∷ [])) ∷ []

abbrev lit64 : ℤ → Expression
lit64 z = literal (integer_type i64 non_nullable) (integer z)

below_the_least : answer_of (made ends_of_i64) (path a ∷ []) (compare less (col a) (lit64 (negsuc 9223372036854775807)))
    ≡ Some (record { rows = []; kind = L64; skipped = 0 ∷ 1 ∷ []; whole = []; rows_tested = 0; proofs = 2 })
below_the_least = refl

at_most_the_least : answer_of (made ends_of_i64) (path a ∷ []) (compare at_most (col a) (lit64 (negsuc 9223372036854775807)))
    ≡ Some (record { rows = row (integer (negsuc 9223372036854775807)) ∷ []; kind = L64; skipped = 1 ∷ []; whole = []; rows_tested = 1; proofs = 2 })
at_most_the_least = refl

greatest_or_more : answer_of (made ends_of_i64) (path a ∷ []) (compare less (lit64 (pos 9223372036854775806)) (col a))
    ≡ Some (record { rows = row (integer (pos 9223372036854775807)) ∷ []; kind = L64; skipped = 0 ∷ []; whole = []; rows_tested = 1; proofs = 2 })
greatest_or_more = refl

-- ---- nulls

abbrev some_null : List Command
some_null = create N 16 [] ∷ append N (raw_row raw_null ∷ raw_row (n32 3) ∷ []) ∷ append N (raw_row raw_null ∷ []) ∷ []

null_is_not_three : answer_of (made some_null) (path a ∷ []) (compare equal (col a) (lit32 3))
    ≡ Some (record { rows = numbers (3 ∷ []); kind = N; skipped = []; whole = []; rows_tested = 3; proofs = 2 })
null_is_not_three = refl

-- bounds leave out nulls, so the first chunk is skipped
null_is_not_other_than_three : answer_of (made some_null) (path a ∷ []) (compare not_equal (col a) (lit32 3))
    ≡ Some (record { rows = []; kind = N; skipped = 0 ∷ []; whole = []; rows_tested = 1; proofs = 2 })
null_is_not_other_than_three = refl

abbrev lit_null : Expression
lit_null = literal (number nullable) null

against_null : answer_of (made some_null) (path a ∷ []) (compare equal (col a) lit_null)
    ≡ Some (record { rows = []; kind = N; skipped = []; whole = []; rows_tested = 3; proofs = 2 })
against_null = refl

null_with_null : answer_of (made some_null) (path a ∷ []) (compare equal lit_null lit_null)
    ≡ Some (record { rows = []; kind = N; skipped = []; whole = []; rows_tested = 3; proofs = 2 })
null_with_null = refl

null_part : refused (create A 16 [] ∷ []) (append A (raw_row (n32 1) ∷ raw_row raw_null ∷ [])) ≡ Some (invalid_value 1)
null_part = refl

null_row : refused (create N 16 [] ∷ []) (append N (raw_row (n32 1) ∷ raw_null ∷ [])) ≡ Some (invalid_value 1)
null_row = refl

null_unconvertible : refused (create A 16 [] ∷ []) (append N (raw_row (n32 1) ∷ raw_row raw_null ∷ [])) ≡ Some (not_convertible 1)
null_unconvertible = refl

nullable_converts : refused (create A 16 [] ∷ []) (append N (raw_row (n32 1) ∷ [])) ≡ None
nullable_converts = refl

row_too_short : refused (create A 16 [] ∷ []) (append A (raw_tuple no_raws ∷ [])) ≡ Some (invalid_value 0)
row_too_short = refl

kleene_false : kleene_and null (boolean false) ≡ boolean false
kleene_false = refl

kleene_null : kleene_and null (boolean true) ≡ null
kleene_null = refl

kleene_true : kleene_or null (boolean true) ≡ boolean true
kleene_true = refl

kleene_unknown : kleene_or null (boolean false) ≡ null
kleene_unknown = refl

-- ---- batches of another shape

abbrev XY : LogicalType
XY = struct (field (codes "x") (number non_nullable) (field (codes "y") (number non_nullable) no_fields)) non_nullable

too_many_parts : refused (create A 16 [] ∷ []) (append XY (raw_record (n32 1 ∷ n32 2 ∷ []) ∷ [])) ≡ Some (not_convertible 0)
too_many_parts = refl

-- without rows nothing is converted
no_rows_of_another_shape : refused (create A 16 [] ∷ []) (append XY []) ≡ None
no_rows_of_another_shape = refl

batch_of_numbers : refused (create A 16 [] ∷ []) (append (number non_nullable) []) ≡ Some not_a_record
batch_of_numbers = refl

no_table_of_numbers : refused [] (create (number nullable) 16 []) ≡ Some not_a_record
no_table_of_numbers = refl

-- ---- two literals, and a column with itself

abbrev three_and_four : List Command
three_and_four = create A 16 [] ∷ append A (rows32 (3 ∷ 4 ∷ [])) ∷ append A (rows32 (4 ∷ 4 ∷ [])) ∷ []

abbrev rows_by : Expression → Option ScanAnswer
rows_by e = answer_of (made three_and_four) (path a ∷ []) e

equal_literals : rows_by (compare equal (lit32 1) (lit32 1))
    ≡ Some (record { rows = numbers (3 ∷ 4 ∷ 4 ∷ 4 ∷ []); kind = A; skipped = []; whole = []; rows_tested = 4; proofs = 2 })
equal_literals = refl

unequal_literals : rows_by (compare equal (lit32 1) (lit32 2))
    ≡ Some (record { rows = []; kind = A; skipped = 0 ∷ 1 ∷ []; whole = []; rows_tested = 0; proofs = 2 })
unequal_literals = refl

literal_at_left : rows_by (compare greater (lit32 4) (col a))
    ≡ Some (record { rows = numbers (3 ∷ []); kind = A; skipped = 1 ∷ []; whole = []; rows_tested = 2; proofs = 2 })
literal_at_left = refl

with_itself : rows_by (compare at_least (col a) (col a))
    ≡ Some (record { rows = numbers (3 ∷ 4 ∷ 4 ∷ 4 ∷ []); kind = A; skipped = []; whole = []; rows_tested = 4; proofs = 2 })
with_itself = refl

above_itself : rows_by (compare greater (col a) (col a))
    ≡ Some (record { rows = []; kind = A; skipped = 1 ∷ []; whole = []; rows_tested = 2; proofs = 2 })
above_itself = refl

other_than_itself : rows_by (compare not_equal (col a) (col a))
    ≡ Some (record { rows = []; kind = A; skipped = 1 ∷ []; whole = []; rows_tested = 2; proofs = 2 })
other_than_itself = refl

-- ---- nothing to scan, and nothing to answer

no_chunks : answer_of (made (create XY 16 [] ∷ [])) ([] ∷ []) (compare equal (lit32 1) (lit32 1))
    ≡ Some (record { rows = []; kind = XY; skipped = []; whole = []; rows_tested = 0; proofs = 0 })
no_chunks = refl

abbrev E : LogicalType
E = struct no_fields non_nullable

empty_rows : answer_of (made (create E 16 [] ∷ append E (raw_tuple no_raws ∷ raw_tuple no_raws ∷ []) ∷ [])) ([] ∷ []) (compare equal (lit32 1) (lit32 1))
    ≡ Some (record { rows = tuple nothing ∷ tuple nothing ∷ []; kind = E; skipped = []; whole = []; rows_tested = 2; proofs = 1 })
empty_rows = refl

by_no_path : answer_of (made (create XY 16 [] ∷ append XY (raw_record (n32 1 ∷ n32 2 ∷ []) ∷ []) ∷ [])) [] (compare less (col (codes "x")) (col (codes "y")))
    ≡ Some (record { rows = tuple nothing ∷ []; kind = E; skipped = []; whole = []; rows_tested = 1; proofs = 1 })
by_no_path = refl

-- the columns are in the type's order, not in that of the paths
by_two_paths : answer_of (made (create XY 16 [] ∷ append XY (raw_record (n32 1 ∷ n32 2 ∷ []) ∷ []) ∷ [])) (path (codes "y") ∷ path (codes "x") ∷ path (codes "y") ∷ []) (compare less (col (codes "x")) (col (codes "y")))
    ≡ Some (record { rows = record_of (integer (pos 1) ∷ integer (pos 2) ∷ []) ∷ []; kind = XY; skipped = []; whole = []; rows_tested = 1; proofs = 1 })
by_two_paths = refl

by_second_path : answer_of (made (create XY 16 [] ∷ append XY (raw_record (n32 1 ∷ n32 2 ∷ []) ∷ []) ∷ [])) (path (codes "y") ∷ []) (compare less (col (codes "x")) (col (codes "y")))
    ≡ Some (record { rows = numbers (2 ∷ []); kind = one (codes "y") (number non_nullable); skipped = []; whole = []; rows_tested = 1; proofs = 1 })
by_second_path = refl

-- ---- faults of paths

element_at_root : path_fault 4 A (element ∷ name (codes "z") ∷ []) ≡ Some (element_step 4)
element_at_root = refl

element_behind_leaf : path_fault 4 A (name a ∷ element ∷ []) ≡ Some (element_step 4)
element_behind_leaf = refl

unknown_before_element : path_fault 4 A (name (codes "z") ∷ element ∷ []) ≡ Some (unknown_path 4)
unknown_before_element = refl

name_behind_leaf : path_fault 4 A (name a ∷ name a ∷ []) ≡ Some (unknown_path 4)
name_behind_leaf = refl

name_behind_list : path_fault 0 (one a (list A nullable)) (name a ∷ name a ∷ []) ≡ Some (unknown_path 0)
name_behind_list = refl

root_path : path_fault 0 A [] ≡ None
root_path = refl

nested_path : path_fault 0 (one p (one q (number nullable))) (name p ∷ name q ∷ []) ≡ None
nested_path = refl

-- paths are judged before the predicate
path_first : refused (create A 16 [] ∷ []) (scan (path (codes "z") ∷ []) (col (codes "z"))) ≡ Some (unknown_path 0)
path_first = refl

-- ---- faults of predicates

abbrev fault : Expression → Option Refusal
fault e = predicate_fault (struct (field a (number nullable) (field b (boolean_type nullable) (field p A no_fields))) non_nullable) e

abbrev unknown : Expression
unknown = col (codes "z")

abbrev asked : Expression
asked = statistic (col a) min

left_unknown : fault (compare equal unknown asked) ≡ Some unknown_column
left_unknown = refl

left_asked : fault (compare equal asked unknown) ≡ Some placeholder
left_asked = refl

child_first : fault (compare equal (lit64 (pos 1)) unknown) ≡ Some unknown_column
child_first = refl

left_child_first : fault (both (compare equal (lit64 (pos 1)) (col a)) unknown) ≡ Some unequal_types
left_child_first = refl

right_child_last : fault (both (col a) (compare equal (lit64 (pos 1)) unknown)) ≡ Some unknown_column
right_child_last = refl

not_truths : fault (either (compare equal (col a) (lit32 1)) (col a)) ≡ Some not_boolean
not_truths = refl

truths : fault (both (col b) (negation (compare equal (col b) (literal (boolean_type non_nullable) (boolean true))))) ≡ None
truths = refl

up_to_nullability : fault (compare equal (col a) (lit32 1)) ≡ None
up_to_nullability = refl

record_column : fault (compare equal (col p) (col p)) ≡ Some not_a_leaf
record_column = refl

whole_row : fault (is_null (column [])) ≡ Some not_a_leaf
whole_row = refl

nested_column : fault (compare equal (column (p ∷ a ∷ [])) (lit32 1)) ≡ None
nested_column = refl

behind_leaf : fault (compare equal (column (p ∷ a ∷ a ∷ [])) (lit32 1)) ≡ Some unknown_column
behind_leaf = refl

float_literal : fault (compare equal (literal (float f32 nullable) null) (literal (float f32 nullable) null)) ≡ Some unsupported_predicate
float_literal = refl

nan_test : fault (is_nan (col a)) ≡ Some unsupported_predicate
nan_test = refl

nan_test_of_unknown : fault (is_nan unknown) ≡ Some unknown_column
nan_test_of_unknown = refl

placeholder_in_placeholder : fault (compare equal (statistic (statistic unknown min) max) (lit32 1)) ≡ Some unknown_column
placeholder_in_placeholder = refl

number_at_root : fault (lit32 1) ≡ Some not_boolean
number_at_root = refl

truth_column_at_root : fault (col b) ≡ None
truth_column_at_root = refl

compared_truths : fault (compare equal (compare equal (col a) (lit32 1)) (col b)) ≡ None
compared_truths = refl

-- ---- proofs

no_bounds_of_records : falsifier XY (compare equal (column []) (column [])) ≡ None
no_bounds_of_records = refl

nan_of_literal : falsifier A (is_nan (literal (float f32 nullable) null))
    ≡ Some (either (compare equal (literal (integer_type u64 non_nullable) (integer (pos 0))) (literal (integer_type u64 non_nullable) (integer (pos 0)))) (statistic (literal (float f32 nullable) null) all_non_nan))
nan_of_literal = refl

nan_of_number : satisfier A (is_nan (col a)) ≡ None
nan_of_number = refl

both_bounds_type : type_of_aggregate min_max (number non_nullable)
    ≡ Some (struct (field (codes "min") (number nullable) (field (codes "max") (number nullable) no_fields)) nullable)
both_bounds_type = refl

no_bounds_of_lists : type_of_aggregate max (list A nullable) ≡ None
no_bounds_of_lists = refl

no_sum_of_decimals : type_of_aggregate sum (decimal 3 (pos 1) nullable) ≡ None
no_sum_of_decimals = refl

nans_of_floats : type_of_aggregate nan_count (float f64 non_nullable) ≡ Some (integer_type u64 nullable)
nans_of_floats = refl

-- a backslash at the end makes the pattern invalid, also after a %
open_end : shape_of (0x61 ∷ 0x25 ∷ 0x5c ∷ []) ≡ no_shape
open_end = refl

escaped_percent : shape_of (0x5c ∷ 0x25 ∷ 0x25 ∷ []) ≡ beginning (0x25 ∷ [])
escaped_percent = refl

escaped_backslash : shape_of (0x61 ∷ 0x5c ∷ 0x5c ∷ []) ≡ exact_text (0x61 ∷ 0x5c ∷ [])
escaped_backslash = refl

null_by_backslash : liked (text (codes "a")) (text (0x5c ∷ 0x61 ∷ [])) true ≡ null
null_by_backslash = refl

-- ---- counts and lines

at_the_greatest : saturated 18446744073709551615 ≡ 18446744073709551615
at_the_greatest = refl

past_the_greatest : saturated 18446744073709551616 ≡ 18446744073709551615
past_the_greatest = refl

three_lines : lines (0x61 ∷ 0x62 ∷ 10 ∷ 10 ∷ 0x63 ∷ []) ≡ (0x61 ∷ 0x62 ∷ []) ∷ [] ∷ (0x63 ∷ []) ∷ []
three_lines = refl

ended_line : lines (0x61 ∷ 10 ∷ []) ≡ (0x61 ∷ []) ∷ []
ended_line = refl

one_empty_line : lines (10 ∷ []) ≡ [] ∷ []
one_empty_line = refl

no_lines : lines [] ≡ []
no_lines = refl
