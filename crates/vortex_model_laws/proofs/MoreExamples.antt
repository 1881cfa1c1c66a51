-- Definitions evaluated on more examples.
use Rattle.std.proofs.Common.{◌≡◌, refl, ℕ, pos, List, [], ◌∷◌, Option, Some, None, true, false}
use Rattle.std.specs.Prelude.{codes}
use Rattle.std.specs.Str.{chars, is_utf8}
use Rattle.vortex_model.specs.LogicalType.{LogicalType, boolean_type, utf8, list, struct, no_fields, field, non_nullable, nullable}
use Rattle.vortex_model.specs.Content.{Content, boolean, integer, text, byte_string, tuple, nothing, raw_null, raw_text}
use Rattle.vortex_model_table.specs.Bounds.{low, high}
use Rattle.vortex_model.specs.Path.{name, element}
use Rattle.vortex_model_table.specs.Expression.{literal, column, compare, both, either, negation, is_null, is_not_null, between, like, statistic, equal, greater, at_least, less, min}
use Rattle.vortex_model.specs.Refusal.{unknown_path, no_such_group}
use Rattle.vortex_model_table.specs.Statistics.{exact, inexact, absent}
use Rattle.vortex_model_table.specs.ZoneMap.{ZoneMap}
use Rattle.vortex_model_table.specs.Command.{Command, create, append, join, retype, compact, scan, describe}
use Rattle.vortex_model.specs.LogicalType.{float, f32}
use Rattle.vortex_model_table.specs.Command.{append_array, entries_fault}
use Rattle.vortex_model.specs.Refusal.{repeated_name, unkept_type, unknown_column, not_a_leaf, repeated_path, element_step, not_boolean, unsupported_like, not_a_record, invalid_value, unsupported_predicate}
use Rattle.vortex_model_table.specs.Expression.{row_count}
use Rattle.vortex_model.specs.Kept.{type_fault}
use Rattle.vortex_model.specs.Convert.{converts}
use Rattle.vortex_model_table.specs.Class.{is_single_use, is_wide}
use Rattle.vortex_model_table.proofs.Examples.{B, byte_strings, number, one, raw_row, raw_record, row, record_of, n32, rows32, a, A, path, col, lit32, made, filled, answer_of, refused, refused_there, numbers, s, S, lit_text, texts, zone_in, bounds_in, b, and_more, lit_true, N}

-- ---- bounds

accented : low 1 (text (0xc3 ∷ 0xa9 ∷ [])) ≡ text []
unfolding chars lib.Utf8.encode
accented = refl

accented_high : high 1 (text (0xc3 ∷ 0xa9 ∷ [])) ≡ None
unfolding chars lib.Utf8.encode
accented_high = refl

not_shortened : high 2 (byte_string (0xff ∷ 0xff ∷ [])) ≡ Some (byte_string (0xff ∷ 0xff ∷ []))
not_shortened = refl

carry : high 2 (byte_string (0 ∷ 0xff ∷ 0xff ∷ [])) ≡ Some (byte_string (1 ∷ 0 ∷ []))
carry = refl

raised_earlier : high 6 (text (0x61 ∷ 0x62 ∷ 0xf4 ∷ 0x8f ∷ 0xbf ∷ 0xbf ∷ 0x78 ∷ [])) ≡ Some (text (codes "ac"))
unfolding chars lib.Utf8.encode
raised_earlier = refl

-- ---- types

repeated : type_fault (struct (field a (number non_nullable) (field a (number non_nullable) no_fields)) non_nullable) ≡ Some repeated_name
repeated = refl

unkept : type_fault (one (codes "p") (struct (field (codes "q") (float f32 non_nullable) no_fields) non_nullable)) ≡ Some unkept_type
unkept = refl

root : type_fault (struct no_fields nullable) ≡ Some not_a_record
root = refl

empty_converts : converts (list (number non_nullable) non_nullable) (list (utf8 non_nullable) non_nullable) (tuple nothing) ≡ true
empty_converts = refl

-- ---- groups

abbrev nulls : List Command
nulls = create N 16 [] ∷ append N (raw_row raw_null ∷ raw_row raw_null ∷ raw_row raw_null ∷ raw_row raw_null ∷ []) ∷ []

all_nulls : zone_in (made nulls) (0 ∷ []) 0 ≡ Some (record { low = absent; high = absent; nulls = 4; rows = 4; total = exact (pos 0); constant = exact true })
all_nulls = refl

nulls_joined : zone_in (made (and_more nulls (append N (rows32 (3 ∷ [])) ∷ join 0 ∷ []))) (0 ∷ []) 0
    ≡ Some (record { low = absent; high = absent; nulls = 4; rows = 5; total = exact (pos 3); constant = absent })
nulls_joined = refl

abbrev three : List Command
three = create A 16 [] ∷ append A (rows32 (1 ∷ [])) ∷ append A (rows32 (2 ∷ [])) ∷ append A (rows32 (3 ∷ [])) ∷ []

abbrev of_three : Option ZoneMap
of_three = Some (record { low = exact (integer (pos 1)); high = exact (integer (pos 3)); nulls = 0; rows = 3; total = exact (pos 6); constant = exact false })

joined_left : zone_in (made (and_more three (join 0 ∷ join 0 ∷ []))) (0 ∷ []) 0 ≡ of_three
joined_left = refl

joined_right : zone_in (made (and_more three (join 1 ∷ join 0 ∷ []))) (0 ∷ []) 0 ≡ of_three
joined_right = refl

no_second : refused (create A 16 [] ∷ append A (rows32 (1 ∷ [])) ∷ []) (join 0) ≡ Some no_such_group
no_second = refl

far_group : refused three (join 18446744073709551615) ≡ Some no_such_group
far_group = refl

no_description : refused three (describe (path a) 3) ≡ Some no_such_group
no_description = refl

abbrev grouped : List Command
grouped = create A 16 [] ∷ append A (rows32 (1 ∷ 2 ∷ [])) ∷ append A (rows32 (3 ∷ 4 ∷ [])) ∷ append A (rows32 (10 ∷ [])) ∷ join 0 ∷ []

group_skipped : answer_of (made grouped) (path a ∷ []) (compare greater (col a) (lit32 5))
    ≡ Some (record { rows = numbers (10 ∷ []); kind = A; skipped = 0 ∷ 1 ∷ []; whole = []; rows_tested = 1; proofs = 2 })
group_skipped = refl

group_opened : answer_of (made grouped) (path a ∷ []) (compare greater (col a) (lit32 3))
    ≡ Some (record { rows = numbers (4 ∷ 10 ∷ []); kind = A; skipped = 0 ∷ []; whole = []; rows_tested = 3; proofs = 4 })
group_opened = refl

abbrev AB : LogicalType
AB = struct (field a (number non_nullable) (field b (number non_nullable) no_fields)) non_nullable

abbrev two_columns : List Command
two_columns = create AB 16 [] ∷ append AB (raw_record (n32 1 ∷ n32 5 ∷ []) ∷ raw_record (n32 3 ∷ n32 9 ∷ []) ∷ []) ∷ []

above_skipped : answer_of (made two_columns) (path a ∷ []) (compare greater (col a) (col b))
    ≡ Some (record { rows = []; kind = A; skipped = 0 ∷ []; whole = []; rows_tested = 0; proofs = 1 })
above_skipped = refl

equal_skipped : answer_of (made two_columns) (path a ∷ []) (compare equal (col a) (col b))
    ≡ Some (record { rows = []; kind = A; skipped = 0 ∷ []; whole = []; rows_tested = 0; proofs = 1 })
equal_skipped = refl

below_tested : answer_of (made two_columns) (path a ∷ []) (compare less (col a) (col b))
    ≡ Some (record { rows = numbers (1 ∷ 3 ∷ []); kind = A; skipped = []; whole = []; rows_tested = 2; proofs = 1 })
below_tested = refl

abbrev NB : LogicalType
NB = struct (field a (number nullable) (field b (number non_nullable) no_fields)) non_nullable

null_and_above : answer_of (made (create NB 16 [] ∷ append NB (raw_record (raw_null ∷ n32 1 ∷ []) ∷ raw_record (raw_null ∷ n32 9 ∷ []) ∷ []) ∷ append NB (raw_record (n32 3 ∷ n32 1 ∷ []) ∷ []) ∷ []))
    [] (both (is_not_null (col a)) (compare greater (col b) (lit32 5)))
    ≡ Some (record { rows = []; kind = struct no_fields non_nullable; skipped = 0 ∷ 1 ∷ []; whole = []; rows_tested = 0; proofs = 2 })
null_and_above = refl

-- ---- literals and refusals

literal_false : answer_of (made (create A 16 [] ∷ append A (rows32 (1 ∷ [])) ∷ [])) (path a ∷ []) (literal (boolean_type non_nullable) (boolean false))
    ≡ Some (record { rows = []; kind = A; skipped = 0 ∷ []; whole = []; rows_tested = 0; proofs = 1 })
literal_false = refl

not_true : answer_of (made (create A 16 [] ∷ append A (rows32 (1 ∷ 2 ∷ [])) ∷ [])) (path a ∷ []) (negation lit_true)
    ≡ Some (record { rows = []; kind = A; skipped = []; whole = []; rows_tested = 2; proofs = 0 })
not_true = refl

unknown_below_placeholder : refused three (scan (path a ∷ []) (is_null (statistic (col (codes "zz")) min))) ≡ Some unknown_column
unknown_below_placeholder = refl

root_column : refused three (scan [] (is_null (column []))) ≡ Some not_a_leaf
root_column = refl

stepped_in : refused three (scan ((name a ∷ element ∷ []) ∷ []) lit_true) ≡ Some (element_step 0)
stepped_in = refl

unstepped : refused three (scan ([] ∷ (element ∷ name (codes "z") ∷ []) ∷ []) lit_true) ≡ Some (element_step 1)
unstepped = refl

number_as_truth : refused three (scan [] (col a)) ≡ Some not_boolean
number_as_truth = refl

counted_rows : refused three (scan [] (compare equal row_count (lit32 1))) ≡ Some unsupported_predicate
counted_rows = refl

backslash : refused_there (create S 5 [] ∷ []) (scan [] (like (col s) (lit_text (0x61 ∷ 0x5c ∷ 0x25 ∷ [])) false false)) ≡ Some unsupported_like
backslash = refl

invalid : refused (create A 16 [] ∷ []) (append A (raw_row (n32 1) ∷ raw_row raw_null ∷ [])) ≡ Some (invalid_value 1)
invalid = refl

-- ---- retyping, bound lengths by position

abbrev BA : LogicalType
BA = struct (field b (number non_nullable) (field a (number non_nullable) no_fields)) non_nullable

abbrev swapped : List Command
swapped = create AB 16 [] ∷ append AB (raw_record (n32 1 ∷ n32 100 ∷ []) ∷ []) ∷ retype BA ∷ []

by_position_skipped : answer_of (made swapped) ([] ∷ []) (compare greater (col b) (lit32 50))
    ≡ Some (record { rows = []; kind = BA; skipped = 0 ∷ []; whole = []; rows_tested = 0; proofs = 1 })
by_position_skipped = refl

by_position_found : answer_of (made swapped) ([] ∷ []) (compare greater (col a) (lit32 50))
    ≡ Some (record { rows = record_of (integer (pos 1) ∷ integer (pos 100) ∷ []) ∷ []; kind = BA; skipped = []; whole = []; rows_tested = 1; proofs = 1 })
by_position_found = refl

abbrev t : List ℕ
t = codes "t"

abbrev ST : LogicalType
ST = struct (field s (utf8 non_nullable) (field t (utf8 non_nullable) no_fields)) non_nullable

abbrev XY : LogicalType
XY = struct (field (codes "x") (utf8 non_nullable) (field (codes "y") (utf8 non_nullable) no_fields)) non_nullable

abbrev two_lengths : List Command
two_lengths = create ST 16 ((path s, 2) ∷ []) ∷ append ST (raw_record (raw_text (codes "abcd") ∷ raw_text (codes "abcd") ∷ []) ∷ []) ∷ []

first_short : bounds_in (made two_lengths) (0 ∷ []) 0 ≡ Some (inexact (text (codes "ab")), inexact (text (codes "ac")))
unfolding chars is_utf8 lib.Utf8.encode
first_short = refl

second_whole : bounds_in (made two_lengths) (1 ∷ []) 0 ≡ Some (exact (text (codes "abcd")), exact (text (codes "abcd")))
unfolding chars is_utf8 lib.Utf8.encode
second_whole = refl

kept_lengths : bounds_in (made (and_more two_lengths (retype XY ∷ append XY (raw_record (raw_text (codes "zzzz") ∷ raw_text (codes "q") ∷ []) ∷ []) ∷ []))) (0 ∷ []) 1
    ≡ Some (inexact (text (codes "zz")), inexact (text (codes "z{")))
unfolding chars is_utf8 lib.Utf8.encode
kept_lengths = refl

repeated_length : entries_fault 0 ST [] ((path s, 2) ∷ (path s, 3) ∷ []) ≡ Some (repeated_path 1)
repeated_length = refl

unknown_length : entries_fault 0 ST [] ((path (codes "u"), 2) ∷ []) ≡ Some (unknown_path 0)
unknown_length = refl

record_length : entries_fault 0 (one (codes "p") (struct (field (codes "q") (utf8 non_nullable) no_fields) non_nullable)) [] ((path (codes "p"), 2) ∷ []) ≡ Some not_a_leaf
record_length = refl

-- ---- strings

abbrev near : List Command
near = create S 3 [] ∷ append S (texts (codes "aaaa" ∷ [])) ∷ append S (texts (codes "aaab" ∷ [])) ∷ []

near_tested : answer_of (made near) (path s ∷ []) (compare equal (col s) (lit_text (codes "aaac")))
    ≡ Some (record { rows = []; kind = S; skipped = []; whole = []; rows_tested = 2; proofs = 2 })
unfolding chars is_utf8 lib.Utf8.encode
near_tested = refl

near_skipped : answer_of (made near) (path s ∷ []) (compare greater (col s) (lit_text (codes "aab")))
    ≡ Some (record { rows = []; kind = S; skipped = 0 ∷ 1 ∷ []; whole = []; rows_tested = 0; proofs = 2 })
unfolding chars is_utf8 lib.Utf8.encode
near_skipped = refl

near_at_least : answer_of (made near) (path s ∷ []) (compare at_least (col s) (lit_text (codes "aac")))
    ≡ Some (record { rows = []; kind = S; skipped = 0 ∷ 1 ∷ []; whole = []; rows_tested = 0; proofs = 2 })
unfolding chars is_utf8 lib.Utf8.encode
near_at_least = refl

like_raised : answer_of (made (create S 16 [] ∷ append S (texts (codes "b" ∷ [])) ∷ [])) (path s ∷ []) (like (col s) (lit_text (0x61 ∷ 0x7f ∷ 0x25 ∷ [])) false false)
    ≡ Some (record { rows = []; kind = S; skipped = 0 ∷ []; whole = []; rows_tested = 0; proofs = 1 })
unfolding chars is_utf8 lib.Utf8.encode
like_raised = refl

high_raised : answer_of (made (create S 2 [] ∷ append S (texts ((0x61 ∷ 0x7f ∷ 0x62 ∷ []) ∷ [])) ∷ [])) (path s ∷ []) (compare greater (col s) (lit_text (codes "b")))
    ≡ Some (record { rows = []; kind = S; skipped = 0 ∷ []; whole = []; rows_tested = 0; proofs = 1 })
unfolding chars is_utf8 lib.Utf8.encode
high_raised = refl

-- ---- lists, by their rows

abbrev L : LogicalType
L = one (codes "l") (list (number non_nullable) non_nullable)

abbrev list_rows : List Content
list_rows = row (record_of (integer (pos 1) ∷ integer (pos 2) ∷ integer (pos 3) ∷ [])) ∷ row (record_of (integer (pos 2) ∷ integer (pos 3) ∷ [])) ∷ []

lists_compacted : answer_of (filled (create L 16 [] ∷ append_array L list_rows ∷ compact ∷ [])) ([] ∷ []) (compare equal (lit32 1) (lit32 1))
    ≡ Some (record { rows = list_rows; kind = L; skipped = []; whole = []; rows_tested = 2; proofs = 1 })
lists_compacted = refl

-- ---- classes

repeated_column : is_single_use (both (compare greater (col a) (lit32 5)) (compare less (col a) (lit32 3))) ≡ false
repeated_column = refl

in_first : is_single_use (either (compare greater (lit32 5) (col a)) (compare less (col b) (col s))) ≡ true
in_first = refl

alternatives : is_wide (either (compare equal (col a) (lit32 1)) (either (compare equal (col a) (lit32 5)) (compare equal (col a) (lit32 9)))) ≡ true
alternatives = refl

both_sides : is_wide (both (compare greater (col a) (lit32 5)) (compare less (col a) (lit32 3))) ≡ false
both_sides = refl

with_itself : is_wide (compare less (col a) (col a)) ≡ false
with_itself = refl

-- the column has to be null under the test and a value outside it
tested_and_compared : is_wide (either (compare equal (col a) (lit32 9)) (is_null (col a))) ≡ false
tested_and_compared = refl

tested_twice : is_wide (either (is_null (col a)) (either (is_not_null (col a)) (compare equal (col b) (lit32 9)))) ≡ true
tested_twice = refl

strict_between : is_wide (between (col a) (lit32 1) (lit32 2) true true) ≡ false
strict_between = refl

wide_like : is_wide (both (like (col s) (lit_text (codes "pre%")) false false) (is_null (col a))) ≡ true
unfolding chars lib.Utf8.encode
wide_like = refl

-- the last character of this prefix, 7f, can't be raised
narrow_like : is_wide (like (col s) (lit_text (0x61 ∷ 0x7f ∷ 0x25 ∷ [])) false false) ≡ false
unfolding chars lib.Utf8.encode
narrow_like = refl

percent_alone : is_wide (like (col s) (lit_text (codes "%")) false false) ≡ false
unfolding chars lib.Utf8.encode
percent_alone = refl

-- no value from its low to its high matches, but it is tested
narrow_tested : answer_of (made (create S 16 [] ∷ append S (texts ((0x61 ∷ 0xc2 ∷ 0x80 ∷ []) ∷ [])) ∷ [])) (path s ∷ []) (like (col s) (lit_text (0x61 ∷ 0x7f ∷ 0x25 ∷ [])) false false)
    ≡ Some (record { rows = []; kind = S; skipped = []; whole = []; rows_tested = 1; proofs = 1 })
unfolding chars is_utf8 lib.Utf8.encode
narrow_tested = refl

highest_first : bounds_in (made (create S 4 [] ∷ append S (texts ((0xf4 ∷ 0x8f ∷ 0xbf ∷ 0xbf ∷ 0x78 ∷ []) ∷ [])) ∷ [])) (0 ∷ []) 0
    ≡ Some (inexact (text (0xf4 ∷ 0x8f ∷ 0xbf ∷ 0xbf ∷ [])), absent)
unfolding chars is_utf8 lib.Utf8.encode
highest_first = refl

middle_counted : bounds_in (made (create B 2 [] ∷ append B (byte_strings ((0xff ∷ 0 ∷ 0xff ∷ []) ∷ [])) ∷ [])) (0 ∷ []) 0
    ≡ Some (inexact (byte_string (0xff ∷ 0 ∷ [])), inexact (byte_string (0xff ∷ 1 ∷ [])))
middle_counted = refl

abbrev T : LogicalType
T = one t (utf8 nullable)

abbrev retyped : List Command
retyped = create S 5 [] ∷ append S (texts ((0x63 ∷ 0x68 ∷ 0x61 ∷ 0x72 ∷ 0xf0 ∷ 0x9f ∷ 0xaa ∷ 0xa9 ∷ []) ∷ [])) ∷ retype T ∷ []

carried_bounds : bounds_in (made retyped) (0 ∷ []) 0 ≡ Some (inexact (text (codes "char")), inexact (text (codes "chas")))
unfolding chars is_utf8 lib.Utf8.encode
carried_bounds = refl

carried_skipped : answer_of (made retyped) (path t ∷ []) (compare at_least (col t) (lit_text (codes "chat")))
    ≡ Some (record { rows = []; kind = T; skipped = 0 ∷ []; whole = []; rows_tested = 0; proofs = 1 })
unfolding chars is_utf8 lib.Utf8.encode
carried_skipped = refl
