-- The premises of laws on examples: they can be met, and dropping one makes the law false.
use Rattle.std.proofs.Common.{◌≡◌, refl, ℕ, pos, arith, List, [], ◌∷◌, Option, Some, None, map, Bool, true, false}
use Rattle.std.specs.Prelude.{codes, option_map}
use Rattle.std.specs.Str.{chars}
use Rattle.vortex_model.specs.LogicalType.{LogicalType, IntKind, boolean_type, integer_type, utf8, struct, field, no_fields, non_nullable, nullable, i16, i32, i64}
use Rattle.vortex_model.specs.Content.{Content, null, boolean, integer, text, tuple, nothing, first, is_null}
use Rattle.vortex_model.specs.Path.{Names}
use Rattle.vortex_model_table.specs.Expression.{Expression, literal, column, compare, both, either, between, like, is_null as is_null_test, is_not_null, statistic, greater, less, equal, not_equal, min, null_count}
use Rattle.vortex_model_table.specs.Truth.{evaluate}
use Rattle.vortex_model_table.specs.Statistics.{exact, absent}
use Rattle.vortex_model_table.specs.ZoneMap.{ZoneMap, low_of_values, high_of_values, zone_of, Joins, alone, together, made_by}
use Rattle.vortex_model_table.specs.Rewrite.{falsifier, count_literal}
use Rattle.vortex_model_table.specs.Table.{Table, rows_of}
use Rattle.vortex_model_table.specs.Scan.{chunk_zone, proves, skipped_in_group, tested, is_skipped, chunk_outcome, numbers, outcomes, skipped_chunks, proofs, rows_tested}
use Rattle.vortex_model_table.specs.Command.{Command, create, append_array, join, retype, refusal, after, predicate_fault, steps}
use Rattle.vortex_model_table.specs.Class.{is_bounded, is_single_use, is_wide, of_choice, Hopeless}
use Rattle.vortex_model_laws.specs.Binding.{Binder, bound}
use Rattle.vortex_model_laws.specs.Exact.{box_of_chunk}
use Rattle.vortex_model_laws.specs.Laws.{groups_of_many}
use Rattle.vortex_model_laws.specs.Runs.{handed_in}

-- a struct of one integer field
abbrev record_named : List ℕ → IntKind → LogicalType
record_named x i = struct (field x (integer_type i non_nullable) no_fields) non_nullable

abbrev row_of : ℕ → Content
row_of n = tuple (first (integer (pos n)) nothing)

abbrev pub a : Expression
a = column (codes "a" ∷ [])

abbrev number : ℕ → Expression
number n = literal (integer_type i32 non_nullable) (integer (pos n))

abbrev pub low_chunk : List Content
low_chunk = row_of 1 ∷ row_of 9 ∷ []

abbrev high_chunk : List Content
high_chunk = row_of 5 ∷ row_of 30 ∷ []

abbrev pub table : Table
table = record { kind = record_named (codes "a") i32; default = 16; lengths = []; chunks = low_chunk ∷ low_chunk ∷ high_chunk ∷ []; groups = 2 ∷ 1 ∷ [] }

abbrev pub above_20 : Expression
above_20 = compare greater a (number 20)

-- ---- groups, and counts

in_group : outcomes table above_20 ≡ skipped_in_group ∷ skipped_in_group ∷ tested ∷ []
in_group = refl

grouped_skipped : skipped_chunks table above_20 ≡ 0 ∷ 1 ∷ []
grouped_skipped = refl

alone_skipped : numbers is_skipped 0 (map (chunk_outcome table above_20) table.chunks) ≡ 0 ∷ 1 ∷ []
alone_skipped = refl

-- one proof for the group and one for the chunk outside it
two_proofs : proofs table above_20 ≡ 2
two_proofs = refl

one_group : groups_of_many table ≡ 1
one_group = refl

two_rows : rows_tested table above_20 ≡ 2
two_rows = refl

-- ---- exactly the hopeless

accepted : predicate_fault table.kind above_20 ≡ None
accepted = refl

single : is_wide above_20 ≡ true
single = refl

bounds_there : is_bounded (box_of_chunk table high_chunk) above_20 ≡ true
bounds_there = refl

-- the tested chunk isn't hopeless: 30 is between its bounds
some_choice : evaluate (of_choice (λ xs. integer (pos 30))) above_20 ≡ boolean true
some_choice = refl

-- no value of the first chunks is from 10 to 40, so they are skipped
abbrev from_10 : Expression
from_10 = between a (number 10) (number 40) false false

single_range : is_wide from_10 ≡ true
single_range = refl

range_skipped : skipped_chunks table from_10 ≡ 0 ∷ 1 ∷ []
range_skipped = refl

-- An OR may have a column on both sides. Two of these alternatives are between no chunk's bounds,
-- and 7 is between all.
abbrev one_of_two : Expression
one_of_two = either (compare equal a (number 0)) (compare equal a (number 31))

abbrev one_of_three : Expression
one_of_three = either (compare equal a (number 0)) (either (compare equal a (number 7)) (compare equal a (number 31)))

alternatives_wide : is_wide one_of_three ≡ true
alternatives_wide = refl

alternatives_bounded : is_bounded (box_of_chunk table high_chunk) one_of_three ≡ true
alternatives_bounded = refl

none_between : skipped_chunks table one_of_two ≡ 0 ∷ 1 ∷ 2 ∷ []
none_between = refl

one_between : skipped_chunks table one_of_three ≡ []
one_between = refl

-- no value is below 3 and above 8, but the chunk is tested, since the column is on both sides of an
-- AND
abbrev twice : Expression
twice = both (compare less a (number 3)) (compare greater a (number 8))

not_single : is_wide twice ≡ false
not_single = refl

tested_twice : chunk_outcome table twice low_chunk ≡ tested
tested_twice = refl

-- ---- null tests

-- two integer columns, the first nullable
abbrev pairs : LogicalType
pairs = struct (field (codes "a") (integer_type i32 nullable) (field (codes "b") (integer_type i32 non_nullable) no_fields)) non_nullable

abbrev pair_of : Content → ℕ → Content
pair_of c n = tuple (first c (first (integer (pos n)) nothing))

abbrev no_numbers : List Content
no_numbers = pair_of null 1 ∷ pair_of null 9 ∷ []

abbrev one_number : List Content
one_number = pair_of null 1 ∷ pair_of (integer (pos 3)) 9 ∷ []

abbrev pair_table : Table
pair_table = record { kind = pairs; default = 16; lengths = []; chunks = no_numbers ∷ one_number ∷ []; groups = 2 ∷ [] }

abbrev known_and_large : Expression
known_and_large = both (is_not_null a) (compare greater (column (codes "b" ∷ [])) (number 5))

wide_test : is_wide known_and_large ≡ true
wide_test = refl

test_accepted : predicate_fault pairs known_and_large ≡ None
test_accepted = refl

-- only b has to have bounds
tested_needs_no_bounds : is_bounded (box_of_chunk pair_table no_numbers) known_and_large ≡ true
tested_needs_no_bounds = refl

-- each value of a is null
only_nulls_skipped : skipped_chunks pair_table known_and_large ≡ 0 ∷ []
only_nulls_skipped = refl

-- b has the values 1 and 9, and 7 is between them
test_holds : evaluate (of_choice (λ xs. integer (pos 7))) known_and_large ≡ boolean true
test_holds = refl

no_nulls_skipped : skipped_chunks table (is_null_test a) ≡ 0 ∷ 1 ∷ 2 ∷ []
no_nulls_skipped = refl

-- A chunk without rows would be hopeless, since its columns have no values, but would be tested. A
-- table has none.
abbrev null_or_any : Expression
null_or_any = either (is_null_test a) (literal (boolean_type non_nullable) (boolean true))

empty_tested : chunk_outcome pair_table null_or_any [] ≡ tested
empty_tested = refl

empty_is_hopeless : Hopeless pairs null_or_any (box_of_chunk pair_table [])
empty_is_hopeless choice inside holds = by_null (is_null (choice (codes "a" ∷ []))) refl
  where
    by_null : (b : Bool) → is_null (choice (codes "a" ∷ [])) ≡ b → ⊥
    by_null true e = inside.0.at_null e refl
    by_null false e = let none = (inside.0.at_value e).1 in omega (arith, none)

-- ---- LIKE

abbrev texts : LogicalType
texts = struct (field (codes "s") (utf8 non_nullable) no_fields) non_nullable

abbrev text_row : List ℕ → Content
text_row t = tuple (first (text t) nothing)

abbrev text_table : Table
text_table = record {
  kind = texts;
  default = 16;
  lengths = [];
  chunks = (text_row (codes "zeta") ∷ []) ∷ (text_row (codes "prefix-one") ∷ []) ∷ (text_row (codes "alpha") ∷ text_row (codes "zeta") ∷ []) ∷ [];
  groups = 1 ∷ 1 ∷ 1 ∷ [];
}

abbrev s_like : List ℕ → Expression
s_like form = like (column (codes "s" ∷ [])) (literal (utf8 non_nullable) (text form)) false false

abbrev from_prefix : Expression
from_prefix = s_like (codes "prefix%")

wide_like : is_wide from_prefix ≡ true
unfolding chars lib.Utf8.encode
wide_like = refl

like_accepted : predicate_fault texts from_prefix ≡ None
like_accepted = refl

-- the last chunk is tested: "prefix" is between its bounds
prefix_skipped : skipped_chunks text_table from_prefix ≡ 0 ∷ []
unfolding chars lib.Utf8.encode
prefix_skipped = refl

prefix_itself : evaluate (of_choice (λ xs. text (codes "prefix"))) from_prefix ≡ boolean true
unfolding chars lib.Utf8.encode
prefix_itself = refl

text_skipped : skipped_chunks text_table (s_like (codes "prefix-two")) ≡ 0 ∷ 1 ∷ []
unfolding chars lib.Utf8.encode
text_skipped = refl

-- ---- joins

abbrev zone_of_numbers : List Content → Joins
zone_of_numbers cs = alone (zone_of (integer_type i32 nullable) 16 cs)

abbrev numbers_of : List ℕ → List Content
numbers_of ns = map (λ n. integer (pos n)) ns

abbrev two_joined : List Content → List Content → ZoneMap
two_joined cs ds = made_by (integer_type i32 nullable) (together (zone_of_numbers cs) (zone_of_numbers ds))

sum_of_two : (two_joined (numbers_of (1 ∷ 9 ∷ [])) (numbers_of (5 ∷ 30 ∷ []))).total ≡ exact (pos 45)
sum_of_two = refl

unequal_lows : (two_joined (numbers_of (7 ∷ 7 ∷ [])) (numbers_of (8 ∷ []))).constant ≡ exact false
unequal_lows = refl

equal_lows : (two_joined (numbers_of (7 ∷ 7 ∷ [])) (numbers_of (7 ∷ []))).constant ≡ exact true
equal_lows = refl

-- each is constant, and one has no low
missing_low : (two_joined (null ∷ []) (numbers_of (7 ∷ []))).constant ≡ absent
missing_low = refl

single_use : is_single_use above_20 ≡ true
single_use = refl

-- ---- repeated values

-- a dictionary of 3, 8 and a value that no code references
repeated_low : low_of_values 16 (numbers_of (8 ∷ 3 ∷ 8 ∷ 3 ∷ [])) ≡ low_of_values 16 (numbers_of (3 ∷ 8 ∷ []))
repeated_low = refl

unreferenced_high : high_of_values 16 (numbers_of (3 ∷ 8 ∷ 9 ∷ [])) ≡ exact (integer (pos 9))
unreferenced_high = refl

sum_of_one : (zone_of (integer_type i32 nullable) 16 (integer (pos 7) ∷ integer (pos 7) ∷ integer (pos 7) ∷ [])).total ≡ exact (pos 21)
sum_of_one = refl

-- ---- runs of commands

abbrev number_rows : LogicalType
number_rows = record_named (codes "a") i32

abbrev handed : ℕ → Command
handed n = append_array number_rows (row_of n ∷ [])

-- a join that is refused, an append that is refused for its type, and a create that replaces the
-- table
abbrev commands : List Command
commands = handed 1 ∷ create number_rows 16 [] ∷ handed 2 ∷ create number_rows 16 [] ∷ handed 3 ∷ join 7 ∷ append_array pairs no_numbers ∷ handed 4 ∷ join 0 ∷ []

handed_over : handed_in None [] commands ≡ row_of 3 ∷ row_of 4 ∷ []
handed_over = refl

left_rows : option_map rows_of (steps None commands) ≡ Some (row_of 3 ∷ row_of 4 ∷ [])
left_rows = refl

-- the chunks are one group, which isn't skipped; 3 is not above 3
skipped_behind : option_map (λ t. skipped_chunks t (compare greater a (number 3))) (steps None commands) ≡ Some (0 ∷ [])
skipped_behind = refl

-- ---- proofs by tighter zone maps

abbrev zones_from : ℕ → ℕ → Names → Option ZoneMap
zones_from low high xs = Some (record { low = exact (integer (pos low)); high = exact (integer (pos high)); nulls = 0; rows = 2; total = absent; constant = absent })

wide_proves : proves (zones_from 1 9) 4 (falsifier table.kind above_20) ≡ true
wide_proves = refl

narrow_proves : proves (zones_from 3 5) 2 (falsifier table.kind above_20) ≡ true
narrow_proves = refl

-- a low above its high is excluded
abbrev not_5 : Expression
not_5 = compare not_equal a (number 5)

one_value_proves : proves (zones_from 5 5) 2 (falsifier table.kind not_5) ≡ true
one_value_proves = refl

upside_down : proves (zones_from 6 4) 2 (falsifier table.kind not_5) ≡ false
upside_down = refl

-- another number of rows in place of one is excluded
abbrev null_is_there : Expression
null_is_there = is_not_null (literal (integer_type i32 nullable) null)

of_one_row : proves (λ xs. None) 1 (falsifier table.kind null_is_there) ≡ true
of_one_row = refl

of_two_rows : proves (λ xs. None) 2 (falsifier table.kind null_is_there) ≡ false
of_two_rows = refl

-- ---- retyping

abbrev wider : LogicalType
wider = record_named (codes "b") i64

abbrev narrower : LogicalType
narrower = record_named (codes "c") i16

first_accepted : refusal table (retype wider) ≡ None
first_accepted = refl

second_accepted : refusal (after table (retype wider)) (retype narrower) ≡ None
second_accepted = refl

low_before : option_map (λ z. z.low) (chunk_zone table high_chunk (codes "a" ∷ [])) ≡ Some (exact (integer (pos 5)))
low_before = refl

low_after : option_map (λ z. z.low) (chunk_zone (after table (retype wider)) high_chunk (codes "b" ∷ [])) ≡ Some (exact (integer (pos 5)))
low_after = refl

-- ---- binding

abbrev binder : Binder
binder x g = statistic x min

-- what replaces a placeholder isn't bound again, and nothing else changes
bound_once : bound binder (compare equal (statistic a null_count) (count_literal 0)) ≡ compare equal (statistic a min) (count_literal 0)
bound_once = refl
