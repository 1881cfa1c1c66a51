-- Statistics, zone maps and the bounds of groups on examples.
use Rattle.std.proofs.Common.{◌≡◌, refl, pos, List, [], ◌∷◌, Some, None, true, false}
use Rattle.std.specs.Prelude.{codes}
use Rattle.vortex_model.specs.LogicalType.{LogicalType, integer_type, list, struct, field, no_fields, non_nullable, nullable, i32, i64}
use Rattle.vortex_model.specs.Content.{Content, null, integer, text, scalar}
use Rattle.vortex_model.specs.Path.{Names}
use Rattle.vortex_model_table.specs.Expression.{Aggregate, column, negation, null_count, all_null, min}
use Rattle.vortex_model_table.specs.Table.{Table}
use Rattle.vortex_model_table.specs.ZoneMap.{ZoneMap, Joins, alone, together, made_by, all_joined, group_bounds, zone_of, zone_of_group}
use Rattle.vortex_model_table.specs.Scan.{chunk_zone, group_zone, known, tested_lengths, skipped, tested, whole as taken_whole}
use Rattle.vortex_model_table.specs.Statistics.{exact, absent, least_value, greatest_value, is_constant, is_sorted, is_strictly_sorted}
use Rattle.vortex_model_table.proofs.Examples.{number, a, numbers, record_of}

-- ---- statistics of lists and structs

abbrev ones : List Content
ones = record_of (integer (pos 1) ∷ []) ∷ record_of (integer (pos 1) ∷ []) ∷ []

abbrev ones_twos : List Content
ones_twos = record_of (integer (pos 1) ∷ []) ∷ record_of (integer (pos 1) ∷ integer (pos 2) ∷ []) ∷ []

equal_lists : is_constant ones ≡ true
equal_lists = refl

unequal_lists : is_constant ones_twos ≡ false
unequal_lists = refl

null_and_list : is_constant (null ∷ ones) ≡ false
null_and_list = refl

each_null : is_constant (null ∷ null ∷ []) ≡ true
each_null = refl

-- `Variant` values of different types are unequal
unequal_variants : is_constant (scalar (integer_type i32 non_nullable) (integer (pos 1)) ∷ scalar (integer_type i64 non_nullable) (integer (pos 1)) ∷ []) ≡ false
unequal_variants = refl

equal_variants : is_constant (scalar (integer_type i32 nullable) (integer (pos 1)) ∷ scalar (integer_type i32 nullable) (integer (pos 1)) ∷ []) ≡ true
equal_variants = refl

lists_rise : is_strictly_sorted ones_twos ≡ true
lists_rise = refl

lists_stay : is_sorted ones ≡ true
lists_stay = refl

least_list : least_value ones_twos ≡ Some (record_of (integer (pos 1) ∷ []))
least_list = refl

greatest_list : greatest_value ones_twos ≡ Some (record_of (integer (pos 1) ∷ integer (pos 2) ∷ []))
greatest_list = refl

-- values that don't compare have no least and no greatest
no_least : least_value (integer (pos 1) ∷ text [] ∷ []) ≡ None
no_least = refl

no_greatest : greatest_value (integer (pos 1) ∷ text [] ∷ []) ≡ None
no_greatest = refl

least_of_three : least_value (integer (pos 2) ∷ integer (pos 1) ∷ integer (pos 1) ∷ []) ≡ Some (integer (pos 1))
least_of_three = refl

-- ---- what a table knows of its columns

-- {l=list(i32)?, a=i32}
abbrev LA : LogicalType
LA = struct (field (codes "l") (list (number non_nullable) nullable) (field a (number non_nullable) no_fields)) non_nullable

abbrev null_list : List Content
null_list = record_of (null ∷ integer (pos 7) ∷ []) ∷ []

abbrev lists_table : Table
lists_table = record { kind = LA; default = 16; lengths = []; chunks = null_list ∷ null_list ∷ []; groups = 2 ∷ [] }

abbrev told_of_chunk : Names → Aggregate → Content
told_of_chunk xs g = known (chunk_zone lists_table null_list) 1 (column xs) g

abbrev told_of_group : Names → Aggregate → Content
told_of_group xs g = known (group_zone lists_table (null_list ∷ null_list ∷ [])) 2 (column xs) g

-- all rows of the column are null, but it isn't a leaf, so the table doesn't know it
no_leaf : told_of_chunk (codes "l" ∷ []) all_null ≡ null
no_leaf = refl

no_leaf_in_group : told_of_group (codes "l" ∷ []) all_null ≡ null
no_leaf_in_group = refl

-- the root, whose null count would be 0, and a path that isn't in the type are not known either
root : told_of_chunk [] null_count ≡ null
root = refl

nowhere : told_of_chunk (codes "z" ∷ []) null_count ≡ null
nowhere = refl

nowhere_in_group : told_of_group (codes "z" ∷ []) null_count ≡ null
nowhere_in_group = refl

no_column : known (chunk_zone lists_table null_list) 1 (negation (column (a ∷ []))) null_count ≡ null
no_column = refl

leaf_min : told_of_chunk (a ∷ []) min ≡ integer (pos 7)
leaf_min = refl

leaf_count : told_of_chunk (a ∷ []) null_count ≡ integer (pos 0)
leaf_count = refl

leaf_in_group : told_of_group (a ∷ []) min ≡ integer (pos 7)
leaf_in_group = refl

-- ---- what a scan uses of a group, and joins

abbrev zone : List Content → ZoneMap
zone cs = zone_of (number nullable) 16 cs

abbrev from_left : Joins
from_left = together (together (alone (zone (integer (pos 4) ∷ []))) (alone (zone (null ∷ integer (pos 9) ∷ [])))) (alone (zone (integer (pos 2) ∷ integer (pos 3) ∷ [])))

abbrev from_right : Joins
from_right = together (alone (zone (integer (pos 4) ∷ []))) (together (alone (zone (null ∷ integer (pos 9) ∷ []))) (alone (zone (integer (pos 2) ∷ integer (pos 3) ∷ []))))

eq_zones : all_joined from_left ≡ all_joined from_right
eq_zones = refl

of_group : group_bounds (all_joined from_left) ≡ record { low = exact (integer (pos 2)); high = exact (integer (pos 9)); nulls = 1; rows = 5; total = absent; constant = absent }
of_group = refl

of_joins : made_by (number nullable) from_left ≡ record { low = exact (integer (pos 2)); high = exact (integer (pos 9)); nulls = 1; rows = 5; total = exact (pos 18); constant = exact false }
of_joins = refl

of_other_joins : made_by (number nullable) from_right ≡ made_by (number nullable) from_left
of_other_joins = refl

one_by_one : zone_of_group (number nullable) (all_joined from_left) ≡ made_by (number nullable) from_left
one_by_one = refl

-- where a chunk lacks a bound, its group does
lacking : group_bounds (zone (integer (pos 4) ∷ []) ∷ zone (null ∷ []) ∷ []) ≡ record { low = absent; high = absent; nulls = 1; rows = 2; total = absent; constant = absent }
lacking = refl

-- ---- tested rows

lengths_tested : tested_lengths (tested ∷ skipped ∷ tested ∷ taken_whole ∷ []) (numbers (1 ∷ 2 ∷ []) ∷ numbers (3 ∷ []) ∷ numbers (4 ∷ 5 ∷ 6 ∷ []) ∷ numbers (7 ∷ []) ∷ []) ≡ 5
lengths_tested = refl

none_tested : tested_lengths (skipped ∷ []) (numbers (3 ∷ []) ∷ []) ≡ 0
none_tested = refl
