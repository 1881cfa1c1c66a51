-- Predicates as compact JSON, in the forms of `FormNames` and `Where` of `vortex_table_request`.
use Rattle.std.specs.Prelude.{ℕ, List, ◌∷◌, ◌++◌, Bool, true, Option, ◌&&◌, codes, []}
use Rattle.json.specs.Print.{quoted}
use Rattle.vortex_model.specs.LogicalType.{LogicalType}
use Rattle.vortex_model.specs.Content.{Content}
use Rattle.vortex_model.specs.Path.{Names}
use Rattle.vortex_model_table.specs.Expression.{Comparison, equal, not_equal, greater, at_least, less, at_most, Aggregate, min, max, sum, null_count, nan_count, size, min_max, all_null, all_non_null, all_nan, all_non_nan, Expression, literal, column, compare, both, either, negation, is_null, is_not_null, is_nan, between, like, row_count, statistic}
use Rattle.vortex_table_response.specs.Text.{content_text}
use Rattle.vortex_table_response.specs.type_texts.Text.{type_text, flag_text}
use Rattle.vortex_table_text.specs.Types.{has_text}
use Rattle.vortex_table_text.specs.Writing.{text_if}

abbrev pub comparison_name : Comparison → List ℕ
comparison_name equal = codes "="
comparison_name not_equal = codes "!="
comparison_name greater = codes ">"
comparison_name at_least = codes ">="
comparison_name less = codes "<"
comparison_name at_most = codes "<="

abbrev pub aggregate_name : Aggregate → List ℕ
aggregate_name min = codes "min"
aggregate_name max = codes "max"
aggregate_name sum = codes "sum"
aggregate_name null_count = codes "null_count"
aggregate_name nan_count = codes "nan_count"
aggregate_name size = codes "uncompressed_size_in_bytes"
aggregate_name min_max = codes "min_max"
aggregate_name all_null = codes "all_null"
aggregate_name all_non_null = codes "all_non_null"
aggregate_name all_nan = codes "all_nan"
aggregate_name all_non_nan = codes "all_non_nan"

-- ---- leaves

-- a type and a content of it
abbrev pub typed_text : LogicalType → Content → List ℕ
typed_text k c = type_text k ++ codes "," ++ content_text c

-- `["lit",type,content]`
abbrev pub literal_text : LogicalType → Content → List ℕ
literal_text k c = codes "[\"lit\"," ++ typed_text k c ++ codes "]"

-- each name after a comma
abbrev pub path_text : Names → List ℕ
path_text [] = []
path_text (x ∷ xs) = codes "," ++ quoted x ++ path_text xs

-- `["col",name,..]`
abbrev pub column_text : Names → List ℕ
column_text xs = codes "[\"col\"" ++ path_text xs ++ codes "]"

-- ---- what is around operands

-- the start of an array whose first item is this name
abbrev pub open_text : List ℕ → List ℕ
open_text name = codes "[\"" ++ name ++ codes "\","

-- two flags as the last items of an array
abbrev pub flags_end : Bool → Bool → List ℕ
flags_end first second =
    codes "," ++ flag_text first ++ codes "," ++ flag_text second ++ codes "]"

-- a statistic as the last item of an array
abbrev pub aggregate_end : Aggregate → List ℕ
aggregate_end a = codes ",\"" ++ aggregate_name a ++ codes "\"]"

-- a name, the JSON of an operand, and what ends the array
abbrev pub unary_text : (name x end : List ℕ) → List ℕ
unary_text name x end = open_text name ++ x ++ end

-- a name, the JSON of two operands, and what ends the array
abbrev pub binary_text : (name x y end : List ℕ) → List ℕ
binary_text name x y end = unary_text name x (codes ",") ++ y ++ end

-- `["between",x,lo,hi,lower_strict,upper_strict]`
abbrev pub between_text : (x lo hi : List ℕ) → (lower_strict upper_strict : Bool) → List ℕ
between_text x lo hi lower_strict upper_strict =
    binary_text (codes "between") x lo (codes ",") ++ hi ++ flags_end lower_strict upper_strict

-- ---- predicates

abbrev pub predicate_text : Expression → List ℕ
predicate_text (literal k c) = literal_text k c
predicate_text (column xs) = column_text xs
predicate_text (compare o x y) =
    binary_text (comparison_name o) (predicate_text x) (predicate_text y) (codes "]")
predicate_text (both x y) =
    binary_text (codes "and") (predicate_text x) (predicate_text y) (codes "]")
predicate_text (either x y) =
    binary_text (codes "or") (predicate_text x) (predicate_text y) (codes "]")
predicate_text (negation x) = unary_text (codes "not") (predicate_text x) (codes "]")
predicate_text (is_null x) = unary_text (codes "is_null") (predicate_text x) (codes "]")
predicate_text (is_not_null x) = unary_text (codes "is_not_null") (predicate_text x) (codes "]")
predicate_text (is_nan x) = unary_text (codes "is_nan") (predicate_text x) (codes "]")
predicate_text (between x lo hi lower_strict upper_strict) =
    between_text (predicate_text x) (predicate_text lo) (predicate_text hi) lower_strict
    upper_strict
predicate_text (like x form negated ignores_case) =
    binary_text (codes "like") (predicate_text x) (predicate_text form)
    (flags_end negated ignores_case)
predicate_text row_count = codes "[\"row_count\"]"
predicate_text (statistic x a) =
    unary_text (codes "stat") (predicate_text x) (aggregate_end a)

-- the type of each literal has JSON text
abbrev pub is_writable : Expression → Bool
is_writable (literal k c) = has_text k
is_writable (column xs) = true
is_writable (compare o x y) = is_writable x && is_writable y
is_writable (both x y) = is_writable x && is_writable y
is_writable (either x y) = is_writable x && is_writable y
is_writable (negation x) = is_writable x
is_writable (is_null x) = is_writable x
is_writable (is_not_null x) = is_writable x
is_writable (is_nan x) = is_writable x
is_writable (between x lo hi lower_strict upper_strict) =
    is_writable x && (is_writable lo && is_writable hi)
is_writable (like x form negated ignores_case) = is_writable x && is_writable form
is_writable row_count = true
is_writable (statistic x a) = is_writable x

-- the JSON text of a predicate, if the types of its literals have one
abbrev pub predicate_text_of : Expression → Option (List ℕ)
predicate_text_of e = text_if (is_writable e) (predicate_text e)
