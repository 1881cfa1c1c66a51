-- Which array is which predicate, by its first item and its number of items.
use Rattle.std.specs.Prelude.{ℕ, List, Bool, true, ◌==◌, Option, Some, None, if◌then◌else◌, option_map, option_and_then, codes}
use Rattle.std.specs.Str.{bytes_eq}
use Rattle.serde_json.specs.Data.{Data}
use Rattle.serde_json.specs.Find.{at, as_str}
use Rattle.vortex_model_table.specs.Expression.{Aggregate, min, max, sum, null_count, nan_count, size, min_max, all_null, all_non_null, all_nan, all_non_nan}
use Rattle.vortex_stats_expr.specs.declared.operator.Operator as operators
use Rattle.vortex_stats_expr.specs.declared.operator.Operator.TheVariants as operator
use Rattle.vortex_table_request.specs.Parsed.{items_size}
use Rattle.vortex_table_request.specs.declared.forms.Form.{Form}
use Rattle.vortex_table_request.specs.declared.forms.Form.TheVariants as form
use Rattle.vortex_table_request.specs.declared.forms.Leaf.TheVariants as leaf
use Rattle.vortex_table_request.specs.declared.forms.Unary.TheVariants as unary
use Rattle.vortex_table_request.specs.declared.forms.Binary.TheVariants as binary

abbrev pub operator_named : List ℕ → Option operators.Operator
operator_named name =
    if bytes_eq name (codes "=") then Some operator.Eq
    else (if bytes_eq name (codes "!=") then Some operator.NotEq
    else (if bytes_eq name (codes ">") then Some operator.Gt
    else (if bytes_eq name (codes ">=") then Some operator.Gte
    else (if bytes_eq name (codes "<") then Some operator.Lt
    else (if bytes_eq name (codes "<=") then Some operator.Lte
    else (if bytes_eq name (codes "and") then Some operator.And
    else (if bytes_eq name (codes "or") then Some operator.Or else None)))))))

abbrev pub form_named : List ℕ → Option Form
form_named name =
    if bytes_eq name (codes "lit") then Some (form.Leaf leaf.Literal)
    else (if bytes_eq name (codes "col") then Some (form.Leaf leaf.Column)
    else (if bytes_eq name (codes "row_count") then Some (form.Leaf leaf.RowCount)
    else (if bytes_eq name (codes "not") then Some (form.Unary unary.Not)
    else (if bytes_eq name (codes "is_null") then Some (form.Unary unary.IsNull)
    else (if bytes_eq name (codes "is_not_null") then Some (form.Unary unary.IsNotNull)
    else (if bytes_eq name (codes "is_nan") then Some (form.Unary unary.IsNan)
    else (if bytes_eq name (codes "stat") then Some (form.Unary unary.Stat)
    else (if bytes_eq name (codes "like") then Some (form.Binary binary.Like)
    else (if bytes_eq name (codes "between") then Some form.Between
    else option_map (λ o. form.Binary (binary.Operator o)) (operator_named name))))))))))

-- the statistic of a placeholder
abbrev pub aggregate_named : List ℕ → Option Aggregate
aggregate_named name =
    if bytes_eq name (codes "min") then Some min
    else (if bytes_eq name (codes "max") then Some max
    else (if bytes_eq name (codes "sum") then Some sum
    else (if bytes_eq name (codes "null_count") then Some null_count
    else (if bytes_eq name (codes "nan_count") then Some nan_count
    else (if bytes_eq name (codes "uncompressed_size_in_bytes") then Some size
    else (if bytes_eq name (codes "min_max") then Some min_max
    else (if bytes_eq name (codes "all_null") then Some all_null
    else (if bytes_eq name (codes "all_non_null") then Some all_non_null
    else (if bytes_eq name (codes "all_nan") then Some all_nan
    else (if bytes_eq name (codes "all_non_nan") then Some all_non_nan else None))))))))))

-- an array of this form may have this many items
abbrev pub has_size : Form → ℕ → Bool
has_size (form.Leaf leaf.Literal) n = n == 3
has_size (form.Leaf leaf.Column) n = true
has_size (form.Leaf leaf.RowCount) n = n == 1
has_size (form.Unary unary.Stat) n = n == 3
has_size (form.Unary u) n = n == 2
has_size (form.Binary (binary.Operator o)) n = n == 3
has_size (form.Binary binary.Like) n = n == 5
has_size form.Between n = n == 6

-- the form of an array that has the right number of items for it
abbrev pub form_in : Data → Option Form
form_in d =
    option_and_then (λ n. option_and_then (λ f. if has_size f n then Some f else None)
    (option_and_then form_named (option_and_then as_str (at 0 d)))) (items_size d)
