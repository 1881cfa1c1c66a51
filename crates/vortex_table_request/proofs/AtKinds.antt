-- JSON values by the type that they are read for.
use Rattle.std.proofs.Common.{◌≡◌, ◌==◌, ℕ, List, Bool, true, false, Option, Some, None, if◌then◌else◌, option_map, length, refl, sym, ap, ◌∙◌}
use Rattle.serde_json.specs.Data.{Num, boolean as flag, number, string, array, Items}
use Rattle.serde_json.specs.Events.{items_len}
use Rattle.serde_json.specs.View.{items_view}
use Rattle.serde_json.specs.declared.value.Value.{Value}
use Rattle.serde_json.proofs.Views.{items_len-items_view}
use Rattle.vortex_model.specs.LogicalType.{LogicalType, boolean_type, integer_type, float, utf8, binary, list, fixed_list, struct, Fields}
use Rattle.vortex_model.specs.Content.{Raw, raw_boolean, raw_text, raw_byte_string, raw_tuple}
use Rattle.vortex_model.specs.LogicalType.{Nullability}
use Rattle.vortex_dtype_ptype.specs.Numbers.{NumberKind, integral, floating, type_of_numbers}
use Rattle.vortex_dtype_core.proofs.Views.{one_level, extension_type-parts}
use Rattle.vortex_dtype_core.specs.Parts.{is_boolean_type, is_utf8_type, is_binary_type, fields_in_type, numbers_in_type}
use Rattle.vortex_scalar_value.specs.View.{raws_from}
use Rattle.vortex_scalar_value.proofs.Views.{raw_of-Bool, raw_of-Utf8, raw_of-Binary}
use Rattle.vortex_table_request.specs.Kinds.{bytes_of_digits}
use Rattle.vortex_table_request.specs.Rows.{number_of, reading, readings, element_readings, item_type}

-- a tuple of what was read, if anything
abbrev pub tuple_of : Option (List Raw) → Option Raw
tuple_of = option_map (λ rs. raw_tuple (raws_from rs))

-- a tuple of items of this type, if there is one
abbrev pub list_in : Option LogicalType → Items → Option Raw
list_in None ds = None
list_in (Some k) ds = tuple_of (element_readings k ds)

-- a tuple of these fields, if there are any, else of a list's items
abbrev pub tuple_in : Option Fields → Option LogicalType → Items → Option Raw
tuple_in None item ds = list_in item ds
tuple_in (Some fs) item ds = tuple_of (readings fs ds)

sized : (b : Bool) (k : LogicalType) (ds : Items) → (if b then tuple_of (element_readings k ds) else None) ≡ list_in (if b then Some k else None) ds
sized true k ds = refl
sized false k ds = refl

pub reading-array : (k : LogicalType) (ds : Items) → reading k (array ds) ≡ tuple_in (fields_in_type k) (item_type k (items_len ds)) ds
reading-array (struct fs n) ds = refl
reading-array (list k n) ds = refl
reading-array (fixed_list k m n) ds = sized (items_len ds == m) k ds
reading-array k ds = refl

-- for a type that is no struct type, by the number of items
pub reading-items : (k : LogicalType) (vs : List Value) (n : ℕ) → None ≡ fields_in_type k → n ≡ length vs
    → reading k (array (items_view vs)) ≡ list_in (item_type k n) (items_view vs)
reading-items k vs n none many =
    reading-array k (items_view vs)
    ∙ ap (λ (o : Option Fields). tuple_in o (item_type k (items_len (items_view vs))) (items_view vs)) (sym none)
    ∙ ap (λ (m : ℕ). list_in (item_type k m) (items_view vs)) (items_len-items_view vs ∙ sym many)

-- an integer of this type, if there is one
abbrev pub number_in : Option NumberKind → Num → Option Raw
number_in None x = None
number_in (Some p) x = number_of p x

pub reading-number : (k : LogicalType) (x : Num) → reading k (number x) ≡ number_in (numbers_in_type k) x
reading-number (integer_type i n) x = refl
reading-number (float f n) x = refl
reading-number k x = refl

pub reading-flag : (k : LogicalType) (b : Bool) → reading k (flag b) ≡ (if is_boolean_type k then Some (raw_boolean b) else None)
reading-flag (boolean_type n) b = refl
reading-flag k b = refl

pub reading-string : (k : LogicalType) (s : List ℕ) →
    reading k (string s) ≡ (if is_utf8_type k then Some (raw_text s) else (if is_binary_type k then option_map raw_byte_string (bytes_of_digits s) else None))
reading-string (utf8 n) s = refl
reading-string (binary n) s = refl
reading-string k s = refl

pub ruleset leaves = (reading-flag, reading-string, raw_of-Bool, raw_of-Utf8, raw_of-Binary)

pub no_item_in_numbers : (k : NumberKind) (n : Nullability) (count : ℕ) → item_type (type_of_numbers k n) count ≡ None
no_item_in_numbers (integral i) n count = refl
no_item_in_numbers (floating f) n count = refl

pub ruleset item_types = (one_level, extension_type-parts, no_item_in_numbers)
