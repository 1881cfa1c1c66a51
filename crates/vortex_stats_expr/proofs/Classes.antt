-- What the class of a type shows about it.
use Rattle.std.proofs.Common.{◌≡◌, ℕ, List, [], ◌∷◌, Option, Some, None, option_map, option_and_then, true, false, refl, sym, ap, ◌∙◌, subst}
use Rattle.vortex_model.specs.LogicalType.{LogicalType, null_only, boolean_type, integer_type, float, decimal, utf8, binary, list, fixed_list, mapping, struct, Fields, union, variant, extension, Nullability, non_nullable, nullable, nullability_of, with_nullability, nullable_inside}
use Rattle.vortex_model.specs.Path.{Names, Positions, positions, position_in, position_named, part_at, field_at, type_at, type_of_column}
use Rattle.vortex_model_table.specs.Command.{part_named}
use Rattle.vortex_model_table.specs.Typing.{has_bounds}
use Rattle.vortex_dtype_ptype.specs.Numbers.{type_of_numbers, is_real}
use Rattle.vortex_dtype_ptype.specs.View.{number_kind_of}
use Rattle.vortex_dtype_ptype.specs.declared.ptype.PType.{PType}
use Rattle.vortex_dtype_ptype.specs.declared.ptype.PType.TheVariants as ptype
use Rattle.vortex_dtype_core.specs.Parts.{fields_in_type}
use Rattle.vortex_dtype_core.proofs.Views.{one_level, extension_type-parts}
use Rattle.vortex_stats_expr.specs.Types.{IsOfLeaf, IsOfClass, IsClass, along}
use Rattle.vortex_stats_expr.specs.declared.types.Leaf.TheVariants as leaf
use Rattle.vortex_stats_expr.specs.declared.types.TypeClass.{TypeClass}
use Rattle.vortex_stats_expr.specs.declared.types.TypeClass.TheVariants as class

-- ---- one type

-- by the kind of its numbers
pub float_numbers : (p : PType) (n : Nullability) → is_real (number_kind_of p) ≡ true → IsOfClass class.Float (type_of_numbers (number_kind_of p) n)
float_numbers ptype.F16 n h = tt
float_numbers ptype.F32 n h = tt
float_numbers ptype.F64 n h = tt
float_numbers p n h = cc

pub whole_numbers : (p : PType) (n : Nullability) → is_real (number_kind_of p) ≡ false → IsOfLeaf (leaf.Primitive p) (type_of_numbers (number_kind_of p) n)
whole_numbers ptype.F16 n h = cc
whole_numbers ptype.F32 n h = cc
whole_numbers ptype.F64 n h = cc
whole_numbers p n h = refl

pub ruleset of_types = (one_level, extension_type-parts, float_numbers, whole_numbers)

-- the fields of a record are its parts, and nothing else has any
pub no_fields_named : (k : LogicalType) (x : List ℕ) → None ≡ fields_in_type k → part_named k x ≡ None
no_fields_named (struct fs n) x h = cc
no_fields_named k x h = refl

pub position_of_field : (k : LogicalType) (fs : Fields) (x : List ℕ) → Some fs ≡ fields_in_type k → position_in k x ≡ position_named fs x
position_of_field (struct gs n) fs x h = cc
position_of_field k fs x h = cc

pub part_of_field : (k : LogicalType) (fs : Fields) (i : ℕ) → Some fs ≡ fields_in_type k → part_at k i ≡ field_at fs i
part_of_field (struct gs n) fs i h = cc
part_of_field k fs i h = cc

pub ruleset by_fields = (no_fields_named, position_of_field, part_of_field)

-- ---- a path, step by step

abbrev plain : LogicalType → LogicalType
plain k = with_nullability nullable k

stop_at : (k : LogicalType) (o : Option ℕ) (xs : Names) → option_and_then (part_at k) o ≡ None →
    option_and_then (λ i. option_and_then (λ part. option_map (λ is. i ∷ is) (positions part xs)) (part_at k i)) o ≡ None
stop_at k None xs p = refl
stop_at k (Some i) xs p = ap (option_and_then (λ part. option_map (λ is. i ∷ is) (positions part xs))) p

-- no part has the name
pub positions-stop : (k : LogicalType) (x : List ℕ) (xs : Names) → part_named k x ≡ None → positions k (x ∷ xs) ≡ None
positions-stop k x xs p = stop_at k (position_in k x) xs p

-- a part has the name
pub positions-step : (k part : LogicalType) (i : ℕ) (x : List ℕ) (xs : Names) → position_in k x ≡ Some i → part_at k i ≡ Some part →
    positions k (x ∷ xs) ≡ option_map (λ is. i ∷ is) (positions part xs)
positions-step k part i x xs p q =
    ap (option_and_then (λ i. option_and_then (λ part. option_map (λ is. i ∷ is) (positions part xs)) (part_at k i))) p
    ∙ ap (option_and_then (λ part. option_map (λ is. i ∷ is) (positions part xs))) q

type_behind : (k part : LogicalType) (i : ℕ) (o : Option Positions) → part_at k i ≡ Some part →
    option_and_then (type_at k) (option_map (λ is. i ∷ is) o) ≡ option_map (nullable_inside (nullability_of k)) (option_and_then (type_at part) o)
type_behind k part i None q = refl
type_behind k part i (Some is) q = ap (λ o. option_map (nullable_inside (nullability_of k)) (option_and_then (λ part. type_at part is) o)) q

type_of_column-step : (k part : LogicalType) (i : ℕ) (x : List ℕ) (xs : Names) → position_in k x ≡ Some i → part_at k i ≡ Some part →
    type_of_column k (x ∷ xs) ≡ option_map (nullable_inside (nullability_of k)) (type_of_column part xs)
type_of_column-step k part i x xs p q = ap (option_and_then (type_at k)) (positions-step k part i x xs p q) ∙ type_behind k part i (positions part xs) q

plain-plain : (k : LogicalType) → plain (plain k) ≡ plain k
plain-plain null_only = refl
plain-plain (boolean_type n) = refl
plain-plain (integer_type i n) = refl
plain-plain (float f n) = refl
plain-plain (decimal p s n) = refl
plain-plain (utf8 n) = refl
plain-plain (binary n) = refl
plain-plain (list k n) = refl
plain-plain (fixed_list k m n) = refl
plain-plain (mapping k v s n) = refl
plain-plain (struct fs n) = refl
plain-plain (union vs n) = refl
plain-plain (variant n) = refl
plain-plain (extension x m k) = ap (extension x m) (plain-plain k)

plain-within : (n : Nullability) (o : Option LogicalType) → option_map plain (option_map (nullable_inside n) o) ≡ option_map plain o
plain-within n None = refl
plain-within non_nullable (Some k) = refl
plain-within nullable (Some k) = ap Some (plain-plain k)

-- what a path leads to, nullability aside
abbrev EqualAlong : LogicalType → Names → Type 0
EqualAlong k xs = option_map plain (type_of_column k xs) ≡ option_map plain (along (Some k) xs)

along-none : (xs : Names) → along None xs ≡ None
along-none [] = refl
along-none (x ∷ xs) = along-none xs

no_part : (k : LogicalType) (x : List ℕ) (xs : Names) → part_named k x ≡ None → EqualAlong k (x ∷ xs)
no_part k x xs p =
    ap (λ o. option_map plain (option_and_then (type_at k) o)) (positions-stop k x xs p) ∙ sym (ap (option_map plain) (ap (λ o. along o xs) p ∙ along-none xs))

a_part : (k part : LogicalType) (i : ℕ) (x : List ℕ) (xs : Names) → position_in k x ≡ Some i → part_at k i ≡ Some part → EqualAlong part xs → EqualAlong k (x ∷ xs)
a_part k part i x xs p q same =
    ap (option_map plain) (type_of_column-step k part i x xs p q) ∙ plain-within (nullability_of k) (type_of_column part xs) ∙ same
    ∙ sym (ap (λ o. option_map plain (along o xs)) (ap (option_and_then (part_at k)) p ∙ q))

by_part : (k : LogicalType) (i : ℕ) (x : List ℕ) (xs : Names) (o : Option LogicalType) → position_in k x ≡ Some i → part_at k i ≡ o → ((part : LogicalType) → EqualAlong part xs) → EqualAlong k (x ∷ xs)
by_part k i x xs None p q same = no_part k x xs (ap (option_and_then (part_at k)) p ∙ q)
by_part k i x xs (Some part) p q same = a_part k part i x xs p q (same part)

by_position : (k : LogicalType) (x : List ℕ) (xs : Names) (o : Option ℕ) → position_in k x ≡ o → ((part : LogicalType) → EqualAlong part xs) → EqualAlong k (x ∷ xs)
by_position k x xs None p same = no_part k x xs (ap (option_and_then (part_at k)) p)
by_position k x xs (Some i) p same = by_part k i x xs (part_at k i) p refl same

eq_along : (k : LogicalType) (xs : Names) → EqualAlong k xs
eq_along k [] = refl
eq_along k (x ∷ xs) = by_position k x xs (position_in k x) refl (λ part. eq_along part xs)

has_bounds-plain : (k : LogicalType) → has_bounds (plain k) ≡ has_bounds k
has_bounds-plain null_only = refl
has_bounds-plain k = refl

to_plain : (c : TypeClass) (k : LogicalType) → IsOfClass c k → IsOfClass c (plain k)
to_plain (class.Leaf leaf.Bool) (boolean_type n) h = tt
to_plain (class.Leaf (leaf.Primitive p)) (integer_type i n) h = h
to_plain (class.Leaf leaf.Utf8) (utf8 n) h = tt
to_plain (class.Leaf leaf.Binary) (binary n) h = tt
to_plain class.Float (float f n) h = tt
to_plain class.Decimal (decimal p s n) h = tt
to_plain class.Other k h = has_bounds-plain k ∙ h
to_plain c k h = absurd h

from_plain : (c : TypeClass) (k : LogicalType) → IsOfClass c (plain k) → IsOfClass c k
from_plain (class.Leaf leaf.Bool) (boolean_type n) h = tt
from_plain (class.Leaf (leaf.Primitive p)) (integer_type i n) h = h
from_plain (class.Leaf leaf.Utf8) (utf8 n) h = tt
from_plain (class.Leaf leaf.Binary) (binary n) h = tt
from_plain class.Float (float f n) h = tt
from_plain class.Decimal (decimal p s n) h = tt
from_plain class.Other k h = sym (has_bounds-plain k) ∙ h
from_plain c k h = absurd h

class_to_plain : (c : Option TypeClass) (o : Option LogicalType) → IsClass c o → IsClass c (option_map plain o)
class_to_plain None None h = tt
class_to_plain (Some c) (Some k) h = to_plain c k h
class_to_plain c o h = absurd h

class_from_plain : (c : Option TypeClass) (o : Option LogicalType) → IsClass c (option_map plain o) → IsClass c o
class_from_plain None None h = tt
class_from_plain (Some c) (Some k) h = from_plain c k h
class_from_plain c o h = absurd h

-- the class at the end of the path is the column's
pub column_class : (c : Option TypeClass) (k : LogicalType) (xs : Names) → IsClass c (along (Some k) xs) → IsClass c (type_of_column k xs)
column_class c k xs h =
    class_from_plain c (type_of_column k xs) (subst (IsClass c) (sym (eq_along k xs)) (class_to_plain c (along (Some k) xs) h))
