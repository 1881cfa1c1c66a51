-- What the class of a type shows about it.
use Rattle.std.proofs.Common.{◌≡◌, Bool, true, false, refl}
use Rattle.vortex_model.specs.LogicalType.{LogicalType, boolean_type, integer_type, float, decimal, utf8, binary}
use Rattle.vortex_model_table.specs.Typing.{has_bounds, is_float}
use Rattle.vortex_dtype_core.specs.Parts.{is_boolean_type, is_utf8_type}
use Rattle.vortex_stats_expr.specs.Types.{IsOfClass}
use Rattle.vortex_stats_expr.specs.declared.types.Leaf.TheVariants as leaf
use Rattle.vortex_stats_expr.specs.declared.types.TypeClass.{TypeClass}
use Rattle.vortex_stats_expr.specs.declared.types.TypeClass.TheVariants as class

abbrev pub boolean_class : TypeClass → Bool
boolean_class (class.Leaf leaf.Bool) = true
boolean_class c = false

pub boolean_by_class : (c : TypeClass) (k : LogicalType) → IsOfClass c k → is_boolean_type k ≡ boolean_class c
boolean_by_class (class.Leaf leaf.Bool) (boolean_type n) h = refl
boolean_by_class (class.Leaf (leaf.Primitive p)) (integer_type i n) h = refl
boolean_by_class (class.Leaf leaf.Utf8) (utf8 n) h = refl
boolean_by_class (class.Leaf leaf.Binary) (binary n) h = refl
boolean_by_class class.Float (float f n) h = refl
boolean_by_class class.Decimal (decimal p s n) h = refl
boolean_by_class class.Other (boolean_type n) h = cc (h)
boolean_by_class class.Other k h = refl
boolean_by_class c k h = absurd h

abbrev pub text_class : TypeClass → Bool
text_class (class.Leaf leaf.Utf8) = true
text_class c = false

pub text_by_class : (c : TypeClass) (k : LogicalType) → IsOfClass c k → is_utf8_type k ≡ text_class c
text_by_class (class.Leaf leaf.Bool) (boolean_type n) h = refl
text_by_class (class.Leaf (leaf.Primitive p)) (integer_type i n) h = refl
text_by_class (class.Leaf leaf.Utf8) (utf8 n) h = refl
text_by_class (class.Leaf leaf.Binary) (binary n) h = refl
text_by_class class.Float (float f n) h = refl
text_by_class class.Decimal (decimal p s n) h = refl
text_by_class class.Other (utf8 n) h = cc (h)
text_by_class class.Other k h = refl
text_by_class c k h = absurd h

abbrev pub float_class : TypeClass → Bool
float_class class.Float = true
float_class c = false

pub float_by_class : (c : TypeClass) (k : LogicalType) → IsOfClass c k → is_float k ≡ float_class c
float_by_class (class.Leaf leaf.Bool) (boolean_type n) h = refl
float_by_class (class.Leaf (leaf.Primitive p)) (integer_type i n) h = refl
float_by_class (class.Leaf leaf.Utf8) (utf8 n) h = refl
float_by_class (class.Leaf leaf.Binary) (binary n) h = refl
float_by_class class.Float (float f n) h = refl
float_by_class class.Decimal (decimal p s n) h = refl
float_by_class class.Other (float f n) h = cc (h)
float_by_class class.Other k h = refl
float_by_class c k h = absurd h

abbrev pub bounded_class : TypeClass → Bool
bounded_class class.Other = false
bounded_class c = true

pub bounded_by_class : (c : TypeClass) (k : LogicalType) → IsOfClass c k → has_bounds k ≡ bounded_class c
bounded_by_class (class.Leaf leaf.Bool) (boolean_type n) h = refl
bounded_by_class (class.Leaf (leaf.Primitive p)) (integer_type i n) h = refl
bounded_by_class (class.Leaf leaf.Utf8) (utf8 n) h = refl
bounded_by_class (class.Leaf leaf.Binary) (binary n) h = refl
bounded_by_class class.Float (float f n) h = refl
bounded_by_class class.Decimal (decimal p s n) h = refl
bounded_by_class class.Other k h = h
bounded_by_class c k h = absurd h

pub ruleset tests = (boolean_by_class, text_by_class, float_by_class, bounded_by_class)
