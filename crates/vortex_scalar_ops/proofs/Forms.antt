-- Values of two forms.
use Rattle.std.proofs.Common.{◌≡◌, refl, ap, ℤ, true, false, Some, None}
use Rattle.std.specs.declared.cmp.Ordering.TheVariants.{Less, Greater}
use Rattle.std.specs.Ordering.{int_cmp}
use Rattle.vortex_model.specs.Content.{Content, Contents, null, boolean, integer, text, byte_string, tuple, tagged, scalar, Raw, raw_number, raw_tuple, Raws, content_of, contents_of, is_null}
use Rattle.vortex_model.specs.Order.{content_cmp, contents_cmp}
use Rattle.vortex_scalar_value.specs.Numbers.{raw_of_number, integer_of}
use Rattle.vortex_scalar_value.specs.Parts.{as_number, items_in}
use Rattle.vortex_scalar_value.specs.View.{raw_of}
use Rattle.vortex_scalar_value.specs.declared.pvalue.PValue.{PValue}
use Rattle.vortex_scalar_value.specs.declared.scalar_value.ScalarValue.{ScalarValue}
use Rattle.vortex_scalar_value.proofs.Nulls.{is_null-raw_of}
use Rattle.vortex_scalar_value.proofs.Views.{one_level, raw_of_union-parts}
use Rattle.std.proofs.Math.Bool.{true-and, false-and}
use Rattle.vortex_scalar_ops.specs.Equality.{eq_content}

-- ---- compared with null

above_null : (c : Content) → is_null c ≡ false → content_cmp c null ≡ Some Greater
above_null null n = absurd (cc (n))
above_null (boolean b) n = refl
above_null (integer z) n = refl
above_null (text bs) n = refl
above_null (byte_string bs) n = refl
above_null (tuple cs) n = refl
above_null (tagged u c) n = refl
above_null (scalar k c) n = refl

below_null : (c : Content) → is_null c ≡ false → content_cmp null c ≡ Some Less
below_null null n = absurd (cc (n))
below_null (boolean b) n = refl
below_null (integer z) n = refl
below_null (text bs) n = refl
below_null (byte_string bs) n = refl
below_null (tuple cs) n = refl
below_null (tagged u c) n = refl
below_null (scalar k c) n = refl

pub value_above : (v : ScalarValue) → content_cmp (content_of (raw_of v)) null ≡ Some Greater
value_above v = above_null (content_of (raw_of v)) (is_null-raw_of v)

pub value_below : (v : ScalarValue) → content_cmp null (content_of (raw_of v)) ≡ Some Less
value_below v = below_null (content_of (raw_of v)) (is_null-raw_of v)

pub ruleset nulls = (value_above, value_below)

-- ---- compared with a value of the same form

pub number_cmp : (z : ℤ) (w : PValue) (r : Raw) → Some (raw_of_number w) ≡ as_number r → content_cmp (integer z) (content_of r) ≡ Some (int_cmp z (integer_of w))
number_cmp z w (raw_number j y) e = ap (λ x. Some (int_cmp z x)) (integer_is e)
  where
    integer_is : Some (raw_of_number w) ≡ Some (raw_number j y) → y ≡ integer_of w
    integer_is e = cc (e)
number_cmp z w r e = absurd (cc (e))

pub tuple_cmp : (cs : Contents) (ss : Raws) (r : Raw) → Some ss ≡ items_in r → content_cmp (tuple cs) (content_of r) ≡ contents_cmp cs (contents_of ss)
tuple_cmp cs ss (raw_tuple rs) e = ap (λ x. contents_cmp cs (contents_of x)) (items_are e)
  where
    items_are : Some ss ≡ Some rs → rs ≡ ss
    items_are e = cc (e)
tuple_cmp cs ss r e = absurd (cc (e))

-- ---- equal to null

eq_as_null : (c : Content) → is_null c ≡ false → eq_content null c ≡ false
eq_as_null null n = absurd (cc (n))
eq_as_null (boolean b) n = refl
eq_as_null (integer z) n = refl
eq_as_null (text bs) n = refl
eq_as_null (byte_string bs) n = refl
eq_as_null (tuple cs) n = refl
eq_as_null (tagged u c) n = refl
eq_as_null (scalar k c) n = refl

null_as_same : (c : Content) → is_null c ≡ false → eq_content c null ≡ false
null_as_same null n = absurd (cc (n))
null_as_same (boolean b) n = refl
null_as_same (integer z) n = refl
null_as_same (text bs) n = refl
null_as_same (byte_string bs) n = refl
null_as_same (tuple cs) n = refl
null_as_same (tagged u c) n = refl
null_as_same (scalar k c) n = refl

pub null_left : (v : ScalarValue) → eq_content null (content_of (raw_of v)) ≡ false
null_left v = eq_as_null (content_of (raw_of v)) (is_null-raw_of v)

pub null_right : (v : ScalarValue) → eq_content (content_of (raw_of v)) null ≡ false
null_right v = null_as_same (content_of (raw_of v)) (is_null-raw_of v)

pub ruleset apart = (null_left, null_right)

pub ruleset tests = (one_level, true-and, false-and)
