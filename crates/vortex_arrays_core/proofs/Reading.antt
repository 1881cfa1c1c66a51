-- What is read at an index.
use Rattle.std.proofs.Common.{◌≡◌, ◌↔◌, ◌&&◌, ℕ, true, false, not, Bool, cond, IsTrue, List, Some, None, refl}
use Rattle.vortex_model.specs.LogicalType.{Nullability, non_nullable, nullable, LogicalType, boolean_type, integer_type, with_nullability, nullability_of, is_nullable}
use Rattle.vortex_model.specs.Content.{null, is_null, content_of, Raw, raw_null, raw_boolean, raw_number}
use Rattle.vortex_model.specs.Valid.{IsValid}
use Rattle.vortex_dtype_core.specs.Parts.{is_integer_type, is_boolean_type}
use Rattle.vortex_scalar_value.specs.Parts.{boolean_in, as_number, whole_number_in}
use Rattle.vortex_scalar_value.proofs.Views.{whole_number_in-number}
use Rattle.vortex_arrays_model.specs.Layout.{Strings, texts, byte_strings, type_of_strings, IsInteger, string_content, is_truth}
use Rattle.vortex_arrays_core.specs.LayoutOf.{integer_content}

pub integer_kind : (k : LogicalType) → IsTrue (is_integer_type k) ↔ IsInteger k
integer_kind (integer_type i n) = (λ e. tt, λ h. refl)
integer_kind k = (λ e. absurd (cc (e)), λ h. absurd h)

pub values_are_integers : (n : Nullability) (k : LogicalType) → IsInteger (with_nullability n k) → IsInteger k
values_are_integers n (integer_type i m) h = tt
values_are_integers n k h = absurd h

pub strings_are_no_integers : (s : Strings) (n : Nullability) → IsInteger (type_of_strings s n) → ⊥
strings_are_no_integers texts n h = h
strings_are_no_integers byte_strings n h = h

pub constant_integer : (k : LogicalType) (r : Raw) → IsInteger k → IsValid k r → content_of r ≡ integer_content (whole_number_in r)
constant_integer (integer_type i n) raw_null h v = refl
constant_integer (integer_type i n) (raw_number j z) h v = refl
constant_integer (integer_type i n) r h v = absurd v
constant_integer k r h v = absurd h

pub no_number : (r : Raw) → None ≡ as_number r → whole_number_in r ≡ None
no_number (raw_number j z) e = absurd (cc (e))
no_number r e = refl

pub truth_held : (r : Raw) (b : Bool) → Some b ≡ boolean_in r → is_truth (content_of r) ≡ b
truth_held (raw_boolean c) b e = cc (e)
truth_held r b e = absurd (cc (e))

pub no_truth_held : (r : Raw) → None ≡ boolean_in r → is_truth (content_of r) ≡ false
no_truth_held (raw_boolean b) e = absurd (cc (e))
no_truth_held r e = refl

-- the value of a constant
pub ruleset held = (whole_number_in-number, no_number, truth_held, no_truth_held)

pub ruleset integers = (integer_kind, values_are_integers, strings_are_no_integers, constant_integer)

pub no_truth : (b : Bool) (s : Strings) (bs : List ℕ) → is_truth (cond b (string_content s bs) null) ≡ false
no_truth true texts bs = refl
no_truth true byte_strings bs = refl
no_truth false s bs = refl

pub string_there : (b : Bool) (s : Strings) (bs : List ℕ) → is_null (cond b (string_content s bs) null) ≡ not b
string_there true texts bs = refl
string_there true byte_strings bs = refl
string_there false s bs = refl

pub ruleset truths = (no_truth)

pub ruleset nulls = (string_there)

pub truths_without_null : (k : LogicalType) → ((is_boolean_type k && not (is_nullable (nullability_of k))) ≡ true) ↔ (k ≡ boolean_type non_nullable)
truths_without_null (boolean_type non_nullable) = (λ e. refl, λ e. refl)
truths_without_null (boolean_type nullable) = (λ e. absurd (cc (e)), λ e. absurd (cc (e)))
truths_without_null k = (λ e. absurd (cc (e)), λ e. absurd (cc (e)))
