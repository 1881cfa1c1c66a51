-- Rows of any layout, as they are read.
use Rattle.std.proofs.Common.{◌≡◌, refl, sym, ap, ◌∙◌, true, false, not, ℕ, ℤ, List, ◌<◌, subst, IsUtf8}
use Rattle.vortex_model.specs.LogicalType.{LogicalType, IntKind, boolean_type, integer_type, utf8, binary, Nullability, with_nullability}
use Rattle.vortex_model.specs.Content.{Content, null, boolean, integer, is_null}
use Rattle.vortex_model.specs.Valid.{IsContent, in_range}
use Rattle.vortex_model.proofs.Passes.{range_passes}
use Rattle.vortex_arrays_model.specs.Layout.{Layout, array_type_of, content_at, len_of, IsSound, IsInteger, is_truth}
use Rattle.vortex_arrays_model.proofs.RowsLemmas.{row_at_position, row_count}
use Rattle.vortex_arrays_model.proofs.ValidRows.{rows_are_contents}
use Rattle.vortex_stats_array.specs.Arrays.{IsBooleanType, IsIntegerOf, IsTextType, IsBinaryType, IsStringType, string_of}

pub integers_are : (i : IntKind) (k : LogicalType) → IsIntegerOf i k → IsInteger k
integers_are i (integer_type j n) h = tt
integers_are i k h = absurd h

pub texts_are_strings : (k : LogicalType) → IsTextType k → IsStringType k
texts_are_strings (utf8 n) h = tt
texts_are_strings k h = absurd h

pub bytes_are_strings : (k : LogicalType) → IsBinaryType k → IsStringType k
bytes_are_strings (binary n) h = tt
bytes_are_strings k h = absurd h

pub values_are_strings : (n : Nullability) (k : LogicalType) → IsStringType (with_nullability n k) → IsStringType k
values_are_strings n (utf8 m) h = tt
values_are_strings n (binary m) h = tt
values_are_strings n k h = absurd h

pub ruleset strings = (texts_are_strings, bytes_are_strings, values_are_strings)

-- the content of a row is one of the type
content_held : (a : Layout) (i : ℕ) → IsSound a → i < len_of a → IsContent (array_type_of a) (content_at a i)
content_held a i s l = subst (IsContent (array_type_of a)) (row_at_position a i null l)
    (rows_are_contents a s i null (subst (λ n. i < n) (sym (row_count a)) l))

text_within : (k : LogicalType) (c : Content) (bs : List ℕ) → IsTextType k → IsContent k c → string_of k bs ≡ c → IsUtf8 bs
text_within (utf8 n) c bs h g e = subst (IsContent (utf8 n)) (sym e) g
text_within k c bs h g e = absurd h

-- a string that is read is UTF-8
pub text_held : (a : Layout) (i : ℕ) (bs : List ℕ) → IsSound a → i < len_of a → IsTextType (array_type_of a) →
    string_of (array_type_of a) bs ≡ content_at a i → IsUtf8 bs
text_held a i bs s l h e = text_within (array_type_of a) (content_at a i) bs h (content_held a i s l) e

number_within : (j : IntKind) (k : LogicalType) (z : ℤ) → IsIntegerOf j k → IsContent k (integer z) → in_range j z ≡ true
number_within j (integer_type i n) z h g =
    ap (λ t. in_range t z) (sym h) ∙ range_passes i z g
number_within j k z h g = absurd h

pub number_held : (a : Layout) (i : ℕ) (j : IntKind) (z : ℤ) → IsSound a → i < len_of a → IsIntegerOf j (array_type_of a) →
    content_at a i ≡ integer z → in_range j z ≡ true
number_held a i j z s l h e = number_within j (array_type_of a) z h (subst (IsContent (array_type_of a)) e (content_held a i s l))

pub ruleset numbers = (integers_are, number_held)

truth_or_null : (k : LogicalType) (c : Content) → IsBooleanType k → IsContent k c → not (is_null c) ≡ true → boolean (is_truth c) ≡ c
truth_or_null (boolean_type n) (boolean b) h g e = refl
truth_or_null (boolean_type n) null h g e = absurd (cc e)
truth_or_null (boolean_type n) c h g e = absurd g
truth_or_null k c h g e = absurd h

pub truth_held : (a : Layout) (i : ℕ) → IsSound a → i < len_of a → IsBooleanType (array_type_of a) → not (is_null (content_at a i)) ≡ true →
    boolean (is_truth (content_at a i)) ≡ content_at a i
truth_held a i s l h e = truth_or_null (array_type_of a) (content_at a i) h (content_held a i s l) e

pub null_so : (c : Content) → not (is_null c) ≡ false → null ≡ c
null_so null e = refl
null_so c e = absurd (cc e)

pub ruleset truths = (truth_held, null_so)
