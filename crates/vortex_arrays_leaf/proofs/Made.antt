-- Types of strings and bytes, and why parts make no array of them.
use Rattle.std.proofs.Common.{◌≡◌, ◌≢◌, ◌∙◌, sym, ap, subst, ℕ, List, length, true, false, ◌||◌, refl, inr}
use Rattle.vortex_model.specs.LogicalType.{LogicalType, utf8, binary, nullability_of}
use Rattle.vortex_dtype_core.specs.Parts.{is_utf8_type, is_binary_type}
use Rattle.vortex_dtype_ptype.specs.View.{nullability_of_flag}
use Rattle.vortex_dtype_ptype.specs.declared.nullability.Nullability.{Nullability as Flag}
use Rattle.vortex_dtype_ptype.specs.declared.nullability.Nullability.TheVariants as flag
use Rattle.vortex_arrays_view.specs.declared.error.ArrayError.{ArrayError}
use Rattle.vortex_arrays_view.specs.declared.error.ArrayError.TheVariants as error
use Rattle.vortex_arrays_model.specs.Layout.{Strings, texts, byte_strings, strings, type_of_strings, Valid, nullability_by, IsSound, HasLength}
use Rattle.vortex_arrays_core.specs.Faults.{IsValidityFault}
use Rattle.vortex_arrays_leaf.specs.Strings.{IsStringType, strings_in, HaveValues, HoldStrings}
use Rattle.vortex_arrays_leaf.specs.ViewFaults.{HasLongValue, IsViewsFault, IsTextsFault, IsStringsFault}

pub texts_in : (k : LogicalType) → is_utf8_type k ≡ true → strings_in k ≡ texts
texts_in (utf8 n) e = refl
texts_in k e = absurd (cc (e))

pub byte_strings_in : (k : LogicalType) → is_utf8_type k ≡ false → strings_in k ≡ byte_strings
byte_strings_in (utf8 n) e = absurd (cc (e))
byte_strings_in k e = refl

-- the type of the values and the validity
pub type_given : (k : LogicalType) (v : Valid) → IsStringType k v → type_of_strings (strings_in k) (nullability_by v) ≡ k
type_given (utf8 n) v e = ap utf8 (sym e)
type_given (binary n) v e = ap binary (sym e)
type_given k v e = absurd e

flags_apart : (m n : Flag) → nullability_of_flag m ≡ nullability_of_flag n → m ≡ n
flags_apart flag.NonNullable flag.NonNullable e = refl
flags_apart flag.NonNullable flag.Nullable e = absurd (cc (e))
flags_apart flag.Nullable flag.NonNullable e = absurd (cc (e))
flags_apart flag.Nullable flag.Nullable e = refl

pub string_type : (k : LogicalType) (v : Valid) (m n : Flag) → nullability_of_flag m ≡ nullability_of k → nullability_of_flag n ≡ nullability_by v → m ≡ n → (is_utf8_type k || is_binary_type k) ≡ true → IsStringType k v
string_type (utf8 x) v m n e f same h = sym e ∙ ap nullability_of_flag same ∙ f
string_type (binary x) v m n e f same h = sym e ∙ ap nullability_of_flag same ∙ f
string_type k v m n e f same h = absurd (cc (h))

pub string_nulls : (k : LogicalType) (v : Valid) (m n : Flag) → nullability_of_flag m ≡ nullability_of k → nullability_of_flag n ≡ nullability_by v → IsStringType k v → m ≡ n
string_nulls (utf8 x) v m n e f h = flags_apart m n (e ∙ h ∙ sym f)
string_nulls (binary x) v m n e f h = flags_apart m n (e ∙ h ∙ sym f)
string_nulls k v m n e f h = absurd h

pub string_kinds : (k : LogicalType) (v : Valid) → IsStringType k v → (is_utf8_type k || is_binary_type k) ≡ true
string_kinds (utf8 x) v h = refl
string_kinds (binary x) v h = refl
string_kinds k v h = absurd h

pub ruleset types = (texts_in, byte_strings_in, type_given)

-- the errors, one test after another
pub validity_fault : (e : ArrayError) (k : LogicalType) (views buffers : List (List ℕ)) (v : Valid) → IsStringType k v → IsValidityFault e v (length views) → IsStringsFault e k views buffers v
validity_fault error.WrongType k views buffers v t h = inr h
validity_fault error.LengthMismatch k views buffers v t h = (t, h)
validity_fault error.Memory k views buffers v t h = tt
validity_fault e k views buffers v t h = absurd h

pub lengths_fault : (e : ArrayError) (k : LogicalType) (views buffers : List (List ℕ)) (v : Valid) → IsStringType k v → HasLength v (length views) → e ≡ error.Total → HasLongValue views buffers v → IsStringsFault e k views buffers v
lengths_fault e k views buffers v t l is h = subst (λ x. IsStringsFault x k views buffers v) (sym is) (t, l, h)

pub views_fault : (e : ArrayError) (k : LogicalType) (views buffers : List (List ℕ)) (v : Valid) → IsStringType k v → HasLength v (length views) → (HasLongValue views buffers v → ⊥) → IsViewsFault e views buffers v → IsStringsFault e k views buffers v
views_fault error.BadView k views buffers v t l short h = (t, l, short, h)
views_fault e k views buffers v t l short h = absurd h

pub texts_fault : (e : ArrayError) (s : Strings) (k : LogicalType) (views buffers : List (List ℕ)) (v : Valid) → s ≡ strings_in k → IsStringType k v → HasLength v (length views) → (HasLongValue views buffers v → ⊥) → HaveValues views buffers v → IsTextsFault e s views buffers v → IsStringsFault e k views buffers v
texts_fault error.NotUtf8 s k views buffers v is t l short values h = (t, l, short, values, sym is ∙ h.0, h.1)
texts_fault e s k views buffers v is t l short values h = absurd h

pub sound_strings : (s : Strings) (k : LogicalType) (views buffers : List (List ℕ)) (v : Valid) → s ≡ strings_in k → HasLength v (length views) → HaveValues views buffers v → HoldStrings s views buffers v → IsSound (strings (strings_in k) views buffers v)
sound_strings s k views buffers v is l values holds = subst (λ t. IsSound (strings t views buffers v)) is ((λ i within valid. (values i within valid, holds i within valid)), l)

-- an error of a validity is not `Memory`
pub no_memory_of_validity : (e : ArrayError) (v : Valid) (n : ℕ) → IsValidityFault e v n → e ≢ error.Memory
no_memory_of_validity error.Memory v n h = absurd h
no_memory_of_validity e v n h = λ p. absurd (cc (p))

pub no_memory_of_views : (e : ArrayError) (views buffers : List (List ℕ)) (v : Valid) → IsViewsFault e views buffers v → e ≢ error.Memory
no_memory_of_views error.Memory views buffers v h = absurd h
no_memory_of_views e views buffers v h = λ p. absurd (cc (p))

pub no_memory_of_texts : (e : ArrayError) (s : Strings) (views buffers : List (List ℕ)) (v : Valid) → IsTextsFault e s views buffers v → e ≢ error.Memory
no_memory_of_texts error.Memory s views buffers v h = absurd h
no_memory_of_texts e s views buffers v h = λ p. absurd (cc (p))

pub ruleset faults = (validity_fault, lengths_fault, views_fault, texts_fault, sound_strings, no_memory_of_validity, no_memory_of_views, no_memory_of_texts)
