-- Values that are too large, by their contents.
use Rattle.std.proofs.Common.{◌≡◌, ◌<◌, ◌+◌, ℕ, zero, suc, List, [], ◌∷◌, ◌++◌, length, map, get_or, replicate, Option, Bor, refl, sym, ap, subst, ◌∙◌, arith, inl, inr}
use Rattle.std.specs.List.{flat_map}
use Rattle.std.proofs.lemmas.Bool.{cases_eq}
use Rattle.std.proofs.lemmas.List.{length-map, map-append, get_or-map, get_or_default}
use Rattle.std.proofs.lemmas.List.Folds.{flat_map-map}
use Rattle.vortex_model.specs.LogicalType.{LogicalType, list, fixed_list, struct, Fields, Nullability, nullable}
use Rattle.vortex_model.specs.Content.{Content, null, content_of, contents_of, Raw, raw_null, raw_tuple, Raws, no_raws, raw_first}
use Rattle.vortex_dtype_core.specs.View.{type_of, fields_of}
use Rattle.vortex_dtype_core.specs.declared.struct_fields.StructField.{StructField}
use Rattle.vortex_dtype_core.proofs.Views.{field_of-parts}
use Rattle.vortex_scalar_value.specs.View.{raw_at, content_at as value_content}
use Rattle.vortex_scalar_value.specs.declared.scalar_value.ScalarValue.{ScalarValue}
use Rattle.vortex_scalar_value.proofs.Views.{content_of-part}
use Rattle.vortex_arrays_view.specs.declared.error.ArrayError.{ArrayError}
use Rattle.vortex_arrays_view.specs.declared.error.ArrayError.TheVariants as error
use Rattle.vortex_arrays_view.specs.Cuttings.{IsCutting}
use Rattle.vortex_arrays_model.specs.Layout.{Strings, texts, byte_strings, type_of_strings}
use Rattle.vortex_arrays_builder.specs.Items.{raws_listed, raw_items, fixed_items}
use Rattle.vortex_arrays_builder.specs.Strings.{buffered, buffered_len, IsStringsFault}
use Rattle.vortex_arrays_builder.specs.TooLarge.{buffered_bytes, buffered_count, AreTooLong, contents_listed, list_items, fixed_list_items, parts_of, AreTooLarge, HaveTooLarge}
use Rattle.vortex_arrays_builder.specs.Plain.{parts_at, IsPlainFault}

abbrev Value : Type 0
Value = Option (Bor ScalarValue)

pub contents : (vs : List Value) → map content_of (map raw_at vs) ≡ map value_content vs
contents [] = refl
contents (v ∷ vs) = ap (λ cs. value_content v ∷ cs) (contents vs)

-- ---- strings and bytes

same_bytes : (rs : List Raw) → flat_map buffered rs ≡ flat_map buffered_bytes (map content_of rs)
same_bytes rs = sym (flat_map-map buffered_bytes content_of rs)

same_counts : (rs : List Raw) → map buffered_len rs ≡ map buffered_count (map content_of rs)
same_counts [] = refl
same_counts (r ∷ rs) = ap (λ ns. buffered_len r ∷ ns) (same_counts rs)

module _ (rs : List Raw) (buffers : List (List ℕ)) where
  said : IsCutting (flat_map buffered rs) (map buffered_len rs) 2147483647 buffers → IsCutting (flat_map buffered_bytes (map content_of rs)) (map buffered_count (map content_of rs)) 2147483647 buffers
  said h = subst (λ ns. IsCutting (flat_map buffered_bytes (map content_of rs)) ns 2147483647 buffers) (same_counts rs) (subst (λ bs. IsCutting bs (map buffered_len rs) 2147483647 buffers) (same_bytes rs) h)

  held : IsCutting (flat_map buffered_bytes (map content_of rs)) (map buffered_count (map content_of rs)) 2147483647 buffers → IsCutting (flat_map buffered rs) (map buffered_len rs) 2147483647 buffers
  held h = subst (λ ns. IsCutting (flat_map buffered rs) ns 2147483647 buffers) (sym (same_counts rs)) (subst (λ bs. IsCutting bs (map buffered_count (map content_of rs)) 2147483647 buffers) (sym (same_bytes rs)) h)

pub too_long : (rs : List Raw) → IsStringsFault error.Total rs → AreTooLong (map content_of rs)
too_long rs h = elim h [
  | inl x ↦
      let k = x.0 in
      let r = get_or rs k raw_null in
      let some : k < length rs = subst (λ n. k < n) (length-map rs buffered_len) x.2 in
      let is : x.1 ≡ buffered_len r = sym x.3 ∙ get_or-map buffered_len rs k raw_null x.1 some in
      inl (k, content_of r, subst (λ n. k < n) (sym (length-map rs content_of)) some, get_or-map content_of rs k raw_null (content_of r) some, subst (λ n. 2147483647 < n) is x.4)
  | inr many ↦ inr (λ buffers c. let past = many buffers (held rs buffers c) in omega (arith, past))
]

pub held_too_long : (rs : List Raw) → AreTooLong (map content_of rs) → IsStringsFault error.Total rs
held_too_long rs h = elim h [
  | inl x ↦
      let k = x.0 in
      let r = get_or rs k raw_null in
      let some : k < length rs = subst (λ n. k < n) (length-map rs content_of) x.2 in
      let is : x.1 ≡ content_of r = sym x.3 ∙ get_or-map content_of rs k raw_null x.1 some in
      inl (k, buffered_len r, subst (λ n. k < n) (sym (length-map rs buffered_len)) some, get_or-map buffered_len rs k raw_null (buffered_len r) some, subst (λ c. 2147483647 < buffered_count c) is x.4)
  | inr many ↦ inr (λ buffers c. let past = many buffers (said rs buffers c) in omega (arith, past))
]

pub string_fault : (e : ArrayError) (s : Strings) (n : Nullability) (vs : List Value) → IsStringsFault e (map raw_at vs) → IsPlainFault e (type_of_strings s n) (map value_content vs)
string_fault error.Memory s n vs h = tt
string_fault error.Total texts n vs h = subst AreTooLong (contents vs) (too_long (map raw_at vs) h)
string_fault error.Total byte_strings n vs h = subst AreTooLong (contents vs) (too_long (map raw_at vs) h)
string_fault e s n vs h = absurd h

pub strings_fit : (s : Strings) (n : Nullability) (vs : List Value) → ¬ IsStringsFault error.Total (map raw_at vs) → ¬ AreTooLarge (type_of_strings s n) (map value_content vs)
strings_fit texts n vs h bad = h (held_too_long (map raw_at vs) (subst AreTooLong (sym (contents vs)) bad))
strings_fit byte_strings n vs h bad = h (held_too_long (map raw_at vs) (subst AreTooLong (sym (contents vs)) bad))

-- ---- the values in lists and structs

listed_content : (qs : Raws) → map content_of (raws_listed qs) ≡ contents_listed (contents_of qs)
listed_content no_raws = refl
listed_content (raw_first q qs) = ap (λ cs. content_of q ∷ cs) (listed_content qs)

item_contents : (r : Raw) → map content_of (raw_items r) ≡ list_items (content_of r)
item_contents (raw_tuple qs) = listed_content qs
item_contents r = refl

null_contents : (m : ℕ) → map content_of (replicate m raw_null) ≡ replicate m null
null_contents zero = refl
null_contents (suc m) = ap (λ cs. null ∷ cs) (null_contents m)

fixed_contents : (m : ℕ) (r : Raw) → map content_of (fixed_items m r) ≡ fixed_list_items m (content_of r)
fixed_contents m raw_null = null_contents m
fixed_contents m (raw_tuple qs) = listed_content qs
fixed_contents m r = refl

module _ (f : Raw → List Raw) (g : Content → List Content) (each : (r : Raw) → map content_of (f r) ≡ g (content_of r)) where
  all_contents : (rs : List Raw) → map content_of (flat_map f rs) ≡ flat_map g (map content_of rs)
  all_contents [] = refl
  all_contents (r ∷ rs) = map-append content_of (f r) (flat_map f rs) ∙ (λ i. each r i ++ all_contents rs i)

  all_items : (items vs : List Value) → map raw_at items ≡ flat_map f (map raw_at vs) → map value_content items ≡ flat_map g (map value_content vs)
  all_items items vs e = sym (contents items) ∙ ap (map content_of) e ∙ all_contents (map raw_at vs) ∙ ap (flat_map g) (contents vs)

pub list_rows : (items vs : List Value) → map raw_at items ≡ flat_map raw_items (map raw_at vs) → map value_content items ≡ flat_map list_items (map value_content vs)
list_rows items vs e = all_items raw_items list_items item_contents items vs e

pub fixed_rows : (m : ℕ) (items vs : List Value) → map raw_at items ≡ flat_map (fixed_items m) (map raw_at vs) → map value_content items ≡ flat_map (fixed_list_items m) (map value_content vs)
fixed_rows m items vs e = all_items (fixed_items m) (fixed_list_items m) (fixed_contents m) items vs e

part_contents : (j : ℕ) (rs : List Raw) → map content_of (parts_at j rs) ≡ parts_of j (map content_of rs)
part_contents j [] = refl
part_contents j (r ∷ rs) = λ i. content_of-part r j i ∷ part_contents j rs i

pub part_rows : (j : ℕ) (column : List Value) (rs : List Raw) (rows : List Content) → map raw_at column ≡ parts_at j rs → map content_of rs ≡ rows → map value_content column ≡ parts_of j rows
part_rows j column rs rows e m = sym (contents column) ∙ ap (map content_of) e ∙ part_contents j rs ∙ ap (parts_of j) m

pub column_rows : (j : ℕ) (column vs : List Value) → map raw_at column ≡ parts_at j (map raw_at vs) → map value_content column ≡ parts_of j (map value_content vs)
column_rows j column vs e = part_rows j column (map raw_at vs) (map value_content vs) e (contents vs)

-- ---- errors

pub no_memory : (e : ArrayError) (k : LogicalType) (rows : List Content) → e ≡ error.Memory → IsPlainFault e k rows
no_memory e k rows h = subst (λ x. IsPlainFault x k rows) (sym h) tt

pub list_fault : (e : ArrayError) (k : LogicalType) (n : Nullability) (rows : List Content) → IsPlainFault e k (flat_map list_items rows) → IsPlainFault e (list k n) rows
list_fault error.Memory k n rows h = tt
list_fault error.Total k n rows h = h
list_fault e k n rows h = absurd h

pub fixed_fault : (e : ArrayError) (k : LogicalType) (m : ℕ) (n : Nullability) (rows : List Content) → IsPlainFault e k (flat_map (fixed_list_items m) rows) → IsPlainFault e (fixed_list k m n) rows
fixed_fault error.Memory k m n rows h = tt
fixed_fault error.Total k m n rows h = h
fixed_fault e k m n rows h = absurd h

pub record_fault : (e : ArrayError) (fs : Fields) (m n : Nullability) (rows : List Content) → IsPlainFault e (struct fs m) rows → IsPlainFault e (struct fs n) rows
record_fault error.Memory fs m n rows h = tt
record_fault error.Total fs m n rows h = h
record_fault e fs m n rows h = absurd h

too_large_there : (fs : List StructField) (i j : ℕ) (f : StructField) (rows : List Content) → j < length fs → f ≡ get_or fs j f → AreTooLarge (type_of f.dtype) (parts_of (i + j) rows) → HaveTooLarge (fields_of fs) i rows
too_large_there [] i j f rows l e h = absurd (omega arith)
too_large_there (g ∷ fs) i zero f rows l e h =
    inl (subst (λ p. AreTooLarge p.1 (parts_of i rows)) (sym (field_of-parts g)) (subst (λ x. AreTooLarge (type_of x.dtype) (parts_of i rows)) e (subst (λ n. AreTooLarge (type_of f.dtype) (parts_of n rows)) (let s : i + 0 ≡ i = omega arith in s) h)))
too_large_there (g ∷ fs) i (suc j) f rows l e h =
    inr (too_large_there fs (suc i) j f rows (omega (arith, l)) e (subst (λ n. AreTooLarge (type_of f.dtype) (parts_of n rows)) (let s : i + suc j ≡ suc i + j = omega arith in s) h))

pub field_fault : (e : ArrayError) (fs : List StructField) (n : Nullability) (j : ℕ) (f : StructField) (rows column : List Content) → IsPlainFault e (type_of f.dtype) column → column ≡ parts_of j rows → j < length fs → f ≡ get_or fs j f → IsPlainFault e (struct (fields_of fs) n) rows
field_fault error.Memory fs n j f rows column h same l e = tt
field_fault error.Total fs n j f rows column h same l e =
    too_large_there fs 0 j f rows l e (subst (λ m. AreTooLarge (type_of f.dtype) (parts_of m rows)) (let s : j ≡ 0 + j = omega arith in s) (subst (AreTooLarge (type_of f.dtype)) same h))
field_fault x fs n j f rows column h same l e = absurd h

pub none_too_large : (fs : List StructField) (i : ℕ) (rows : List Content) → ((j : ℕ) (f : StructField) → j < length fs → f ≡ get_or fs j f → ¬ AreTooLarge (type_of f.dtype) (parts_of (i + j) rows)) → ¬ HaveTooLarge (fields_of fs) i rows
none_too_large [] i rows h bad = absurd bad
none_too_large (g ∷ fs) i rows h bad = elim bad [
  | inl x ↦ h 0 g (omega arith) refl (subst (λ n. AreTooLarge (type_of g.dtype) (parts_of n rows)) (let s : i ≡ i + 0 = omega arith in s) (subst (λ p. AreTooLarge p.1 (parts_of i rows)) (field_of-parts g) x))
  | inr y ↦ none_too_large fs (suc i) rows (λ j f l e x. h (suc j) f (omega (arith, l)) e (subst (λ n. AreTooLarge (type_of f.dtype) (parts_of n rows)) (let s : suc i + j ≡ i + suc j = omega arith in s) x)) y
]

-- no value of the first n fields is too large
abbrev pub NoneTooLarge : List StructField → ℕ → List Content → Type 0
NoneTooLarge fs n rows = (j : ℕ) (f : StructField) → j < n → f ≡ get_or fs j f → ¬ AreTooLarge (type_of f.dtype) (parts_of j rows)

pub none_too_large_yet : (fs : List StructField) (rows : List Content) → NoneTooLarge fs 0 rows
none_too_large_yet fs rows j f l = absurd (omega (arith, l))

pub none_more : (fs : List StructField) (n : ℕ) (f : StructField) (rows : List Content) → NoneTooLarge fs n rows → n < length fs → f ≡ get_or fs n f → ¬ AreTooLarge (type_of f.dtype) (parts_of n rows) → NoneTooLarge fs (n + 1) rows
none_more fs n f rows h l is fits j g m e = elim (cases_eq j n) [
  | inl same ↦ λ bad. fits (subst (λ x. AreTooLarge (type_of x.dtype) (parts_of n rows)) (e ∙ ap (λ k. get_or fs k g) same ∙ get_or_default fs n g f l ∙ sym is) (subst (λ k. AreTooLarge (type_of g.dtype) (parts_of k rows)) same bad))
  | inr other ↦ h j g (omega (arith, other, m)) e
]

pub ruleset fields = (no_memory, none_too_large_yet, none_more)
