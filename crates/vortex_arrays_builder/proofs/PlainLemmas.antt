-- Arrays of any type.
use Rattle.std.proofs.Common.{◌≡◌, ◌<◌, ◌+◌, ℕ, zero, suc, true, List, [], ◌∷◌, length, map, get_or, Option, Bor, refl, sym, ap, subst, ◌∙◌, arith, inl, inr}
use Rattle.std.specs.List.{flat_map, All}
use Rattle.std.proofs.lemmas.Bool.{cases_eq}
use Rattle.std.proofs.lemmas.List.{length-map, get_or-map, get_or_default}
use Rattle.vortex_model.specs.LogicalType.{LogicalType, list, fixed_list, struct, Fields, Nullability, nullable}
use Rattle.vortex_model.specs.Content.{content_of, Raw}
use Rattle.vortex_model.specs.Valid.{valid}
use Rattle.vortex_dtype_core.specs.View.{type_of, fields_of}
use Rattle.vortex_dtype_core.specs.declared.struct_fields.StructField.{StructField}
use Rattle.vortex_dtype_core.proofs.Views.{one_level, field_of-parts}
use Rattle.vortex_scalar_value.specs.View.{raw_at, content_at as value_content}
use Rattle.vortex_scalar_value.specs.declared.scalar_value.ScalarValue.{ScalarValue}
use Rattle.vortex_arrays_view.specs.declared.error.ArrayError.{ArrayError}
use Rattle.vortex_arrays_view.specs.declared.error.ArrayError.TheVariants as error
use Rattle.vortex_arrays_model.specs.Layout.{Layout, array_type_of, rows_of, Strings, texts, byte_strings, type_of_strings}
use Rattle.vortex_arrays_builder.specs.Items.{raw_items}
use Rattle.vortex_arrays_builder.specs.Plain.{is_held, IsPlain}
use Rattle.vortex_arrays_builder.proofs.LeafLemmas.{plain_rows}
use Rattle.vortex_arrays_builder.proofs.ListLemmas.{all_held, all_items_valid}
use Rattle.vortex_arrays_builder.proofs.TooLargeLemmas.{contents, no_memory}

abbrev Value : Type 0
Value = Option (Bor ScalarValue)

-- ---- rows

pub values_valid : (k : LogicalType) (vs : List Value) → All (λ value. valid k (raw_at value) ≡ true) vs → All (λ r. valid k r ≡ true) (map raw_at vs)
values_valid k [] h = λ i d l. absurd (omega arith)
values_valid k (v ∷ vs) h = λ i d l. subst (λ r. valid k r ≡ true) (sym (get_or-map raw_at (v ∷ vs) i v d (omega (arith, l, length-map vs raw_at)))) (h i v (omega (arith, l, length-map vs raw_at)))

pub values_held : (k : LogicalType) (vs : List Value) → All (λ value. valid k (raw_at value) ≡ true) vs → All (λ r. is_held k r ≡ true) (map raw_at vs)
values_held k vs h = all_held k (map raw_at vs) (values_valid k vs h)

pub rows_made : (k : LogicalType) (vs : List Value) (a : Layout) → IsPlain k (map raw_at vs) a → All (λ value. valid k (raw_at value) ≡ true) vs → rows_of a ≡ map value_content vs
rows_made k vs a p h = plain_rows k (map raw_at vs) a p (values_valid k vs h) ∙ contents vs

pub ruleset rows = (values_held, rows_made)

-- ---- elements and fields are plain of their own types

pub own_kind : (k : LogicalType) (rs : List Raw) (a : Layout) → IsPlain k rs a → IsPlain (array_type_of a) rs a
own_kind k rs a p = subst (λ t. IsPlain t rs a) (sym p.kind) p

pub list_kind : (k : LogicalType) (n : Nullability) (items rs : List Raw) (e a : Layout) → IsPlain k items e → IsPlain (list (array_type_of e) n) rs a → IsPlain (list k n) rs a
list_kind k n items rs e a p h = subst (λ t. IsPlain (list t n) rs a) p.kind h

pub fixed_kind : (k : LogicalType) (m : ℕ) (n : Nullability) (items rs : List Raw) (e a : Layout) → IsPlain k items e → IsPlain (fixed_list (array_type_of e) m n) rs a → IsPlain (fixed_list k m n) rs a
fixed_kind k m n items rs e a p h = subst (λ t. IsPlain (fixed_list t m n) rs a) p.kind h

pub list_held : (k : LogicalType) (n : Nullability) (items rs : List Raw) (e : Layout) → IsPlain k items e → All (λ r. is_held (list k n) r ≡ true) rs → All (λ r. is_held (list (array_type_of e) n) r ≡ true) rs
list_held k n items rs e p h = subst (λ t. All (λ r. is_held (list t n) r ≡ true) rs) (sym p.kind) h

pub fixed_held : (k : LogicalType) (m : ℕ) (n : Nullability) (items rs : List Raw) (e : Layout) → IsPlain k items e → All (λ r. is_held (fixed_list k m n) r ≡ true) rs → All (λ r. is_held (fixed_list (array_type_of e) m n) r ≡ true) rs
fixed_held k m n items rs e p h = subst (λ t. All (λ r. is_held (fixed_list t m n) r ≡ true) rs) (sym p.kind) h

pub items_held : (k : LogicalType) (n : Nullability) (rs : List Raw) → All (λ r. is_held (list k n) r ≡ true) rs → All (λ r. is_held k r ≡ true) (flat_map raw_items rs)
items_held k n rs h = all_held k (flat_map raw_items rs) (all_items_valid k n rs h)

pub ruleset levels = (one_level, no_memory)
