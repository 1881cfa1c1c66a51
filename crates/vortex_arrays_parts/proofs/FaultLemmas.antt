-- Why values make no array, and that they make one of the type.
use Rattle.std.proofs.Common.{◌≡◌, ◌∙◌, sym, ap, subst, ℕ, List, Option, map}
use Rattle.std.specs.List.{All}
use Rattle.vortex_model.specs.LogicalType.{LogicalType, Nullability, nullability_of}
use Rattle.vortex_arrays_view.specs.declared.error.ArrayError.{ArrayError}
use Rattle.vortex_arrays_view.specs.declared.error.ArrayError.TheVariants as error
use Rattle.vortex_arrays_model.specs.Layout.{Layout, Strings, texts, type_of_strings}
use Rattle.vortex_arrays_leaf.specs.Strings.{strings_in}
use Rattle.vortex_arrays_builder.specs.Strings.{IsStringsFault}
use Rattle.vortex_arrays_parts.specs.Values.{raw_of_bytes, AreTooLarge, AreViewed, HaveNulls, HoldsStrings, IsHeld, IsOfValues, IsValuesFault}
use Rattle.vortex_arrays_parts.proofs.ViewLemmas.{not_too_large}
use Rattle.vortex_arrays_parts.proofs.TextTypes.{holds_strings, holds_kind, nullability_kind, strings_kind}

-- ---- for a type

pub no_strings : (e : ArrayError) (k : LogicalType) (vs : List (Option (List ℕ))) → e ≡ error.WrongType → (HoldsStrings k → ⊥) → IsValuesFault e k vs
no_strings e k vs is h = subst (λ x. IsValuesFault x k vs) (sym is) h

pub no_null : (e : ArrayError) (k : LogicalType) (s : Strings) (n : Nullability) (vs : List (Option (List ℕ))) → k ≡ type_of_strings s (nullability_of k) → n ≡ nullability_of k → e ≡ error.NullInNonNullable → (HaveNulls n vs → ⊥) → IsValuesFault e k vs
no_null e k s n vs is f g h = subst (λ x. IsValuesFault x k vs) (sym g) (holds_kind k s (nullability_of k) is, subst (λ m. HaveNulls m vs → ⊥) f h)

pub no_room : (e : ArrayError) (k : LogicalType) (s : Strings) (n : Nullability) (vs : List (Option (List ℕ))) → k ≡ type_of_strings s (nullability_of k) → n ≡ nullability_of k → HaveNulls n vs → IsStringsFault e (map raw_of_bytes vs) → IsValuesFault e k vs
no_room error.Memory k s n vs is f nulls h = tt
no_room error.Total k s n vs is f nulls h = (holds_kind k s (nullability_of k) is, subst (λ m. HaveNulls m vs) f nulls, h)
no_room e k s n vs is f nulls h = absurd h

pub no_text : (k : LogicalType) (s : Strings) (n : Nullability) (vs : List (Option (List ℕ))) (buffers views : List (List ℕ)) →
    k ≡ type_of_strings s (nullability_of k) → n ≡ nullability_of k → HaveNulls n vs →
    AreViewed vs buffers views → s ≡ texts → (All (IsHeld texts) vs → ⊥) → IsValuesFault error.NotUtf8 k vs
no_text k s n vs buffers views is f nulls viewed t h =
    (holds_kind k s (nullability_of k) is, subst (λ m. HaveNulls m vs) f nulls, not_too_large vs buffers views viewed, ap strings_in is ∙ strings_kind s (nullability_of k) ∙ t, h)

pub no_memory : (e : ArrayError) (k : LogicalType) (vs : List (Option (List ℕ))) → e ≡ error.Memory → IsValuesFault e k vs
no_memory e k vs is = subst (λ x. IsValuesFault x k vs) (sym is) tt

pub of_kind : (k : LogicalType) (s : Strings) (n : Nullability) (vs : List (Option (List ℕ))) (a : Layout) → k ≡ type_of_strings s (nullability_of k) → n ≡ nullability_of k → IsOfValues (type_of_strings s n) vs a → IsOfValues k vs a
of_kind k s n vs a is f h = subst (λ t. IsOfValues t vs a) (ap (type_of_strings s) f ∙ sym is) h

pub ruleset checked = (no_strings, no_null, no_room, no_text, no_memory, of_kind)

-- ---- for values that the type has

pub room_for_held : (e : ArrayError) (s : Strings) (n : Nullability) (vs : List (Option (List ℕ))) → HaveNulls n vs → IsStringsFault e (map raw_of_bytes vs) → IsValuesFault e (type_of_strings s n) vs
room_for_held error.Memory s n vs nulls h = tt
room_for_held error.Total s n vs nulls h = (holds_strings s n, subst (λ m. HaveNulls m vs) (sym (nullability_kind s n)) nulls, h)
room_for_held e s n vs nulls h = absurd h

pub ruleset held = (room_for_held, no_memory)
