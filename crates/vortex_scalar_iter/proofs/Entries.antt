-- Entries of maps, one after another.
use Rattle.std.proofs.Common.{◌≡◌, List, [], ◌∷◌, length, suc, true, Option, Some, None, option_and_then, option_copied, Bor, refl, sym, ap, ◌∙◌}
use Rattle.vortex_model.specs.LogicalType.{LogicalType, stored}
use Rattle.vortex_model.specs.Content.{Raw, raw_null, raw_tuple, Raws, no_raws, raw_first}
use Rattle.vortex_model.specs.Valid.{valid, has, entries_have}
use Rattle.vortex_model.proofs.Booleans.{three_true}
use Rattle.vortex_dtype_core.specs.Parts.{entries_in_type}
use Rattle.vortex_dtype_core.specs.View.{EntryTypes}
use Rattle.vortex_scalar_value.specs.View.{raws_in, raw_in, raw_at}
use Rattle.vortex_scalar_value.specs.declared.scalar_value.ScalarValue.{ScalarValue}
use Rattle.vortex_scalar_nested.specs.Entries.{pair_in, typed_pair, each_key, each_value, keys_under, keys_of, values_under, values_of}
use Rattle.vortex_scalar_nested.proofs.Pairs.{key_of_pair, value_of_pair, entries_all}
use Rattle.vortex_scalar_iter.specs.Entries.{each_entry, entries_under, entries_of_map}
use Rattle.vortex_scalar_iter.proofs.Elements.{seen}

abbrev key_or : Raw → Option (Raw × Raw) → Raw
key_or d None = d
key_or d (Some p) = p.0

abbrev value_or : Raw → Option (Raw × Raw) → Raw
value_or d None = d
value_or d (Some p) = p.1

raws_valid : (k w : LogicalType) (r : Raw) (rs : Raws) (a b : Raw) → entries_have k w (raw_first r rs) ≡ true → Some (a, b) ≡ pair_in r → (valid k a ≡ true) × (valid w b ≡ true)
raws_valid k w (raw_tuple (raw_first x (raw_first y no_raws))) rs a b h p =
    let key : a ≡ x = ap (λ o. key_or x o) p in
    let value : b ≡ y = ap (λ o. value_or y o) p in
    let parts = three_true (has (stored k) x) (has (stored w) y) (entries_have k w rs) h in
    (ap (λ z. has (stored k) z) key ∙ parts.0, ap (λ z. has (stored w) z) value ∙ parts.1)
raws_valid k w r rs a b h p = absurd (cc (h))

raws_behind : (k w : LogicalType) (r : Raw) (rs : Raws) → entries_have k w (raw_first r rs) ≡ true → entries_have k w rs ≡ true
raws_behind k w (raw_tuple (raw_first x (raw_first y no_raws))) rs h = (three_true (has (stored k) x) (has (stored w) y) (entries_have k w rs) h).2
raws_behind k w r rs h = absurd (cc (h))

raws_paired : (k w : LogicalType) (r : Raw) (rs : Raws) → entries_have k w (raw_first r rs) ≡ true → None ≡ pair_in r → ⊥
raws_paired k w (raw_tuple (raw_first x (raw_first y no_raws))) rs h p = absurd (cc (p))
raws_paired k w r rs h p = absurd (cc (h))

pub first_key_valid : (k w : LogicalType) (v : Option ScalarValue) (vs : List (Option ScalarValue)) (o : Option (Bor ScalarValue)) (a b : Raw) → entries_have k w (raws_in (v ∷ vs)) ≡ true → option_copied o ≡ v → Some (a, b) ≡ pair_in (raw_at o) → valid k a ≡ true
first_key_valid k w v vs o a b h c p = (raws_valid k w (raw_in v) (raws_in vs) a b h (p ∙ ap pair_in (seen v o c))).0

pub first_value_valid : (k w : LogicalType) (v : Option ScalarValue) (vs : List (Option ScalarValue)) (o : Option (Bor ScalarValue)) (a b : Raw) → entries_have k w (raws_in (v ∷ vs)) ≡ true → option_copied o ≡ v → Some (a, b) ≡ pair_in (raw_at o) → valid w b ≡ true
first_value_valid k w v vs o a b h c p = (raws_valid k w (raw_in v) (raws_in vs) a b h (p ∙ ap pair_in (seen v o c))).1

pub others_valid : (k w : LogicalType) (v : Option ScalarValue) (vs : List (Option ScalarValue)) → entries_have k w (raws_in (v ∷ vs)) ≡ true → entries_have k w (raws_in vs) ≡ true
others_valid k w v vs h = raws_behind k w (raw_in v) (raws_in vs) h

pub first_paired : (k w : LogicalType) (v : Option ScalarValue) (vs : List (Option ScalarValue)) (o : Option (Bor ScalarValue)) → entries_have k w (raws_in (v ∷ vs)) ≡ true → option_copied o ≡ v → None ≡ pair_in (raw_at o) → ⊥
first_paired k w v vs o h c p = raws_paired k w (raw_in v) (raws_in vs) h (p ∙ ap pair_in (seen v o c))

pub first_entry : (e : EntryTypes) (v : Option ScalarValue) (vs : List (Option ScalarValue)) (o : Option (Bor ScalarValue)) (a b : Raw) → option_copied o ≡ v → Some (a, b) ≡ pair_in (raw_at o) → each_entry e (raws_in (v ∷ vs)) ≡ typed_pair e (a, b) ∷ each_entry e (raws_in vs)
first_entry e v vs o a b c p =
    let pair : Some (a, b) ≡ pair_in (raw_in v) = p ∙ ap pair_in (seen v o c) in
    (λ i. typed_pair e (key_of_pair (raw_in v) a b pair i, value_of_pair (raw_in v) a b pair i) ∷ each_entry e (raws_in vs))

pub first_key : (k : LogicalType) (v : Option ScalarValue) (vs : List (Option ScalarValue)) (o : Option (Bor ScalarValue)) (a b : Raw) → option_copied o ≡ v → Some (a, b) ≡ pair_in (raw_at o) → each_key k (raws_in (v ∷ vs)) ≡ (k, a) ∷ each_key k (raws_in vs)
first_key k v vs o a b c p = ap (λ r. (k, r) ∷ each_key k (raws_in vs)) (key_of_pair (raw_in v) a b (p ∙ ap pair_in (seen v o c)))

pub first_value : (k : LogicalType) (v : Option ScalarValue) (vs : List (Option ScalarValue)) (o : Option (Bor ScalarValue)) (a b : Raw) → option_copied o ≡ v → Some (a, b) ≡ pair_in (raw_at o) → each_value k (raws_in (v ∷ vs)) ≡ (k, b) ∷ each_value k (raws_in vs)
first_value k v vs o a b c p = ap (λ r. (k, r) ∷ each_value k (raws_in vs)) (value_of_pair (raw_in v) a b (p ∙ ap pair_in (seen v o c)))

pub as_many_keys : (k : LogicalType) (vs : List (Option ScalarValue)) → length (each_key k (raws_in vs)) ≡ length vs
as_many_keys k [] = refl
as_many_keys k (v ∷ vs) = ap suc (as_many_keys k vs)

pub as_many_values : (k : LogicalType) (vs : List (Option ScalarValue)) → length (each_value k (raws_in vs)) ≡ length vs
as_many_values k [] = refl
as_many_values k (v ∷ vs) = ap suc (as_many_values k vs)

pub eq_length : (e : EntryTypes) (vs : List (Option ScalarValue)) → length (each_entry e (raws_in vs)) ≡ length vs
eq_length e [] = refl
eq_length e (v ∷ vs) = ap suc (eq_length e vs)

pub ruleset first_of = (first_key_valid, first_value_valid, others_valid, first_paired, first_entry)

pub ruleset first_key_of = (first_key_valid, others_valid, first_paired, first_key)

pub ruleset first_value_of = (first_value_valid, others_valid, first_paired, first_value)

pub ruleset counted = (eq_length, as_many_keys, as_many_values)

-- ---- the entries of a map

pub map_entries : (k : LogicalType) (e : EntryTypes) (r : Raw) (rs : Raws) → entries_in_type k ≡ Some e → raw_tuple rs ≡ r → Some (each_entry e rs) ≡ entries_of_map (k, r)
map_entries k e r rs h p = sym (ap (λ o. option_and_then (λ d. entries_under d r) o) h ∙ ap (λ z. entries_under e z) (sym p))

pub no_entries_of_null : (k : LogicalType) (r : Raw) → raw_null ≡ r → None ≡ entries_of_map (k, r)
no_entries_of_null k r p = none_at (entries_in_type k) ∙ ap (λ z. entries_of_map (k, z)) p where
  none_at : (o : Option EntryTypes) → None ≡ option_and_then (λ e. entries_under e raw_null) o
  none_at None = refl
  none_at (Some e) = refl

pub ruleset listed = (entries_all, map_entries, no_entries_of_null)

pub map_keys : (k : LogicalType) (e : EntryTypes) (r : Raw) (rs : Raws) → entries_in_type k ≡ Some e → raw_tuple rs ≡ r → Some (each_key e.key rs) ≡ keys_of (k, r)
map_keys k e r rs h p = sym (ap (λ o. option_and_then (λ d. keys_under d r) o) h ∙ ap (λ z. keys_under e z) (sym p))

pub no_keys_of_null : (k : LogicalType) (r : Raw) → raw_null ≡ r → None ≡ keys_of (k, r)
no_keys_of_null k r p = none_at (entries_in_type k) ∙ ap (λ z. keys_of (k, z)) p where
  none_at : (o : Option EntryTypes) → None ≡ option_and_then (λ e. keys_under e raw_null) o
  none_at None = refl
  none_at (Some e) = refl

pub ruleset keys_listed = (entries_all, map_keys, no_keys_of_null)

pub map_values : (k : LogicalType) (e : EntryTypes) (r : Raw) (rs : Raws) → entries_in_type k ≡ Some e → raw_tuple rs ≡ r → Some (each_value e.value rs) ≡ values_of (k, r)
map_values k e r rs h p = sym (ap (λ o. option_and_then (λ d. values_under d r) o) h ∙ ap (λ z. values_under e z) (sym p))

pub no_values_of_null : (k : LogicalType) (r : Raw) → raw_null ≡ r → None ≡ values_of (k, r)
no_values_of_null k r p = none_at (entries_in_type k) ∙ ap (λ z. values_of (k, z)) p where
  none_at : (o : Option EntryTypes) → None ≡ option_and_then (λ e. values_under e raw_null) o
  none_at None = refl
  none_at (Some e) = refl

pub ruleset values_listed = (entries_all, map_values, no_values_of_null)
