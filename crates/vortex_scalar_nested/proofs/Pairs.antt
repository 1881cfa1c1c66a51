-- Entries of maps, one after another.
use Rattle.std.proofs.Common.{◌≡◌, ◌≢◌, ℕ, zero, suc, List, [], ◌∷◌, length, get_or, arith, true, Option, Some, None, option_copied, Bor, refl, sym, ap, ◌∙◌}
use Rattle.vortex_model.specs.LogicalType.{LogicalType, mapping, stored}
use Rattle.vortex_model.specs.Content.{Raw, raw_null, raw_tuple, Raws, no_raws, raw_first}
use Rattle.vortex_model.specs.Valid.{valid, has, entries_have}
use Rattle.vortex_model.proofs.Booleans.{three_true}
use Rattle.vortex_dtype_core.specs.Parts.{is_map_type, entries_in_type}
use Rattle.vortex_dtype_core.specs.View.{EntryTypes}
use Rattle.vortex_scalar_value.specs.Parts.{items_in}
use Rattle.vortex_scalar_value.specs.View.{raw_in, raw_at, raws_in}
use Rattle.vortex_scalar_value.specs.declared.scalar_value.ScalarValue.{ScalarValue}
use Rattle.vortex_scalar_value.proofs.Sizes.{raw_at-copied}
use Rattle.vortex_scalar_value.proofs.Views as values
use Rattle.vortex_scalar_nested.specs.Places.{item_at}
use Rattle.vortex_scalar_nested.specs.Entries.{pair_in, key_in, value_in}
use Rattle.vortex_scalar_nested.proofs.Elements.{is_items, items_held, item_within}

pub maps_are_items : (k : LogicalType) (r : Raw) → is_map_type k ≡ true → valid k r ≡ true → is_items r ≡ true
maps_are_items (mapping l w s n) raw_null h v = refl
maps_are_items (mapping l w s n) (raw_tuple rs) h v = refl
maps_are_items (mapping l w s n) r h v = absurd (cc (v))
maps_are_items k r h v = absurd (cc (h))

pub ruleset held = (values.one_level, items_held, maps_are_items)

-- ---- an entry

pub pair_there : (r : Raw) (ps : List (Option ScalarValue)) (a b : Option ScalarValue) (o p : Option (Bor ScalarValue)) → Some (raws_in ps) ≡ items_in r → length ps ≡ 2 → a ≡ get_or ps 0 a → b ≡ get_or ps 1 b → option_copied o ≡ a → option_copied p ≡ b → Some (raw_at o, raw_at p) ≡ pair_in r
pair_there (raw_tuple rs) [] a b o p t h d e c f = absurd (omega (arith, h))
pair_there (raw_tuple rs) (x ∷ []) a b o p t h d e c f = absurd (omega (arith, h))
pair_there (raw_tuple rs) (x ∷ y ∷ z ∷ ps) a b o p t h d e c f = absurd (omega (arith, h))
pair_there (raw_tuple rs) (x ∷ y ∷ []) a b o p t h d e c f =
    let first : raw_at o ≡ raw_in x = raw_at-copied o ∙ ap (λ u. raw_in u) c ∙ ap (λ u. raw_in u) d in
    let second : raw_at p ≡ raw_in y = raw_at-copied p ∙ ap (λ u. raw_in u) f ∙ ap (λ u. raw_in u) e in
    let same : raws_in (x ∷ y ∷ []) ≡ rs = cc t in
    ap (λ q. Some (q, raw_at p)) first ∙ ap (λ q. Some (raw_in x, q)) second ∙ ap (λ q. pair_in (raw_tuple q)) same
pair_there r ps a b o p t h d e c f = absurd (cc (t))

pub no_pair : (r : Raw) (ps : List (Option ScalarValue)) → Some (raws_in ps) ≡ items_in r → length ps ≢ 2 → None ≡ pair_in r
no_pair (raw_tuple rs) [] t h = let same : raws_in [] ≡ rs = cc t in ap (λ q. pair_in (raw_tuple q)) same
no_pair (raw_tuple rs) (x ∷ []) t h = let same : raws_in (x ∷ []) ≡ rs = cc t in ap (λ q. pair_in (raw_tuple q)) same
no_pair (raw_tuple rs) (x ∷ y ∷ []) t h = absurd (h refl)
no_pair (raw_tuple rs) (x ∷ y ∷ z ∷ ps) t h = let same : raws_in (x ∷ y ∷ z ∷ ps) ≡ rs = cc t in ap (λ q. pair_in (raw_tuple q)) same
no_pair r ps t h = absurd (cc (t))

pub no_items : (r : Raw) → None ≡ items_in r → None ≡ pair_in r
no_items (raw_tuple rs) t = absurd (cc (t))
no_items r t = refl

pub ruleset split = (pair_there, no_pair, no_items)

-- ---- the validity of entries

abbrev key_or : Raw → Option (Raw × Raw) → Raw
key_or d None = d
key_or d (Some p) = p.0

abbrev value_or : Raw → Option (Raw × Raw) → Raw
value_or d None = d
value_or d (Some p) = p.1

each_valid : (k w : LogicalType) (rs : Raws) (i : ℕ) (r a b : Raw) → entries_have k w rs ≡ true → Some r ≡ item_at rs i → Some (a, b) ≡ pair_in r → (valid k a ≡ true) × (valid w b ≡ true)
each_valid k w no_raws i r a b h p q = absurd (cc (p))
each_valid k w (raw_first (raw_tuple (raw_first x (raw_first y no_raws))) rs) zero r a b h p q =
    let same : r ≡ raw_tuple (raw_first x (raw_first y no_raws)) = cc p in
    let key : a ≡ x = ap (λ o. key_or x o) q ∙ ap (λ u. key_or x (pair_in u)) same in
    let value : b ≡ y = ap (λ o. value_or y o) q ∙ ap (λ u. value_or y (pair_in u)) same in
    let parts = three_true (has (stored k) x) (has (stored w) y) (entries_have k w rs) h in
    (ap (λ z. has (stored k) z) key ∙ parts.0, ap (λ z. has (stored w) z) value ∙ parts.1)
each_valid k w (raw_first (raw_tuple (raw_first x (raw_first y no_raws))) rs) (suc i) r a b h p q =
    each_valid k w rs i r a b (three_true (has (stored k) x) (has (stored w) y) (entries_have k w rs) h).2 p q
each_valid k w (raw_first u rs) i r a b h p q = absurd (cc (h))

abbrev kind_of_keys : LogicalType → Option EntryTypes → LogicalType
kind_of_keys d None = d
kind_of_keys d (Some e) = e.key

abbrev kind_of_values : LogicalType → Option EntryTypes → LogicalType
kind_of_values d None = d
kind_of_values d (Some e) = e.value

pub entries_all : (k : LogicalType) (e : EntryTypes) (rs : Raws) → entries_in_type k ≡ Some e → valid k (raw_tuple rs) ≡ true → entries_have e.key e.value rs ≡ true
entries_all (mapping l w s n) e rs h v =
    let keys : e.key ≡ l = ap (λ o. kind_of_keys l o) (sym h) in
    let values : e.value ≡ w = ap (λ o. kind_of_values w o) (sym h) in
    ap (λ x. entries_have x e.value rs) keys ∙ ap (λ x. entries_have l x rs) values ∙ v
entries_all k e rs h v = absurd (cc (h))

pub key_valid : (k : LogicalType) (e : EntryTypes) (rs : Raws) (i : ℕ) (r a b : Raw) → entries_in_type k ≡ Some e → valid k (raw_tuple rs) ≡ true → Some r ≡ item_at rs i → Some (a, b) ≡ pair_in r → valid e.key a ≡ true
key_valid k e rs i r a b h v p q = (each_valid e.key e.value rs i r a b (entries_all k e rs h v) p q).0

pub value_valid : (k : LogicalType) (e : EntryTypes) (rs : Raws) (i : ℕ) (r a b : Raw) → entries_in_type k ≡ Some e → valid k (raw_tuple rs) ≡ true → Some r ≡ item_at rs i → Some (a, b) ≡ pair_in r → valid e.value b ≡ true
value_valid k e rs i r a b h v p q = (each_valid e.key e.value rs i r a b (entries_all k e rs h v) p q).1

pub ruleset placed = (key_valid, value_valid)

pub key_of_pair : (r a b : Raw) → Some (a, b) ≡ pair_in r → key_in r ≡ a
key_of_pair (raw_tuple (raw_first x (raw_first y no_raws))) a b q = sym (ap (λ o. key_or x o) q)
key_of_pair r a b q = absurd (cc (q))

pub value_of_pair : (r a b : Raw) → Some (a, b) ≡ pair_in r → value_in r ≡ b
value_of_pair (raw_tuple (raw_first x (raw_first y no_raws))) a b q = sym (ap (λ o. value_or y o) q)
value_of_pair r a b q = absurd (cc (q))
