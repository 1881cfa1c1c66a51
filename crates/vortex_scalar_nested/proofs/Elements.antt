-- Parts of lists and structs, one after another.
use Rattle.std.proofs.Common.{◌≡◌, ◌<◌, ◌≤◌, ◌==◌, ℕ, zero, suc, List, [], ◌∷◌, length, map, get_or, arith, Bool, true, false, Option, Some, None, option_map, option_copied, Bor, refl, sym, ap, ◌∙◌}
use Rattle.std.proofs.lemmas.Bool.{and_parts}
use Rattle.vortex_model.specs.LogicalType.{LogicalType, list, fixed_list, stored}
use Rattle.vortex_model.specs.Content.{Raw, raw_null, raw_tuple, Raws, no_raws, raw_first, raw_count}
use Rattle.vortex_model.specs.Valid.{valid, has, all_have}
use Rattle.vortex_dtype_core.specs.Parts.{list_element}
use Rattle.vortex_scalar_value.specs.Parts.{items_in}
use Rattle.vortex_scalar_value.specs.View.{raw_in, raw_at, raws_in}
use Rattle.vortex_scalar_value.specs.declared.scalar_value.ScalarValue.{ScalarValue}
use Rattle.vortex_scalar_value.proofs.Sizes.{raw_at-copied}
use Rattle.vortex_scalar_value.proofs.Views as values
use Rattle.vortex_scalar_nested.specs.Held.{raw_of_items}
use Rattle.vortex_scalar_nested.specs.Places.{is_listing, item_at, each_of}

abbrev pub is_items : Raw → Bool
is_items raw_null = true
is_items (raw_tuple rs) = true
is_items r = false

pub items_held : (r : Raw) (o : Option (Bor (List (Option ScalarValue)))) → is_items r ≡ true → option_map (λ items. raws_in items.now) o ≡ items_in r → raw_of_items o ≡ r
items_held raw_null None h e = refl
items_held raw_null (Some v) h e = absurd (cc (e))
items_held (raw_tuple rs) None h e = absurd (cc (e))
items_held (raw_tuple rs) (Some v) h e = ap (λ x. raw_tuple x) (cc (e))
items_held r o h e = absurd (cc (h))

pub lists_are_items : (k : LogicalType) (r : Raw) → is_listing k ≡ true → valid k r ≡ true → is_items r ≡ true
lists_are_items (list k n) raw_null h v = refl
lists_are_items (list k n) (raw_tuple rs) h v = refl
lists_are_items (list k n) r h v = absurd (cc (v))
lists_are_items (fixed_list k m n) raw_null h v = refl
lists_are_items (fixed_list k m n) (raw_tuple rs) h v = refl
lists_are_items (fixed_list k m n) r h v = absurd (cc (v))
lists_are_items k r h v = absurd (cc (h))

pub ruleset held = (values.one_level, items_held, lists_are_items)

-- ---- indexes

pub item_within : (vs : List (Option ScalarValue)) (i : ℕ) (v : Option ScalarValue) (o : Option (Bor ScalarValue)) → i < length vs → v ≡ get_or vs i v → option_copied o ≡ v → Some (raw_at o) ≡ item_at (raws_in vs) i
item_within [] i v o h e c = absurd (omega arith)
item_within (w ∷ vs) zero v o h e c = ap (λ r. Some r) (raw_at-copied o ∙ ap (λ u. raw_in u) c ∙ ap (λ u. raw_in u) e)
item_within (w ∷ vs) (suc i) v o h e c = item_within vs i v o (omega arith) e c

pub item_past : (vs : List (Option ScalarValue)) (i : ℕ) → length vs ≤ i → None ≡ item_at (raws_in vs) i
item_past [] i h = refl
item_past (w ∷ vs) zero h = absurd (omega arith)
item_past (w ∷ vs) (suc i) h = item_past vs i (omega arith)

pub ruleset items = (item_within, item_past)

pub each_valid : (e : LogicalType) (rs : Raws) (i : ℕ) (r : Raw) → all_have e rs ≡ true → Some r ≡ item_at rs i → valid e r ≡ true
each_valid e no_raws i r h p = absurd (cc (p))
each_valid e (raw_first q rs) zero r h p = let same : r ≡ q = cc p in ap (λ x. has (stored e) x) same ∙ (and_parts (has (stored e) q) (all_have e rs) h).0
each_valid e (raw_first q rs) (suc i) r h p = each_valid e rs i r (and_parts (has (stored e) q) (all_have e rs) h).1 p

pub list_all : (k e : LogicalType) (rs : Raws) → list_element k ≡ Some e → valid k (raw_tuple rs) ≡ true → all_have e rs ≡ true
list_all (list k n) e rs h v = ap (λ x. all_have x rs) (sym (cc (h))) ∙ v
list_all (fixed_list k m n) e rs h v = ap (λ x. all_have x rs) (sym (cc (h))) ∙ (and_parts (raw_count rs == m) (all_have k rs) v).1
list_all k e rs h v = absurd (cc (h))

pub element_valid : (k e : LogicalType) (rs : Raws) (i : ℕ) (r : Raw) → list_element k ≡ Some e → valid k (raw_tuple rs) ≡ true → Some r ≡ item_at rs i → valid e r ≡ true
element_valid k e rs i r h v p = each_valid e rs i r (list_all k e rs h v) p

pub ruleset placed = (element_valid)

pub ruleset counted = (values.one_level)
