-- Fields of structs.
use Rattle.std.proofs.Common.{◌≡◌, ℕ, zero, suc, List, true, Some, refl, sym, ap, ◌∙◌}
use Rattle.std.proofs.lemmas.Bool.{and_parts}
use Rattle.vortex_model.specs.LogicalType.{LogicalType, struct, stored, Fields, no_fields, field}
use Rattle.vortex_model.specs.Content.{Raw, raw_null, raw_tuple, Raws, no_raws, raw_first}
use Rattle.vortex_model.specs.Path.{part_at, position_in, field_at, position_named}
use Rattle.vortex_model.specs.Valid.{valid, has, fields_have}
use Rattle.vortex_dtype_core.specs.Parts.{is_struct_type, fields_in_type}
use Rattle.vortex_scalar_value.proofs.Views as values
use Rattle.vortex_scalar_nested.specs.Places.{item_at}
use Rattle.vortex_scalar_nested.proofs.Elements.{is_items, items_held}

pub records_are_items : (k : LogicalType) (r : Raw) → is_struct_type k ≡ true → valid k r ≡ true → is_items r ≡ true
records_are_items (struct gs n) raw_null h v = refl
records_are_items (struct gs n) (raw_tuple rs) h v = refl
records_are_items (struct gs n) r h v = absurd (cc (v))
records_are_items k r h v = absurd (cc (h))

pub ruleset held = (values.one_level, items_held, records_are_items)

each_valid : (fs : Fields) (rs : Raws) (i : ℕ) (e : LogicalType) (r : Raw) → fields_have fs rs ≡ true → Some e ≡ field_at fs i → Some r ≡ item_at rs i → valid e r ≡ true
each_valid no_fields rs i e r h f p = absurd (cc (f))
each_valid (field x k fs) no_raws i e r h f p = absurd (cc (p))
each_valid (field x k fs) (raw_first q rs) zero e r h f p =
    let kind : e ≡ k = cc f in
    let same : r ≡ q = cc p in
    ap (λ y. has (stored y) r) kind ∙ ap (λ y. has (stored k) y) same ∙ (and_parts (has (stored k) q) (fields_have fs rs) h).0
each_valid (field x k fs) (raw_first q rs) (suc i) e r h f p = each_valid fs rs i e r (and_parts (has (stored k) q) (fields_have fs rs) h).1 f p

pub field_valid : (k : LogicalType) (fs : Fields) (rs : Raws) (i : ℕ) (e : LogicalType) (r : Raw) → fields_in_type k ≡ Some fs → valid k (raw_tuple rs) ≡ true → Some e ≡ field_at fs i → Some r ≡ item_at rs i → valid e r ≡ true
field_valid (struct gs n) fs rs i e r h v f p = each_valid fs rs i e r (ap (λ x. fields_have x rs) (sym (cc (h))) ∙ v) f p
field_valid k fs rs i e r h v f p = absurd (cc (h))

pub part_of_fields : (k : LogicalType) (fs : Fields) (i : ℕ) → fields_in_type k ≡ Some fs → part_at k i ≡ field_at fs i
part_of_fields (struct gs n) fs i h = ap (λ x. field_at x i) (cc (h))
part_of_fields k fs i h = absurd (cc (h))

pub position_in_fields : (k : LogicalType) (fs : Fields) (x : List ℕ) → fields_in_type k ≡ Some fs → position_in k x ≡ position_named fs x
position_in_fields (struct gs n) fs x h = ap (λ y. position_named y x) (cc (h))
position_in_fields k fs x h = absurd (cc (h))

pub ruleset placed = (field_valid, part_of_fields)

pub ruleset named = (position_in_fields)
