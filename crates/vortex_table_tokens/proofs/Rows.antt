-- Values of a type, token by token.
use Rattle.std.proofs.Common.{◌≡◌, ℕ, suc, ◌-◌, ◌<◌, List, [], ◌∷◌, ◌++◌, length, Bool, true, false, Option, Some, None, if◌then◌else◌, option_map, option_and_then, refl, sym, ap, ◌∙◌, subst, append_assoc}
use Rattle.std.specs.Prelude.{unwrap_or}
use Rattle.json.specs.Token.{Token}
use Rattle.serde_json.specs.Data.{array, Items, no_items, item}
use Rattle.serde_json.specs.Events.{items_len}
use Rattle.vortex_model.specs.LogicalType.{LogicalType, list, Fields, field}
use Rattle.vortex_model.specs.Content.{Raw, raw_null}
use Rattle.vortex_table_request.specs.Parsed.{items_keep_whole}
use Rattle.vortex_table_request.specs.Rows.{reading, readings, element_readings, rows_at}
use Rattle.vortex_table_tokens.specs.Begins.{Begins, BeginsItems}
use Rattle.vortex_table_tokens.specs.Values.{HasValue, HasItems, IsLeaf}
use Rattle.vortex_table_tokens.proofs.Grammar.{begins_array, one_item}

-- ---- one value

pub leaf_value : (k : LogicalType) (depth : ℕ) (old new : List Token) (t : Token) (r : Raw) → old ≡ t ∷ new → IsLeaf k t r → HasValue depth old (λ d. reading k d ≡ Some r) new
leaf_value k depth old new t r is leaf = (leaf.0, subst (λ ts. Begins depth ts leaf.0 new) (sym is) (leaf.1 depth new), leaf.2, leaf.3)

pub array_value : (k : LogicalType) (depth : ℕ) (old ts new : List Token) (r : Raw) → 0 < depth → old ≡ Token.begin_array ∷ ts → HasItems (depth - 1) ts (λ ds. reading k (array ds) ≡ Some r) new
    → HasValue depth old (λ d. reading k d ≡ Some r) new
array_value k depth old ts new r some is h = (array h.0, begins_array depth old ts new h.0 some is h.1, h.2, h.3)

-- ---- the fields of a struct

-- the items that are left are read as the last fields
abbrev pub FieldsLeft : ℕ → List Token → Fields → List Raw → List Token → Fields → Type 0
FieldsLeft depth start all front old left =
    (ds : Items) (rs : List Raw) (new : List Token) → BeginsItems depth old ds new → items_keep_whole ds ≡ true → readings left ds ≡ Some rs
    → HasItems depth start (λ es. readings all es ≡ Some (front ++ rs)) new

pub all_fields_left : (depth : ℕ) (start : List Token) (all : Fields) → FieldsLeft depth start all [] start all
all_fields_left depth start all ds rs new begins whole reads = (ds, begins, whole, reads)

pub field_read : (depth : ℕ) (start old mid : List Token) (all left : Fields) (front : List Raw) (x : List ℕ) (k : LogicalType) (r : Raw)
    → FieldsLeft depth start all front old (field x k left) → HasValue depth old (λ d. reading k d ≡ Some r) mid → FieldsLeft depth start all (front ++ r ∷ []) mid left
field_read depth start old mid all left front x k r h v ds rs new begins whole reads =
    let wholes : items_keep_whole (item v.0 ds) ≡ true = ap (λ (b : Bool). if b then items_keep_whole ds else false) v.2 ∙ whole in
    let both : readings (field x k left) (item v.0 ds) ≡ Some (r ∷ rs) =
    ap (λ (o : Option Raw). option_and_then (λ y. option_map (λ ys. y ∷ ys) (readings left ds)) o) v.3 ∙ ap (λ (o : Option (List Raw)). option_map (λ ys. r ∷ ys) o) reads in
    subst (λ (ys : List Raw). HasItems depth start (λ es. readings all es ≡ Some ys) new) (sym (append_assoc front (r ∷ []) rs))
    (h (item v.0 ds) (r ∷ rs) new (one_item depth old mid new v.0 ds v.1 begins) wholes both)

-- ---- the elements of a list

-- the items that are left are read after the first ones
abbrev pub ElementsLeft : ℕ → List Token → LogicalType → List Raw → List Token → Type 0
ElementsLeft depth start k front old =
    (ds : Items) (rs : List Raw) (new : List Token) → BeginsItems depth old ds new → items_keep_whole ds ≡ true → element_readings k ds ≡ Some rs
    → HasItems depth start (λ es. element_readings k es ≡ Some (front ++ rs)) new

pub all_elements_left : (depth : ℕ) (start : List Token) (k : LogicalType) → ElementsLeft depth start k [] start
all_elements_left depth start k ds rs new begins whole reads = (ds, begins, whole, reads)

pub element_read : (depth : ℕ) (start old mid : List Token) (k : LogicalType) (front : List Raw) (r : Raw) → ElementsLeft depth start k front old
    → HasValue depth old (λ d. reading k d ≡ Some r) mid → ElementsLeft depth start k (front ++ r ∷ []) mid
element_read depth start old mid k front r h v ds rs new begins whole reads =
    let wholes : items_keep_whole (item v.0 ds) ≡ true = ap (λ (b : Bool). if b then items_keep_whole ds else false) v.2 ∙ whole in
    let both : element_readings k (item v.0 ds) ≡ Some (r ∷ rs) =
    ap (λ (o : Option Raw). option_and_then (λ y. option_map (λ ys. y ∷ ys) (element_readings k ds)) o) v.3 ∙ ap (λ (o : Option (List Raw)). option_map (λ ys. r ∷ ys) o) reads in
    subst (λ (ys : List Raw). HasItems depth start (λ es. element_readings k es ≡ Some ys) new) (sym (append_assoc front (r ∷ []) rs))
    (h (item v.0 ds) (r ∷ rs) new (one_item depth old mid new v.0 ds v.1 begins) wholes both)

-- ---- all rows

-- the parts of what was read
parts : (o : Option Raw) (p : Option (List Raw)) (rs : List Raw) → option_and_then (λ r. option_map (λ ys. r ∷ ys) p) o ≡ Some rs
    → (r : Raw) × (rest : List Raw) × (o ≡ Some r) × (p ≡ Some rest) × (rs ≡ r ∷ rest)
parts None p rs e = absurd (cc)
parts (Some r) None rs e = absurd (cc)
parts (Some r) (Some rest) rs e = (r, rest, refl, refl, ap (λ (o : Option (List Raw)). unwrap_or o []) (sym e))

-- rows that can all be read are the readings
pub rows_read : (k : LogicalType) (ds : Items) (rs : List Raw) → element_readings k ds ≡ Some rs → rows_at k ds ≡ rs
rows_read k no_items rs e = ap (λ (o : Option (List Raw)). unwrap_or o []) e
rows_read k (item d ds) rs e =
    let m = parts (reading k d) (element_readings k ds) rs e in
    ap (λ (o : Option Raw). unwrap_or o raw_null ∷ rows_at k ds) m.2 ∙ ap (λ (ys : List Raw). m.0 ∷ ys) (rows_read k ds m.1 m.3) ∙ sym m.4

pub readings_len : (k : LogicalType) (ds : Items) (rs : List Raw) → element_readings k ds ≡ Some rs → items_len ds ≡ length rs
readings_len k no_items rs e = ap (λ (o : Option (List Raw)). length (unwrap_or o [])) e
readings_len k (item d ds) rs e =
    let m = parts (reading k d) (element_readings k ds) rs e in
    ap suc (readings_len k ds m.1 m.3) ∙ ap length (sym m.4)
