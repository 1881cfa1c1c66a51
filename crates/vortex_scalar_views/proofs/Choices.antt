-- Values of unions.
use Rattle.std.proofs.Common.{◌≡◌, ◌||◌, ℕ, suc, ℤ, List, Bool, true, false, Option, Some, None, option_map, option_and_then, Bor, refl, sym, ap, ◌∙◌, if◌then◌else◌}
use Rattle.std.specs.Ordering.{int_eq}
use Rattle.std.proofs.lemmas.Bool.{and_parts}
use Rattle.vortex_model.specs.LogicalType.{LogicalType, union, stored, Variants, no_variants, choice, has_tag, type_tagged}
use Rattle.vortex_model.specs.Content.{Raw, raw_null, raw_tagged}
use Rattle.vortex_model.specs.Valid.{valid, has}
use Rattle.vortex_dtype_core.specs.Parts.{is_union_type, variants_in_type}
use Rattle.vortex_dtype_fields.specs.Records.{tag_position, variant_at}
use Rattle.vortex_scalar_value.specs.Parts.{as_tagged}
use Rattle.vortex_scalar_value.specs.View.{raw_of_union}
use Rattle.vortex_scalar_value.specs.declared.union_value.UnionValue.{UnionValue}
use Rattle.vortex_scalar_value.proofs.Views as values
use Rattle.vortex_scalar_views.specs.Held.{raw_of_choice}
use Rattle.vortex_scalar_views.specs.Choices.{index_of_choice, child_of}

pub choice_held : (k : LogicalType) (r : Raw) (o : Option (Bor UnionValue)) → is_union_type k ≡ true → valid k r ≡ true → option_map (λ u. raw_of_union u.now) o ≡ as_tagged r → raw_of_choice o ≡ r
choice_held k raw_null None h v e = refl
choice_held k raw_null (Some u) h v e = absurd (cc (e))
choice_held k (raw_tagged t r) None h v e = absurd (cc (e))
choice_held k (raw_tagged t r) (Some u) h v e = cc (e)
choice_held (union ws n) r o h v e = absurd (cc (v))
choice_held k r o h v e = absurd (cc (h))

pub ruleset held = (values.one_level, choice_held)

pub ruleset tagged = (values.one_level)

-- ---- the type of a tag

placed : (b : Bool) (x : List ℕ) (u : ℤ) (k : LogicalType) (vs : Variants) (p : Option ℕ) →
    option_and_then (λ i. variant_at (choice x u k vs) i) (if b then Some 0 else option_map suc p) ≡ (if b then Some k else option_and_then (λ i. variant_at vs i) p)
placed true x u k vs p = refl
placed false x u k vs None = refl
placed false x u k vs (Some i) = refl

typed_under : (b : Bool) (k : LogicalType) (vs : Variants) (t : ℤ) → (has_tag vs t ≡ true → option_and_then (λ i. variant_at vs i) (tag_position vs t) ≡ Some (type_tagged vs t)) → (b || has_tag vs t) ≡ true →
    (if b then Some k else option_and_then (λ i. variant_at vs i) (tag_position vs t)) ≡ Some (if b then k else type_tagged vs t)
typed_under true k vs t others h = refl
typed_under false k vs t others h = others h

-- the variant at the index of a tag has the tag's type
pub kind_at_tag : (vs : Variants) (t : ℤ) → has_tag vs t ≡ true → option_and_then (λ i. variant_at vs i) (tag_position vs t) ≡ Some (type_tagged vs t)
kind_at_tag no_variants t h = absurd (cc (h))
kind_at_tag (choice x u k vs) t h = placed (int_eq u t) x u k vs (tag_position vs t) ∙ typed_under (int_eq u t) k vs t (λ g. kind_at_tag vs t g) h

pub tag_valid : (k : LogicalType) (vs : Variants) (t : ℤ) (r : Raw) → variants_in_type k ≡ Some vs → valid k (raw_tagged t r) ≡ true → has_tag vs t ≡ true
tag_valid (union ws n) vs t r h v = ap (λ x. has_tag x t) (sym (cc (h))) ∙ (and_parts (has_tag ws t) (has (stored (type_tagged ws t)) r) v).0
tag_valid k vs t r h v = absurd (cc (h))

pub child_valid : (k : LogicalType) (vs : Variants) (t : ℤ) (r : Raw) → variants_in_type k ≡ Some vs → valid k (raw_tagged t r) ≡ true → valid (type_tagged vs t) r ≡ true
child_valid (union ws n) vs t r h v = ap (λ x. valid (type_tagged x t) r) (sym (cc (h))) ∙ (and_parts (has_tag ws t) (has (stored (type_tagged ws t)) r) v).1
child_valid k vs t r h v = absurd (cc (h))

-- the variant at the index of a value's tag has the type of the value inside
chosen : (k : LogicalType) (vs : Variants) (r : Raw) → variants_in_type k ≡ Some vs → valid k r ≡ true → option_and_then (λ i. variant_at vs i) (index_of_choice (k, r)) ≡ option_map (λ c. c.0) (child_of (k, r))
chosen (union ws n) vs (raw_tagged t r) h v =
    let same : vs ≡ ws = cc h in
    ap (λ x. option_and_then (λ i. variant_at x i) (tag_position ws t)) same ∙ kind_at_tag ws t (tag_valid (union ws n) ws t r refl v)
chosen (union ws n) vs r h v = refl
chosen k vs r h v = absurd (cc (h))

pub chosen_some : (k : LogicalType) (vs : Variants) (r : Raw) (i : ℕ) → variants_in_type k ≡ Some vs → valid k r ≡ true → Some i ≡ index_of_choice (k, r) → variant_at vs i ≡ option_map (λ c. c.0) (child_of (k, r))
chosen_some k vs r i h v e = ap (λ p. option_and_then (λ j. variant_at vs j) p) e ∙ chosen k vs r h v

pub chosen_none : (k : LogicalType) (vs : Variants) (r : Raw) → variants_in_type k ≡ Some vs → valid k r ≡ true → None ≡ index_of_choice (k, r) → None ≡ option_map (λ c. c.0) (child_of (k, r))
chosen_none k vs r h v e = ap (λ p. option_and_then (λ j. variant_at vs j) p) e ∙ chosen k vs r h v

pub ruleset found = (chosen_some, chosen_none)

pub ruleset within = (values.one_level, child_valid)
