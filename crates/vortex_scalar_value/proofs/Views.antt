-- One level of a value, and the rest of a list of values.
use Rattle.std.proofs.Common.{◌≡◌, ℕ, List, [], ◌∷◌, length, map, option_map, Option, Some, None, Bool, false, Vec, Global, refl, ap, suc, sym, ◌∙◌, rules, zero}
use Rattle.std.specs.declared.boxed.Box.{Box}
use Rattle.vortex_model.specs.Content.{Raw, raw_boolean, raw_number, raw_text, raw_byte_string, raw_tuple, raw_tagged, raw_scalar, raw_count, contents_of, contents_from, first, nth, content_of, Raws, no_raws, raw_first}
use Rattle.vortex_model.specs.LogicalType.{IntKind}
use Rattle.vortex_model.specs.Valid.{in_range}
use Rattle.vortex_model.proofs.Contents.{eq_count}
use Rattle.vortex_model.specs.Path.{part_of}
use Rattle.vortex_dtype_core.specs.View.{type_of}
use Rattle.vortex_scalar_value.specs.Numbers.{raw_of_number, integer_of}
use Rattle.vortex_scalar_value.specs.Parts.{as_number, has_whole, whole_number_in, raw_nth, raw_part}
use Rattle.vortex_scalar_value.specs.View.{or_null, raws_from, raw_of, raw_of_union, raw_of_variant, raw_in, raw_boxed, raws_in, content_in}
use Rattle.vortex_scalar_value.specs.declared.pvalue.PValue.{PValue}
use Rattle.vortex_scalar_value.specs.declared.scalar_value.ScalarValue as value
use Rattle.vortex_scalar_value.specs.declared.scalar_value.ScalarValue.{ScalarValue}
use Rattle.vortex_scalar_value.specs.declared.union_value.UnionValue as tagged_value
use Rattle.vortex_scalar_value.specs.declared.union_value.UnionValue.{UnionValue}
use Rattle.vortex_scalar_value.specs.declared.variant_value.VariantValue as typed_value
use Rattle.vortex_scalar_value.specs.declared.variant_value.VariantValue.{VariantValue}

pub raw_of-Bool : (b : Bool) → raw_of (value.Bool b) ≡ raw_boolean b
raw_of-Bool b = search (rules, value.the_lemmas)

pub raw_of-Primitive : (v : PValue) → raw_of (value.Primitive v) ≡ raw_of_number v
raw_of-Primitive v = search (rules, value.the_lemmas)

pub raw_of-Utf8 : (t : List ℕ) → raw_of (value.Utf8 t) ≡ raw_text t
raw_of-Utf8 t = search (rules, value.the_lemmas)

pub raw_of-Binary : (b : List ℕ) → raw_of (value.Binary b) ≡ raw_byte_string b
raw_of-Binary b = search (rules, value.the_lemmas)

-- nulls may be filled in after the values, or with them
nulls_after : (vs : List (Option ScalarValue)) → map or_null (map (option_map raw_of) vs) ≡ map raw_in vs
nulls_after [] = refl
nulls_after (None ∷ vs) = ap (λ l. raw_in None ∷ l) (nulls_after vs)
nulls_after (Some v ∷ vs) = ap (λ l. raw_in (Some v) ∷ l) (nulls_after vs)

pub raw_of-Tuple : (v : Vec (Option ScalarValue) Global) → raw_of (value.Tuple v) ≡ raw_tuple (raws_in v.items)
raw_of-Tuple v = search (rules, value.the_lemmas) ∙ ap (λ rs. raw_tuple (raws_from rs)) (nulls_after v.items)

pub raw_of-Union : (u : UnionValue) → raw_of (value.Union u) ≡ raw_of_union u
raw_of-Union u = search (rules, value.the_lemmas)

pub raw_of-Variant : (b : Box VariantValue Global) → raw_of (value.Variant b) ≡ raw_of_variant b.value
raw_of-Variant b = search (rules, value.the_lemmas)

pub raw_of_union-parts : (u : UnionValue) → raw_of_union u ≡ raw_tagged u.type_id (raw_boxed u.child)
raw_of_union-parts u = search (rules, tagged_value.the_lemmas)

pub raw_of_variant-parts : (v : VariantValue) → raw_of_variant v ≡ raw_scalar (type_of v.dtype) (raw_in v.value)
raw_of_variant-parts v = search (rules, typed_value.the_lemmas)

-- as many raw values as values
pub raw_count-raws_in : (vs : List (Option ScalarValue)) → raw_count (raws_in vs) ≡ length vs
raw_count-raws_in [] = refl
raw_count-raws_in (v ∷ vs) = ap suc (raw_count-raws_in vs)

pub ruleset one_level = (raw_of-Bool, raw_of-Primitive, raw_of-Utf8, raw_of-Binary, raw_of-Tuple, raw_of-Union, raw_of-Variant, raw_of_union-parts, raw_of_variant-parts, raw_count-raws_in, eq_count)

-- the contents of a list of values
pub contents_of-raws_in : (vs : List (Option ScalarValue)) → contents_of (raws_in vs) ≡ contents_from (map content_in vs)
contents_of-raws_in [] = refl
contents_of-raws_in (v ∷ vs) = ap (λ cs. first (content_in v) cs) (contents_of-raws_in vs)

pub eq_contents : (vs ws : List (Option ScalarValue)) → map content_in vs ≡ map content_in ws → contents_of (raws_in vs) ≡ contents_of (raws_in ws)
eq_contents vs ws e = contents_of-raws_in vs ∙ ap (λ cs. contents_from cs) e ∙ sym (contents_of-raws_in ws)

-- the integer of a raw value
pub has_whole-number : (i : IntKind) (r : Raw) (v : PValue) → Some (raw_of_number v) ≡ as_number r → has_whole i r ≡ in_range i (integer_of v)
has_whole-number i (raw_number j z) v e = ap (λ y. in_range i y) (cc (e))
has_whole-number i r v e = absurd (cc (e))

pub whole_number_in-number : (r : Raw) (v : PValue) → Some (raw_of_number v) ≡ as_number r → whole_number_in r ≡ Some (integer_of v)
whole_number_in-number (raw_number j z) v e = ap (λ y. Some y) (cc (e))
whole_number_in-number r v e = absurd (cc (e))

pub no_whole : (i : IntKind) (r : Raw) → None ≡ as_number r → has_whole i r ≡ false
no_whole i (raw_number j z) e = absurd (cc (e))
no_whole i r e = refl

pub ruleset numbers = (has_whole-number, whole_number_in-number, no_whole)

-- parts of records, as contents
pub content_of-nth : (rs : Raws) (i : ℕ) → content_of (raw_nth rs i) ≡ nth (contents_of rs) i
content_of-nth no_raws i = refl
content_of-nth (raw_first r rs) zero = refl
content_of-nth (raw_first r rs) (suc i) = content_of-nth rs i

pub content_of-part : (r : Raw) (i : ℕ) → content_of (raw_part r i) ≡ part_of (content_of r) i
content_of-part (raw_tuple rs) i = content_of-nth rs i
content_of-part r i = refl
