-- One level of what a cut keeps, and the values of a record.
use Rattle.std.proofs.Common.{◌≡◌, refl, sym, ◌∙◌, ap, List, [], ◌∷◌, map, Option, Some, None, rules, Vec, Global}
use Rattle.vortex_model.specs.Content.{Raw, raw_null, raw_tuple, Raws, raw_first}
use Rattle.vortex_scalar_value.specs.Parts.{items_in}
use Rattle.vortex_scalar_value.specs.View.{raw_of, raw_in, raws_from}
use Rattle.vortex_scalar_value.specs.declared.scalar_value.ScalarValue as value
use Rattle.vortex_scalar_value.specs.declared.scalar_value.ScalarValue.{ScalarValue}
use Rattle.vortex_scalar_value.proofs.Views.{raw_of-Tuple}
use Rattle.vortex_table_schema.specs.Cut.{Tree, whole, parts, Parts, KeptPart, parts_from, tree_of, part_of_field, parts_of, raw_cut, raws_cut, cut_part}
use Rattle.vortex_table_schema.specs.declared.projection.Projection as projection
use Rattle.vortex_table_schema.specs.declared.projection.ProjectedField as field
use Rattle.vortex_table_schema.specs.declared.projection.ProjectedField.{ProjectedField}

pub tree_of-Fields : (v : Vec ProjectedField Global) → tree_of (projection.Fields v) ≡ parts (parts_of v.items)
tree_of-Fields v = search (rules, projection.the_lemmas)

pub part_of_field-parts : (f : ProjectedField) → part_of_field f ≡ (f.position, tree_of f.projection)
part_of_field-parts f = search (rules, field.the_lemmas)

-- the values that are kept of a record, part by part
pub each_part : (rs : Raws) (ps : List KeptPart) → raws_from (map (cut_part rs) ps) ≡ raws_cut (parts_from ps) rs
each_part rs [] = refl
each_part rs (p ∷ ps) = ap (raw_first (cut_part rs p)) (each_part rs ps)

-- a record of these values
pub kept_record : (vs : Vec (Option ScalarValue) Global) (rs : Raws) (v : Vec ProjectedField Global) → map raw_in vs.items ≡ map (cut_part rs) (map part_of_field v.items) →
    raw_of (value.Tuple vs) ≡ raw_cut (tree_of (projection.Fields v)) (raw_tuple rs)
kept_record vs rs v h =
    raw_of-Tuple vs ∙ ap (λ ss. raw_tuple (raws_from ss)) h ∙ ap raw_tuple (each_part rs (map part_of_field v.items)) ∙ ap (λ t. raw_cut t (raw_tuple rs)) (sym (tree_of-Fields v))

-- the values of a record are there, or it is none and stays as it is
pub is_tuple : (rs : Raws) (r : Raw) → Some rs ≡ items_in r → r ≡ raw_tuple rs
is_tuple rs (raw_tuple ss) e = ap raw_tuple (sym (cc (e)))
is_tuple rs r e = absurd (cc (e))

pub no_record : (ps : Parts) (r : Raw) → None ≡ items_in r → raw_cut (parts ps) r ≡ r
no_record ps (raw_tuple rs) e = absurd (cc (e))
no_record ps r e = refl

-- null stays null
pub cut_null : (t : Tree) → raw_cut t raw_null ≡ raw_null
cut_null whole = refl
cut_null (parts ps) = refl
