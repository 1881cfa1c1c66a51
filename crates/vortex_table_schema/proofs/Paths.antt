-- What is left of paths, step by step.
use Rattle.std.proofs.Common.{◌≡◌, sym, ◌∙◌, ap, ℕ, suc, ◌+◌, ◌<◌, List, [], ◌∷◌, ◌++◌, length, map, take, drop, get_or, true, false, Some, None, if◌then◌else◌, append_assoc, append-nil, add-one}
use Rattle.std.proofs.Math.Seq.{drop-cons}
use Rattle.std.proofs.lemmas.List.{map_more, map-append}
use Rattle.std.proofs.lemmas.List.Elements.{filter_map-append}
use Rattle.std.specs.List.{cons_option}
use Rattle.std.specs.Borrow.{Bor}
use Rattle.vortex_model.specs.LogicalType.{LogicalType}
use Rattle.vortex_model.specs.Path.{Names}
use Rattle.vortex_model_table.specs.Cut.{cut_kind}
use Rattle.vortex_dtype_core.specs.View.{NamedType, field_of, type_of}
use Rattle.vortex_dtype_path.specs.declared.field.Field.{Field}
use Rattle.vortex_dtype_core.specs.declared.struct_fields.StructField.{StructField}
use Rattle.vortex_dtype_core.proofs.Views.{field_of-parts}
use Rattle.vortex_table_schema.specs.declared.projection.ProjectedField.{ProjectedField}
use Rattle.vortex_table_schema.proofs.Projections.{part_of_field-parts}
use Rattle.vortex_table_schema.specs.Cut.{Tree, KeptPart, tree_of, part_of_field, names_at, strip_step, strip_all, is_not_root, kept_by, cut_named, kept_list}

-- ---- the paths that lead on

beyond_more : (x : List ℕ) (paths : List (Bor (List Field))) (i : ℕ) (path : Bor (List Field)) → i < length paths → path ≡ get_or paths i path →
    strip_all x (map names_at (take (i + 1) paths)) ≡ strip_all x (map names_at (take i paths)) ++ cons_option (strip_step x (names_at path)) []
beyond_more x paths i path h is =
    ap (strip_all x) (map_more names_at paths i path h ∙ ap (λ p. map names_at (take i paths) ++ names_at p ∷ []) (sym is))
    ∙ filter_map-append (strip_step x) (map names_at (take i paths)) (names_at path ∷ [])

-- with a path that leads on, and with one that doesn't
pub led_on : (x : List ℕ) (paths : List (Bor (List Field))) (i : ℕ) (path rest : Bor (List Field)) (old new : List (Bor (List Field))) → i < length paths → path ≡ get_or paths i path →
    Some (names_at rest) ≡ strip_step x (names_at path) → new ≡ old ++ rest ∷ [] → map names_at old ≡ strip_all x (map names_at (take i paths)) → map names_at new ≡ strip_all x (map names_at (take (i + 1) paths))
led_on x paths i path rest old new h is leads made before =
    ap (map names_at) made ∙ map-append names_at old (rest ∷ []) ∙ (λ j. before j ++ cons_option (leads j) []) ∙ sym (beyond_more x paths i path h is)

pub not_on : (x : List ℕ) (paths : List (Bor (List Field))) (i : ℕ) (path : Bor (List Field)) (old new : List (Bor (List Field))) → i < length paths → path ≡ get_or paths i path →
    None ≡ strip_step x (names_at path) → new ≡ old → map names_at old ≡ strip_all x (map names_at (take i paths)) → map names_at new ≡ strip_all x (map names_at (take (i + 1) paths))
not_on x paths i path old new h is leads same before =
    ap (map names_at) same ∙ before ∙ sym (append-nil (strip_all x (map names_at (take i paths)))) ∙ ap (λ o. strip_all x (map names_at (take i paths)) ++ cons_option o []) leads ∙ sym (beyond_more x paths i path h is)

-- ---- a record's fields that are kept

fields_left : (fs : List StructField) (i : ℕ) (f : StructField) → i < length fs → f ≡ get_or fs i f → map field_of (drop i fs) ≡ (f.name, type_of f.dtype) ∷ map field_of (drop (suc i) fs)
fields_left fs i f h is = ap (map field_of) (drop-cons fs i f h ∙ ap (λ g. g ∷ drop (suc i) fs) (sym is)) ∙ ap (λ (p : NamedType). p ∷ map field_of (drop (suc i) fs)) (field_of-parts f)

-- one more part
pub part_added : (old new : List StructField) (f : StructField) → new ≡ old ++ f ∷ [] → map field_of new ≡ map field_of old ++ (f.name, type_of f.dtype) ∷ []
part_added old new f made = ap (map field_of) made ∙ map-append field_of old (f ∷ []) ∙ ap (λ (p : NamedType). map field_of old ++ p ∷ []) (field_of-parts f)

pub kept_added : (old new : List ProjectedField) (f : ProjectedField) → new ≡ old ++ f ∷ [] → map part_of_field new ≡ map part_of_field old ++ (f.position, tree_of f.projection) ∷ []
kept_added old new f made = ap (map part_of_field) made ∙ map-append part_of_field old (f ∷ []) ∙ ap (λ (p : KeptPart). map part_of_field old ++ p ∷ []) (part_of_field-parts f)

module _ (paths : List Names) (fs : List StructField) (i : ℕ) (f : StructField) (inside : i < length fs) (is : f ≡ get_or fs i f) where
  -- what is kept of the fields from here on
  pub named_left : cut_named paths (map field_of (drop i fs))
      ≡ (if is_not_root (strip_all f.name paths) then (f.name, cut_kind (strip_all f.name paths) [] (type_of f.dtype)) ∷ cut_named paths (map field_of (drop (suc i) fs)) else cut_named paths (map field_of (drop (suc i) fs)))
  named_left = ap (cut_named paths) (fields_left fs i f inside is)

  pub parts_left : kept_list paths i (map field_of (drop i fs))
      ≡ (if is_not_root (strip_all f.name paths) then (i, kept_by (strip_all f.name paths) (type_of f.dtype)) ∷ kept_list paths (suc i) (map field_of (drop (suc i) fs)) else kept_list paths (suc i) (map field_of (drop (suc i) fs)))
  parts_left = ap (kept_list paths i) (fields_left fs i f inside is)

  -- one more field that is kept
  pub named_more : (old new all : List NamedType) (left : List Names) (k : LogicalType) → left ≡ strip_all f.name paths → is_not_root left ≡ true → k ≡ cut_kind left [] (type_of f.dtype) → new ≡ old ++ (f.name, k) ∷ [] →
      old ++ cut_named paths (map field_of (drop i fs)) ≡ all → new ++ cut_named paths (map field_of (drop (i + 1) fs)) ≡ all
  named_more old new all left k e leads cut made before =
      (λ j. made j ++ cut_named paths (map field_of (drop (add-one i j) fs)))
      ∙ append_assoc old ((f.name, k) ∷ []) (cut_named paths (map field_of (drop (suc i) fs)))
      ∙ (λ j. old ++ (f.name, (cut ∙ ap (λ ps. cut_kind ps [] (type_of f.dtype)) e) j) ∷ cut_named paths (map field_of (drop (suc i) fs)))
      ∙ (λ j. old ++ (if (sym leads ∙ ap is_not_root e) j then (f.name, cut_kind (strip_all f.name paths) [] (type_of f.dtype)) ∷ cut_named paths (map field_of (drop (suc i) fs)) else cut_named paths (map field_of (drop (suc i) fs))))
      ∙ ap (λ xs. old ++ xs) (sym named_left) ∙ before

  pub parts_more : (old new all : List KeptPart) (left : List Names) (t : Tree) → left ≡ strip_all f.name paths → is_not_root left ≡ true → t ≡ kept_by left (type_of f.dtype) → new ≡ old ++ (i, t) ∷ [] →
      old ++ kept_list paths i (map field_of (drop i fs)) ≡ all → new ++ kept_list paths (i + 1) (map field_of (drop (i + 1) fs)) ≡ all
  parts_more old new all left t e leads cut made before =
      (λ j. made j ++ kept_list paths (add-one i j) (map field_of (drop (add-one i j) fs)))
      ∙ append_assoc old ((i, t) ∷ []) (kept_list paths (suc i) (map field_of (drop (suc i) fs)))
      ∙ (λ j. old ++ (i, (cut ∙ ap (λ ps. kept_by ps (type_of f.dtype)) e) j) ∷ kept_list paths (suc i) (map field_of (drop (suc i) fs)))
      ∙ (λ j. old ++ (if (sym leads ∙ ap is_not_root e) j then (i, kept_by (strip_all f.name paths) (type_of f.dtype)) ∷ kept_list paths (suc i) (map field_of (drop (suc i) fs)) else kept_list paths (suc i) (map field_of (drop (suc i) fs))))
      ∙ ap (λ xs. old ++ xs) (sym parts_left) ∙ before

  -- and one that isn't
  pub named_same : (old new all : List NamedType) (left : List Names) → left ≡ strip_all f.name paths → is_not_root left ≡ false → new ≡ old →
      old ++ cut_named paths (map field_of (drop i fs)) ≡ all → new ++ cut_named paths (map field_of (drop (i + 1) fs)) ≡ all
  named_same old new all left e leads same before =
      (λ j. same j ++ cut_named paths (map field_of (drop (add-one i j) fs)))
      ∙ (λ j. old ++ (if (sym leads ∙ ap is_not_root e) j then (f.name, cut_kind (strip_all f.name paths) [] (type_of f.dtype)) ∷ cut_named paths (map field_of (drop (suc i) fs)) else cut_named paths (map field_of (drop (suc i) fs))))
      ∙ ap (λ xs. old ++ xs) (sym named_left) ∙ before

  pub parts_same : (old new all : List KeptPart) (left : List Names) → left ≡ strip_all f.name paths → is_not_root left ≡ false → new ≡ old →
      old ++ kept_list paths i (map field_of (drop i fs)) ≡ all → new ++ kept_list paths (i + 1) (map field_of (drop (i + 1) fs)) ≡ all
  parts_same old new all left e leads same before =
      (λ j. same j ++ kept_list paths (add-one i j) (map field_of (drop (add-one i j) fs)))
      ∙ (λ j. old ++ (if (sym leads ∙ ap is_not_root e) j then (i, kept_by (strip_all f.name paths) (type_of f.dtype)) ∷ kept_list paths (suc i) (map field_of (drop (suc i) fs)) else kept_list paths (suc i) (map field_of (drop (suc i) fs))))
      ∙ ap (λ xs. old ++ xs) (sym parts_left) ∙ before
