-- The positions of the leaves of a type.
use Rattle.std.proofs.Common.{◌≡◌, refl, sym, ◌∙◌, ap, ℕ, zero, suc, ◌+◌, ◌<◌, ◌==◌, nat_eq, List, [], ◌∷◌, ◌++◌, length, drop, get_or, Bool, true, false, ◌&&◌, ◌||◌, Option, Some, None, if◌then◌else◌, append_assoc, append-nil, add-one, arith}
use Rattle.std.proofs.lemmas.List.Folds.{list_any-append}
use Rattle.std.specs.Cmp.Lexicographic.{pointwise}
use Rattle.std.specs.List.{list_any}
use Rattle.std.specs.Cmp.{first_so, second_so}
use Rattle.std.proofs.lemmas.Bool.{and_from, or_right, eqb-true}
use Rattle.vortex_model.specs.LogicalType.{LogicalType, struct, Fields, no_fields, field}
use Rattle.vortex_model.specs.Kept.{is_leaf}
use Rattle.vortex_model.specs.Path.{Positions, eq_positions, type_at, field_at}
use Rattle.vortex_model.proofs.Passes.{number_same}
use Rattle.vortex_model_laws.proofs.Columns.{stepped, leaf_within}
use Rattle.vortex_dtype_ptype.specs.declared.nullability.Nullability as outer
use Rattle.vortex_dtype_core.specs.View.{type_of, fields_of, NamedType}
use Rattle.vortex_dtype_core.specs.declared.dtype.DType as type
use Rattle.vortex_dtype_core.specs.declared.dtype.DType.{DType}
use Rattle.vortex_dtype_core.specs.declared.struct_fields.StructFields.{StructFields}
use Rattle.vortex_dtype_core.specs.declared.struct_fields.StructField.{StructField}
use Rattle.vortex_dtype_core.proofs.Views.{one_level, field_of-parts}
use Rattle.vortex_dtype_core.proofs.Forms.{form, of_records, made}
use Rattle.vortex_table_schema.specs.Leaves.{leaves_in, leaves_among, leaf_positions}

-- ---- equal positions

pub positions_so : (is js : Positions) → eq_positions is js ≡ true → is ≡ js
positions_so [] [] h = refl
positions_so (i ∷ is) (j ∷ js) h = λ t. eqb-true i j (first_so (i == j) (eq_positions is js) h) t ∷ positions_so is js (second_so (i == j) (eq_positions is js) h) t
positions_so is js h = absurd (cc (h))

pub positions_itself : (is : Positions) → eq_positions is is ≡ true
positions_itself [] = refl
positions_itself (i ∷ is) = and_from (i == i) (eq_positions is is) (number_same i) (positions_itself is)

pub by_steps : (is js : Positions) → pointwise nat_eq is js ≡ eq_positions is js
by_steps [] [] = refl
by_steps [] (j ∷ js) = refl
by_steps (i ∷ is) [] = refl
by_steps (i ∷ is) (j ∷ js) = ap (λ b. (i == j) && b) (by_steps is js)

-- ---- what is a leaf

alone : (here : Positions) (k : LogicalType) → (form k ≡ of_records → ⊥) → leaves_in here k ≡ (if is_leaf k then here ∷ [] else [])
alone here (struct fs n) other = absurd (other refl)
alone here k other = refl

-- what is no record is a leaf itself, or has none
pub leaf_alone : (here : Positions) (d : DType) → ((s : StructFields) (n : outer.Nullability) → d ≡ type.Struct s n → ⊥) → leaves_in here (type_of d) ≡ (if is_leaf (type_of d) then here ∷ [] else [])
leaf_alone here d other = alone here (type_of d) (λ e. let h = made d of_records e in other h.0 h.1 h.2)

-- and none, where it is none
pub no_leaf : (here : Positions) (d : DType) → ((s : StructFields) (n : outer.Nullability) → d ≡ type.Struct s n → ⊥) → is_leaf (type_of d) ≡ false → leaves_in here (type_of d) ≡ []
no_leaf here d other h = leaf_alone here d other ∙ ap (λ b. if b then here ∷ [] else []) h

pub ruleset parts = (one_level, leaf_alone)

-- ---- each leaf of a type is among its leaves

abbrev pub is_among : List Positions → Positions → Bool
is_among leaves is = list_any (λ js. eq_positions js is) leaves

among_left : (xs ys : List Positions) (is : Positions) → is_among xs is ≡ true → is_among (xs ++ ys) is ≡ true
among_left xs ys is h = list_any-append (λ js. eq_positions js is) xs ys ∙ ap (λ b. b || is_among ys is) h

among_right : (xs ys : List Positions) (is : Positions) → is_among ys is ≡ true → is_among (xs ++ ys) is ≡ true
among_right xs ys is h = list_any-append (λ js. eq_positions js is) xs ys ∙ or_right (is_among xs is) (is_among ys is) h

-- the leaves of a field are among those of its record
among_fields : (here : Positions) (j : ℕ) (fs : Fields) (i : ℕ) (part : LogicalType) (is : Positions) → field_at fs i ≡ Some part → is_among (leaves_in (here ++ (j + i) ∷ []) part) is ≡ true → is_among (leaves_among here j fs) is ≡ true
among_fields here j no_fields i part is e h = absurd (cc (e))
among_fields here j (field x k fs) zero part is e h =
    let at_j : j + 0 ≡ j = omega arith in
    let same : k ≡ part = ap (value_or k) e in
    among_left (leaves_in (here ++ j ∷ []) k) (leaves_among here (suc j) fs) is ((λ t. is_among (leaves_in (here ++ sym at_j t ∷ []) (same t)) is) ∙ h)
  where
    value_or : LogicalType → Option LogicalType → LogicalType
    value_or d None = d
    value_or d (Some l) = l
among_fields here j (field x k fs) (suc i) part is e h =
    let on : suc j + i ≡ j + suc i = omega arith in
    among_right (leaves_in (here ++ j ∷ []) k) (leaves_among here (suc j) fs) is
    (among_fields here (suc j) fs i part is e (ap (λ n. is_among (leaves_in (here ++ n ∷ []) part) is) on ∙ h))

own_leaf : (here : Positions) (k : LogicalType) → is_leaf k ≡ true → is_among (leaves_in here k) here ≡ true
own_leaf here (struct fs n) h = absurd (cc (h))
own_leaf here k h = ap (λ b. is_among (if b then here ∷ [] else []) here) h ∙ ap (λ b. b || false) (positions_itself here)

leaf_among : (here is : Positions) (k t : LogicalType) → type_at k is ≡ Some t → is_leaf t ≡ true → is_among (leaves_in here k) (here ++ is) ≡ true
leaf_among here [] k t e w =
    ap (is_among (leaves_in here k)) (append-nil here) ∙ own_leaf here k (ap is_leaf (ap (value_or k) e) ∙ w)
  where
    value_or : LogicalType → Option LogicalType → LogicalType
    value_or d None = d
    value_or d (Some l) = l
leaf_among here (i ∷ is) (struct fs n) t e w =
    let s = stepped n (field_at fs i) is t e in
    let leaf : is_leaf s.inner ≡ true = sym (leaf_within n s.inner) ∙ ap is_leaf s.result ∙ w in
    let from : 0 + i ≡ i = omega arith in
    among_fields here 0 fs i s.part (here ++ i ∷ is) s.there
    (ap (λ n. is_among (leaves_in (here ++ n ∷ []) s.part) (here ++ i ∷ is)) from ∙ ap (is_among (leaves_in (here ++ i ∷ []) s.part)) (sym (append_assoc here (i ∷ []) is)) ∙ leaf_among (here ++ i ∷ []) is s.part s.inner s.type leaf)
leaf_among here (i ∷ is) k t e w = absurd (cc (e))

pub leaf_there : (k : LogicalType) (is : Positions) (t : LogicalType) → type_at k is ≡ Some t → is_leaf t ≡ true → is_among (leaf_positions k) is ≡ true
leaf_there k is t e w = leaf_among [] is k t e w

-- ---- the leaves of fields, one by one

first_leaves : (here : Positions) (i : ℕ) (f : StructField) (fs : List StructField) → leaves_among here i (fields_of (f ∷ fs)) ≡ leaves_in (here ++ i ∷ []) (type_of f.dtype) ++ leaves_among here (suc i) (fields_of fs)
first_leaves here i f fs = ap (λ (p : NamedType). leaves_in (here ++ i ∷ []) p.1 ++ leaves_among here (suc i) (fields_of fs)) (field_of-parts f)

fields_from_here : (here : Positions) (n : ℕ) (fs : List StructField) (i : ℕ) (f : StructField) → i < length fs → f ≡ get_or fs i f →
    leaves_among here n (fields_of (drop i fs)) ≡ leaves_in (here ++ n ∷ []) (type_of f.dtype) ++ leaves_among here (suc n) (fields_of (drop (suc i) fs))
fields_from_here here n [] i f h e = absurd (omega (arith, h))
fields_from_here here n (g ∷ fs) zero f h e = first_leaves here n g fs ∙ ap (λ (x : StructField). leaves_in (here ++ n ∷ []) (type_of x.dtype) ++ leaves_among here (suc n) (fields_of fs)) (sym e)
fields_from_here here n (g ∷ fs) (suc i) f h e = fields_from_here here n fs i f (omega (arith, h)) e

-- the leaves that are there, and those of the fields that are left
pub one_more_field : (here there : Positions) (fs : List StructField) (i : ℕ) (f : StructField) → i < length fs → f ≡ get_or fs i f → there ≡ here ++ i ∷ [] →
    (old new all : List Positions) → new ≡ old ++ leaves_in there (type_of f.dtype) → old ++ leaves_among here i (fields_of (drop i fs)) ≡ all →
    new ++ leaves_among here (i + 1) (fields_of (drop (i + 1) fs)) ≡ all
one_more_field here there fs i f h e at_here old new all made before =
    (λ t. (made ∙ ap (λ xs. old ++ leaves_in xs (type_of f.dtype)) at_here) t ++ leaves_among here (add-one i t) (fields_of (drop (add-one i t) fs)))
    ∙ append_assoc old (leaves_in (here ++ i ∷ []) (type_of f.dtype)) (leaves_among here (suc i) (fields_of (drop (suc i) fs)))
    ∙ ap (λ xs. old ++ xs) (sym (fields_from_here here i fs i f h e)) ∙ before
