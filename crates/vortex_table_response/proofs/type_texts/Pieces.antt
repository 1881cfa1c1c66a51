-- Bytes that are written part by part.
use Rattle.std.proofs.Common.{◌≡◌, ℕ, Result, Ok, Err, OnOk, zero, suc, ◌+◌, ◌<◌, Bool, true, List, [], ◌∷◌, ◌++◌, length, drop, get_or, sym, ap, ◌∙◌, append_assoc, arith}
use Rattle.json.specs.Print.{quoted}
use Rattle.vortex_model.specs.LogicalType.{LogicalType}
use Rattle.vortex_dtype_core.specs.View.{type_of, fields_of, field_of, NamedType}
use Rattle.vortex_dtype_core.proofs.Views.{field_of-parts}
use Rattle.vortex_dtype_core.specs.declared.struct_fields.StructField.{StructField}
use Rattle.vortex_table_response.specs.type_texts.Text.{comma, type_text, children_text, names_text}

-- what the last call wrote, as what all calls wrote
pub ended_as : {E : Type 0} (old mid t u new : List ℕ) (r : Result (Unit {0}) E) → (new ≡ mid ++ t → new ≡ old ++ u) → OnOk r (new ≡ mid ++ t) → OnOk r (new ≡ old ++ u)
ended_as old mid t u new (Ok x) f written = f written
ended_as old mid t u new (Err e) f written = written

pub three_pieces : (old x t y a b new : List ℕ) → a ≡ old ++ x → b ≡ a ++ t → new ≡ b ++ y → new ≡ old ++ (x ++ (t ++ y))
three_pieces old x t y a b new e f g = rw (g, f, e) (simp append_assoc)

pub five_pieces : (old s t u v w a b c d new : List ℕ) → a ≡ old ++ s → b ≡ a ++ t → c ≡ b ++ u → d ≡ c ++ v → new ≡ d ++ w → new ≡ old ++ (s ++ t ++ u ++ v ++ w)
five_pieces old s t u v w a b c d new e f g h i = rw (i, h, g, f, e) (simp append_assoc)

-- what comes before the child of a list type, the child, and what comes after
pub list_pieces : (old s t u v w a b new : List ℕ) → a ≡ old ++ s → b ≡ a ++ t → new ≡ b ++ (u ++ v ++ w) → new ≡ old ++ (s ++ t ++ u ++ v ++ w)
list_pieces old s t u v w a b new e f g = rw (g, f, e) (simp append_assoc)

pub fixed_list_pieces : (old s t u v w x y a b new : List ℕ) → a ≡ old ++ s → b ≡ a ++ t → new ≡ b ++ (u ++ v ++ w ++ x ++ y) → new ≡ old ++ (s ++ t ++ u ++ v ++ w ++ x ++ y)
fixed_list_pieces old s t u v w x y a b new e f g = rw (g, f, e) (simp append_assoc)

pub kind_of_field : (f g : StructField) → f ≡ g → (field_of g).1 ≡ type_of f.dtype
kind_of_field f g e = ap (λ (p : NamedType). p.1) (field_of-parts g) ∙ ap (λ (h : StructField). type_of h.dtype) (sym e)

-- the children from an index on
children_from : (later : Bool) (fs : List StructField) (i : ℕ) (f : StructField) → i < length fs → f ≡ get_or fs i f
    → children_text later (fields_of (drop i fs)) ≡ comma later ++ type_text (type_of f.dtype) ++ children_text true (fields_of (drop (suc i) fs))
children_from later [] i f h e = absurd (omega arith)
children_from later (g ∷ fs) zero f h e = ap (λ (k : LogicalType). comma later ++ type_text k ++ children_text true (fields_of fs)) (kind_of_field f g e)
children_from later (g ∷ fs) (suc i) f h e = children_from later fs i f (omega arith) e

pieces : (a b d s t u : List ℕ) → b ≡ a ++ s → d ≡ b ++ t → d ++ u ≡ a ++ (s ++ t ++ u)
pieces a b d s t u p q = rw (q, p) (simp append_assoc)

pub one_more_child : (a b d x : List ℕ) (later : Bool) (fs : List StructField) (i : ℕ) (f : StructField) → i < length fs → f ≡ get_or fs i f
    → b ≡ a ++ comma later → d ≡ b ++ type_text (type_of f.dtype) → a ++ children_text later (fields_of (drop i fs)) ≡ x
    → d ++ children_text true (fields_of (drop (i + 1) fs)) ≡ x
one_more_child a b d x later fs i f h e p q r =
    let one_on : i + 1 ≡ suc i = omega arith in
    let rest = sym (children_from later fs i f h e) in
    ap (λ (n : ℕ). d ++ children_text true (fields_of (drop n fs))) one_on
    ∙ pieces a b d (comma later) (type_text (type_of f.dtype)) _ p q
    ∙ ap (λ (s : List ℕ). a ++ s) rest ∙ r

name_of_field : (f g : StructField) → f ≡ g → (field_of g).0 ≡ f.name
name_of_field f g e = ap (λ (p : NamedType). p.0) (field_of-parts g) ∙ ap (λ (h : StructField). h.name) (sym e)

-- the names from an index on
names_from : (later : Bool) (fs : List StructField) (i : ℕ) (f : StructField) → i < length fs → f ≡ get_or fs i f
    → names_text later (fields_of (drop i fs)) ≡ comma later ++ quoted f.name ++ names_text true (fields_of (drop (suc i) fs))
names_from later [] i f h e = absurd (omega arith)
names_from later (g ∷ fs) zero f h e = ap (λ (x : List ℕ). comma later ++ quoted x ++ names_text true (fields_of fs)) (name_of_field f g e)
names_from later (g ∷ fs) (suc i) f h e = names_from later fs i f (omega arith) e

pub one_more_name : (a b d x t : List ℕ) (later : Bool) (fs : List StructField) (i : ℕ) (f : StructField) → i < length fs → f ≡ get_or fs i f
    → b ≡ a ++ comma later → d ≡ b ++ quoted t → t ≡ f.name → a ++ names_text later (fields_of (drop i fs)) ≡ x
    → d ++ names_text true (fields_of (drop (i + 1) fs)) ≡ x
one_more_name a b d x t later fs i f h e p q named r =
    let one_on : i + 1 ≡ suc i = omega arith in
    ap (λ (n : ℕ). d ++ names_text true (fields_of (drop n fs))) one_on
    ∙ pieces a b d (comma later) (quoted f.name) _ p (q ∙ ap (λ (y : List ℕ). b ++ quoted y) named)
    ∙ ap (λ (s : List ℕ). a ++ s) (sym (names_from later fs i f h e)) ∙ r
