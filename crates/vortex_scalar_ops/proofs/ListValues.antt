-- Casts of lists and structs.
use Rattle.std.proofs.Math.Bool.{and-false}
use Rattle.std.proofs.Common.{◌≡◌, ◌==◌, ◌&&◌, ℕ, true, false, refl, ap, ◌∙◌, Some, None}
use Rattle.vortex_model.specs.LogicalType.{LogicalType, Nullability, list, fixed_list, mapping, struct, extension, Fields, is_nullable, nullability_of}
use Rattle.vortex_model.specs.Content.{null, tuple, Contents, count, Raws, raw_tuple, raw_count}
use Rattle.vortex_model.specs.Valid.{valid, all_have, fields_have}
use Rattle.vortex_model.specs.Convert.{converts, all_convert, fields_convert}
use Rattle.vortex_dtype_ptype.specs.Numbers as numbers
use Rattle.vortex_dtype_ptype.specs.Numbers.{NumberKind, type_of_numbers}
use Rattle.vortex_dtype_core.specs.Parts.{list_element, fields_in_type}
use Rattle.vortex_dtype_core.proofs.Views as types
use Rattle.vortex_scalar_ops.specs.Converting.{is_identity_cast, takes_length}

pub converts-null : (s t : LogicalType) → converts s t null ≡ is_nullable (nullability_of t)
converts-null s t = refl

-- ---- lists

pub lists_convert : (s t a b : LogicalType) (cs : Contents) → list_element s ≡ Some a → list_element t ≡ Some b → takes_length t (count cs) ≡ true → converts s t (tuple cs) ≡ all_convert a b cs
lists_convert (list k n) (list l m) a b cs e f h = ap (λ x. all_convert x l cs) (cc (e)) ∙ ap (λ x. all_convert a x cs) (cc (f))
lists_convert (list k n) (fixed_list l j m) a b cs e f h = ap (λ x. x && all_convert k l cs) h ∙ ap (λ x. all_convert x l cs) (cc (e)) ∙ ap (λ x. all_convert a x cs) (cc (f))
lists_convert (fixed_list k i n) (list l m) a b cs e f h = ap (λ x. all_convert x l cs) (cc (e)) ∙ ap (λ x. all_convert a x cs) (cc (f))
lists_convert (fixed_list k i n) (fixed_list l j m) a b cs e f h = ap (λ x. x && all_convert k l cs) h ∙ ap (λ x. all_convert x l cs) (cc (e)) ∙ ap (λ x. all_convert a x cs) (cc (f))
lists_convert (list k n) t a b cs e f h = absurd (cc (f))
lists_convert (fixed_list k i n) t a b cs e f h = absurd (cc (f))
lists_convert s t a b cs e f h = absurd (cc (e))

pub no_list_target : (s t a : LogicalType) (cs : Contents) → list_element s ≡ Some a → list_element t ≡ None → converts s t (tuple cs) ≡ false
no_list_target (list k n) (list l m) a cs e f = absurd (cc (f))
no_list_target (list k n) (fixed_list l j m) a cs e f = absurd (cc (f))
no_list_target (fixed_list k i n) (list l m) a cs e f = absurd (cc (f))
no_list_target (fixed_list k i n) (fixed_list l j m) a cs e f = absurd (cc (f))
no_list_target (list k n) t a cs e f = refl
no_list_target (fixed_list k i n) t a cs e f = refl
no_list_target s t a cs e f = absurd (cc (e))

pub wrong_length : (s t a : LogicalType) (cs : Contents) → list_element s ≡ Some a → takes_length t (count cs) ≡ false → converts s t (tuple cs) ≡ false
wrong_length (list k n) (fixed_list l j m) a cs e h = ap (λ x. x && all_convert k l cs) h
wrong_length (list k n) t a cs e h = absurd (cc (h))
wrong_length (fixed_list k i n) (fixed_list l j m) a cs e h = ap (λ x. x && all_convert k l cs) h
wrong_length (fixed_list k i n) t a cs e h = absurd (cc (h))
wrong_length s t a cs e h = absurd (cc (e))

pub valid_list : (t b : LogicalType) (rs : Raws) → list_element t ≡ Some b → takes_length t (raw_count rs) ≡ true → valid t (raw_tuple rs) ≡ all_have b rs
valid_list (list l m) b rs f h = ap (λ x. all_have x rs) (cc (f))
valid_list (fixed_list l j m) b rs f h = ap (λ x. x && all_have l rs) h ∙ ap (λ x. all_have x rs) (cc (f))
valid_list t b rs f h = absurd (cc (f))

pub invalid_list : (s a : LogicalType) (rs : Raws) → list_element s ≡ Some a → all_have a rs ≡ false → valid s (raw_tuple rs) ≡ false
invalid_list (list k n) a rs e h = ap (λ x. all_have x rs) (cc (e)) ∙ h
invalid_list (fixed_list k i n) a rs e h = ap (λ x. (raw_count rs == i) && x) (ap (λ x. all_have x rs) (cc (e)) ∙ h) ∙ and-false _
invalid_list s a rs e h = absurd (cc (e))

pub any_length_of_numbers : (k : NumberKind) (n : Nullability) (c : ℕ) → takes_length (type_of_numbers k n) c ≡ true
any_length_of_numbers (numbers.integral i) n c = refl
any_length_of_numbers (numbers.floating f) n c = refl

pub ruleset lists = (types.one_level, types.extension_type-parts, any_length_of_numbers)

-- ---- structs

pub records_convert : (s t : LogicalType) (fs gs : Fields) (cs : Contents) → fields_in_type s ≡ Some fs → fields_in_type t ≡ Some gs → converts s t (tuple cs) ≡ fields_convert fs gs cs
records_convert (struct hs n) (struct is m) fs gs cs e f = ap (λ x. fields_convert x is cs) (cc (e)) ∙ ap (λ x. fields_convert fs x cs) (cc (f))
records_convert (struct hs n) t fs gs cs e f = absurd (cc (f))
records_convert s t fs gs cs e f = absurd (cc (e))

pub no_record_target : (s t : LogicalType) (fs : Fields) (cs : Contents) → fields_in_type s ≡ Some fs → fields_in_type t ≡ None → converts s t (tuple cs) ≡ false
no_record_target (struct hs n) (struct is m) fs cs e f = absurd (cc (f))
no_record_target (struct hs n) t fs cs e f = refl
no_record_target s t fs cs e f = absurd (cc (e))

pub valid_record : (t : LogicalType) (gs : Fields) (rs : Raws) → fields_in_type t ≡ Some gs → valid t (raw_tuple rs) ≡ fields_have gs rs
valid_record (struct is m) gs rs f = ap (λ x. fields_have x rs) (cc (f))
valid_record t gs rs f = absurd (cc (f))

-- neither a list nor a struct
pub no_parts : (s t : LogicalType) (cs : Contents) → is_identity_cast s ≡ false → list_element s ≡ None → fields_in_type s ≡ None → converts s t (tuple cs) ≡ false
no_parts (list k n) t cs h e f = absurd (cc (e))
no_parts (fixed_list k i n) t cs h e f = absurd (cc (e))
no_parts (struct fs n) t cs h e f = absurd (cc (f))
no_parts (mapping k v s n) t cs h e f = absurd (cc (h))
no_parts (extension id meta k) t cs h e f = absurd (cc (h))
no_parts s t cs h e f = refl
