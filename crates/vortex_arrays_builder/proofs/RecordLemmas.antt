-- Struct arrays by their columns.
use Rattle.std.proofs.Common.{◌≡◌, ◌<◌, ◌+◌, ℕ, zero, suc, Bool, true, cond, List, [], ◌∷◌, ◌++◌, length, get_or, refl, sym, ap, subst, ◌∙◌, arith, inl, inr}
use Rattle.std.specs.List.{All}
use Rattle.std.proofs.lemmas.Bool.{cases_eq}
use Rattle.std.proofs.lemmas.List.{length-map, get_or-map, get_or_append_left, get_or_push, length_push}
use Rattle.std.specs.Cmp.{first_so, second_so}
use Rattle.vortex_model.specs.LogicalType.{struct, Fields, no_fields, field, Nullability, non_nullable, nullable}
use Rattle.vortex_model.specs.Content.{null, tuple, Contents, first, content_of, contents_of, Raw, raw_null, raw_tuple, Raws, no_raws, raw_first}
use Rattle.vortex_model.specs.Valid.{valid, fields_have}
use Rattle.vortex_model.proofs.Lists.{one_item}
use Rattle.vortex_scalar_value.specs.Parts.{raw_nth, raw_part}
use Rattle.vortex_dtype_core.specs.View.{type_of, field_of, fields_of}
use Rattle.vortex_dtype_core.specs.declared.struct_fields.StructField.{StructField}
use Rattle.vortex_dtype_core.proofs.Views.{field_of-parts}
use Rattle.vortex_dtype_fields.specs.Records.{names_of}
use Rattle.vortex_arrays_model.specs.Layout as layout
use Rattle.vortex_arrays_model.specs.Layout.{Layout, records, Valid, Columns, no_columns, column, len_of, array_type_of, content_at, is_valid, row_at, IsSound, HasLength, HaveLength}
use Rattle.vortex_arrays_model.specs.Parts.{columns_of}
use Rattle.vortex_arrays_builder.specs.Types.{HasPlain, HavePlain, ArePlainLayouts}
use Rattle.vortex_arrays_builder.specs.Plain.{is_held, is_there, MarksNulls, IsPlain, parts_at, ArePlain}
use Rattle.vortex_arrays_builder.proofs.ListLemmas.{valid_held}

-- ---- plain columns

have_length : (fs : Fields) (i : ℕ) (rs : List Raw) (cs : Columns) → ArePlain fs i rs cs → HaveLength cs (length rs)
have_length no_fields i rs no_columns h = tt
have_length (field x k fs) i rs (column y a cs) h = (h.1.sound, h.1.len ∙ length-map rs (λ r. raw_part r i), have_length fs (suc i) rs cs h.2)
have_length no_fields i rs (column y a cs) h = absurd h
have_length (field x k fs) i rs no_columns h = absurd h

have_fields : (fs : Fields) (i : ℕ) (rs : List Raw) (cs : Columns) → ArePlain fs i rs cs → layout.fields_of cs ≡ fs
have_fields no_fields i rs no_columns h = refl
have_fields (field x k fs) i rs (column y a cs) h = λ t. field (h.0 t) (h.1.kind t) (have_fields fs (suc i) rs cs h.2 t)
have_fields no_fields i rs (column y a cs) h = absurd h
have_fields (field x k fs) i rs no_columns h = absurd h

have_layouts : (fs : Fields) (i : ℕ) (rs : List Raw) (cs : Columns) → ArePlain fs i rs cs → ArePlainLayouts cs
have_layouts no_fields i rs no_columns h = tt
have_layouts (field x k fs) i rs (column y a cs) h = (h.1.layout, have_layouts fs (suc i) rs cs h.2)
have_layouts no_fields i rs (column y a cs) h = absurd h
have_layouts (field x k fs) i rs no_columns h = absurd h

-- as many names as columns
pub names_many : (fs : Fields) (i : ℕ) (rs : List Raw) (xs : List Layout) → ArePlain fs i rs (columns_of (names_of fs) xs) → length (names_of fs) ≡ length xs
names_many no_fields i rs [] h = refl
names_many no_fields i rs (a ∷ xs) h = absurd h
names_many (field x k fs) i rs [] h = absurd h
names_many (field x k fs) i rs (a ∷ xs) h = ap suc (names_many fs (suc i) rs xs h.2)

-- a row of the columns
row_of : (fs : Fields) (i : ℕ) (rs : List Raw) (cs : Columns) (p : ℕ) (qs : Raws) → ArePlain fs i rs cs → p < length rs → ((j : ℕ) → raw_part (get_or rs p raw_null) (i + j) ≡ raw_nth qs j) → fields_have fs qs ≡ true → row_at cs p ≡ contents_of qs
row_of no_fields i rs no_columns p no_raws h l e t = refl
row_of (field x k fs) i rs (column y a cs) p (raw_first q qs) h l e t =
    let there : get_or (parts_at i rs) p raw_null ≡ q = get_or-map (λ r. raw_part r i) rs p raw_null raw_null l ∙ ap (raw_part (get_or rs p raw_null)) (let s : i ≡ i + 0 = omega arith in s) ∙ e 0 in
    let within : p < length (parts_at i rs) = subst (λ n. p < n) (sym (length-map rs (λ r. raw_part r i))) l in
    let here : content_at a p ≡ content_of q = h.1.content p within (ap (valid k) there ∙ first_so (valid k q) (fields_have fs qs) t) ∙ ap content_of there in
    let rest = row_of fs (suc i) rs cs p qs h.2 l (λ j. ap (raw_part (get_or rs p raw_null)) (let s : suc i + j ≡ i + suc j = omega arith in s) ∙ e (suc j)) (second_so (valid k q) (fields_have fs qs) t) in
    λ z. first (here z) (rest z)
row_of no_fields i rs (column y a cs) p qs h l e t = absurd h
row_of (field x k fs) i rs no_columns p qs h l e t = absurd h
row_of no_fields i rs no_columns p (raw_first q qs) h l e t = absurd (cc t)
row_of (field x k fs) i rs (column y a cs) p no_raws h l e t = absurd (cc t)

record_row : (fs : Fields) (n : Nullability) (r : Raw) (b : Bool) (s : Contents) → b ≡ is_there n r → ((qs : Raws) → r ≡ raw_tuple qs → fields_have fs qs ≡ true → s ≡ contents_of qs) → valid (struct fs n) r ≡ true → cond b (tuple s) null ≡ content_of r
record_row fs nullable raw_null b s e f h = ap (λ t. cond t (tuple s) null) e
record_row fs non_nullable raw_null b s e f h = absurd (cc h)
record_row fs nullable (raw_tuple qs) b s e f h = λ t. cond (e t) (tuple (f qs refl h t)) null
record_row fs non_nullable (raw_tuple qs) b s e f h = λ t. cond (e t) (tuple (f qs refl h t)) null
record_row fs n r b s e f h = absurd (cc h)

pub plain_records : (fs : Fields) (n : Nullability) (rs : List Raw) (cs : Columns) (v : Valid) → ArePlain fs 0 rs cs → MarksNulls n rs v → IsPlain (struct fs n) rs (records cs (length rs) v)
plain_records fs n rs cs v h w = record {
  sound = (have_length fs 0 rs cs h, w.fits);
  len = refl;
  kind = λ t. struct (have_fields fs 0 rs cs h t) (w.nullability t);
  layout = have_layouts fs 0 rs cs h;
  content = λ i l c. record_row fs n (get_or rs i raw_null) (is_valid v i) (row_at cs i) (w.bits i l)
      (λ qs r t. row_of fs 0 rs cs i qs h l (λ j. ap (raw_part (get_or rs i raw_null)) (let s : 0 + j ≡ j = omega arith in s) ∙ ap (λ x. raw_part x j) r) t) c;
}

-- ---- the columns, one after another

-- the first n arrays are plain, of the structs' values there
pub record FirstPlain (fs : List StructField) (n : ℕ) (rs : List Raw) (xs : List Layout) : Type 0 where
  pub count : length xs ≡ n
  pub each : (j : ℕ) (f : StructField) (d : Layout) → j < n → f ≡ get_or fs j f → IsPlain (type_of f.dtype) (parts_at j rs) (get_or xs j d)

pub first_none : (fs : List StructField) (rs : List Raw) (xs : List Layout) → length xs ≡ 0 → FirstPlain fs 0 rs xs
first_none fs rs xs e = record { count = e; each = λ j f d l s. absurd (omega arith) }

pub first_more : (fs : List StructField) (n : ℕ) (rs : List Raw) (xs bs : List Layout) (g : StructField) (a : Layout) → FirstPlain fs n rs xs → n < length fs → g ≡ get_or fs n g → IsPlain (type_of g.dtype) (parts_at n rs) a → bs ≡ xs ++ a ∷ [] → FirstPlain fs (n + 1) rs bs
first_more fs n rs xs bs g a h l e p s = subst (FirstPlain fs (n + 1) rs) (sym s) (record {
  count = length_push xs a ∙ ap (λ k. k + 1) h.count;
  each = λ j f d b q. elim (cases_eq j n) [
    | inl same ↦
        let here : f ≡ g = one_item fs n f g l (subst (λ i. f ≡ get_or fs i f) same q) e in
        subst (λ x. IsPlain (type_of f.dtype) (parts_at j rs) x) (sym (get_or_push xs a d j (h.count ∙ sym same)))
        (subst (λ i. IsPlain (type_of f.dtype) (parts_at i rs) a) (sym same) (subst (λ x. IsPlain (type_of x.dtype) (parts_at n rs) a) (sym here) p))
    | inr other ↦
        let before : j < n = omega (arith, other) in
        subst (λ x. IsPlain (type_of f.dtype) (parts_at j rs) x) (sym (get_or_append_left xs (a ∷ []) d j (let m = h.count in omega (arith, m)))) (h.each j f d before q)
  ];
})

all_plain : (fs : List StructField) (i : ℕ) (rs : List Raw) (xs : List Layout) → length xs ≡ length fs → ((j : ℕ) (f : StructField) (d : Layout) → j < length fs → f ≡ get_or fs j f → IsPlain (type_of f.dtype) (parts_at (i + j) rs) (get_or xs j d)) → ArePlain (fields_of fs) i rs (columns_of (names_of (fields_of fs)) xs)
all_plain [] i rs [] e h = tt
all_plain [] i rs (a ∷ xs) e h = absurd (omega arith)
all_plain (f ∷ fs) i rs [] e h = absurd (omega arith)
all_plain (f ∷ fs) i rs (a ∷ xs) e h = (
  refl,
  subst (λ p. IsPlain p.1 (parts_at i rs) a) (sym (field_of-parts f)) (subst (λ j. IsPlain (type_of f.dtype) (parts_at j rs) a) (let s : i + 0 ≡ i = omega arith in s) (h 0 f a (omega arith) refl)),
  all_plain fs (suc i) rs xs (omega (arith, e)) (λ j g d l q. subst (λ n. IsPlain (type_of g.dtype) (parts_at n rs) (get_or xs j d)) (let s : i + suc j ≡ suc i + j = omega arith in s) (h (suc j) g d (omega arith) q)),
)

pub first_all : (fs : List StructField) (n : ℕ) (rs : List Raw) (xs : List Layout) → FirstPlain fs n rs xs → n ≡ length fs → ArePlain (fields_of fs) 0 rs (columns_of (names_of (fields_of fs)) xs)
first_all fs n rs xs h e = all_plain fs 0 rs xs (h.count ∙ e) (λ j f d l q. subst (λ i. IsPlain (type_of f.dtype) (parts_at i rs) (get_or xs j d)) (let s : j ≡ 0 + j = omega arith in s) (h.each j f d (omega (arith, l, e)) q))

-- ---- the part of a struct at an index

-- the part at an index is null or one of the field's type
pub parts_of_fields : (fs : List StructField) (qs : Raws) (j : ℕ) (f : StructField) → fields_have (fields_of fs) qs ≡ true → j < length fs → f ≡ get_or fs j f → valid (type_of f.dtype) (raw_nth qs j) ≡ true
parts_of_fields [] qs j f h l e = absurd (omega arith)
parts_of_fields (g ∷ fs) no_raws j f h l e = absurd (cc h)
parts_of_fields (g ∷ fs) (raw_first q qs) zero f h l e =
    ap (λ x. valid (type_of x.dtype) q) e ∙ ap (λ p. valid p.1 q) (sym (field_of-parts g)) ∙ first_so (valid (field_of g).1 q) (fields_have (fields_of fs) qs) h
parts_of_fields (g ∷ fs) (raw_first q qs) (suc j) f h l e = parts_of_fields fs qs j f (second_so (valid (field_of g).1 q) (fields_have (fields_of fs) qs) h) (omega (arith, l)) e

part_held : (fs : List StructField) (n : Nullability) (r : Raw) (j : ℕ) (f : StructField) → is_held (struct (fields_of fs) n) r ≡ true → j < length fs → f ≡ get_or fs j f → is_held (type_of f.dtype) (raw_part r j) ≡ true
part_held fs n raw_null j f h l e = refl
part_held fs n (raw_tuple qs) j f h l e = valid_held (type_of f.dtype) (raw_nth qs j) (parts_of_fields fs qs j f h l e)
part_held fs n r j f h l e = absurd (cc h)

pub parts_held : (fs : List StructField) (n : Nullability) (rs : List Raw) (j : ℕ) (f : StructField) → All (λ r. is_held (struct (fields_of fs) n) r ≡ true) rs → j < length fs → f ≡ get_or fs j f → All (λ r. is_held (type_of f.dtype) r ≡ true) (parts_at j rs)
parts_held fs n rs j f h l e = λ i d b.
    let w : i < length rs = subst (λ m. i < m) (length-map rs (λ r. raw_part r j)) b in
    subst (λ r. is_held (type_of f.dtype) r ≡ true) (sym (get_or-map (λ r. raw_part r j) rs i raw_null d w)) (part_held fs n (get_or rs i raw_null) j f (h i raw_null w) l e)

-- the type of a field
pub kind_held : (fs : List StructField) (j : ℕ) (f : StructField) → HavePlain (fields_of fs) → j < length fs → f ≡ get_or fs j f → HasPlain (type_of f.dtype)
kind_held [] j f h l e = absurd (omega arith)
kind_held (g ∷ fs) zero f h l e = subst (λ x. HasPlain (type_of x.dtype)) (sym e) (subst (λ p. HasPlain p.1) (field_of-parts g) h.0)
kind_held (g ∷ fs) (suc j) f h l e = kind_held fs j f h.1 (omega (arith, l)) e

one_nullable : (fs : Fields) (n : Nullability) (r : Raw) → is_held (struct fs n) r ≡ true → is_held (struct fs nullable) r ≡ true
one_nullable fs n raw_null h = refl
one_nullable fs n (raw_tuple qs) h = h
one_nullable fs n r h = absurd (cc h)

-- a nullable struct has the same parts
pub held_nullable : (fs : Fields) (n : Nullability) (rs : List Raw) → All (λ r. is_held (struct fs n) r ≡ true) rs → All (λ r. is_held (struct fs nullable) r ≡ true) rs
held_nullable fs n rs h = λ i d l. one_nullable fs n (get_or rs i d) (h i d l)
