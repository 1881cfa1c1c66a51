-- Arrays cast to another type.
use Rattle.std.proofs.Common.{◌≡◌, ◌<◌, ◌≤ℤ◌, ◌+◌, ℕ, ℤ, Option, Some, None, zero, suc, pos, Bool, true, false, ◌&&◌, cond, List, [], ◌∷◌, ◌++◌, length, get_or, refl, sym, ap, subst, ◌∙◌, arith, inl, inr}
use Rattle.std.specs.List.{list_all, All}
use Rattle.std.proofs.lemmas.Bool.{cases_eq}
use Rattle.std.proofs.lemmas.List.{get_or_append_left, get_or_push, length_push}
use Rattle.vortex_model.specs.LogicalType.{LogicalType, boolean_type, integer_type, struct, Fields, no_fields, field, IntKind, Nullability, non_nullable, is_nullable, nullability_of}
use Rattle.vortex_model.specs.Content.{Content, null, boolean, integer, tuple, first}
use Rattle.vortex_model.specs.Convert.{converts, fields_convert}
use Rattle.vortex_model.specs.Valid.{InRange}
use Rattle.vortex_model.proofs.Passes.{range_passes}
use Rattle.vortex_dtype_core.specs.View.{type_of, fields_of}
use Rattle.vortex_dtype_core.specs.declared.struct_fields.StructField.{StructField}
use Rattle.vortex_dtype_core.proofs.Views.{one_level, field_of-parts}
use Rattle.vortex_dtype_fields.specs.Records.{names_of}
use Rattle.vortex_arrays_view.specs.Views.{value_of}
use Rattle.vortex_arrays_model.specs.Layout as layout
use Rattle.vortex_arrays_model.specs.Layout.{Layout, bools, numbers, strings, records, Strings, texts, byte_strings, type_of_strings, string_content, Valid, required, all_valid, all_null, by_array, Columns, no_columns, column, len_of, array_type_of, nullability_by, content_at, is_valid, row_at, rows_of, IsSound, HasLength, HaveLength}
use Rattle.vortex_arrays_model.specs.Parts.{columns_of}
use Rattle.vortex_arrays_model.proofs.RowsLemmas.{row_at_position, row_count, rows_by_position}
use Rattle.vortex_arrays_model.proofs.PicksLemmas.{field_size}
use Rattle.vortex_arrays_validity.specs.Validities.{IsRecast, NoneNull}
use Rattle.vortex_arrays_builder.specs.Types.{IsPlainLayout, ArePlainLayouts}
use Rattle.vortex_arrays_cast.specs.Cast.{IsCast, AreCast}
use Rattle.vortex_arrays_cast.specs.Ranges.{IsBetween, LieIn, Keeps}

-- ---- rows

pub cast_rows : (k : LogicalType) (a r : Layout) → IsCast k a r → rows_of r ≡ rows_of a
cast_rows k a r h = rows_by_position r (rows_of a) (row_count a ∙ sym h.len) (λ i l.
    let within : i < len_of a = subst (λ n. i < n) h.len l in
    row_at_position a i null within ∙ sym (h.content i within))

all_by_position : (p : Content → Bool) (cs : List Content) → ((i : ℕ) → i < length cs → p (get_or cs i null) ≡ true) → list_all p cs ≡ true
all_by_position p [] h = refl
all_by_position p (c ∷ cs) h = λ t. h 0 (omega arith) t && all_by_position p cs (λ i l. h (suc i) (omega (arith, l))) t

pub cast_held : (k : LogicalType) (a r : Layout) → IsCast k a r → list_all (converts (array_type_of a) k) (rows_of a) ≡ true
cast_held k a r h = all_by_position (converts (array_type_of a) k) (rows_of a) (λ i l.
    let within : i < len_of a = subst (λ n. i < n) (row_count a) l in
    ap (converts (array_type_of a) k) (row_at_position a i null within) ∙ h.held i within)

pub cast_kind : (k : LogicalType) (a r : Layout) → IsCast k a r → array_type_of r ≡ k
cast_kind k a r h = h.kind

pub cast_layout : (k : LogicalType) (a r : Layout) → IsCast k a r → IsPlainLayout r
cast_layout k a r h = h.layout

pub ruleset rows = (cast_rows, cast_held, cast_kind, cast_layout)

-- ---- nulls

pub none_null : (v : Valid) (n : ℕ) → NoneNull v n → IsRecast v required non_nullable n
none_null v n h = record { fits = tt; nullability = refl; rows = λ i l. sym (h i l) }

-- the type of a null value is nullable
pub null_held : (w : Valid) (m : Nullability) (i : ℕ) → nullability_by w ≡ m → is_valid w i ≡ false → is_nullable m ≡ true
null_held required m i n e = absurd (cc e)
null_held all_valid m i n e = ap is_nullable (sym n)
null_held all_null m i n e = ap is_nullable (sym n)
null_held (by_array a) m i n e = ap is_nullable (sym n)

pub row_held : (s t : LogicalType) (v w : Valid) (m : Nullability) (n i : ℕ) (c : Content) → nullability_of t ≡ m → IsRecast v w m n → i < n → converts s t c ≡ true → converts s t (cond (is_valid v i) c null) ≡ true
row_held s t v w m n i c e h l held = by (is_valid v i) refl
  where
    by : (b : Bool) → is_valid v i ≡ b → converts s t (cond b c null) ≡ true
    by true is = held
    by false is = ap is_nullable e ∙ null_held w m i h.nullability (h.rows i l ∙ is)

same_row : (v w : Valid) (m : Nullability) (n i : ℕ) (c : Content) → IsRecast v w m n → i < n → cond (is_valid w i) c null ≡ cond (is_valid v i) c null
same_row v w m n i c h l = ap (λ b. cond b c null) (h.rows i l)

-- ---- leaves

pub cast_bools : (bs : List Bool) (v w : Valid) (m : Nullability) → IsRecast v w m (length bs) → IsCast (boolean_type m) (bools bs v) (bools bs w)
cast_bools bs v w m h = record {
  sound = h.fits;
  len = refl;
  kind = ap boolean_type h.nullability;
  content = λ i l. same_row v w m (length bs) i (boolean (get_or bs i false)) h l;
  held = λ i l. row_held (boolean_type (nullability_by v)) (boolean_type m) v w m (length bs) i (boolean (get_or bs i false)) refl h l refl;
  layout = tt;
}

-- an integer that is not null is unchanged
stays : (k : IntKind) (r : Option (ℤ × ℤ)) (zs ws : List ℤ) (v : Valid) (i : ℕ) → Keeps r zs ws → LieIn r (numbers k zs v) → i < length zs → is_valid v i ≡ true → get_or ws i (pos 0) ≡ get_or zs i (pos 0)
stays k None zs ws v i kept lie l e = ap (λ us. get_or us i (pos 0)) kept
stays k (Some r) zs ws v i kept lie l e =
    let z = get_or zs i (pos 0) in
    let within : (r.0 ≤ℤ z) × (z ≤ℤ r.1) = subst (λ b. IsBetween r.0 r.1 (cond b (integer z) null)) e (lie i l) in
    kept.each i l within.0 within.1

pub as_many : (r : Option (ℤ × ℤ)) (zs ws : List ℤ) → Keeps r zs ws → length ws ≡ length zs
as_many None zs ws h = ap length h
as_many (Some r) zs ws h = h.many

module _ (k j : IntKind) (zs ws : List ℤ) (v w : Valid) (m : Nullability) (r : Option (ℤ × ℤ)) (kept : Keeps r zs ws) (fit : All (InRange j) ws) (lie : LieIn r (numbers k zs v)) (h : IsRecast v w m (length zs)) where
  same_number : (i : ℕ) → i < length zs → (b : Bool) → is_valid v i ≡ b → cond (is_valid w i) (integer (get_or ws i (pos 0))) null ≡ cond (is_valid v i) (integer (get_or zs i (pos 0))) null
  same_number i l true e =
      ap (λ b. cond b (integer (get_or ws i (pos 0))) null) (h.rows i l ∙ e) ∙ ap integer (stays k r zs ws v i kept lie l e)
      ∙ sym (ap (λ b. cond b (integer (get_or zs i (pos 0))) null) e)
  same_number i l false e =
      ap (λ b. cond b (integer (get_or ws i (pos 0))) null) (h.rows i l ∙ e)
      ∙ sym (ap (λ b. cond b (integer (get_or zs i (pos 0))) null) e)

  number_held : (i : ℕ) → i < length zs → (b : Bool) → is_valid v i ≡ b → converts (integer_type k (nullability_by v)) (integer_type j m) (cond (is_valid v i) (integer (get_or zs i (pos 0))) null) ≡ true
  number_held i l true e =
      ap (λ b. converts (integer_type k (nullability_by v)) (integer_type j m) (cond b (integer (get_or zs i (pos 0))) null)) e
      ∙ range_passes j (get_or zs i (pos 0)) (subst (InRange j) (stays k r zs ws v i kept lie l e) (fit i (pos 0) (subst (λ n. i < n) (sym (as_many r zs ws kept)) l)))
  number_held i l false e =
      ap (λ b. converts (integer_type k (nullability_by v)) (integer_type j m) (cond b (integer (get_or zs i (pos 0))) null)) e
      ∙ null_held w m i h.nullability (h.rows i l ∙ e)

  pub cast_integers : IsCast (integer_type j m) (numbers k zs v) (numbers j ws w)
  cast_integers = record {
    sound = (fit, subst (HasLength w) (sym (as_many r zs ws kept)) h.fits);
    len = as_many r zs ws kept;
    kind = ap (integer_type j) h.nullability;
    content = λ i l. same_number i l (is_valid v i) refl;
    held = λ i l. number_held i l (is_valid v i) refl;
    layout = tt;
  }

string_nullability : (s : Strings) (m : Nullability) → nullability_of (type_of_strings s m) ≡ m
string_nullability texts m = refl
string_nullability byte_strings m = refl

string_held : (s : Strings) (n m : Nullability) (bs : List ℕ) → converts (type_of_strings s n) (type_of_strings s m) (string_content s bs) ≡ true
string_held texts n m bs = refl
string_held byte_strings n m bs = refl

pub views_sound : (s : Strings) (xs bs : List (List ℕ)) (v w : Valid) (m : Nullability) → IsSound (strings s xs bs v) → IsRecast v w m (length xs) → IsSound (strings s xs bs w)
views_sound s xs bs v w m sound h = ((λ i l t. sound.0 i l (sym (h.rows i l) ∙ t)), h.fits)

pub cast_views : (s : Strings) (xs bs : List (List ℕ)) (v w : Valid) (m : Nullability) → IsSound (strings s xs bs v) → IsRecast v w m (length xs) → IsCast (type_of_strings s m) (strings s xs bs v) (strings s xs bs w)
cast_views s xs bs v w m sound h = record {
  sound = views_sound s xs bs v w m sound h;
  len = refl;
  kind = ap (type_of_strings s) h.nullability;
  content = λ i l. same_row v w m (length xs) i (string_content s (value_of (get_or xs i []) bs)) h l;
  held = λ i l. row_held (type_of_strings s (nullability_by v)) (type_of_strings s m) v w m (length xs) i (string_content s (value_of (get_or xs i []) bs)) (string_nullability s m) h l (string_held s (nullability_by v) m (value_of (get_or xs i []) bs));
  layout = tt;
}

pub ruleset leaves = (one_level, cast_bools, cast_integers, cast_views, views_sound)

-- ---- struct arrays

pub cast_fields_of : (gs : Fields) (cs ds : Columns) → AreCast gs cs ds → layout.fields_of ds ≡ gs
cast_fields_of no_fields no_columns no_columns h = refl
cast_fields_of (field x k gs) (column y a cs) (column z r ds) h = λ t. field (h.0 t) (h.1.kind t) (cast_fields_of gs cs ds h.2 t)
cast_fields_of gs cs ds h = absurd h

cast_row : (gs : Fields) (cs ds : Columns) (n i : ℕ) → AreCast gs cs ds → HaveLength cs n → i < n → row_at ds i ≡ row_at cs i
cast_row no_fields no_columns no_columns n i h fit l = refl
cast_row (field x k gs) (column y a cs) (column z r ds) n i h fit l =
    λ t. first (h.1.content i (subst (λ m. i < m) (sym fit.1) l) t) (cast_row gs cs ds n i h.2 fit.2 l t)
cast_row gs cs ds n i h fit l = absurd h

columns_held : (gs : Fields) (cs ds : Columns) (n i : ℕ) → AreCast gs cs ds → HaveLength cs n → i < n → fields_convert (layout.fields_of cs) gs (row_at cs i) ≡ true
columns_held no_fields no_columns no_columns n i h fit l = refl
columns_held (field x k gs) (column y a cs) (column z r ds) n i h fit l =
    λ t. h.1.held i (subst (λ m. i < m) (sym fit.1) l) t && columns_held gs cs ds n i h.2 fit.2 l t
columns_held gs cs ds n i h fit l = absurd h

plain_columns : (gs : Fields) (cs ds : Columns) → AreCast gs cs ds → ArePlainLayouts ds
plain_columns no_fields no_columns no_columns h = tt
plain_columns (field x k gs) (column y a cs) (column z r ds) h = (h.1.layout, plain_columns gs cs ds h.2)
plain_columns gs cs ds h = absurd h

cast_fit : (gs : Fields) (cs ds : Columns) (n : ℕ) → AreCast gs cs ds → HaveLength cs n → HaveLength ds n
cast_fit no_fields no_columns no_columns n h fit = tt
cast_fit (field x k gs) (column y a cs) (column z r ds) n h fit = (h.1.sound, h.1.len ∙ fit.1, cast_fit gs cs ds n h.2 fit.2)
cast_fit gs cs ds n h fit = absurd h

pub cast_records : (gs : Fields) (cs ds : Columns) (n : ℕ) (v w : Valid) (m : Nullability) → AreCast gs cs ds → HaveLength cs n → IsRecast v w m n → IsCast (struct gs m) (records cs n v) (records ds n w)
cast_records gs cs ds n v w m c fit h = record {
  sound = (cast_fit gs cs ds n c fit, h.fits);
  len = refl;
  kind = λ t. struct (cast_fields_of gs cs ds c t) (h.nullability t);
  content = λ i l. ap (λ b. cond b (tuple (row_at ds i)) null) (h.rows i l) ∙ ap (λ row. cond (is_valid v i) (tuple row) null) (cast_row gs cs ds n i c fit l);
  held = λ i l. row_held (struct (layout.fields_of cs) (nullability_by v)) (struct gs m) v w m n i (tuple (row_at cs i)) refl h l (columns_held gs cs ds n i c fit l);
  layout = plain_columns gs cs ds c;
}

-- equal arrays are cast equally
pub cast_so : (k : LogicalType) (a b r s : Layout) → a ≡ b → r ≡ s → IsCast k b s → IsCast k a r
cast_so k a b r s e f h = subst (λ x. IsCast k x r) (sym e) (subst (IsCast k b) (sym f) h)

pub ruleset layouts = (one_level, cast_records, cast_so)

-- ---- columns, one after another

-- the first n of the columns are cast
pub record FirstCast (ts : List StructField) (fs : List Layout) (n : ℕ) (xs : List Layout) : Type 0 where
  pub many : length xs ≡ n
  pub each : (j : ℕ) (t : StructField) (a d : Layout) → j < n → t ≡ get_or ts j t → a ≡ get_or fs j a → IsCast (type_of t.dtype) a (get_or xs j d)

pub first_none : (ts : List StructField) (fs xs : List Layout) → length xs ≡ 0 → FirstCast ts fs 0 xs
first_none ts fs xs e = record { many = e; each = λ j t a d l p q. absurd (omega arith) }

-- the item at an index, whatever the default
same_at : {A : Type 0} (xs : List A) (j : ℕ) (a b : A) → j < length xs → a ≡ get_or xs j a → b ≡ get_or xs j b → a ≡ b
same_at [] j a b l p q = absurd (omega arith)
same_at (x ∷ xs) zero a b l p q = p ∙ sym q
same_at (x ∷ xs) (suc j) a b l p q = same_at xs j a b (omega (arith, l)) p q

pub first_more : (ts : List StructField) (fs : List Layout) (n : ℕ) (xs ys : List Layout) (t : StructField) (a r : Layout) → FirstCast ts fs n xs → n < length ts → n < length fs → t ≡ get_or ts n t → a ≡ get_or fs n a → IsCast (type_of t.dtype) a r → ys ≡ xs ++ r ∷ [] → FirstCast ts fs (n + 1) ys
first_more ts fs n xs ys t a r h lt lf et ea c made = subst (FirstCast ts fs (n + 1)) (sym made) (record {
  many = length_push xs r ∙ ap (λ k. k + 1) h.many;
  each = λ j u b d l p q. elim (cases_eq j n) [
    | inl same ↦
        let field_is : t ≡ u = same_at ts n t u lt et (subst (λ i. u ≡ get_or ts i u) same p) in
        let array_is : a ≡ b = same_at fs n a b lf ea (subst (λ i. b ≡ get_or fs i b) same q) in
        subst (λ x. IsCast (type_of u.dtype) b x) (sym (get_or_push xs r d j (h.many ∙ sym same)))
        (subst (λ x. IsCast (type_of u.dtype) x r) array_is (subst (λ g. IsCast (type_of g.dtype) a r) field_is c))
    | inr other ↦
        let before : j < n = omega (arith, other, l) in
        subst (λ x. IsCast (type_of u.dtype) b x) (sym (get_or_append_left xs (r ∷ []) d j (let m = h.many in omega (arith, m, before)))) (h.each j u b d before p q)
  ];
})

abbrev EachCast : List StructField → List Layout → List Layout → Type 0
EachCast ts fs xs = (j : ℕ) (t : StructField) (a d : Layout) → j < length fs → t ≡ get_or ts j t → a ≡ get_or fs j a → IsCast (type_of t.dtype) a (get_or xs j d)

later : (t : StructField) (ts : List StructField) (a r : Layout) (fs xs : List Layout) → EachCast (t ∷ ts) (a ∷ fs) (r ∷ xs) → EachCast ts fs xs
later t ts a r fs xs h = λ j u b d l p q. h (suc j) u b d (omega (arith, l)) p q

here : (t : StructField) (ts : List StructField) (a r : Layout) (fs xs : List Layout) → EachCast (t ∷ ts) (a ∷ fs) (r ∷ xs) → IsCast (type_of t.dtype) a r
here t ts a r fs xs h = h 0 t a r (omega arith) refl refl

all_cast : (ns : List (List ℕ)) (ts : List StructField) (fs xs : List Layout) → length ts ≡ length fs → length xs ≡ length fs → EachCast ts fs xs → AreCast (fields_of ts) (columns_of ns fs) (columns_of (names_of (fields_of ts)) xs)
all_cast [] [] [] [] e m h = tt
all_cast (y ∷ ns) [] [] [] e m h = tt
all_cast [] (t ∷ ts) (a ∷ fs) (r ∷ xs) e m h = (
  refl,
  subst (λ p. IsCast p.1 a r) (sym (field_of-parts t)) (here t ts a r fs xs h),
  all_cast [] ts fs xs (omega (arith, e)) (omega (arith, m)) (later t ts a r fs xs h),
)
all_cast (y ∷ ns) (t ∷ ts) (a ∷ fs) (r ∷ xs) e m h = (
  refl,
  subst (λ p. IsCast p.1 a r) (sym (field_of-parts t)) (here t ts a r fs xs h),
  all_cast ns ts fs xs (omega (arith, e)) (omega (arith, m)) (later t ts a r fs xs h),
)
all_cast ns [] (a ∷ fs) xs e m h = absurd (omega (arith, e))
all_cast ns (t ∷ ts) [] xs e m h = absurd (omega (arith, e))
all_cast ns [] [] (r ∷ xs) e m h = absurd (omega (arith, m))
all_cast ns (t ∷ ts) (a ∷ fs) [] e m h = absurd (omega (arith, m))

pub first_all : (ns : List (List ℕ)) (ts : List StructField) (fs : List Layout) (n : ℕ) (xs : List Layout) → FirstCast ts fs n xs → n ≡ length fs → length ts ≡ length fs → AreCast (fields_of ts) (columns_of ns fs) (columns_of (names_of (fields_of ts)) xs)
first_all ns ts fs n xs h e m = all_cast ns ts fs xs m (h.many ∙ e) (λ j t a d l p q. h.each j t a d (omega (arith, l, e)) p q)

pub names_many : (ts : List StructField) → length (names_of (fields_of ts)) ≡ length ts
names_many [] = refl
names_many (t ∷ ts) = ap suc (names_many ts)

pub first_named : (ts : List StructField) (fs : List Layout) (n : ℕ) (xs : List Layout) → FirstCast ts fs n xs → n ≡ length fs → length ts ≡ length fs → length (names_of (fields_of ts)) ≡ length xs
first_named ts fs n xs h e m = names_many ts ∙ m ∙ sym e ∙ sym h.many

pub first_fit : (ns : List (List ℕ)) (ts : List StructField) (fs : List Layout) (n m : ℕ) (xs : List Layout) → FirstCast ts fs n xs → n ≡ length fs → length ts ≡ length fs → HaveLength (columns_of ns fs) m → HaveLength (columns_of (names_of (fields_of ts)) xs) m
first_fit ns ts fs n m xs h e many fit = cast_fit (fields_of ts) (columns_of ns fs) (columns_of (names_of (fields_of ts)) xs) m (first_all ns ts fs n xs h e many) fit

pub ruleset fields = (first_none, first_more, first_all, first_named, first_fit, field_size)
