-- Rows of strings and of bytes.
use Rattle.std.proofs.Common.{IsTrue, ◌≡◌, ◌<◌, ◌≤◌, ◌+◌, ℕ, Bool, true, false, not, cond, List, [], ◌∷◌, ◌++◌, length, map, take, get_or, is_some, Option, Some, None, Bor, refl, sym, ap, subst, ◌∙◌}
use Rattle.std.specs.List.{All}
use Rattle.std.proofs.lemmas.List.{ext_get_or, length-map, map-append, get_or-map, take_more, take_all}
use Rattle.std.proofs.lemmas.List.Elements.{All-nil, All-push}
use Rattle.vortex_model.specs.LogicalType.{Nullability, non_nullable, nullable}
use Rattle.vortex_model.specs.Content.{Content, null, is_null}
use Rattle.vortex_arrays_view.specs.Views.{value_of}
use Rattle.vortex_arrays_model.specs.Layout.{Layout, bools, strings, Strings, texts, byte_strings, Valid, required, all_valid, by_array, is_valid, len_of, content_at, string_content, type_of_strings, rows_of, IsString, IsSound, HasLength}
use Rattle.vortex_arrays_model.specs.Parts.{valid_in}
use Rattle.vortex_arrays_model.proofs.RowsLemmas.{rows_by_position}
use Rattle.vortex_arrays_leaf.specs.Strings.{IsStrings, views_in, buffers_in, strings_in}
use Rattle.vortex_arrays_builder.specs.Plain.{is_there, MarksNulls}
use Rattle.vortex_arrays_builder.specs.Strings.{bytes_in}
use Rattle.vortex_arrays_parts.specs.Values.{lent, bytes_or_none, raw_of_bytes, content_of_bytes, value_at, AreViewed, HaveNulls, IsHeld, IsPresent, IsOfValues}
use Rattle.vortex_arrays_parts.proofs.TextTypes.{strings_kind}

abbrev Value : Type 0
Value = Option (List ℕ)

abbrev Lent : Type 0
Lent = Option (Bor (List ℕ))

-- ---- each value

module _ (P : Value → Type 0) where
  pub each_none : (vs : List Lent) → All P (map lent (take 0 vs))
  each_none vs = All-nil P

  pub each_more : (vs : List Lent) (i : ℕ) (v : Lent) → All P (map lent (take i vs)) → i < length vs → v ≡ get_or vs i v → P (lent v) → All P (map lent (take (i + 1) vs))
  each_more vs i v h l e p =
      subst (All P) (sym (ap (map lent) (take_more vs i v l ∙ ap (λ y. take i vs ++ y ∷ []) (sym e)) ∙ map-append lent (take i vs) (v ∷ [])))
      (All-push P (map lent (take i vs)) (lent v) h p)

  pub each_all : (vs : List Lent) (i : ℕ) → length vs ≤ i → All P (map lent (take i vs)) → All P (map lent vs)
  each_all vs i l h = subst (λ xs. All P (map lent xs)) (take_all i vs l) h

  pub not_each : (vs : List Lent) (i : ℕ) (v : Lent) → i < length vs → v ≡ get_or vs i v → (P (lent v) → ⊥) → All P (map lent vs) → ⊥
  not_each vs i v l e none h =
      none (subst P (get_or-map lent vs i v None l ∙ ap lent (sym e)) (h i None (subst (λ n. i < n) (sym (length-map vs lent)) l)))

pub present_more : (vs : List Lent) (i : ℕ) (v : Lent) → All IsPresent (map lent (take i vs)) → i < length vs → v ≡ get_or vs i v → IsPresent (lent v) → All IsPresent (map lent (take (i + 1) vs))
present_more = each_more IsPresent

pub present_none : (vs : List Lent) → All IsPresent (map lent (take 0 vs))
present_none = each_none IsPresent

pub present_all : (vs : List Lent) (i : ℕ) → length vs ≤ i → All IsPresent (map lent (take i vs)) → All IsPresent (map lent vs)
present_all = each_all IsPresent

pub not_present : (vs : List Lent) (i : ℕ) (v : Lent) → i < length vs → v ≡ get_or vs i v → (IsPresent (lent v) → ⊥) → All IsPresent (map lent vs) → ⊥
not_present = not_each IsPresent

pub ruleset present = (present_more, present_none, present_all, not_present)

pub held_more : (vs : List Lent) (i : ℕ) (v : Lent) → All (IsHeld texts) (map lent (take i vs)) → i < length vs → v ≡ get_or vs i v → IsHeld texts (lent v) → All (IsHeld texts) (map lent (take (i + 1) vs))
held_more = each_more (IsHeld texts)

pub held_none : (vs : List Lent) → All (IsHeld texts) (map lent (take 0 vs))
held_none = each_none (IsHeld texts)

pub held_all : (vs : List Lent) (i : ℕ) → length vs ≤ i → All (IsHeld texts) (map lent (take i vs)) → All (IsHeld texts) (map lent vs)
held_all = each_all (IsHeld texts)

pub not_held : (vs : List Lent) (i : ℕ) (v : Lent) → i < length vs → v ≡ get_or vs i v → (IsHeld texts (lent v) → ⊥) → All (IsHeld texts) (map lent vs) → ⊥
not_held = not_each (IsHeld texts)

pub held_at : (vs : List Lent) (i : ℕ) → i < length vs → All (IsHeld texts) (map lent vs) → IsHeld texts (lent (get_or vs i None))
held_at vs i l h = subst (IsHeld texts) (get_or-map lent vs i None None l) (h i None (subst (λ n. i < n) (sym (length-map vs lent)) l))

pub ruleset held = (held_more, held_none, held_all, not_held)

-- ---- nulls

there_raw : (v : Value) → is_there nullable (raw_of_bytes v) ≡ is_some v
there_raw None = refl
there_raw (Some bs) = refl

there_at : (vs : List Value) (i : ℕ) → i < length vs → is_there nullable (get_or (map raw_of_bytes vs) i (raw_of_bytes None)) ≡ is_some (get_or vs i None)
there_at vs i l = ap (is_there nullable) (get_or-map raw_of_bytes vs i None (raw_of_bytes None) l) ∙ there_raw (get_or vs i None)

pub marks_required : (vs : List Value) → MarksNulls non_nullable (map raw_of_bytes vs) required
marks_required vs = record { fits = tt; nullability = refl; bits = λ i l. refl }

some_present : (v : Value) → IsPresent v → is_some v ≡ true
some_present None h = absurd h
some_present (Some bs) h = refl

pub marks_all : (vs : List Value) → All IsPresent vs → MarksNulls nullable (map raw_of_bytes vs) all_valid
marks_all vs h = record {
  fits = tt;
  nullability = refl;
  bits = λ i l. let m : i < length vs = subst (λ n. i < n) (length-map vs raw_of_bytes) l in sym (there_at vs i m ∙ some_present (get_or vs i None) (h i None m));
}

pub marks_bits : (vs : List Value) (bits : List Bool) → bits ≡ map is_some vs → MarksNulls nullable (map raw_of_bytes vs) (by_array (bools bits required))
marks_bits vs bits e = record {
  fits = (tt, ap length e ∙ length-map vs is_some ∙ sym (length-map vs raw_of_bytes), refl);
  nullability = refl;
  bits = λ i l.
      let m : i < length vs = subst (λ n. i < n) (length-map vs raw_of_bytes) l in
      ap (λ bs. get_or bs i false) e ∙ get_or-map is_some vs i None false m ∙ sym (there_at vs i m);
}

pub marks_array : (vs : List Value) (bits : List Bool) (a : Layout) → a ≡ bools bits required →
    bits ≡ map is_some vs → MarksNulls nullable (map raw_of_bytes vs) (by_array a)
marks_array vs bits a e h =
    subst (λ x. MarksNulls nullable (map raw_of_bytes vs) (by_array x)) (sym e) (marks_bits vs bits h)

pub ruleset nulls_marked = (marks_required, marks_all, marks_array)

-- a bit for each value that is not missing
some_lent : (v : Lent) → is_some v ≡ is_some (lent v)
some_lent None = refl
some_lent (Some r) = refl

pub bits_told : (vs : List Lent) (b : List Bool) → length b ≡ length vs → ((i : ℕ) → i < length vs → get_or b i false ≡ is_some (get_or vs i None)) → b ≡ map is_some (map lent vs)
bits_told vs b many h =
    ext_get_or false b (map is_some (map lent vs)) (many ∙ sym (length-map (map lent vs) is_some ∙ length-map vs lent)) (λ k l.
    let m : k < length vs = subst (λ n. k < n) many l in
    let n : k < length (map lent vs) = subst (λ x. k < x) (sym (length-map vs lent)) m in
    h k m ∙ some_lent (get_or vs k None) ∙ sym (get_or-map is_some (map lent vs) k None false n ∙ ap is_some (get_or-map lent vs k None None m)))

-- ---- the array

row : (s : Strings) (n : Nullability) (v : Value) (b : Bool) (bs : List ℕ) → b ≡ is_there n (raw_of_bytes v) → bs ≡ bytes_in (raw_of_bytes v) → (n ≡ non_nullable → IsPresent v) → cond b (string_content s bs) null ≡ content_of_bytes s v
row s nullable None b bs e f h = ap (λ t. cond t (string_content s bs) null) e
row s non_nullable None b bs e f h = absurd (h refl)
row s nullable (Some x) b bs e f h = λ t. cond (e t) (string_content s (f t)) null
row s non_nullable (Some x) b bs e f h = λ t. cond (e t) (string_content s (f t)) null

bytes_held : (s : Strings) (v : Value) (bs : List ℕ) → bs ≡ bytes_in (raw_of_bytes v) → IsHeld s v → IsPresent v → IsString s bs
bytes_held s None bs e h p = absurd p
bytes_held s (Some x) bs e h p = subst (IsString s) (sym e) h

present_there : (n : Nullability) (v : Value) → is_there n (raw_of_bytes v) ≡ true → (n ≡ non_nullable → IsPresent v) → IsPresent v
present_there nullable None e h = absurd (cc e)
present_there non_nullable None e h = h refl
present_there n (Some x) e h = tt

pub strings_sound : (s : Strings) (n : Nullability) (vs : List Value) (v : Valid) (buffers views : List (List ℕ)) → All (IsHeld s) vs → HaveNulls n vs → AreViewed vs buffers views → MarksNulls n (map raw_of_bytes vs) v → IsSound (strings s views buffers v)
strings_sound s n vs v buffers views h p w m =
    let many : length views ≡ length vs = w.viewed.count ∙ length-map vs raw_of_bytes in (
      (λ i l t.
          let k : i < length (map raw_of_bytes vs) = subst (λ x. i < x) w.viewed.count l in
          let j : i < length vs = subst (λ x. i < x) many l in
          let at : get_or (map raw_of_bytes vs) i (raw_of_bytes None) ≡ raw_of_bytes (get_or vs i None) = get_or-map raw_of_bytes vs i None (raw_of_bytes None) j in
          let there : is_there n (raw_of_bytes (get_or vs i None)) ≡ true = ap (is_there n) (sym at) ∙ sym (m.bits i k) ∙ t in
          (w.viewed.value i k, bytes_held s (get_or vs i None) (value_of (get_or views i []) buffers) (w.viewed.reads i k ∙ ap bytes_in at) (h i None j) (present_there n (get_or vs i None) there (λ e. p e i None j)))),
      subst (HasLength v) (sym w.viewed.count) m.fits,
    )

pub strings_rows : (s : Strings) (n : Nullability) (vs : List Value) (v : Valid) (buffers views : List (List ℕ)) → HaveNulls n vs → AreViewed vs buffers views → MarksNulls n (map raw_of_bytes vs) v → rows_of (strings s views buffers v) ≡ map (content_of_bytes s) vs
strings_rows s n vs v buffers views p w m =
    let many : length views ≡ length vs = w.viewed.count ∙ length-map vs raw_of_bytes in
    rows_by_position (strings s views buffers v) (map (content_of_bytes s) vs) (length-map vs (content_of_bytes s) ∙ sym many) (λ i l.
    let j : i < length vs = subst (λ x. i < x) many l in
    let k : i < length (map raw_of_bytes vs) = subst (λ x. i < x) w.viewed.count l in
    let at : get_or (map raw_of_bytes vs) i (raw_of_bytes None) ≡ raw_of_bytes (get_or vs i None) = get_or-map raw_of_bytes vs i None (raw_of_bytes None) j in
    get_or-map (content_of_bytes s) vs i None null j
    ∙ sym (row s n (get_or vs i None) (is_valid v i) (value_of (get_or views i []) buffers) (m.bits i k ∙ ap (is_there n) at) (w.viewed.reads i k ∙ ap bytes_in at) (λ e. p e i None j)))

pub strings_made : (s : Strings) (n : Nullability) (vs : List Value) (v : Valid) (buffers views : List (List ℕ)) → HaveNulls n vs → AreViewed vs buffers views → MarksNulls n (map raw_of_bytes vs) v → IsOfValues (type_of_strings s n) vs (strings s views buffers v)
strings_made s n vs v buffers views p w m = record {
  layout = tt;
  kind = ap (type_of_strings s) m.nullability;
  rows = strings_rows s n vs v buffers views p w m ∙ ap (λ t. map (content_of_bytes t) vs) (sym (strings_kind s n));
  views = w;
}

-- ---- rows read

held_valid : (s : Strings) (bs : List ℕ) (b : Bool) → not (is_null (cond b (string_content s bs) null)) ≡ b
held_valid texts bs true = refl
held_valid byte_strings bs true = refl
held_valid s bs false = refl

-- a row that is not null is valid
pub not_null : (a : Layout) (i : ℕ) → IsStrings a → is_null (content_at a i) ≡ false → IsTrue (is_valid (valid_in a) i)
not_null (strings s views buffers v) i t h = sym (held_valid s (value_of (get_or views i []) buffers) (is_valid v i)) ∙ ap not h
not_null a i t h = absurd t

null_value : (s : Strings) (bs : List ℕ) (b : Bool) → is_null (cond b (string_content s bs) null) ≡ true → None ≡ cond b (Some bs) None
null_value texts bs true h = absurd (cc h)
null_value byte_strings bs true h = absurd (cc h)
null_value s bs false h = refl

pub null_there : (a : Layout) (i : ℕ) → IsStrings a → is_null (content_at a i) ≡ true → None ≡ value_at a i
null_there (strings s views buffers v) i t h = null_value s (value_of (get_or views i []) buffers) (is_valid v i) h
null_there a i t h = absurd t

pub value_there : (a : Layout) (i : ℕ) (bs : List ℕ) → IsStrings a → is_null (content_at a i) ≡ false → bs ≡ value_of (get_or (views_in a) i []) (buffers_in a) → Some bs ≡ value_at a i
value_there (strings s views buffers v) i bs t h e = ap (λ x. Some x) e ∙ sym (ap (λ b. cond b (Some (value_of (get_or views i []) buffers)) None) (not_null (strings s views buffers v) i t h))
value_there a i bs t h e = absurd t

pub ruleset resolved = (not_null, null_there, value_there)

-- ---- values without a missing one

pub nulls_of_present : (n : Nullability) (vs : List Value) → All IsPresent vs → HaveNulls n vs
nulls_of_present n vs h = λ e. h

pub nulls_of_nullable : (n : Nullability) (vs : List Value) → n ≡ nullable → HaveNulls n vs
nulls_of_nullable n vs e = λ f. absurd (cc (sym e ∙ f))

pub ruleset all_present = (nulls_of_present, nulls_of_nullable)
