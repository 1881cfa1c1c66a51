-- Validities end to end.
use Rattle.std.proofs.Common.{◌≡◌, ◌<◌, ◌≤◌, ◌+◌, ◌^◌, ◌&&◌, ℕ, Bool, true, false, List, [], ◌∷◌, ◌++◌, length, map, take, drop, get_or, replicate, refl, sym, ap, subst, ◌∙◌, length-append, add-one, arith}
use Rattle.std.specs.List.{list_all}
use Rattle.std.proofs.lemmas.List.{length-map, map-append, get_or-map, take_more, take_all, append-nil, drop_all, length-replicate, get_or-replicate, replicate-append-replicate}
use Rattle.std.proofs.lemmas.List.Concat.{flat_map-append}
use Rattle.std.proofs.lemmas.List.Sums.{sum_by-cons}
use Rattle.std.proofs.Math.Seq.{drop-cons}
use Rattle.std.proofs.lemmas.Bool.{and_parts}
use Rattle.vortex_model.specs.LogicalType.{Nullability, nullable, non_nullable, either_nullable}
use Rattle.vortex_arrays_model.specs.Layout.{Valid, required, all_valid, all_null, by_array, nullability_by, is_valid, HasLength}
use Rattle.vortex_arrays_core.specs.LayoutOf.{valid_of}
use Rattle.vortex_arrays_core.specs.declared.array.Validity.{Validity}
use Rattle.vortex_arrays_validity.specs.Validities.{valid_rows, rows_of_all, lengths_of_all, shows_no_null, shows_all_null}
use Rattle.vortex_arrays_validity.proofs.Rows.{row_count, rows_by_bits}
use Rattle.vortex_arrays_concat.specs.EndToEnd.{Part, parts_of, nullability_of_all, HaveLengths, IsEndToEnd}

abbrev pub Held : Type 0
Held = Validity × ℕ

abbrev pub seen : Held → Part
seen part = (valid_of part.0, part.1)

-- ---- one more part, of those that are left

left : (ps : List Held) (i : ℕ) (p : Held) → i < length ps → p ≡ get_or ps i p → parts_of (drop i ps) ≡ seen p ∷ parts_of (drop (i + 1) ps)
left ps i p l e =
    ap parts_of (drop-cons ps i p l) ∙ (λ t. seen (sym e t) ∷ parts_of (drop (sym (add-one i) t) ps))

-- ---- counts

-- what was counted and what is left are all
abbrev pub Counted : List Held → ℕ → ℕ → Type 0
Counted ps i n = n + lengths_of_all (parts_of (drop i ps)) ≡ lengths_of_all (parts_of ps)

lengths_left : (ps : List Held) (i : ℕ) (p : Held) → i < length ps → p ≡ get_or ps i p → lengths_of_all (parts_of (drop i ps)) ≡ p.1 + lengths_of_all (parts_of (drop (i + 1) ps))
lengths_left ps i p l e = ap lengths_of_all (left ps i p l e) ∙ sum_by-cons (λ x. x) p.1 (map (λ part. part.1) (parts_of (drop (i + 1) ps)))

pub counted_none : (ps : List Held) → Counted ps 0 0
counted_none ps = omega arith

pub counted_more : (ps : List Held) (i n m : ℕ) (p : Held) → Counted ps i n → i < length ps → p ≡ get_or ps i p → m ≡ n + p.1 → Counted ps (i + 1) m
counted_more ps i n m p h l e f = let s = lengths_left ps i p l e in omega (arith, h, s, f)

pub counted_all : (ps : List Held) (i n : ℕ) → Counted ps i n → length ps ≤ i → n ≡ lengths_of_all (parts_of ps)
counted_all ps i n h l =
    let none : lengths_of_all (parts_of (drop i ps)) ≡ 0 = ap (λ xs. lengths_of_all (parts_of xs)) (drop_all i ps l) in
    omega (arith, h, none)

pub counted_past : (ps : List Held) (i n : ℕ) (p : Held) → Counted ps i n → i < length ps → p ≡ get_or ps i p → 2 ^ 64 ≤ n + p.1 → 2 ^ 64 ≤ lengths_of_all (parts_of ps)
counted_past ps i n p h l e f = let s = lengths_left ps i p l e in omega (arith, h, s, f)

pub none_counted : (ps : List Held) → length ps ≡ 0 → lengths_of_all (parts_of ps) < 2 ^ 64
none_counted [] h = omega arith
none_counted (p ∷ ps) h = absurd (omega (arith, h))

pub ruleset whole = (none_counted)

pub ruleset counted = (counted_none, counted_more, counted_all, counted_past)

-- ---- tests of all

abbrev pub AllShow : (Valid → Bool) → List Held → ℕ → Type 0
AllShow f ps i = list_all (λ part. f part.0) (parts_of (drop i ps)) ≡ list_all (λ part. f part.0) (parts_of ps)

show_left : (f : Valid → Bool) (ps : List Held) (i : ℕ) (p : Held) → i < length ps → p ≡ get_or ps i p → list_all (λ part. f part.0) (parts_of (drop i ps)) ≡ f (valid_of p.0) && list_all (λ part. f part.0) (parts_of (drop (i + 1) ps))
show_left f ps i p l e = ap (list_all (λ part. f part.0)) (left ps i p l e)

show_none : (f : Valid → Bool) (ps : List Held) → AllShow f ps 0
show_none f ps = refl

show_more : (f : Valid → Bool) (ps : List Held) (i : ℕ) (p : Held) → AllShow f ps i → i < length ps → p ≡ get_or ps i p → f (valid_of p.0) ≡ true → AllShow f ps (i + 1)
show_more f ps i p h l e t =
    ap (λ b. b && list_all (λ part. f part.0) (parts_of (drop (i + 1) ps))) (sym t) ∙ sym (show_left f ps i p l e) ∙ h

show_not : (f : Valid → Bool) (ps : List Held) (i : ℕ) (p : Held) → AllShow f ps i → i < length ps → p ≡ get_or ps i p → f (valid_of p.0) ≡ false → false ≡ list_all (λ part. f part.0) (parts_of ps)
show_not f ps i p h l e t =
    ap (λ b. b && list_all (λ part. f part.0) (parts_of (drop (i + 1) ps))) (sym t) ∙ sym (show_left f ps i p l e) ∙ h

show_all : (f : Valid → Bool) (ps : List Held) (i : ℕ) → AllShow f ps i → length ps ≤ i → true ≡ list_all (λ part. f part.0) (parts_of ps)
show_all f ps i h l = sym (ap (λ xs. list_all (λ part. f part.0) (parts_of xs)) (drop_all i ps l)) ∙ h

pub no_null_none : (ps : List Held) → AllShow shows_no_null ps 0
no_null_none ps = refl

pub no_null_more : (ps : List Held) (i : ℕ) (p : Held) → AllShow shows_no_null ps i → i < length ps → p ≡ get_or ps i p → shows_no_null (valid_of p.0) ≡ true → AllShow shows_no_null ps (i + 1)
no_null_more ps i p h l e t = show_more shows_no_null ps i p h l e t

pub no_null_not : (ps : List Held) (i : ℕ) (p : Held) → AllShow shows_no_null ps i → i < length ps → p ≡ get_or ps i p → shows_no_null (valid_of p.0) ≡ false → false ≡ list_all (λ part. shows_no_null part.0) (parts_of ps)
no_null_not ps i p h l e t = show_not shows_no_null ps i p h l e t

pub no_null_all : (ps : List Held) (i : ℕ) → AllShow shows_no_null ps i → length ps ≤ i → true ≡ list_all (λ part. shows_no_null part.0) (parts_of ps)
no_null_all ps i h l = show_all shows_no_null ps i h l

pub all_null_none : (ps : List Held) → AllShow shows_all_null ps 0
all_null_none ps = refl

pub all_null_more : (ps : List Held) (i : ℕ) (p : Held) → AllShow shows_all_null ps i → i < length ps → p ≡ get_or ps i p → shows_all_null (valid_of p.0) ≡ true → AllShow shows_all_null ps (i + 1)
all_null_more ps i p h l e t = show_more shows_all_null ps i p h l e t

pub all_null_not : (ps : List Held) (i : ℕ) (p : Held) → AllShow shows_all_null ps i → i < length ps → p ≡ get_or ps i p → shows_all_null (valid_of p.0) ≡ false → false ≡ list_all (λ part. shows_all_null part.0) (parts_of ps)
all_null_not ps i p h l e t = show_not shows_all_null ps i p h l e t

pub all_null_all : (ps : List Held) (i : ℕ) → AllShow shows_all_null ps i → length ps ≤ i → true ≡ list_all (λ part. shows_all_null part.0) (parts_of ps)
all_null_all ps i h l = show_all shows_all_null ps i h l

pub ruleset shown = (no_null_none, no_null_more, no_null_not, no_null_all, all_null_none, all_null_more, all_null_not, all_null_all)

-- ---- nullability

abbrev pub Either : List Held → ℕ → Nullability → Type 0
Either ps i n = either_nullable n (nullability_of_all (parts_of (drop i ps))) ≡ nullability_of_all (parts_of ps)

either_right : (m n k : Nullability) → either_nullable (either_nullable m n) k ≡ either_nullable m (either_nullable n k)
either_right non_nullable n k = refl
either_right nullable n k = refl

either_none : (n : Nullability) → either_nullable n non_nullable ≡ n
either_none non_nullable = refl
either_none nullable = refl

pub first_either : (ps : List Held) → Either ps 0 non_nullable
first_either ps = refl

pub more_either : (ps : List Held) (i : ℕ) (p : Held) (m n k : Nullability) → Either ps i m → i < length ps → p ≡ get_or ps i p → n ≡ nullability_by (valid_of p.0) → k ≡ either_nullable m n → Either ps (i + 1) k
more_either ps i p m n k h l e f g =
    ap (λ x. either_nullable x (nullability_of_all (parts_of (drop (i + 1) ps)))) (g ∙ ap (either_nullable m) f)
    ∙ either_right m (nullability_by (valid_of p.0)) (nullability_of_all (parts_of (drop (i + 1) ps)))
    ∙ ap (either_nullable m) (sym (ap nullability_of_all (left ps i p l e))) ∙ h

pub all_either : (ps : List Held) (i : ℕ) (m : Nullability) → Either ps i m → length ps ≤ i → m ≡ nullability_of_all (parts_of ps)
all_either ps i m h l = sym (either_none m) ∙ sym (ap (λ xs. either_nullable m (nullability_of_all (parts_of xs))) (drop_all i ps l)) ∙ h

pub ruleset either = (first_either, more_either, all_either)

-- ---- rows

taken : (ps : List Held) (i : ℕ) (p : Held) → i < length ps → p ≡ get_or ps i p → parts_of (take (i + 1) ps) ≡ parts_of (take i ps) ++ seen p ∷ []
taken ps i p l e = ap parts_of (take_more ps i p l ∙ ap (λ y. take i ps ++ y ∷ []) (sym e)) ∙ map-append seen (take i ps) (p ∷ [])

abbrev rows_in : Part → List Bool
rows_in part = valid_rows part.0 part.1

pub more_rows : (ps : List Held) (i : ℕ) (p : Held) (old new : List Bool) → old ≡ rows_of_all (parts_of (take i ps)) → i < length ps → p ≡ get_or ps i p → new ≡ old ++ valid_rows (valid_of p.0) p.1 → new ≡ rows_of_all (parts_of (take (i + 1) ps))
more_rows ps i p old new h l e f =
    f ∙ ap (λ xs. xs ++ rows_in (seen p)) h
    ∙ sym (ap rows_of_all (taken ps i p l e) ∙ flat_map-append rows_in (parts_of (take i ps)) (seen p ∷ []) ∙ ap (λ xs. rows_of_all (parts_of (take i ps)) ++ xs) (append-nil (rows_in (seen p))))

pub all_rows : (ps : List Held) (i : ℕ) (old : List Bool) → old ≡ rows_of_all (parts_of (take i ps)) → length ps ≤ i → old ≡ rows_of_all (parts_of ps)
all_rows ps i old h l = h ∙ ap (λ xs. rows_of_all (parts_of xs)) (take_all i ps l)

pub part_fits : (ps : List Held) (i : ℕ) (p : Held) → HaveLengths (parts_of ps) → i < length ps → p ≡ get_or ps i p → HasLength (valid_of p.0) p.1
part_fits ps i p h l e =
    let at : get_or (parts_of ps) i (seen p) ≡ seen p = get_or-map seen ps i p (seen p) l ∙ ap seen (sym e) in
    subst (λ q. HasLength q.0 q.1) at (h i (seen p) (let m = length-map ps seen in omega (arith, m, l)))

pub ruleset gathered = (more_rows, all_rows, part_fits)

-- ---- the whole

same_rows : (b : Bool) (v : Valid) (n : ℕ) → ((i : ℕ) → i < n → is_valid v i ≡ b) → valid_rows v n ≡ replicate n b
same_rows b v n h = sym (rows_by_bits v (replicate n b) n (length-replicate n b) (λ i l. get_or-replicate n i b false l ∙ sym (h i l)))

sees_valid : (v : Valid) (i : ℕ) → shows_no_null v ≡ true → is_valid v i ≡ true
sees_valid required i h = refl
sees_valid all_valid i h = refl
sees_valid all_null i h = absurd (cc (h))
sees_valid (by_array a) i h = absurd (cc (h))

sees_null : (v : Valid) (i : ℕ) → shows_all_null v ≡ true → is_valid v i ≡ false
sees_null required i h = absurd (cc (h))
sees_null all_valid i h = absurd (cc (h))
sees_null all_null i h = refl
sees_null (by_array a) i h = absurd (cc (h))

uniform : (b : Bool) (f : Valid → Bool) (says : (v : Valid) (i : ℕ) → f v ≡ true → is_valid v i ≡ b) (ps : List Part) → list_all (λ part. f part.0) ps ≡ true → replicate (lengths_of_all ps) b ≡ rows_of_all ps
uniform b f says [] h = refl
uniform b f says (p ∷ ps) h =
    let q = and_parts (f p.0) (list_all (λ part. f part.0) ps) h in
    ap (λ n. replicate n b) (sum_by-cons (λ x. x) p.1 (map (λ part. part.1) ps))
    ∙ sym (replicate-append-replicate p.1 (lengths_of_all ps) b)
    ∙ (λ t. sym (same_rows b p.0 p.1 (λ i l. says p.0 i q.0)) t ++ uniform b f says ps q.1 t)

fits_any : (v : Valid) (n : ℕ) → shows_no_null v ≡ true → HasLength v n
fits_any required n h = tt
fits_any all_valid n h = tt
fits_any all_null n h = absurd (cc (h))
fits_any (by_array a) n h = absurd (cc (h))

clash : (v : Valid) → shows_no_null v ≡ true → shows_all_null v ≡ true → ⊥
clash required a b = cc (b)
clash all_valid a b = cc (b)
clash all_null a b = cc (a)
clash (by_array x) a b = cc (a)

not_both : (ps : List Part) → 0 < length ps → list_all (λ part. shows_no_null part.0) ps ≡ true → list_all (λ part. shows_all_null part.0) ps ≡ true → ⊥
not_both [] l a b = omega (arith, l)
not_both (p ∷ ps) l a b =
    let x = and_parts (shows_no_null p.0) (list_all (λ part. shows_no_null part.0) ps) a in
    let y = and_parts (shows_all_null p.0) (list_all (λ part. shows_all_null part.0) ps) b in
    clash p.0 x.0 y.0

pub none_null : (ps : List Part) (v : Valid) → list_all (λ part. shows_no_null part.0) ps ≡ true → nullability_by v ≡ nullability_of_all ps → shows_no_null v ≡ true → 0 < length ps → IsEndToEnd ps v
none_null ps v h n s some = record {
  fits = fits_any v (lengths_of_all ps) s;
  nullability = n;
  rows = same_rows true v (lengths_of_all ps) (λ i l. sees_valid v i s) ∙ uniform true shows_no_null sees_valid ps h;
  no_null = λ _. s;
  all_null = λ _ g. absurd (not_both ps some h g);
}

open_kind : (v : Valid) → shows_no_null v ≡ false → nullability_by v ≡ nullable
open_kind required h = absurd (cc (h))
open_kind all_valid h = refl
open_kind all_null h = refl
open_kind (by_array a) h = refl

either_nullable_right : (n : Nullability) → either_nullable n nullable ≡ nullable
either_nullable_right non_nullable = refl
either_nullable_right nullable = refl

can_be_first : (b : Bool) (v : Valid) (n : Nullability) → shows_no_null v ≡ b → (b ≡ true → n ≡ nullable) → either_nullable (nullability_by v) n ≡ nullable
can_be_first true v n e h = ap (either_nullable (nullability_by v)) (h refl) ∙ either_nullable_right (nullability_by v)
can_be_first false v n e h = ap (λ k. either_nullable k n) (open_kind v e)

can_be : (ps : List Part) → list_all (λ part. shows_no_null part.0) ps ≡ false → nullability_of_all ps ≡ nullable
can_be [] h = absurd (cc (h))
can_be (p ∷ ps) h = can_be_first (shows_no_null p.0) p.0 (nullability_of_all ps) refl
    (λ e. can_be ps (sym (ap (λ b. b && list_all (λ part. shows_no_null part.0) ps) e) ∙ h))

length_of_all : (ps : List Part) → length (rows_of_all ps) ≡ lengths_of_all ps
length_of_all [] = refl
length_of_all (p ∷ ps) =
    length-append (rows_in p) (rows_of_all ps)
    ∙ (λ t. row_count p.0 p.1 t + length_of_all ps t)
    ∙ sym (sum_by-cons (λ x. x) p.1 (map (λ part. part.1) ps))

pub each_null : (ps : List Part) → list_all (λ part. shows_no_null part.0) ps ≡ false → list_all (λ part. shows_all_null part.0) ps ≡ true → IsEndToEnd ps all_null
each_null ps o h = record {
  fits = tt;
  nullability = sym (can_be ps o);
  rows = same_rows false all_null (lengths_of_all ps) (λ i l. refl) ∙ uniform false shows_all_null sees_null ps h;
  no_null = λ g. absurd (cc (sym o ∙ g));
  all_null = λ _ _. refl;
}

pub by_bits : (ps : List Part) (v : Valid) (bits : List Bool) → list_all (λ part. shows_no_null part.0) ps ≡ false → list_all (λ part. shows_all_null part.0) ps ≡ false → bits ≡ rows_of_all ps → HasLength v (length bits) → nullability_by v ≡ nullable → valid_rows v (length bits) ≡ bits → IsEndToEnd ps v
by_bits ps v bits o a e f n r =
    let many : length bits ≡ lengths_of_all ps = ap length e ∙ length_of_all ps in
    record {
      fits = subst (HasLength v) many f;
      nullability = n ∙ sym (can_be ps o);
      rows = ap (valid_rows v) (sym many) ∙ r ∙ e;
      no_null = λ g. absurd (cc (sym o ∙ g));
      all_null = λ _ g. absurd (cc (sym a ∙ g));
    }

pub ruleset joined = (none_null, each_null, by_bits)
