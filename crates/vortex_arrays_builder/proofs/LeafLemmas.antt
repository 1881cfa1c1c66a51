-- Arrays in plain layout.
use Rattle.std.proofs.Common.{IsTrue, Option, Some, None, Bor, unwrap_or, ◌≡◌, ◌<◌, ◌≤◌, ℕ, ℤ, pos, Bool, true, false, cond, List, [], ◌∷◌, ◌++◌, ◌+◌, length, get_or, take, map, refl, sym, ap, subst, ◌∙◌, arith}
use Rattle.std.specs.List.{All}
use Rattle.std.proofs.lemmas.List.{length-map, get_or-map, take_more, take_all, map-append}
use Rattle.std.proofs.lemmas.List.Elements.{All-nil, All-cons, All-append}
use Rattle.std.specs.Cmp.{second_so}
use Rattle.vortex_model.specs.LogicalType.{LogicalType, Nullability, non_nullable, nullable, boolean_type, integer_type, IntKind, eq_int_kind}
use Rattle.vortex_model.specs.Content.{null, boolean, integer, content_of, Raw, raw_null, raw_boolean, raw_number}
use Rattle.vortex_model.specs.Valid.{valid, in_range, InRange}
use Rattle.vortex_model.proofs.Ranges.{zero_within}
use Rattle.vortex_arrays_model.specs.Layout.{Layout, bools, numbers, Valid, required, all_valid, by_array, is_valid, rows_of, HasLength}
use Rattle.vortex_dtype_ptype.specs.Numbers.{NumberKind, integral as whole_kind, floating, is_integral, type_of_numbers}
use Rattle.vortex_scalar_value.specs.Numbers.{raw_of_number, integer_of, holds_number}
use Rattle.vortex_scalar_value.specs.Parts.{as_number, boolean_in}
use Rattle.vortex_scalar_value.specs.View.{raw_at}
use Rattle.vortex_scalar_value.specs.declared.pvalue.PValue.{PValue}
use Rattle.vortex_scalar_value.specs.declared.scalar_value.ScalarValue.{ScalarValue}
use Rattle.vortex_arrays_model.proofs.RowsLemmas.{rows_by_position}
use Rattle.vortex_arrays_builder.specs.Plain.{is_held, boolean_or_false, whole_or_zero, is_there, MarksNulls, IsPlain}

truth_row : (n : Nullability) (r : Raw) (b x : Bool) → b ≡ is_there n r → x ≡ boolean_or_false r → valid (boolean_type n) r ≡ true → cond b (boolean x) null ≡ content_of r
truth_row nullable raw_null b x e f h = ap (λ t. cond t (boolean x) null) e
truth_row non_nullable raw_null b x e f h = absurd (cc h)
truth_row nullable (raw_boolean y) b x e f h = λ t. cond (e t) (boolean (f t)) null
truth_row non_nullable (raw_boolean y) b x e f h = λ t. cond (e t) (boolean (f t)) null
truth_row n r b x e f h = absurd (cc h)

number_row : (k : IntKind) (n : Nullability) (r : Raw) (b : Bool) (z : ℤ) → b ≡ is_there n r → z ≡ whole_or_zero r → valid (integer_type k n) r ≡ true → cond b (integer z) null ≡ content_of r
number_row k nullable raw_null b z e f h = ap (λ t. cond t (integer z) null) e
number_row k non_nullable raw_null b z e f h = absurd (cc h)
number_row k nullable (raw_number j y) b z e f h = λ t. cond (e t) (integer (f t)) null
number_row k non_nullable (raw_number j y) b z e f h = λ t. cond (e t) (integer (f t)) null
number_row k n r b z e f h = absurd (cc h)

at_place : {X : Type 0} (f : Raw → X) (rs : List Raw) (xs : List X) (i : ℕ) (d : X) → xs ≡ map f rs → i < length rs → get_or xs i d ≡ f (get_or rs i raw_null)
at_place f rs xs i d e l = ap (λ ys. get_or ys i d) e ∙ get_or-map f rs i raw_null d l

as_many : {X : Type 0} (f : Raw → X) (rs : List Raw) (xs : List X) → xs ≡ map f rs → length xs ≡ length rs
as_many f rs xs e = ap length e ∙ length-map rs f

pub plain_booleans : (n : Nullability) (rs : List Raw) (v : Valid) (bits : List Bool) → bits ≡ map boolean_or_false rs → MarksNulls n rs v → IsPlain (boolean_type n) rs (bools bits v)
plain_booleans n rs v bits e p = record {
  sound = subst (HasLength v) (sym (as_many boolean_or_false rs bits e)) p.fits;
  len = as_many boolean_or_false rs bits e;
  kind = ap boolean_type p.nullability;
  layout = tt;
  content = λ i l h. truth_row n (get_or rs i raw_null) (is_valid v i) (get_or bits i false) (p.bits i l) (at_place boolean_or_false rs bits i false e l) h;
}

pub plain_numbers : (k : IntKind) (n : Nullability) (rs : List Raw) (v : Valid) (zs : List ℤ) → All (InRange k) zs → zs ≡ map whole_or_zero rs → MarksNulls n rs v → IsPlain (integer_type k n) rs (numbers k zs v)
plain_numbers k n rs v zs fit e p = record {
  sound = (fit, subst (HasLength v) (sym (as_many whole_or_zero rs zs e)) p.fits);
  len = as_many whole_or_zero rs zs e;
  kind = ap (integer_type k) p.nullability;
  layout = tt;
  content = λ i l h. number_row k n (get_or rs i raw_null) (is_valid v i) (get_or zs i (pos 0)) (p.bits i l) (at_place whole_or_zero rs zs i (pos 0) e l) h;
}

pub whole_within : (k : IntKind) (n : Nullability) (r : Raw) → is_held (integer_type k n) r ≡ true → in_range k (whole_or_zero r) ≡ true
whole_within k n raw_null h = zero_within k
whole_within k n (raw_number j z) h = second_so (eq_int_kind j k) (in_range k z) h
whole_within k n r h = absurd (cc (h))

-- an array of values of its type has their contents as rows
pub plain_rows : (k : LogicalType) (rs : List Raw) (a : Layout) → IsPlain k rs a → All (λ r. valid k r ≡ true) rs → rows_of a ≡ map content_of rs
plain_rows k rs a p h = rows_by_position a (map content_of rs) (length-map rs content_of ∙ sym p.len) (λ i l.
    let m : i < length rs = subst (λ n. i < n) p.len l in
    get_or-map content_of rs i raw_null null m ∙ sym (p.content i m (h i raw_null m)))

pub marks_required : (rs : List Raw) → MarksNulls non_nullable rs required
marks_required rs = record { fits = tt; nullability = refl; bits = λ i l. refl }

pub marks_bits : (rs : List Raw) (bits : List Bool) → bits ≡ map (is_there nullable) rs → MarksNulls nullable rs (by_array (bools bits required))
marks_bits rs bits e = record {
  fits = (tt, as_many (is_there nullable) rs bits e, refl);
  nullability = refl;
  bits = λ i l. at_place (is_there nullable) rs bits i false e l;
}

pub marks_all : (rs : List Raw) → All (λ r. is_there nullable r ≡ true) rs → MarksNulls nullable rs all_valid
marks_all rs h = record { fits = tt; nullability = refl; bits = λ i l. sym (h i raw_null l) }

pub ruleset nulls_marked = (marks_required, marks_bits, marks_all)

-- one more value that is not null
pub present_more : (vs : List (Option (Bor ScalarValue))) (i : ℕ) (v : Option (Bor ScalarValue)) → All (λ r. is_there nullable r ≡ true) (map raw_at (take i vs)) → i < length vs → v ≡ get_or vs i v → is_there nullable (raw_at v) ≡ true → All (λ r. is_there nullable r ≡ true) (map raw_at (take (i + 1) vs))
present_more vs i v h l e t =
    subst (All (λ r. is_there nullable r ≡ true)) (sym (ap (map raw_at) (take_more vs i v l ∙ ap (λ y. take i vs ++ y ∷ []) (sym e)) ∙ map-append raw_at (take i vs) (v ∷ [])))
    (All-append (λ r. is_there nullable r ≡ true) (map raw_at (take i vs)) (raw_at v ∷ []) h (All-cons (λ r. is_there nullable r ≡ true) (raw_at v) [] t (All-nil (λ r. is_there nullable r ≡ true))))

pub present_none : (vs : List (Option (Bor ScalarValue))) → All (λ r. is_there nullable r ≡ true) (map raw_at (take 0 vs))
present_none vs = All-nil (λ r. is_there nullable r ≡ true)

pub present_all : (vs : List (Option (Bor ScalarValue))) (i : ℕ) → length vs ≤ i → All (λ r. is_there nullable r ≡ true) (map raw_at (take i vs)) → All (λ r. is_there nullable r ≡ true) (map raw_at vs)
present_all vs i l h = subst (λ xs. All (λ r. is_there nullable r ≡ true) (map raw_at xs)) (take_all i vs l) h

pub ruleset present = (present_more, present_none, present_all)

-- the integer that a raw value is read as
pub number_there : (r : Raw) (v : PValue) → Some (raw_of_number v) ≡ as_number r → whole_or_zero r ≡ integer_of v
number_there (raw_number j z) v e = cc (e)
number_there r v e = absurd (cc (e))

pub no_number : (r : Raw) → None ≡ as_number r → whole_or_zero r ≡ pos 0
no_number (raw_number j z) e = absurd (cc (e))
no_number r e = refl

pub ruleset whole_numbers = (number_there, no_number)

pub truth_there : (r : Raw) → unwrap_or (boolean_in r) false ≡ boolean_or_false r
truth_there (raw_boolean b) = refl
truth_there r = refl

pub ruleset truths = (truth_there)

-- the type has each integer, with 0 for null
pub all_within : (k : NumberKind) (n : Nullability) (vs : List (Option (Bor ScalarValue))) → IsTrue (is_integral k) → All (λ r. is_held (type_of_numbers k n) r ≡ true) (map raw_at vs) → All (λ value. holds_number k (whole_or_zero (raw_at value)) ≡ true) vs
all_within (whole_kind k) n vs w h = λ i d l.
    let m : i < length (map raw_at vs) = omega (arith, l, length-map vs raw_at) in
    subst (λ r. in_range k (whole_or_zero r) ≡ true) (get_or-map raw_at vs i d raw_null l) (whole_within k n (get_or (map raw_at vs) i raw_null) (h i raw_null m))
all_within (floating f) n vs w h = absurd (cc (w))

pub plain_integers : (k : NumberKind) (i : IntKind) (n : Nullability) (rs : List Raw) (v : Valid) (zs : List ℤ) → whole_kind i ≡ k → All (InRange i) zs → zs ≡ map whole_or_zero rs → MarksNulls n rs v → IsPlain (type_of_numbers k n) rs (numbers i zs v)
plain_integers k i n rs v zs same fit e p = subst (λ l. IsPlain (type_of_numbers l n) rs (numbers i zs v)) same (plain_numbers i n rs v zs fit e p)

pub ruleset integers = (plain_integers, all_within)

-- a function of the value at an index
pub said_at : {V R X : Type 0} (f : R → X) (g : V → R) (vs : List V) (i : ℕ) (v : V) (d x : X) → i < length vs → v ≡ get_or vs i v → x ≡ f (g v) → x ≡ get_or (map f (map g vs)) i d
said_at f g vs i v d x l e s =
    let m : i < length (map g vs) = omega (arith, l, length-map vs g) in
    s ∙ ap (λ y. f (g y)) e ∙ sym (ap f (get_or-map g vs i v (g v) l)) ∙ sym (get_or-map f (map g vs) i (g v) d m)
