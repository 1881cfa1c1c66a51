-- Lists of fields, as lists of names and types.
use Rattle.std.proofs.Common.{◌≡◌, ◌<◌, ◌++◌, ◌||◌, ◌+◌, add-one, drop-cons, get_or, arith, Bor, Bool, true, false, cond, List, [], ◌∷◌, map, take, drop, length, zero, suc, refl, sym, ap, ◌∙◌, ℕ, Option, Some, None, option_map, if◌then◌else◌}
use Rattle.std.specs.BTreeSet.{BTreeSet, contains, Updates}
use Rattle.std.specs.Ordering.{is_eq}
use Rattle.std.specs.Str.{bytes_eq}
use Rattle.std.proofs.lemmas.List.{take-map, drop-map}
use Rattle.std.proofs.lemmas.Cmp.{nat_list_eq_equiv}
use Rattle.std.proofs.lemmas.Map.Text.{is_eq-slice_cmp}
use Rattle.vortex_model.specs.Kept.{has_name}
use Rattle.vortex_model.specs.LogicalType.{Fields, no_fields, field}
use Rattle.vortex_model.specs.Path.{position_named}
use Rattle.vortex_dtype_core.specs.View.{type_of, field_of, fields_of, fields_from, NamedType}
use Rattle.vortex_dtype_core.specs.declared.struct_fields.StructField.{StructField}
use Rattle.vortex_dtype_core.specs.Parts.{field_count}
use Rattle.vortex_dtype_core.proofs.Views.{field_of-parts, field_count-fields_of}
use Rattle.vortex_dtype_fields.specs.Records.{names_of, types_of, fields_without, joined, shares_name, text_cmp}

pub name_first : (f : StructField) (fs : List StructField) → names_of (fields_of (f ∷ fs)) ≡ f.name ∷ names_of (fields_of fs)
name_first f fs = ap (λ p. p.0 ∷ names_of (fields_of fs)) (field_of-parts f)

pub types_along : (fs : List StructField) → map type_of (map (λ f. f.dtype) fs) ≡ types_of (fields_of fs)
types_along [] = refl
types_along (f ∷ fs) = ap (λ ks. type_of f.dtype ∷ ks) (types_along fs) ∙ sym (ap (λ p. p.1 ∷ types_of (fields_of fs)) (field_of-parts f))

pub ruleset names_in_order = (name_first)

pub ruleset types_in_order = (types_along)

-- ---- indexes

without_at : (ns : List NamedType) (i : ℕ) → fields_from (take i ns ++ drop (suc i) ns) ≡ fields_without (fields_from ns) i
without_at [] zero = refl
without_at [] (suc i) = refl
without_at (n ∷ ns) zero = refl
without_at (n ∷ ns) (suc i) = ap (λ fs. field n.0 n.1 fs) (without_at ns i)

-- the fields before an index, and those after it
pub without-place : (fs front all : List StructField) (i : ℕ) → map field_of front ≡ map field_of (take i fs) → map field_of all ≡ map field_of front ++ map field_of (drop (i + 1) fs) → fields_of all ≡ fields_without (fields_of fs) i
without-place fs front all i h g =
    let split : map field_of all ≡ take i (map field_of fs) ++ drop (suc i) (map field_of fs)
    = g ∙ ap (λ ns. ns ++ map field_of (drop (i + 1) fs)) (h ∙ sym (take-map field_of i fs))
    ∙ ap (λ ns. take i (map field_of fs) ++ ns) (ap (λ n. map field_of (drop n fs)) (add-one i) ∙ sym (drop-map field_of (suc i) fs)) in
    ap fields_from split ∙ without_at (map field_of fs) i

pub joined-from : (ms ns : List NamedType) → fields_from (ms ++ ns) ≡ joined (fields_from ms) (fields_from ns)
joined-from [] ns = refl
joined-from (m ∷ ms) ns = ap (λ fs. field m.0 m.1 fs) (joined-from ms ns)

within_test : (found : Bool) (place : Option ℕ) (n i : ℕ) → ((j : ℕ) → place ≡ Some j → j < n) → (if found then Some 0 else option_map suc place) ≡ Some i → i < suc n
within_test true place n i below h = let e : 0 ≡ i = cc h in omega arith
within_test false None n i below h = absurd (cc h)
within_test false (Some j) n i below h = let e : suc j ≡ i = cc h in let k : j < n = below j refl in omega arith

pub position_named-within : (fs : Fields) (x : List ℕ) (i : ℕ) → position_named fs x ≡ Some i → i < field_count fs
position_named-within no_fields x i h = absurd (cc h)
position_named-within (field y k fs) x i h = within_test (bytes_eq y x) (position_named fs x) (field_count fs) i (λ j. position_named-within fs x j) h

pub ruleset placed = (without-place, joined-from, position_named-within, field_count-fields_of)

-- ---- names seen so far

pub has_name-first : (q : List ℕ) (f : StructField) (fs : List StructField) → has_name q (fields_of (f ∷ fs)) ≡ bytes_eq q f.name || has_name q (fields_of fs)
has_name-first q f fs = ap (λ p. bytes_eq q p.0 || has_name q (fields_of fs)) (field_of-parts f)

pub shares_name-first : (fs : Fields) (g : StructField) (gs : List StructField) → shares_name fs (fields_of (g ∷ gs)) ≡ has_name g.name fs || shares_name fs (fields_of gs)
shares_name-first fs g gs = ap (λ p. has_name p.0 fs || shares_name fs (fields_of gs)) (field_of-parts g)

-- the first field, and the rest
pub first_left : (fs : List StructField) (i : ℕ) (f : StructField) → i < length fs → f ≡ get_or fs i f → drop i fs ≡ f ∷ drop (i + 1) fs
first_left fs i f h e = drop-cons fs i f h ∙ ap (λ g. g ∷ drop (suc i) fs) (sym e) ∙ ap (λ n. f ∷ drop n fs) (sym (add-one i))

moved_over : (a b c d h : Bool) → a ≡ cond b true c → b ≡ d → a || h ≡ c || (d || h)
moved_over a true true true h p q = ap (λ x. x || h) p
moved_over a true false true h p q = ap (λ x. x || h) p
moved_over a false true false h p q = ap (λ x. x || h) p
moved_over a false false false h p q = ap (λ x. x || h) p
moved_over a true c false h p q = absurd (cc q)
moved_over a false c true h p q = absurd (cc q)

-- a name moves from the fields that are left to the set
pub met_more : (s n : BTreeSet (Bor (List ℕ))) (x : Bor (List ℕ)) (f : StructField) (fs : List StructField) (i : ℕ) (q : Bor (List ℕ)) →
    i < length fs → f ≡ get_or fs i f → x.now ≡ f.name → Updates text_cmp s n x true →
    contains text_cmp n q || has_name q.now (fields_of (drop (i + 1) fs)) ≡ contains text_cmp s q || has_name q.now (fields_of (drop i fs))
met_more s n x f fs i q h g e u =
    let test : is_eq (text_cmp x q) ≡ bytes_eq q.now f.name = is_eq-slice_cmp x.now q.now ∙ nat_list_eq_equiv.symm x.now q.now ∙ ap (λ y. bytes_eq q.now y) e in
    moved_over _ _ _ _ (has_name q.now (fields_of (drop (i + 1) fs))) (u.0 q) test
    ∙ sym (ap (λ b. contains text_cmp s q || b) (ap (λ gs. has_name q.now (fields_of gs)) (first_left fs i f h g) ∙ has_name-first q.now f (drop (i + 1) fs)))

pub ruleset names_met = (has_name-first, shares_name-first)
