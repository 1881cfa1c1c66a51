-- Names met from the last field to the first.
use Rattle.std.proofs.Math.Bool.{and-false}
use Rattle.std.proofs.Common.{◌≡◌, ◌<◌, ◌≤◌, ◌-◌, ◌&&◌, arith, drop, drop-cons, get_or, length, zero, suc, refl, sym, ap, ◌∙◌, ℕ, Bool, true, false, cond, not, ◌||◌, List, [], ◌∷◌, Bor}
use Rattle.std.specs.BTreeSet.{BTreeSet, contains, IsEmpty, Updates}
use Rattle.std.specs.Ordering.{is_eq}
use Rattle.std.specs.Str.{bytes_eq}
use Rattle.std.specs.List.{list_any}
use Rattle.std.proofs.lemmas.Cmp.{nat_list_eq_equiv}
use Rattle.std.proofs.lemmas.Map.Text.{is_eq-slice_cmp}
use Rattle.vortex_model.specs.Kept.{has_name, names_distinct}
use Rattle.vortex_dtype_core.specs.View.{fields_of}
use Rattle.vortex_dtype_core.specs.declared.struct_fields.StructField.{StructField}
use Rattle.vortex_dtype_core.proofs.Views.{field_of-parts}
use Rattle.vortex_dtype_fields.proofs.Pieces.{has_name-first}
use Rattle.vortex_table_schema.specs.Cut.{text_cmp}

-- the set has the names of these fields
abbrev pub IsSeen : BTreeSet (Bor (List ℕ)) → List StructField → Type 0
IsSeen s fs = (q : Bor (List ℕ)) → contains text_cmp s q ≡ has_name q.now (fields_of fs)

pub seen_none : (s : BTreeSet (Bor (List ℕ))) → IsEmpty s → IsSeen s []
seen_none s e q = ap (λ ks. list_any (λ k. is_eq (text_cmp q k)) ks) e

one_of_two : (a b c d : Bool) → a ≡ b → c ≡ d → cond a true c ≡ b || d
one_of_two true true c d p q = refl
one_of_two false false c d p q = q
one_of_two true false c d p q = absurd (cc (p))
one_of_two false true c d p q = absurd (cc (p))

pub seen_more : (s n : BTreeSet (Bor (List ℕ))) (x : Bor (List ℕ)) (f : StructField) (fs : List StructField) →
    x.now ≡ f.name → Updates text_cmp s n x true → IsSeen s fs → IsSeen n (f ∷ fs)
seen_more s n x f fs e u old q =
    u.0 q ∙ one_of_two _ _ _ _ (is_eq-slice_cmp x.now q.now ∙ nat_list_eq_equiv.symm x.now q.now ∙ ap (λ y. bytes_eq q.now y) e) (old q) ∙ sym (has_name-first q.now f fs)

names_distinct-first : (f : StructField) (fs : List StructField) → names_distinct (fields_of (f ∷ fs)) ≡ not (has_name f.name (fields_of fs)) && names_distinct (fields_of fs)
names_distinct-first f fs = ap (λ p. not (has_name p.0 (fields_of fs)) && names_distinct (fields_of fs)) (field_of-parts f)

-- what the set answers at the next name
name_met : (s : BTreeSet (Bor (List ℕ))) (x : Bor (List ℕ)) (f : StructField) (fs : List StructField) (b : Bool) →
    contains text_cmp s x ≡ b → IsSeen s fs → x.now ≡ f.name → has_name f.name (fields_of fs) ≡ b
name_met s x f fs b h seen e = sym (ap (λ y. has_name y (fields_of fs)) e) ∙ sym (seen x) ∙ h

pub names_distinct-repeated : (s : BTreeSet (Bor (List ℕ))) (x : Bor (List ℕ)) (f : StructField) (fs : List StructField) →
    contains text_cmp s x ≡ true → IsSeen s fs → x.now ≡ f.name → names_distinct (fields_of (f ∷ fs)) ≡ false
names_distinct-repeated s x f fs h seen e = names_distinct-first f fs ∙ ap (λ b. not b && names_distinct (fields_of fs)) (name_met s x f fs true h seen e)

pub names_distinct-fresh : (s : BTreeSet (Bor (List ℕ))) (x : Bor (List ℕ)) (f : StructField) (fs : List StructField) →
    contains text_cmp s x ≡ false → IsSeen s fs → x.now ≡ f.name → names_distinct (fields_of fs) ≡ true → names_distinct (fields_of (f ∷ fs)) ≡ true
names_distinct-fresh s x f fs h seen e d = names_distinct-first f fs ∙ ap (λ b. not b && names_distinct (fields_of fs)) (name_met s x f fs false h seen e) ∙ d

pub names_distinct-dropped : (fs : List StructField) (n : ℕ) → names_distinct (fields_of (drop n fs)) ≡ false → names_distinct (fields_of fs) ≡ false
names_distinct-dropped fs zero h = h
names_distinct-dropped [] (suc n) h = h
names_distinct-dropped (f ∷ fs) (suc n) h =
    names_distinct-first f fs ∙ ap (λ b. not (has_name f.name (fields_of fs)) && b) (names_distinct-dropped fs n h) ∙ and-false _

-- the field before the rest
pub drop-before : (fs : List StructField) (r : ℕ) (f : StructField) → 0 < r → r ≤ length fs → f ≡ get_or fs (r - 1) f → drop (r - 1) fs ≡ f ∷ drop r fs
drop-before fs r f h w e =
    let next : suc (r - 1) ≡ r = omega arith in
    drop-cons fs (r - 1) f (omega arith) ∙ ap (λ g. g ∷ drop (suc (r - 1)) fs) (sym e) ∙ ap (λ m. f ∷ drop m fs) next

pub was_there : (d b : Bool) → b ≡ not d → b ≡ false → d ≡ true
was_there true b p q = refl
was_there false b p q = absurd (cc (p, q))

pub was_new : (d b : Bool) → b ≡ not d → b ≡ true → d ≡ false
was_new true b p q = absurd (cc (p, q))
was_new false b p q = refl
