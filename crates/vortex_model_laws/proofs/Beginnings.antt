-- The longest prefix of a string or of bytes.
use Rattle.std.proofs.Common.{◌≡◌, ℕ, ◌≤◌, List, [], ◌∷◌, ◌++◌, length, take, drop, true, refl, sym, ap, ◌∙◌, subst, arith, take-append-drop, length-take, length-append}
use Rattle.std.proofs.Math.Utf8.{scalars}
use Rattle.std.proofs.lemmas.Bool.Decides.{nat_tests}
use Rattle.vortex_model_table.specs.Bounds.{Begins, IsLongestBeginning, AnyBytes}

take_front : (w rest : List ℕ) → take (length w) (w ++ rest) ≡ w
take_front [] rest = refl
take_front (x ∷ w) rest = ap (λ t. x ∷ t) (take_front w rest)

pub begins_take : (w v : List ℕ) → Begins w v → take (length w) v ≡ w
begins_take w v b = subst (λ x. take (length w) x ≡ w) (sym b.1) (take_front w b.0)

pub begins_length : (w v : List ℕ) → Begins w v → length w ≤ length v
begins_length w v b = omega (arith, length-append w b.0, ap length b.1)

-- the first n bytes are the longest prefix
pub take_longest : (v : List ℕ) (n : ℕ) → IsLongestBeginning AnyBytes v n (take n v)
take_longest v n = record {
  fits = omega (arith, length-take n v);
  begins = (drop n v, sym (take-append-drop n v));
  passes = tt;
  longest = λ w fits b any. let le = begins_length w v b in omega (arith, length-take n v, le, fits);
}

-- the longest prefix is unique
pub longest_same : (P : List ℕ → Type 0) (v p q : List ℕ) (n : ℕ) → IsLongestBeginning P v n p → IsLongestBeginning P v n q → p ≡ q
longest_same P v p q n a b =
    let pq = a.longest q b.fits b.begins b.passes in
    let qp = b.longest p a.fits a.begins a.passes in
    let same : length p ≡ length q = omega arith in
    sym (begins_take p v a.begins) ∙ ap (λ k. take k v) same ∙ begins_take q v b.begins

pub scalars_left : (xs ys : List ℕ) → scalars (xs ++ ys) ≡ true → scalars xs ≡ true
scalars_left [] ys h = refl
scalars_left (x ∷ xs) ys h = grind (arith, nat_tests, scalars_left xs ys)
