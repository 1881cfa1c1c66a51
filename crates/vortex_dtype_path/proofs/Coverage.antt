-- The outermost members of a set of paths cover what the set covers.
use Rattle.std.proofs.Common.{IsTrue, ◌↔◌, ◌⊎◌, inl, inr, ◌≡◌, refl, sym, ap, subst, ◌∙◌, append_assoc, append-nil, Bool, true, false, List, [], ◌∷◌, ◌++◌}
use Rattle.vortex_model.specs.Path.{Step}
use Rattle.vortex_dtype_path.specs.Steps.{Begins, Overlap}
use Rattle.vortex_dtype_path.specs.Coverage.{Covers, IsOutermost}

pub begins_itself : (p : List Step) → Begins p p
begins_itself p = ([], append-nil p)

begins_further : (p q r : List Step) → Begins p q → Begins q r → Begins p r
begins_further p q r b c = (b.0 ++ c.0, sym (append_assoc p b.0 c.0) ∙ ap (λ l. l ++ c.0) b.1 ∙ c.1)

either_begins : (p q x y r : List Step) → p ++ x ≡ r → q ++ y ≡ r → Overlap p q
either_begins [] q x y r e f = inl (q, refl)
either_begins (s ∷ p) [] x y r e f = inr (s ∷ p, refl)
either_begins (s ∷ p) (t ∷ q) x y r e f =
    let same : s ≡ t = cc (e, f) in
    let rest : p ++ x ≡ q ++ y = cc (e, f) in
    elim (either_begins p q x y (q ++ y) rest refl) [
      | inl b ↦ inl (b.0, λ i. same i ∷ b.1 i)
      | inr b ↦ inr (b.0, λ i. sym same i ∷ b.1 i)
    ]

pub shared : (p q : List Step) → Overlap p q ↔ ((r : List Step) × Begins p r × Begins q r)
shared p q = (
  λ o. elim o [ inl b ↦ (q, b, begins_itself q) | inr b ↦ (p, begins_itself p, b) ],
  λ r. either_begins p q r.1.0 r.2.0 r.0 r.1.1 r.2.1,
)

nothing_more : (p x : List Step) → p ++ x ≡ p → x ≡ []
nothing_more [] x e = e
nothing_more (s ∷ p) x e = nothing_more p x (cc (e))

nothing_left : (x y : List Step) → x ++ y ≡ [] → x ≡ []
nothing_left [] y e = refl
nothing_left (s ∷ x) y e = absurd (cc (e))

-- paths that are prefixes of each other are equal
begin_each_other : (p q : List Step) → Begins p q → Begins q p → p ≡ q
begin_each_other p q b c =
    let none : b.0 ≡ [] = nothing_left b.0 c.0 (nothing_more p (b.0 ++ c.0) (sym (append_assoc p b.0 c.0) ∙ ap (λ l. l ++ c.0) b.1 ∙ c.1)) in
    sym (append-nil p) ∙ ap (λ l. p ++ l) (sym none) ∙ b.1

-- a prefix of a path with one more step is the whole path, or a prefix of the rest
begins_longer : (p q : List Step) (s : Step) (x : List Step) → p ++ x ≡ q ++ s ∷ [] → Begins p q ⊎ (p ≡ q ++ s ∷ [])
begins_longer [] q s x e = inl (q, refl)
begins_longer (t ∷ p) [] s x e =
    let end : p ≡ [] = nothing_left p x (cc (e)) in
    let same : t ≡ s = cc (e) in
    inr (λ i. same i ∷ end i)
begins_longer (t ∷ p) (u ∷ q) s x e =
    let same : t ≡ u = cc (e) in
    elim (begins_longer p q s x (cc (e))) [
      | inl b ↦ inl (b.0, λ i. same i ∷ b.1 i)
      | inr f ↦ inr (λ i. same i ∷ f i)
    ]

-- no member but `front` itself is a prefix of `front`
abbrev IsFirst : (List Step → Bool) → List Step → Type 0
IsFirst s front = (p : List Step) → IsTrue (s p) → Begins p front → p ≡ front

first_still : (s : List Step → Bool) (front : List Step) (x : Step) → s front ≡ false → IsFirst s front → IsFirst s (front ++ x ∷ [])
first_still s front x n f p m b =
    elim (begins_longer p front x b.0 b.1) [
      | inl c ↦ absurd (cc (m, n, ap s (f p m c)))
      | inr e ↦ e
    ]

abbrev HasOutermost : (List Step → Bool) → List Step → Type 0
HasOutermost s q = (p : List Step) × IsOutermost s p × Begins p q

no_member : (s : List Step → Bool) (front q : List Step) → s front ≡ false → IsFirst s front → front ++ [] ≡ q → Covers s q → HasOutermost s q
no_member s front q n f e c =
    let whole : q ≡ front = sym e ∙ append-nil front in
    absurd (cc (n, c.1, ap s (f c.0 c.1 (subst (λ l. Begins c.0 l) whole c.2))))

-- the search for the shortest member that is a prefix of q
search_here : (s : List Step → Bool) (front rest q : List Step) (b : Bool) → s front ≡ b → IsFirst s front → front ++ rest ≡ q → (s front ≡ false → HasOutermost s q) → HasOutermost s q
search_here s front rest q true m f e more = (front, (m, f), (rest, e))
search_here s front rest q false n f e more = more n

outermost_from : (s : List Step → Bool) (rest front q : List Step) → IsFirst s front → front ++ rest ≡ q → Covers s q → HasOutermost s q
outermost_from s [] front q f e c = search_here s front [] q (s front) refl f e (λ n. no_member s front q n f e c)
outermost_from s (x ∷ rest) front q f e c =
    search_here s front (x ∷ rest) q (s front) refl f e (λ n. outermost_from s rest (front ++ x ∷ []) q (first_still s front x n f) (append_assoc front (x ∷ []) rest ∙ e) c)

root_first : (s : List Step → Bool) → IsFirst s []
root_first s p m b = nothing_left p b.0 b.1

covered_by_outermost : (s : List Step → Bool) (q : List Step) → Covers s q → HasOutermost s q
covered_by_outermost s q c = outermost_from s q [] q (root_first s) refl c

pub outermost_cover : (s : List Step → Bool) (q : List Step) → Covers s q ↔ HasOutermost s q
outermost_cover s q = (covered_by_outermost s q, λ o. (o.0, o.1.0, o.2))

abbrev Same : (P R : List Step → Type 0) → Type 0
Same P R = (q : List Step) → P q ↔ R q

outermost_in_both : (s t : List Step → Bool) → Same (Covers s) (Covers t) → (q : List Step) → IsOutermost s q → IsOutermost t q
outermost_in_both s t same q o =
    let there = covered_by_outermost t q ((same q).0 (q, o.0, begins_itself q)) in
    let back = (same there.0).1 (there.0, there.1.0, begins_itself there.0) in
    let whole : back.0 ≡ q = o.1 back.0 back.1 (begins_further back.0 there.0 q back.2 there.2) in
    let equal : there.0 ≡ q = begin_each_other there.0 q there.2 (subst (λ l. Begins l there.0) whole back.2) in
    subst (IsOutermost t) equal there.1

covered_by_both : (s t : List Step → Bool) → Same (IsOutermost s) (IsOutermost t) → (q : List Step) → Covers s q → Covers t q
covered_by_both s t same q c =
    let o = covered_by_outermost s q c in
    (o.0, ((same o.0).0 o.1).0, o.2)

turned : (P R : List Step → Type 0) → Same P R → Same R P
turned P R same q = ((same q).1, (same q).0)

pub coverage_tells : (s t : List Step → Bool) → Same (IsOutermost s) (IsOutermost t) ↔ Same (Covers s) (Covers t)
coverage_tells s t = (
  λ same q. (covered_by_both s t same q, covered_by_both t s (turned (IsOutermost s) (IsOutermost t) same) q),
  λ same q. (outermost_in_both s t same q, outermost_in_both t s (turned (Covers s) (Covers t) same) q),
)

pub outermost_needed : (s t : List Step → Bool) → Same (Covers s) (Covers t) → (q : List Step) → IsOutermost s q → IsTrue (t q)
outermost_needed s t same q o = (outermost_in_both s t same q o).0

-- lists of the outermost members are equal where both sets cover the same paths
pub listed_alike : (s t l r : List Step → Bool) → Same (λ q. IsTrue (l q)) (IsOutermost s) → Same (λ q. IsTrue (r q)) (IsOutermost t) →
    Same (λ q. IsTrue (l q)) (λ q. IsTrue (r q)) ↔ Same (Covers s) (Covers t)
listed_alike s t l r a b = (
  λ same. (coverage_tells s t).0 (λ q. (λ o. (b q).0 ((same q).0 ((a q).1 o)), λ o. (a q).0 ((same q).1 ((b q).1 o)))),
  λ same. let out = (coverage_tells s t).1 same in λ q. (λ h. (b q).1 ((out q).0 ((a q).0 h)), λ h. (a q).1 ((out q).1 ((b q).0 h))),
)
