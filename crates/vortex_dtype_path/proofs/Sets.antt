-- Lists of paths as sets.
use Rattle.std.proofs.Math.Bool.{or-true}
use Rattle.std.proofs.lemmas.Bool.{ltb-true, ltb-false, eqb-true, or_parts, not-true}
use Rattle.std.proofs.Common.{◌==◌, IsTrue, subst, append-nil, ◌↔◌, ◌≡◌, refl, sym, ap, ◌∙◌, Bool, true, false, not, ◌&&◌, ◌||◌, cond, ◌+◌, arith, List, [], ◌∷◌, ◌++◌, length, length-append, nat_lt}
use Rattle.std.specs.List.{starts_with, IsDistinct, AllByRecursion, filter}
use Rattle.std.specs.Cmp.{first_so, second_so}
use Rattle.std.proofs.lemmas.Map.Views.{any-filter_same}
use Rattle.std.proofs.lemmas.Map.Steps.{list_any_congr}
use Rattle.vortex_model.specs.Path.{Step}
use Rattle.vortex_dtype_path.specs.Steps.{eq_step, eq_steps, eq_steps_equiv, Begins, is_among, AreDistinct, begins_properly, lies_inside, outermost_among}
use Rattle.vortex_dtype_path.specs.Coverage.{IsOutermost}
use Rattle.vortex_dtype_path.specs.View.{steps_of, paths_of}
use Rattle.vortex_dtype_path.specs.declared.path.FieldPath.{FieldPath}
use Rattle.vortex_dtype_path.proofs.Steps.{eq_steps-decides, starts}

-- a member stays one where it is added again
again : (ps : List (List Step)) (p q : List Step) (b : Bool) → eq_steps q p ≡ b → is_among ps p ≡ true → is_among ps q ≡ (b || is_among ps q)
again ps p q true e h = list_any_congr eq_steps_equiv q p ps e ∙ h
again ps p q false e h = refl

pub inserted_again : (ps : List (List Step)) (p q : List Step) → is_among ps p ≡ true → is_among ps q ≡ (eq_steps q p || is_among ps q)
inserted_again ps p q h = again ps p q (eq_steps q p) refl h

-- the last path of a list may come first
last_first : (e d m n c : Bool) → (e || (m || c)) ≡ (n || c) → (e || ((d || m) || c)) ≡ ((d || n) || c)
last_first true true m n c h = refl
last_first false true m n c h = refl
last_first e false m n c h = h

alone : (e c : Bool) → (e || c) ≡ ((e || false) || c)
alone true c = refl
alone false c = refl

turned : (xs : List FieldPath) (p : FieldPath) (q : List Step) (c : Bool) → (eq_steps q (steps_of p) || (is_among (paths_of xs) q || c)) ≡ (is_among (paths_of (xs ++ p ∷ [])) q || c)
turned [] p q c = alone (eq_steps q (steps_of p)) c
turned (x ∷ xs) p q c = last_first (eq_steps q (steps_of p)) (eq_steps q (steps_of x)) (is_among (paths_of xs) q) (is_among (paths_of (xs ++ p ∷ [])) q) c (turned xs p q c)

pub one_inserted : (xs : List FieldPath) (p : FieldPath) (q : List Step) (a b c : Bool) → a ≡ (eq_steps q (steps_of p) || b) → b ≡ (is_among (paths_of xs) q || c) → a ≡ (is_among (paths_of (xs ++ p ∷ [])) q || c)
one_inserted xs p q a b c e f = e ∙ ap (λ t. eq_steps q (steps_of p) || t) f ∙ turned xs p q c

-- a prefix that isn't shorter is the whole path
as_long : (p q rest : List Step) → p ++ rest ≡ q → nat_lt (length p) (length q) ≡ false → p ≡ q
as_long p q [] e h = sym (append-nil p) ∙ e
as_long p q (x ∷ rest) e h =
    let n : length q ≡ length p + length (x ∷ rest) = sym (ap length e) ∙ length-append p (x ∷ rest) in
    absurd (omega (arith, ltb-false, n, h))

shorter : (p q : List Step) → nat_lt (length p) (length q) ≡ true → ¬ (p ≡ q)
shorter p q h e = absurd (omega (arith, ltb-true, ap length e, h))

not_shorter : (a b : Bool) → (a && b) ≡ false → b ≡ true → a ≡ false
not_shorter true b h g = absurd (cc (h, g))
not_shorter false b h g = refl

equal_where_outside : (x p q : List Step) → begins_properly x q ≡ false → p ≡ x → Begins p q → p ≡ q
equal_where_outside x p q h e b =
    let front : Begins x q = subst (λ l. Begins l q) e b in
    e ∙ as_long x q front.0 front.1 (not_shorter (nat_lt (length x) (length q)) (starts_with eq_step q x) h ((starts x q).1 front))

outside_here : (x : List Step) (ps : List (List Step)) (q p : List Step) (t : Bool) → eq_steps p x ≡ t → lies_inside (x ∷ ps) q ≡ false → (t || is_among ps p) ≡ true → Begins p q →
    (lies_inside ps q ≡ false → is_among ps p ≡ true → p ≡ q) → p ≡ q
outside_here x ps q p true e h m b rest = equal_where_outside x p q (or_parts (begins_properly x q) (lies_inside ps q) h).0 ((eq_steps-decides p x).0 e) b
outside_here x ps q p false e h m b rest = rest (or_parts (begins_properly x q) (lies_inside ps q) h).1 m

outside : (ps : List (List Step)) (q p : List Step) → lies_inside ps q ≡ false → is_among ps p ≡ true → Begins p q → p ≡ q
outside [] q p h m b = absurd (cc (m))
outside (x ∷ ps) q p h m b = outside_here x ps q p (eq_steps p x) refl h m b (λ h' m'. outside ps q p h' m' b)

-- some member is a proper prefix of q
abbrev pub HasOuter : List (List Step) → List Step → Type 0
HasOuter ps q = (p : List Step) × (is_among ps p ≡ true) × Begins p q × (nat_lt (length p) (length q) ≡ true)

inside_here : (x : List Step) (ps : List (List Step)) (q : List Step) (t : Bool) → begins_properly x q ≡ t → (t || lies_inside ps q) ≡ true → (lies_inside ps q ≡ true → HasOuter ps q) → HasOuter (x ∷ ps) q
inside_here x ps q true e h rest = (
  x,
  ap (λ t. t || is_among ps x) (eq_steps_equiv.refl x),
  (starts x q).0 (second_so (nat_lt (length x) (length q)) (starts_with eq_step q x) e),
  first_so (nat_lt (length x) (length q)) (starts_with eq_step q x) e,
)
inside_here x ps q false e h rest =
    let outer = rest h in
    (outer.0, ap (λ t. eq_steps outer.0 x || t) outer.1 ∙ or-true (eq_steps outer.0 x), outer.2, outer.3)

pub inside : (ps : List (List Step)) (q : List Step) → lies_inside ps q ≡ true → HasOuter ps q
inside [] q h = absurd (cc (h))
inside (x ∷ ps) q h = inside_here x ps q (begins_properly x q) refl h (inside ps q)

pub kept : (ps : List (List Step)) (q : List Step) → is_among (outermost_among ps) q ≡ (not (lies_inside ps q) && is_among ps q)
kept ps q = any-filter_same (eq_steps q) (λ s. not (lies_inside ps s)) (not (lies_inside ps q)) (λ s e. ap (λ l. not (lies_inside ps l)) (sym ((eq_steps-decides q s).0 e))) ps

stays : (ps : List (List Step)) (q : List Step) (b : Bool) → lies_inside ps q ≡ b → IsOutermost (is_among ps) q → (not b && is_among ps q) ≡ true
stays ps q true e o = let outer = inside ps q e in absurd (shorter outer.0 q outer.3 (o.1 outer.0 outer.1 outer.2))
stays ps q false e o = o.0

pub outermost : (ps : List (List Step)) (q : List Step) → IsTrue (is_among (outermost_among ps) q) ↔ IsOutermost (is_among ps) q
outermost ps q = (
  λ h. let both = sym (kept ps q) ∙ h in
      (second_so (not (lies_inside ps q)) (is_among ps q) both, λ p m b. outside ps q p (not-true _ (first_so (not (lies_inside ps q)) (is_among ps q) both)) m b),
  λ o. kept ps q ∙ stays ps q (lies_inside ps q) refl o,
)

-- a filter keeps distinct paths distinct
all_kept : (P : List Step → Type 0) (t : List Step → Bool) (ps : List (List Step)) → AllByRecursion P ps → AllByRecursion P (filter t ps)
all_kept P t [] h = tt
all_kept P t (x ∷ ps) h = elim (t x) as (λ b. AllByRecursion P (cond b (x ∷ filter t ps) (filter t ps))) [ true ↦ (h.0, all_kept P t ps h.1) | false ↦ all_kept P t ps h.1 ]

distinct_kept : (t : List Step → Bool) (ps : List (List Step)) → AreDistinct ps → AreDistinct (filter t ps)
unfolding IsDistinct
distinct_kept t [] h = tt
distinct_kept t (x ∷ ps) h = elim (t x) as (λ b. AreDistinct (cond b (x ∷ filter t ps) (filter t ps))) [ true ↦ (all_kept _ t ps h.0, distinct_kept t ps h.1) | false ↦ distinct_kept t ps h.1 ]

pub outermost_distinct : (ps : List (List Step)) → AreDistinct ps → AreDistinct (outermost_among ps)
outermost_distinct ps d = distinct_kept (λ p. not (lies_inside ps p)) ps d

-- the first path is a member
pub empty_or_not : (ps : List (List Step)) (r : Bool) → r ≡ (length ps == 0) → IsTrue r ↔ ((q : List Step) → is_among ps q ≡ false)
empty_or_not [] r e = (λ h q. refl, λ h. e)
empty_or_not (x ∷ ps) r e =
    let first : is_among (x ∷ ps) x ≡ true = ap (λ t. t || is_among ps x) (eq_steps_equiv.refl x) in
    (λ h. absurd (omega (arith, eqb-true (length (x ∷ ps)) 0 (sym e ∙ h))), λ h. absurd (cc (first, h x)))
