-- The signs of a pattern, from its front.
use Rattle.std.proofs.Common.{◌≡◌, ⊎_elim, ℕ, List, [], ◌∷◌, ◌++◌, length, map, Option, Some, None, option_map, is_some, Bool, true, false, ◌==◌, if◌then◌else◌, refl, sym, ap, ◌∙◌, subst, chars, IsUtf8, eqb-true}
use Rattle.std.specs.Char.{encode_utf8}
use Rattle.std.specs.Str.{encode_utf8_all}
use Rattle.std.proofs.lemmas.Str.{chars-nil, encodes-chars}
use Rattle.vortex_model_table.specs.Rewrite.{Sign, letter, wildcard, sign_of, signs_of, Shape, exact_text, beginning, no_shape, shape_of_signs, shape_of, onto_shape}
use Rattle.vortex_scalar_builders.proofs.Beginnings.{chars_none, chars_last}
use Rattle.vortex_stats_rules.specs.Patterns.{IsUnsigned, AreNoLetter, StartsWithoutLetter}

other_by : (c : ℕ) (b : Bool) → (c == 92) ≡ b → (c ≡ 92 → ⊥) → b ≡ false
other_by c true e n = absurd (n (eqb-true c 92 e))
other_by c false e n = refl

pub other : (c : ℕ) → (c ≡ 92 → ⊥) → (c == 92) ≡ false
other c n = other_by c (c == 92) refl n

pub plain : (c : ℕ) (cs : List ℕ) → (c == 92) ≡ false → signs_of (c ∷ cs) ≡ option_map (λ signs. sign_of c ∷ signs) (signs_of cs)
plain c [] e = ap (λ b. if b then None else Some (sign_of c ∷ [])) e
plain c (d ∷ cs) e = ap (λ b. if b then option_map (λ signs. letter d ∷ signs) (signs_of cs) else option_map (λ signs. sign_of c ∷ signs) (signs_of (d ∷ cs))) e

-- ---- no letter in front

wild_front : (o : Option (List Sign)) → AreNoLetter (option_map (λ signs. wildcard ∷ signs) o)
wild_front None = tt
wild_front (Some signs) = tt

pub wild : (cs : List ℕ) (o : Option (List Sign)) → signs_of cs ≡ option_map (λ signs. wildcard ∷ signs) o → StartsWithoutLetter cs
wild cs o e = subst AreNoLetter (sym e) (wild_front o)

pub unsigned : (cs : List ℕ) → IsUnsigned cs → StartsWithoutLetter cs
unsigned cs h = ⊎_elim (λ e. subst StartsWithoutLetter (sym e) tt) (λ e. subst StartsWithoutLetter (sym e) tt) h

-- ---- letters one by one

map_push : (cs : List ℕ) (c : ℕ) (signs : List Sign) → map letter cs ++ letter c ∷ signs ≡ map letter (cs ++ c ∷ []) ++ signs
map_push [] c signs = refl
map_push (d ∷ cs) c signs = ap (λ xs. letter d ∷ xs) (map_push cs c signs)

pushed_in : (cs : List ℕ) (c : ℕ) (o : Option (List Sign)) → option_map (λ signs. map letter cs ++ signs) (option_map (λ signs. letter c ∷ signs) o) ≡ option_map (λ signs. map letter (cs ++ c ∷ []) ++ signs) o
pushed_in cs c None = refl
pushed_in cs c (Some signs) = ap Some (map_push cs c signs)

-- a string with one more letter
pub one_more : (all rest left text longer : List ℕ) (c : ℕ) → IsUtf8 text → IsUtf8 longer → longer ≡ text ++ encode_utf8 c →
    signs_of all ≡ option_map (λ signs. map letter (chars text) ++ signs) (signs_of rest) →
    signs_of rest ≡ option_map (λ signs. letter c ∷ signs) (signs_of left) → signs_of all ≡ option_map (λ signs. map letter (chars longer) ++ signs) (signs_of left)
one_more all rest left text longer c u w is e step =
    e ∙ ap (option_map (λ signs. map letter (chars text) ++ signs)) step ∙ pushed_in (chars text) c (signs_of left)
    ∙ ap (λ cs. option_map (λ signs. map letter cs ++ signs) (signs_of left)) (sym (chars_last longer text c w u is))

none_yet : (o : Option (List Sign)) → o ≡ option_map (λ signs. signs) o
none_yet None = refl
none_yet (Some signs) = refl

pub at_first : (all letters : List ℕ) → letters ≡ [] → signs_of all ≡ option_map (λ signs. map letter letters ++ signs) (signs_of all)
at_first all letters e = subst (λ ls. signs_of all ≡ option_map (λ signs. map letter ls ++ signs) (signs_of all)) (sym e) (none_yet (signs_of all))

-- ---- strings and their characters

pub empty_so : (v : List ℕ) → (length v == 0) ≡ true → chars v ≡ []
empty_so v e = chars_none v (eqb-true (length v) 0 e)

pub not_empty : (v : List ℕ) → IsUtf8 v → (length v == 0) ≡ false → chars v ≡ [] → ⊥
not_empty v u e none = cc (sym (ap (λ w. length w == 0) (sym (encodes-chars v u) ∙ ap encode_utf8_all none)) ∙ e)

pub none_of_empty : (v : List ℕ) → v ≡ [] → chars v ≡ []
none_of_empty v e = ap chars e ∙ chars-nil

-- ---- shapes

exact_shape : (cs : List ℕ) → shape_of_signs (map letter cs ++ []) ≡ exact_text cs
exact_shape [] = refl
exact_shape (c ∷ cs) = ap (onto_shape c) (exact_shape cs)

begun_shape : (cs : List ℕ) (signs : List Sign) → shape_of_signs (map letter cs ++ wildcard ∷ signs) ≡ beginning cs
begun_shape [] signs = refl
begun_shape (c ∷ cs) signs = ap (onto_shape c) (begun_shape cs signs)

abbrev shape_by : Option (List Sign) → Shape
shape_by o = elim o [ None ↦ no_shape | Some signs ↦ shape_of_signs signs ]

pub is_exact : (all cs rest : List ℕ) → signs_of all ≡ option_map (λ signs. map letter cs ++ signs) (signs_of rest) → rest ≡ [] → exact_text cs ≡ shape_of all
is_exact all cs rest e none = sym (ap shape_by (e ∙ ap (λ r. option_map (λ signs. map letter cs ++ signs) (signs_of r)) none) ∙ exact_shape cs)

empty_by : (b : Bool) (o : Option (List Sign)) (s : Sign) → (if b then None else option_map (λ signs. s ∷ signs) o) ≡ Some [] → ⊥
empty_by true o s e = cc (e)
empty_by false None s e = cc (e)
empty_by false (Some signs) s e = cc (e)

one_by : (b : Bool) (s : Sign) → (if b then None else Some (s ∷ [])) ≡ Some [] → ⊥
one_by true s e = cc (e)
one_by false s e = cc (e)

two_by : (b : Bool) (o p : Option (List Sign)) (s t : Sign) → (if b then option_map (λ signs. s ∷ signs) o else option_map (λ signs. t ∷ signs) p) ≡ Some [] → ⊥
two_by true o p s t e = empty_by false o s e
two_by false o p s t e = empty_by false p t e

no_signs : (cs : List ℕ) → signs_of cs ≡ Some [] → cs ≡ []
no_signs [] e = refl
no_signs (c ∷ []) e = absurd (one_by (c == 92) (sign_of c) e)
no_signs (c ∷ d ∷ cs) e = absurd (two_by (c == 92) (signs_of cs) (signs_of (d ∷ cs)) (letter d) (sign_of c) e)

begun_by : (o : Option (List Sign)) (cs : List ℕ) → AreNoLetter o → true ≡ is_some o → (o ≡ Some [] → ⊥) → shape_by (option_map (λ signs. map letter cs ++ signs) o) ≡ beginning cs
begun_by None cs h some n = cc (some)
begun_by (Some []) cs h some n = absurd (n refl)
begun_by (Some (letter c ∷ signs)) cs h some n = absurd h
begun_by (Some (wildcard ∷ signs)) cs h some n = begun_shape cs signs

pub is_begun : (all cs rest : List ℕ) → signs_of all ≡ option_map (λ signs. map letter cs ++ signs) (signs_of rest) → StartsWithoutLetter rest →
    true ≡ is_some (signs_of rest) → (rest ≡ [] → ⊥) → beginning cs ≡ shape_of all
is_begun all cs rest e h some n = sym (ap shape_by e ∙ begun_by (signs_of rest) cs h some (λ none. n (no_signs rest none)))

none_by : (o : Option (List Sign)) (cs : List ℕ) → false ≡ is_some o → shape_by (option_map (λ signs. map letter cs ++ signs) o) ≡ no_shape
none_by None cs none = refl
none_by (Some signs) cs none = cc (none)

pub is_shapeless : (all cs rest : List ℕ) → signs_of all ≡ option_map (λ signs. map letter cs ++ signs) (signs_of rest) → false ≡ is_some (signs_of rest) → no_shape ≡ shape_of all
is_shapeless all cs rest e none = sym (ap shape_by e ∙ none_by (signs_of rest) cs none)

-- ---- whether each backslash spells

pub some_step : (s : Sign) (rest left : List ℕ) → signs_of rest ≡ option_map (λ signs. s ∷ signs) (signs_of left) → is_some (signs_of rest) ≡ is_some (signs_of left)
some_step s rest left e = ap is_some e ∙ is_some_map (signs_of left)
  where
    is_some_map : (o : Option (List Sign)) → is_some (option_map (λ signs. s ∷ signs) o) ≡ is_some o
    is_some_map None = refl
    is_some_map (Some signs) = refl

end_by : (v : List ℕ) (b : Bool) → IsUtf8 v → (length v == 0) ≡ b → IsUnsigned (chars v) → b ≡ is_some (signs_of (chars v))
end_by v true u e h = sym (ap (λ x. is_some (signs_of x)) (empty_so v e))
end_by v false u e h = ⊎_elim (λ none. absurd (not_empty v u e none)) (λ lone. sym (ap (λ x. is_some (signs_of x)) lone)) h

pub spelled_end : (v : List ℕ) → IsUtf8 v → IsUnsigned (chars v) → (length v == 0) ≡ is_some (signs_of (chars v))
spelled_end v u h = end_by v (length v == 0) u refl h
