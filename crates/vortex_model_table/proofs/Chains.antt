-- The order of contents is transitive, and equates only equal contents.
use Rattle.std.proofs.Common.{◌≡◌, refl, sym, ap, subst, Bool, true, false, ℕ, ℤ, List, ◌⊎◌, inl, inr, Option, Some, None, ◌∙◌}
use Rattle.std.specs.declared.cmp.Ordering.{Ordering}
use Rattle.std.specs.declared.cmp.Ordering.TheVariants.{Less, Equal, Greater}
use Rattle.std.specs.Ordering.{int_cmp, bool_cmp, is_eq, is_le, nat_cmp}
use Rattle.std.specs.Cmp.{IsTotalOrder, bool_cmp_total, unsigned_ties}
use Rattle.std.specs.Cmp.Lexicographic.{lists_ties, bytes_decides}
use Rattle.std.specs.FinMap.{int_cmp-IsAntisymmetric}
use Rattle.std.proofs.lemmas.Cmp.{int_cmp_total, nat_list_cmp_total}
use Rattle.vortex_model.specs.Content.{Content, null, boolean, integer, text, byte_string, tuple, tagged, scalar, Contents, nothing, first}
use Rattle.vortex_model.specs.Order.{content_cmp, contents_cmp, and_then, is_known, bytes_cmp}
use Rattle.vortex_model_table.specs.Statistics.{IsNotAbove}

abbrev IsUnder : Content → Content → Type 0
IsUnder c d = content_cmp c d ≡ Some Less

int_tied : (x y : ℤ) → int_cmp x y ≡ Equal → x ≡ y
int_tied x y e = int_cmp-IsAntisymmetric x y e

bytes_tied : (xs ys : List ℕ) → bytes_cmp xs ys ≡ Equal → xs ≡ ys
bytes_tied xs ys e = (bytes_decides xs ys).0 (lists_ties nat_cmp unsigned_ties xs ys ∙ ap is_eq e)

bool_tied : (a b : Bool) → bool_cmp a b ≡ Equal → a ≡ b
bool_tied true true e = refl
bool_tied false false e = refl
bool_tied true false e = absurd (cc (e))
bool_tied false true e = absurd (cc (e))

some_is : (o p : Ordering) → Some o ≡ Some p → o ≡ p
some_is o p e = cc (e)

first_tied : (p q : Option Ordering) → and_then p q ≡ Some Equal → p ≡ Some Equal
first_tied None q e = absurd (cc (e))
first_tied (Some Less) q e = absurd (cc (e))
first_tied (Some Equal) q e = refl
first_tied (Some Greater) q e = absurd (cc (e))

second_tied : (p q : Option Ordering) → and_then p q ≡ Some Equal → q ≡ Some Equal
second_tied None q e = absurd (cc (e))
second_tied (Some Less) q e = absurd (cc (e))
second_tied (Some Equal) q e = e
second_tied (Some Greater) q e = absurd (cc (e))

mutual
  pub tied : (c d : Content) → content_cmp c d ≡ Some Equal → c ≡ d
  tied null null e = refl
  tied (boolean a) (boolean b) e = ap (λ x. boolean x) (bool_tied a b (some_is _ _ e))
  tied (integer a) (integer b) e = ap (λ x. integer x) (int_tied a b (some_is _ _ e))
  tied (text a) (text b) e = ap (λ x. text x) (bytes_tied a b (some_is _ _ e))
  tied (byte_string a) (byte_string b) e = ap (λ x. byte_string x) (bytes_tied a b (some_is _ _ e))
  tied (tuple cs) (tuple ds) e = ap (λ x. tuple x) (all_tied cs ds e)
  tied (tagged t c) (tagged u d) e =
      λ i. tagged (int_tied t u (some_is _ _ (first_tied (Some (int_cmp t u)) (content_cmp c d) e)) i) (tied c d (second_tied (Some (int_cmp t u)) (content_cmp c d) e) i)
  tied (scalar k c) null e = absurd (cc (e))
  tied c d e = absurd (cc (e))

  all_tied : (cs ds : Contents) → contents_cmp cs ds ≡ Some Equal → cs ≡ ds
  all_tied nothing nothing e = refl
  all_tied (first c cs) (first d ds) e = λ i. first (tied c d (first_tied _ (contents_cmp cs ds) e) i) (all_tied cs ds (second_tied (content_cmp c d) _ e) i)
  all_tied cs ds e = absurd (cc (e))

-- nothing is below null
no_less : (d : Content) → content_cmp d null ≡ Some Less → ⊥
no_less null e = cc (e)
no_less (boolean a) e = cc (e)
no_less (integer a) e = cc (e)
no_less (text a) e = cc (e)
no_less (byte_string a) e = cc (e)
no_less (tuple cs) e = cc (e)
no_less (tagged t c) e = cc (e)
no_less (scalar k c) e = cc (e)

none_shorter : (ds : Contents) → contents_cmp ds nothing ≡ Some Less → ⊥
none_shorter nothing e = cc (e)
none_shorter (first d ds) e = cc (e)

-- pairs compared by x, y and z, and where these are equal by p, q and r
chained : (x y z : Option Ordering) (p q r : Option Ordering) →
    (x ≡ Some Equal → z ≡ y) → (y ≡ Some Equal → z ≡ x) → (x ≡ Some Less → y ≡ Some Less → z ≡ Some Less) → (p ≡ Some Less → q ≡ Some Less → r ≡ Some Less) →
    and_then x p ≡ Some Less → and_then y q ≡ Some Less → and_then z r ≡ Some Less
chained None y z p q r f g l m h k = absurd (cc (h))
chained (Some Greater) y z p q r f g l m h k = absurd (cc (h))
chained (Some Equal) None z p q r f g l m h k = absurd (cc (k))
chained (Some Equal) (Some Greater) z p q r f g l m h k = absurd (cc (k))
chained (Some Equal) (Some Equal) z p q r f g l m h k = ap (λ w. and_then w r) (f refl) ∙ m h k
chained (Some Equal) (Some Less) z p q r f g l m h k = ap (λ w. and_then w r) (f refl)
chained (Some Less) None z p q r f g l m h k = absurd (cc (k))
chained (Some Less) (Some Greater) z p q r f g l m h k = absurd (cc (k))
chained (Some Less) (Some Equal) z p q r f g l m h k = ap (λ w. and_then w r) (g refl)
chained (Some Less) (Some Less) z p q r f g l m h k = ap (λ w. and_then w r) (l refl refl)

less_chain : {K : Type 0} {R : K → K → Ordering} (o : IsTotalOrder R) (x y z : K) → Some (R x y) ≡ Some Less → Some (R y z) ≡ Some Less → Some (R x z) ≡ Some Less
less_chain {K} {R} o x y z h g = ap (λ p. Some p) (o.trans x y z (some_is _ _ h) (some_is _ _ g))

tag_same : (t u v : ℤ) → Some (int_cmp t u) ≡ Some Equal → Some (int_cmp t v) ≡ Some (int_cmp u v)
tag_same t u v e = ap (λ w. Some (int_cmp w v)) (int_tied t u (some_is _ _ e))

tag_alike : (t u v : ℤ) → Some (int_cmp u v) ≡ Some Equal → Some (int_cmp t v) ≡ Some (int_cmp t u)
tag_alike t u v e = ap (λ w. Some (int_cmp t w)) (sym (int_tied u v (some_is _ _ e)))

mutual
  pub below_chain : (c d e : Content) → IsUnder c d → IsUnder d e → IsUnder c e
  below_chain null d null h g = absurd (no_less d g)
  below_chain null d e h g = refl
  below_chain (boolean a) (boolean b) (boolean c) h g = less_chain bool_cmp_total a b c h g
  below_chain (integer a) (integer b) (integer c) h g = less_chain int_cmp_total a b c h g
  below_chain (text a) (text b) (text c) h g = less_chain nat_list_cmp_total a b c h g
  below_chain (byte_string a) (byte_string b) (byte_string c) h g = less_chain nat_list_cmp_total a b c h g
  below_chain (tuple cs) (tuple ds) (tuple es) h g = all_below cs ds es h g
  below_chain (tagged t c) (tagged u d) (tagged v e) h g =
      chained (Some (int_cmp t u)) (Some (int_cmp u v)) (Some (int_cmp t v)) (content_cmp c d) (content_cmp d e) (content_cmp c e)
      (tag_same t u v) (tag_alike t u v) (less_chain int_cmp_total t u v) (below_chain c d e) h g
  below_chain (boolean a) (boolean b) e h g = absurd (cc (g))
  below_chain (integer a) (integer b) e h g = absurd (cc (g))
  below_chain (text a) (text b) e h g = absurd (cc (g))
  below_chain (byte_string a) (byte_string b) e h g = absurd (cc (g))
  below_chain (tuple cs) (tuple ds) e h g = absurd (cc (g))
  below_chain (tagged t c) (tagged u d) e h g = absurd (cc (g))
  below_chain (scalar k c) null e h g = absurd (cc (h))
  below_chain c d e h g = absurd (cc (h))

  all_below : (cs ds es : Contents) → contents_cmp cs ds ≡ Some Less → contents_cmp ds es ≡ Some Less → contents_cmp cs es ≡ Some Less
  all_below nothing ds nothing h g = absurd (none_shorter ds g)
  all_below nothing ds (first e es) h g = refl
  all_below (first c cs) nothing es h g = absurd (cc (h))
  all_below (first c cs) (first d ds) nothing h g = absurd (cc (g))
  all_below (first c cs) (first d ds) (first e es) h g =
      chained (content_cmp c d) (content_cmp d e) (content_cmp c e) (contents_cmp cs ds) (contents_cmp ds es) (contents_cmp cs es)
      (λ q. ap (λ w. content_cmp w e) (tied c d q)) (λ q. ap (λ w. content_cmp c w) (sym (tied d e q))) (below_chain c d e) (all_below cs ds es) h g

-- c is equal to d or below it
abbrev Outcome : Content → Content → Type 0
Outcome c d = (c ≡ d) ⊎ IsUnder c d

outcome : (c d : Content) (p : Option Ordering) → content_cmp c d ≡ p → is_known is_le p ≡ true → Outcome c d
outcome c d None e h = absurd (cc (h))
outcome c d (Some Less) e h = inr e
outcome c d (Some Equal) e h = inl (tied c d e)
outcome c d (Some Greater) e h = absurd (cc (h))

pub not_above_chain : (c d e : Content) → IsNotAbove c d → IsNotAbove d e → IsNotAbove c e
not_above_chain c d e h g = from (outcome c d (content_cmp c d) refl h) (outcome d e (content_cmp d e) refl g)
  where
    from : Outcome c d → Outcome d e → IsNotAbove c e
    from (inl p) q = subst (λ x. IsNotAbove x e) (sym p) g
    from (inr p) (inl q) = subst (λ x. IsNotAbove c x) q h
    from (inr p) (inr q) = ap (is_known is_le) (below_chain c d e p q)
