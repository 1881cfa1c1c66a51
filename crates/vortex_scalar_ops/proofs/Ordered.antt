-- The order of contents: reversed, transitive, and equating only equal contents.
use Rattle.std.proofs.Common.{◌≡◌, ◌↔◌, refl, sym, ◌∙◌, ap, subst, Bool, true, false, ◌&&◌, ℕ, List, Option, Some, None}
use Rattle.std.specs.declared.cmp.Ordering.{Ordering}
use Rattle.std.specs.declared.cmp.Ordering.TheVariants.{Less, Equal, Greater}
use Rattle.std.specs.Ordering.{int_cmp, int_eq, bool_cmp, is_eq, nat_cmp}
use Rattle.std.specs.Cmp.{unsigned_ties, first_so, second_so}
use Rattle.std.specs.Cmp.Lexicographic.{lists_ties, bytes_decides}
use Rattle.vortex_model.specs.LogicalType.{LogicalType, eq_flag}
use Rattle.vortex_model.specs.Content.{Content, null, boolean, integer, text, byte_string, tuple, tagged, scalar, Contents, nothing, first}
use Rattle.vortex_model.specs.Order.{content_cmp, contents_cmp, and_then, is_known, bytes_cmp}
use Rattle.vortex_model.proofs.Booleans.{or_false_left, or_false_right}
use Rattle.vortex_model.proofs.Tests.{flag_so, int_so}
use Rattle.vortex_model_table.proofs.Chains.{not_above_chain, below_chain}
use Rattle.vortex_scalar_ops.specs.Equality.{eq_content, eq_contents, holds_variant, hold_variants}
use Rattle.vortex_scalar_ops.specs.Laws.{IsBelow, IsNotAbove}

-- ---- where they are equal

abbrev is_tie : Option Ordering → Bool
is_tie p = is_known is_eq p

then_tie : (p q : Option Ordering) → is_tie (and_then p q) ≡ is_tie p && is_tie q
then_tie None q = refl
then_tie (Some Less) q = refl
then_tie (Some Equal) q = refl
then_tie (Some Greater) q = refl

flag_tie : (a b : Bool) → eq_flag a b ≡ is_eq (bool_cmp a b)
flag_tie true true = refl
flag_tie true false = refl
flag_tie false true = refl
flag_tie false false = refl

mutual
  ties : (c d : Content) → holds_variant c ≡ false → eq_content c d ≡ is_tie (content_cmp c d)
  ties null null h = refl
  ties (boolean a) (boolean b) h = flag_tie a b
  ties (integer a) (integer b) h = refl
  ties (text a) (text b) h = lists_ties nat_cmp unsigned_ties a b
  ties (byte_string a) (byte_string b) h = lists_ties nat_cmp unsigned_ties a b
  ties (tuple cs) (tuple ds) h = all_tie cs ds h
  ties (tagged t c) (tagged u d) h = (λ i. is_eq (int_cmp t u) && ties c d h i) ∙ sym (then_tie (Some (int_cmp t u)) (content_cmp c d))
  ties (scalar k c) d h = absurd (cc (h))
  ties c d h = refl

  all_tie : (cs ds : Contents) → hold_variants cs ≡ false → eq_contents cs ds ≡ is_tie (contents_cmp cs ds)
  all_tie (first c cs) (first d ds) h =
      (λ i. ties c d (or_false_left _ _ h) i && all_tie cs ds (or_false_right (holds_variant c) _ h) i) ∙ sym (then_tie (content_cmp c d) (contents_cmp cs ds))
  all_tie nothing nothing h = refl
  all_tie nothing (first d ds) h = refl
  all_tie (first c cs) nothing h = refl

tie_is : (p : Option Ordering) → is_tie p ≡ true → p ≡ Some Equal
tie_is None h = absurd (cc (h))
tie_is (Some Less) h = absurd (cc (h))
tie_is (Some Equal) h = refl
tie_is (Some Greater) h = absurd (cc (h))

pub tied_same : (c d : Content) → holds_variant c ≡ false → (content_cmp c d ≡ Some Equal) ↔ (eq_content c d ≡ true)
tied_same c d h = (λ e. ties c d h ∙ ap is_tie e, λ e. tie_is (content_cmp c d) (sym (ties c d h) ∙ e))

-- ---- transitive

pub chains : (c d e : Content) → (IsBelow c d → IsBelow d e → IsBelow c e) × (IsNotAbove c d → IsNotAbove d e → IsNotAbove c e)
chains c d e = (below_chain c d e, not_above_chain c d e)

-- ---- equal contents have the same order to others

mutual
  pub alike : (c d e : Content) → eq_content c d ≡ true → content_cmp c e ≡ content_cmp d e
  alike null null e h = refl
  alike (boolean a) (boolean b) e h = ap (λ x. content_cmp (boolean x) e) (flag_so a b h)
  alike (integer a) (integer b) e h = ap (λ x. content_cmp (integer x) e) (int_so a b h)
  alike (text a) (text b) e h = ap (λ x. content_cmp (text x) e) ((bytes_decides a b).0 h)
  alike (byte_string a) (byte_string b) e h = ap (λ x. content_cmp (byte_string x) e) ((bytes_decides a b).0 h)
  alike (tuple cs) (tuple ds) (tuple es) h = all_alike cs ds es h
  alike (tuple cs) (tuple ds) e h = refl
  alike (tagged t c) (tagged u d) (tagged v e) h =
      λ i. and_then (Some (int_cmp (int_so t u (first_so _ _ h) i) v)) (alike c d e (second_so (int_eq t u) _ h) i)
  alike (tagged t c) (tagged u d) e h = refl
  alike (scalar k c) (scalar l d) null h = refl
  alike (scalar k c) (scalar l d) e h = refl
  alike c d e h = absurd (cc (h))

  all_alike : (cs ds es : Contents) → eq_contents cs ds ≡ true → contents_cmp cs es ≡ contents_cmp ds es
  all_alike nothing nothing es h = refl
  all_alike (first c cs) (first d ds) nothing h = refl
  all_alike (first c cs) (first d ds) (first e es) h = λ i. and_then (alike c d e (first_so _ _ h) i) (all_alike cs ds es (second_so (eq_content c d) _ h) i)
  all_alike cs ds es h = absurd (cc (h))
