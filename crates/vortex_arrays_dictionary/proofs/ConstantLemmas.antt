-- Rows that are all equal.
use Rattle.std.proofs.Common.{◌≡◌, ◌<◌, ◌≤◌, ◌+◌, ℕ, ℤ, pos, Bool, true, false, not, ◌&&◌, List, [], ◌∷◌, length, map, take, get_or, refl, sym, ap, subst, ◌∙◌, arith}
use Rattle.std.specs.Prelude.{◌==◌, nat_eq}
use Rattle.std.specs.Bool.{beq}
use Rattle.std.specs.List.{list_all}
use Rattle.std.specs.Ordering.{int_eq}
use Rattle.std.proofs.lemmas.Bool.{false≢true, ne_eqb}
use Rattle.std.proofs.lemmas.List.{take_all, get_or_default}
use Rattle.std.proofs.lemmas.List.Folds.{list_all_at, list_all_more}
use Rattle.vortex_model.specs.Content.{Content, null, tuple, tagged, scalar, Contents, first, is_null, equal_content, equal_contents}
use Rattle.vortex_model.proofs.Booleans.{or_false_left, or_false_right}
use Rattle.vortex_scalar_ops.specs.Equality.{eq_content, eq_contents, holds_variant, hold_variants}
use Rattle.vortex_scalar_ops.proofs.EqualityLemmas.{eq_equiv}
use Rattle.vortex_arrays_builder.specs.Fits.{fits_constant}
use Rattle.vortex_arrays_dictionary.specs.Firsts.{AreKeysOf}
use Rattle.vortex_arrays_dictionary.proofs.ColumnLemmas.{naturals_keyed}

-- ---- the two equalities agree for values other than variants

mutual
  without_variants : (c d : Content) → holds_variant c ≡ false → eq_content c d ≡ equal_content c d
  without_variants (tuple cs) (tuple ds) h = all_without cs ds h
  without_variants (tagged t c) (tagged u d) h = ap (λ b. int_eq t u && b) (without_variants c d h)
  without_variants (scalar k c) d h = absurd (cc h)
  without_variants c d h = refl

  all_without : (cs ds : Contents) → hold_variants cs ≡ false → eq_contents cs ds ≡ equal_contents cs ds
  all_without (first c cs) (first d ds) h =
      λ i. without_variants c d (or_false_left (holds_variant c) (hold_variants cs) h) i && all_without cs ds (or_false_right (holds_variant c) (hold_variants cs) h) i
  all_without cs ds h = refl

-- ---- two rows

null_by : (b : Bool) (c : Content) → b ≡ not (is_null c) → b ≡ false → c ≡ null
null_by b null e f = refl
null_by b c e f = absurd (false≢true (sym f ∙ e))

there_by : (b : Bool) (c : Content) → b ≡ not (is_null c) → b ≡ true → is_null c ≡ false
there_by b null e f = absurd (false≢true (sym e ∙ f))
there_by b c e f = refl

null_first : (d : Content) → is_null d ≡ false → equal_content null d ≡ false
null_first null h = absurd (cc h)
null_first d h = refl

null_last : (c : Content) → is_null c ≡ false → equal_content c null ≡ false
null_last null h = absurd (cc h)
null_last c h = refl

same_nulls : (p q : Bool) (c d : Content) → p ≡ not (is_null c) → q ≡ not (is_null d) → (p && q) ≡ false → beq p q ≡ equal_content c d
same_nulls true true c d e f h = absurd (cc h)
same_nulls true false c d e f h = sym (ap (equal_content c) (null_by false d f refl) ∙ null_last c (there_by true c e refl))
same_nulls false true c d e f h = sym (ap (λ x. equal_content x d) (null_by false c e refl) ∙ null_first d (there_by true d f refl))
same_nulls false false c d e f h = sym (λ i. equal_content (null_by false c e refl i) (null_by false d f refl i))

module _ {K : Type 0} (eq : K → K → Bool) (keys : List K) (present : List Bool) (cs : List Content) (t : AreKeysOf eq keys present cs) where
  pub both_present : (i j : ℕ) (x y : K) → i < length keys → j < length keys → x ≡ get_or keys i x → y ≡ get_or keys j y → get_or present i false ≡ true → get_or present j false ≡ true → eq x y ≡ equal_content (get_or cs i null) (get_or cs j null)
  both_present i j x y l m e f p q = (λ k. eq (e k) ((f ∙ get_or_default keys j y x m) k)) ∙ t.tells i j x l m p q

  pub one_null : (i j : ℕ) → i < length keys → j < length keys → (get_or present i false && get_or present j false) ≡ false → beq (get_or present i false) (get_or present j false) ≡ equal_content (get_or cs i null) (get_or cs j null)
  one_null i j l m h = same_nulls (get_or present i false) (get_or present j false) (get_or cs i null) (get_or cs j null) (t.nulls i l) (t.nulls j m) h

-- ---- all rows

abbrev as_first : List Content → Content → Bool
as_first cs d = equal_content (get_or cs 0 null) d

as_constant : (cs : List Content) → 0 < length cs → holds_variant (get_or cs 0 null) ≡ false → list_all (as_first cs) cs ≡ fits_constant cs
as_constant [] l h = absurd (omega arith)
as_constant (c ∷ cs) l h =
    (λ i. list_all (λ d. sym (without_variants c d h) i) (c ∷ cs))
    ∙ (λ i. eq_equiv.refl c i && list_all (λ d. eq_content c d) cs)

pub one_more : (cs : List Content) (i : ℕ) → i < length cs → list_all (as_first cs) (take i cs) ≡ true → as_first cs (get_or cs i null) ≡ true → list_all (as_first cs) (take (i + 1) cs) ≡ true
one_more cs i l h e = list_all_more (as_first cs) cs i null l ∙ (λ k. h k && e k)

pub one_other : (cs : List Content) (i : ℕ) → i < length cs → holds_variant (get_or cs 0 null) ≡ false → as_first cs (get_or cs i null) ≡ false → false ≡ fits_constant cs
one_other cs i l h e = sym (list_all_at (as_first cs) cs i null l e) ∙ as_constant cs (omega (arith, l)) h

all_same : (cs : List Content) (i : ℕ) → length cs ≤ i → 0 < length cs → holds_variant (get_or cs 0 null) ≡ false → list_all (as_first cs) (take i cs) ≡ true → true ≡ fits_constant cs
all_same cs i l some h e = sym e ∙ ap (list_all (as_first cs)) (take_all i cs l) ∙ as_constant cs some h

pub all_or_none : (cs : List Content) (n i : ℕ) → length cs ≡ n → n ≤ i → holds_variant (get_or cs 0 null) ≡ false → list_all (as_first cs) (take i cs) ≡ true → not (n == 0) ≡ fits_constant cs
all_or_none [] n i e l h a = ap (λ m. not (m == 0)) (sym e)
all_or_none (c ∷ cs) n i e l h a = ap (λ m. not (m == 0)) (sym e) ∙ ap not (ne_eqb (length (c ∷ cs)) 0 (λ q. omega (arith, q))) ∙ all_same (c ∷ cs) i (omega (arith, e, l)) (omega arith) h a

-- natural numbers are the keys of the same integers
pub items_same : (zs : List ℤ) (xs : List ℕ) (present : List Bool) (b : Bool) → zs ≡ map pos xs
    → ((cs : List Content) → AreKeysOf nat_eq xs present cs → holds_variant (get_or cs 0 null) ≡ false → b ≡ fits_constant cs)
    → (cs : List Content) → AreKeysOf int_eq zs present cs → holds_variant (get_or cs 0 null) ≡ false → b ≡ fits_constant cs
items_same zs xs present b e h cs t = h cs (naturals_keyed xs present cs (subst (λ ys. AreKeysOf int_eq ys present cs) e t))
