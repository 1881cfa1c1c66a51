-- Items of lists, one after another.
use Rattle.std.proofs.Common.{◌≡◌, ◌≢◌, ◌≤◌, ◌<◌, ◌+◌, ℕ, zero, suc, List, [], ◌∷◌, length, drop, drop-cons, get_or, Option, Some, None, refl, sym, ap, ◌∙◌, arith, add-one, Bor, Bool, true, false, ◌&&◌}
use Rattle.std.specs.Option.{option_copied}
use Rattle.std.specs.declared.cmp.Ordering.{Ordering}
use Rattle.std.specs.declared.cmp.Ordering.TheVariants.{Less, Equal, Greater}
use Rattle.vortex_model.specs.Content.{contents_of}
use Rattle.vortex_model.specs.Order.{content_cmp, contents_cmp, and_then}
use Rattle.vortex_scalar_value.specs.View.{content_in, content_at, raws_in}
use Rattle.vortex_scalar_value.specs.declared.scalar_value.ScalarValue.{ScalarValue}
use Rattle.vortex_scalar_ops.specs.Equality.{eq_content, eq_contents}

abbrev pub Items : Type 0
Items = List (Option ScalarValue)

abbrev pub items_cmp : Items → Items → Option Ordering
items_cmp xs ys = contents_cmp (contents_of (raws_in xs)) (contents_of (raws_in ys))

abbrev pub items_same : Items → Items → Bool
items_same xs ys = eq_contents (contents_of (raws_in xs)) (contents_of (raws_in ys))

-- the content of a borrowed value
pub says : (r : Option (Bor ScalarValue)) (x : Option ScalarValue) → option_copied r ≡ x → content_in x ≡ content_at r
says None x p = ap content_in (sym p)
says (Some r) x p = ap content_in (sym p)

-- the first item, and the rest
pub first_item : (xs : Items) (i : ℕ) (x : Option ScalarValue) → i < length xs → x ≡ get_or xs i x → drop i xs ≡ x ∷ drop (i + 1) xs
first_item xs i x h e = drop-cons xs i x h ∙ ap (λ y. y ∷ drop (suc i) xs) (sym e) ∙ ap (λ n. x ∷ drop n xs) (sym (add-one i))

-- both have an item at i
module _ (xs ys : Items) (i : ℕ) (x y : Option ScalarValue) (o p : Option (Bor ScalarValue))
    (h : i < length xs) (g : i < length ys) (e : x ≡ get_or xs i x) (f : y ≡ get_or ys i y) (a : option_copied o ≡ x) (b : option_copied p ≡ y) where
  pub cmp_next : items_cmp (drop i xs) (drop i ys) ≡ and_then (content_cmp (content_at o) (content_at p)) (items_cmp (drop (i + 1) xs) (drop (i + 1) ys))
  cmp_next =
      (λ j. items_cmp (first_item xs i x h e j) (first_item ys i y g f j))
      ∙ (λ j. and_then (content_cmp (says o x a j) (says p y b j)) (items_cmp (drop (i + 1) xs) (drop (i + 1) ys)))

drop_past : (xs : Items) (i : ℕ) → length xs ≤ i → drop i xs ≡ []
drop_past [] zero p = refl
drop_past [] (suc i) p = refl
drop_past (x ∷ xs) zero p = absurd (omega arith)
drop_past (x ∷ xs) (suc i) p = drop_past xs i (omega arith)

more_cmp : (xs : Items) → 0 < length xs → items_cmp xs [] ≡ Some Greater
more_cmp [] h = absurd (omega arith)
more_cmp (x ∷ xs) h = refl

fewer_cmp : (ys : Items) → 0 < length ys → items_cmp [] ys ≡ Some Less
fewer_cmp [] h = absurd (omega arith)
fewer_cmp (y ∷ ys) h = refl

left_length : (xs : Items) (i : ℕ) → i < length xs → 0 < length (drop i xs)
left_length [] i h = absurd (omega arith)
left_length (x ∷ xs) zero h = h
left_length (x ∷ xs) (suc i) h = left_length xs i (omega arith)

-- the left list is longer, or shorter, or both end
pub longer : (xs ys : Items) (i : ℕ) → i < length xs → length ys ≤ i → items_cmp (drop i xs) (drop i ys) ≡ Some Greater
longer xs ys i h g = ap (items_cmp (drop i xs)) (drop_past ys i g) ∙ more_cmp (drop i xs) (left_length xs i h)

pub shorter : (xs ys : Items) (i : ℕ) → length xs ≤ i → i < length ys → items_cmp (drop i xs) (drop i ys) ≡ Some Less
shorter xs ys i h g = ap (λ zs. items_cmp zs (drop i ys)) (drop_past xs i h) ∙ fewer_cmp (drop i ys) (left_length ys i g)

pub ended : (xs ys : Items) (i : ℕ) → length xs ≤ i → length ys ≤ i → items_cmp (drop i xs) (drop i ys) ≡ Some Equal
ended xs ys i h g = λ j. items_cmp (drop_past xs i h j) (drop_past ys i g j)

-- lists of different lengths are unequal
pub unequal : (xs ys : Items) → length xs ≢ length ys → items_same xs ys ≡ false
unequal [] [] n = absurd (n refl)
unequal [] (y ∷ ys) n = refl
unequal (x ∷ xs) [] n = refl
unequal (x ∷ xs) (y ∷ ys) n = and_not (eq_content (content_in x) (content_in y)) (items_same xs ys) (unequal xs ys (λ e. n (ap suc e)))
  where
    and_not : (b c : Bool) → c ≡ false → b && c ≡ false
    and_not true c e = e
    and_not false c e = refl
