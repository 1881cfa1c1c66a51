-- Rows taken at indices, of which some may be null.
use Rattle.std.proofs.Common.{◌≡◌, ◌<◌, ℕ, ℤ, pos, Bool, false, cond, List, length, get_or, Option, Some, None, refl, sym, ap, subst, ◌∙◌}
use Rattle.std.specs.List.{All}
use Rattle.vortex_model.specs.LogicalType.{Nullability, non_nullable, nullable, LogicalType, null_only, boolean_type, integer_type, float, decimal, utf8, binary, list, fixed_list, mapping, struct, union, variant, extension, IntKind, nullability_of, either_nullable, with_nullability, nullable_inside}
use Rattle.vortex_model.specs.Content.{Content, null, boolean, integer, text, byte_string, tuple, tagged, scalar}
use Rattle.vortex_model.specs.Valid.{InRange}
use Rattle.vortex_arrays_model.specs.Layout.{Layout, bools, numbers, dictionary, Valid, len_of, array_type_of, content_at, is_valid, pick, IsSound, HasLength}
use Rattle.vortex_arrays_model.specs.Picks.{Picks, PicksSome, PicksSomeValid, position_of, content_at_some, is_valid_some}

-- a type with its own nullability
pub eq_type : (k : LogicalType) → with_nullability (nullability_of k) k ≡ k
eq_type (extension x m k) = ap (extension x m) (eq_type k)
eq_type null_only = refl
eq_type (boolean_type n) = refl
eq_type (integer_type i n) = refl
eq_type (float f n) = refl
eq_type (decimal p s n) = refl
eq_type (utf8 n) = refl
eq_type (binary n) = refl
eq_type (list k n) = refl
eq_type (fixed_list k s n) = refl
eq_type (mapping k v s n) = refl
eq_type (struct fs n) = refl
eq_type (union vs n) = refl
eq_type (variant n) = refl

-- a type that is nullable where another is, too
pub type_within : (n : Nullability) (k : LogicalType) → with_nullability (either_nullable n (nullability_of k)) k ≡ nullable_inside n k
type_within non_nullable k = eq_type k
type_within nullable k = refl

-- the last nullability applies
pub last_nullability : (n m : Nullability) (k : LogicalType) → with_nullability n (with_nullability m k) ≡ with_nullability n k
last_nullability n m (extension x a k) = ap (extension x a) (last_nullability n m k)
last_nullability n m null_only = refl
last_nullability n m (boolean_type l) = refl
last_nullability n m (integer_type i l) = refl
last_nullability n m (float f l) = refl
last_nullability n m (decimal p s l) = refl
last_nullability n m (utf8 l) = refl
last_nullability n m (binary l) = refl
last_nullability n m (list k l) = refl
last_nullability n m (fixed_list k s l) = refl
last_nullability n m (mapping k v s l) = refl
last_nullability n m (struct fs l) = refl
last_nullability n m (union vs l) = refl
last_nullability n m (variant l) = refl

pick_by_position : (a : Layout) (c : Content) → pick c (λ j. content_at a j) ≡ content_at_some a (position_of c)
pick_by_position a null = refl
pick_by_position a (boolean b) = refl
pick_by_position a (integer z) = refl
pick_by_position a (text bs) = refl
pick_by_position a (byte_string bs) = refl
pick_by_position a (tuple cs) = refl
pick_by_position a (tagged t c) = refl
pick_by_position a (scalar k c) = refl

-- a dictionary has the values at its codes
pub picks_some_dictionary : (c v : Layout) (g : Bool) → IsSound (dictionary c v g) → PicksSome v (dictionary c v g) (nullability_of (array_type_of c)) (len_of c) (λ i. position_of (content_at c i))
picks_some_dictionary c v g s = record { sound = s; len = refl; kind = refl; content = λ i l. pick_by_position v (content_at c i) }

-- where no index is null, the rows are picked
pub picks_some_all : (a r : Layout) (n : ℕ) (f : ℕ → ℕ) → Picks a r n f → PicksSome a r non_nullable n (λ i. Some (f i))
picks_some_all a r n f p = record { sound = p.sound; len = p.len; kind = p.kind ∙ sym (eq_type (array_type_of a)); content = p.content }

pub picks_of_some : (a r : Layout) (n : ℕ) (f : ℕ → ℕ) → PicksSome a r non_nullable n (λ i. Some (f i)) → Picks a r n f
picks_of_some a r n f p = record { sound = p.sound; len = p.len; kind = p.kind ∙ eq_type (array_type_of a); content = p.content }

-- a leaf's value where its validity has a valid row
bool_taken : (xs ys : List Bool) (v w : Valid) (i : ℕ) (p : Option ℕ) → is_valid w i ≡ is_valid_some v p → ((j : ℕ) → p ≡ Some j → get_or ys i false ≡ get_or xs j false) → content_at (bools ys w) i ≡ content_at_some (bools xs v) p
bool_taken xs ys v w i None e h = ap (λ b. cond b (boolean (get_or ys i false)) null) e
bool_taken xs ys v w i (Some j) e h = ap (λ b. cond b (boolean (get_or ys i false)) null) e ∙ ap (λ b. cond (is_valid v j) (boolean b) null) (h j refl)

number_taken : (k : IntKind) (xs ys : List ℤ) (v w : Valid) (i : ℕ) (p : Option ℕ) → is_valid w i ≡ is_valid_some v p → ((j : ℕ) → p ≡ Some j → get_or ys i (pos 0) ≡ get_or xs j (pos 0)) → content_at (numbers k ys w) i ≡ content_at_some (numbers k xs v) p
number_taken k xs ys v w i None e h = ap (λ b. cond b (integer (get_or ys i (pos 0))) null) e
number_taken k xs ys v w i (Some j) e h = ap (λ b. cond b (integer (get_or ys i (pos 0))) null) e ∙ ap (λ z. cond (is_valid v j) (integer z) null) (h j refl)

pub picks_some_bools : (xs ys : List Bool) (v w : Valid) (m : Nullability) (n : ℕ) (f : ℕ → Option ℕ) → length ys ≡ n → ((i j : ℕ) → i < n → f i ≡ Some j → get_or ys i false ≡ get_or xs j false) → PicksSomeValid v w m n f → PicksSome (bools xs v) (bools ys w) m n f
picks_some_bools xs ys v w m n f len same p = record {
  sound = subst (HasLength w) (sym len) p.fits;
  len = len;
  kind = ap boolean_type p.nullability;
  content = λ i l. bool_taken xs ys v w i (f i) (p.bits i l) (λ j e. same i j l e);
}

pub picks_some_numbers : (k : IntKind) (xs ys : List ℤ) (v w : Valid) (m : Nullability) (n : ℕ) (f : ℕ → Option ℕ) → length ys ≡ n → All (InRange k) ys → ((i j : ℕ) → i < n → f i ≡ Some j → get_or ys i (pos 0) ≡ get_or xs j (pos 0)) → PicksSomeValid v w m n f → PicksSome (numbers k xs v) (numbers k ys w) m n f
picks_some_numbers k xs ys v w m n f len fit same p = record {
  sound = (fit, subst (HasLength w) (sym len) p.fits);
  len = len;
  kind = ap (integer_type k) p.nullability;
  content = λ i l. number_taken k xs ys v w i (f i) (p.bits i l) (λ j e. same i j l e);
}

pub ruleset taken = (picks_some_dictionary, picks_some_all, picks_some_bools, picks_some_numbers)
