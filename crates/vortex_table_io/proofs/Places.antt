-- Where the items of blocks are, and how that changes with a block.
use Rattle.std.proofs.Common.{◌≡◌, refl, sym, ap, ◌∙◌, ℕ, zero, suc, ◌+◌, ◌<◌, List, [], ◌∷◌, ◌++◌, length, take, drop, get_or, arith}
use Rattle.std.specs.Prelude.{slice_set, Result, Ok, Err, OnErr}
use Rattle.std.proofs.lemmas.List.{append_assoc, length-append, length-take, length-drop, get_or_append_left, get_or-append-add, set-append_left, append-nil, take-append-le, drop-append-le}
use Rattle.std.specs.declared.vec.Vec.{Vec}
use Rattle.vortex_table_io.specs.Blocks.{items_in, IsAt}

pub on_any : {A E X : Type 0} (r : Result A E) → X → OnErr r X
on_any (Ok a) x = tt
on_any (Err e) x = x

-- ---- lists

take_past : {T : Type 0} (xs ys : List T) (n m : ℕ) → m ≡ length xs + n → take m (xs ++ ys) ≡ xs ++ take n ys
take_past [] ys n m at = ap (λ k. take k ys) (let e : m ≡ n = omega (arith, at) in e)
take_past (x ∷ xs) ys n zero at = absurd (omega (arith, at))
take_past (x ∷ xs) ys n (suc m) at = ap (λ l. x ∷ l) (take_past xs ys n m (omega (arith, at)))

drop_past : {T : Type 0} (xs ys : List T) (n m : ℕ) → m ≡ length xs + n → drop m (xs ++ ys) ≡ drop n ys
drop_past [] ys n m at = ap (λ k. drop k ys) (let e : m ≡ n = omega (arith, at) in e)
drop_past (x ∷ xs) ys n zero at = absurd (omega (arith, at))
drop_past (x ∷ xs) ys n (suc m) at = drop_past xs ys n m (omega (arith, at))

set_past_front : {T : Type 0} (xs ys : List T) (n m : ℕ) (a : T) → m ≡ length xs + n → slice_set (xs ++ ys) m a ≡ xs ++ slice_set ys n a
set_past_front [] ys n m a at = ap (λ k. slice_set ys k a) (let e : m ≡ n = omega (arith, at) in e)
set_past_front (x ∷ xs) ys n zero a at = absurd (omega (arith, at))
set_past_front (x ∷ xs) ys n (suc m) a at = ap (λ l. x ∷ l) (set_past_front xs ys n m a (omega (arith, at)))

abbrev pub without : {T : Type 0} → List T → ℕ → List T
without xs i = take i xs ++ drop (i + 1) xs

pub length_without : {T : Type 0} (xs : List T) (i : ℕ) → i < length xs → length (without xs i) + 1 ≡ length xs
length_without xs i inside =
    let all = length-append (take i xs) (drop (i + 1) xs) in let front = length-take i xs in let back = length-drop (i + 1) xs in
    omega (arith, all, front, back, inside)

module _ {T Z : Type 0} where
  -- ---- the search for an item

  pub one_block_more : (blocks : List (Vec T Z)) (n : ℕ) (b : Vec T Z) → n < length blocks → b ≡ get_or blocks n b → length (items_in (take (suc n) blocks)) ≡ length (items_in (take n blocks)) + length b.items
  one_block_more [] n b inside is = absurd (omega (arith, inside))
  one_block_more (x ∷ blocks) zero b inside is =
      let same : length (x.items ++ []) ≡ length b.items = ap length (append-nil x.items) ∙ ap (λ v. length v.items) (sym is) in omega (arith, same)
  one_block_more (x ∷ blocks) (suc n) b inside is =
      let rest = one_block_more blocks n b (omega (arith, inside)) is in
      let longer = length-append x.items (items_in (take (suc n) blocks)) in let shorter = length-append x.items (items_in (take n blocks)) in
      omega (arith, rest, longer, shorter)

  pub found : (blocks : List (Vec T Z)) (n offset index : ℕ) (b : Vec T Z) → n < length blocks → b ≡ get_or blocks n b → offset < length b.items → length (items_in (take n blocks)) + offset ≡ index → IsAt blocks n offset index
  found [] n offset index b inside is within at = absurd (omega (arith, inside))
  found (x ∷ blocks) zero offset index b inside is within at = (
    (let e = at in omega (arith, e)),
    (let same : length x.items ≡ length b.items = ap (λ v. length v.items) (sym is) in omega (arith, same, within)),
  )
  found (x ∷ blocks) (suc n) offset index b inside is within at =
      let split = length-append x.items (items_in (take n blocks)) in (
        length (items_in (take n blocks)) + offset,
        omega (arith, split, at),
        found blocks n offset (length (items_in (take n blocks)) + offset) b (omega (arith, inside)) is within refl,
      )

  pub inside_of : (blocks : List (Vec T Z)) (b offset index : ℕ) → IsAt blocks b offset index → b < length blocks
  inside_of [] b offset index at = absurd at
  inside_of (x ∷ blocks) zero offset index at = omega (arith)
  inside_of (x ∷ blocks) (suc b) offset index at = let rest = inside_of blocks b offset at.0 at.2 in omega (arith, rest)

  pub within_of : (blocks : List (Vec T Z)) (b offset index : ℕ) (v : Vec T Z) → IsAt blocks b offset index → v ≡ get_or blocks b v → offset < length v.items
  within_of [] b offset index v at is = absurd at
  within_of (x ∷ blocks) zero offset index v at is =
      let same : length v.items ≡ length x.items = ap (λ v. length v.items) is in let h = at.1 in omega (arith, same, h)
  within_of (x ∷ blocks) (suc b) offset index v at is = within_of blocks b offset at.0 v at.2 is

  pub item_of : (blocks : List (Vec T Z)) (b offset index : ℕ) (v : Vec T Z) (d : T) → IsAt blocks b offset index → v ≡ get_or blocks b v → get_or v.items offset d ≡ get_or (items_in blocks) index d
  item_of [] b offset index v d at is = absurd at
  item_of (x ∷ blocks) zero offset index v d at is =
      ap (λ v. get_or v.items offset d) is ∙ sym (get_or_append_left x.items (items_in blocks) d offset at.1) ∙ ap (λ n. get_or (x.items ++ items_in blocks) n d) at.0
  item_of (x ∷ blocks) (suc b) offset index v d at is =
      item_of blocks b offset at.0 v d at.2 is ∙ sym (get_or-append-add x.items (items_in blocks) at.0 d) ∙ ap (λ n. get_or (x.items ++ items_in blocks) n d) (sym at.1)

  -- ---- a block that changes

  pub replaced : (blocks : List (Vec T Z)) (b offset index : ℕ) (v new : Vec T Z) (item : T) → IsAt blocks b offset index → v ≡ get_or blocks b v → new.items ≡ slice_set v.items offset item →
      items_in (slice_set blocks b new) ≡ slice_set (items_in blocks) index item
  replaced [] b offset index v new item at is set = absurd at
  replaced (x ∷ blocks) zero offset index v new item at is set =
      ap (λ l. l ++ items_in blocks) (set ∙ ap (λ v. slice_set v.items offset item) is) ∙ sym (set-append_left x.items (items_in blocks) offset item at.1)
      ∙ ap (λ n. slice_set (x.items ++ items_in blocks) n item) at.0
  replaced (x ∷ blocks) (suc b) offset index v new item at is set =
      ap (λ l. x.items ++ l) (replaced blocks b offset at.0 v new item at.2 is set) ∙ sym (set_past_front x.items (items_in blocks) at.0 index item at.1)

  pub removed : (blocks : List (Vec T Z)) (b offset index : ℕ) (v new : Vec T Z) → IsAt blocks b offset index → v ≡ get_or blocks b v → new.items ≡ without v.items offset →
      items_in (slice_set blocks b new) ≡ without (items_in blocks) index
  removed [] b offset index v new at is set = absurd at
  removed (x ∷ blocks) zero offset index v new at is set =
      let h = at.1 in
      ap (λ l. l ++ items_in blocks) (set ∙ ap (λ v. without v.items offset) is)
      ∙ append_assoc (take offset x.items) (drop (offset + 1) x.items) (items_in blocks)
      ∙ (λ i. sym (take-append-le offset x.items (items_in blocks) (omega (arith, h))) i ++ sym (drop-append-le (offset + 1) x.items (items_in blocks) (omega (arith, h))) i)
      ∙ ap (without (x.items ++ items_in blocks)) at.0
  removed (x ∷ blocks) (suc b) offset index v new at is set =
      let here = at.1 in
      ap (λ l. x.items ++ l) (removed blocks b offset at.0 v new at.2 is set)
      ∙ sym (append_assoc x.items (take at.0 (items_in blocks)) (drop (at.0 + 1) (items_in blocks)))
      ∙ (λ i. sym (take_past x.items (items_in blocks) at.0 index here) i ++ sym (drop_past x.items (items_in blocks) (at.0 + 1) (index + 1) (omega (arith, here))) i)

  pub unchanged_in : (blocks : List (Vec T Z)) (b : ℕ) (v new : Vec T Z) → v ≡ get_or blocks b v → b < length blocks → new.items ≡ v.items → items_in (slice_set blocks b new) ≡ items_in blocks
  unchanged_in [] b v new is inside set = absurd (omega (arith, inside))
  unchanged_in (x ∷ blocks) zero v new is inside set = ap (λ l. l ++ items_in blocks) (set ∙ ap (λ v. v.items) is)
  unchanged_in (x ∷ blocks) (suc b) v new is inside set = ap (λ l. x.items ++ l) (unchanged_in blocks b v new is (omega (arith, inside)) set)

  pub pushed_last : (blocks : List (Vec T Z)) (b : ℕ) (v new : Vec T Z) (item : T) → v ≡ get_or blocks b v → suc b ≡ length blocks → new.items ≡ v.items ++ item ∷ [] → items_in (slice_set blocks b new) ≡ items_in blocks ++ item ∷ []
  pushed_last [] b v new item is last set = absurd (omega (arith, last))
  pushed_last (x ∷ []) zero v new item is last set =
      append-nil new.items ∙ set ∙ ap (λ l. l ++ item ∷ []) (ap (λ v. v.items) is ∙ sym (append-nil x.items))
  pushed_last (x ∷ []) (suc b) v new item is last set = absurd (omega (arith, last))
  pushed_last (x ∷ y ∷ blocks) zero v new item is last set = absurd (omega (arith, last))
  pushed_last (x ∷ y ∷ blocks) (suc b) v new item is last set =
      ap (λ l. x.items ++ l) (pushed_last (y ∷ blocks) b v new item is (omega (arith, last)) set) ∙ sym (append_assoc x.items (items_in (y ∷ blocks)) (item ∷ []))
