-- Expressions joined in rounds.
use Rattle.std.proofs.Common.{◌≡◌, ◌+◌, ◌*◌, ◌^◌, ◌≤◌, ◌<◌, ℕ, zero, suc, max, List, [], ◌∷◌, length, map, Option, Some, None, option_map, IfSome, Bool, true, false, refl, sym, ap, ◌∙◌, arith}
use Rattle.std.proofs.Math.Nat.{pow-suc}
use Rattle.std.specs.List.{fold, reduce}
use Rattle.vortex_model.specs.Content.{Content, boolean}
use Rattle.vortex_model_table.specs.Expression.{Expression}
use Rattle.vortex_model_table.specs.Rewrite.{first_of_list}
use Rattle.vortex_model_table.specs.Truth.{kleene_and, kleene_or}
use Rattle.vortex_stats_expr.specs.Collect.{paired, rounds, collected, depth_of, deepest, IsShallow}

-- ---- Kleene's connectives are associative

pub and_assoc : (a b c : Content) → kleene_and (kleene_and a b) c ≡ kleene_and a (kleene_and b c)
and_assoc (boolean false) b c = refl
and_assoc (boolean true) (boolean false) c = refl
and_assoc (boolean true) b (boolean false) = refl
and_assoc (boolean true) b c = refl
and_assoc a (boolean false) c = refl
and_assoc a b (boolean false) = refl
and_assoc a b c = refl

pub or_assoc : (a b c : Content) → kleene_or (kleene_or a b) c ≡ kleene_or a (kleene_or b c)
or_assoc (boolean true) b c = refl
or_assoc (boolean false) (boolean true) c = refl
or_assoc (boolean false) b (boolean true) = refl
or_assoc (boolean false) b c = refl
or_assoc a (boolean true) c = refl
or_assoc a b (boolean true) = refl
or_assoc a b c = refl

-- ---- rounds

module _ (join : Expression → Expression → Expression) where
  -- a round leaves no more, and fewer of two or more
  no_more : (es : List Expression) → length (paired join es) ≤ length es
  no_more [] = omega arith
  no_more (x ∷ []) = omega arith
  no_more (x ∷ y ∷ es) = omega (arith, no_more es)

  pub fewer : (es : List Expression) → 1 < length es → length (paired join es) < length es
  fewer [] h = absurd (omega (arith, h))
  fewer (x ∷ []) h = absurd (omega (arith, h))
  fewer (x ∷ y ∷ es) h = omega (arith, no_more es)

  -- enough rounds leave one
  pub one_left : (n : ℕ) (es : List Expression) → length es ≤ suc n → length (rounds join n es) ≤ 1
  one_left zero es h = h
  one_left (suc n) [] h = one_left n [] (omega arith)
  one_left (suc n) (x ∷ []) h = one_left n (x ∷ []) (omega arith)
  one_left (suc n) (x ∷ y ∷ es) h =
      one_left n (paired join (x ∷ y ∷ es)) (omega (arith, h, fewer (x ∷ y ∷ es) (omega arith)))

  -- where one is left or none, rounds change nothing
  few : (n : ℕ) (es : List Expression) → length es ≤ 1 → rounds join n es ≡ es
  few zero es h = refl
  few (suc n) [] h = few n [] (omega arith)
  few (suc n) (x ∷ []) h = few n (x ∷ []) (omega arith)
  few (suc n) (x ∷ y ∷ es) h = absurd (omega (arith, h))

  enough : (m n : ℕ) (es : List Expression) → length es ≤ suc m → length es ≤ suc n → rounds join m es ≡ rounds join n es
  enough zero n es h g = sym (few n es h)
  enough (suc m) zero es h g = few (suc m) es g
  enough (suc m) (suc n) [] h g = few m [] (omega arith) ∙ sym (few n [] (omega arith))
  enough (suc m) (suc n) (x ∷ []) h g = few m (x ∷ []) (omega arith) ∙ sym (few n (x ∷ []) (omega arith))
  enough (suc m) (suc n) (x ∷ y ∷ es) h g =
      let all = x ∷ y ∷ es in
      let less = fewer all (omega arith) in
      enough m n (paired join all) (omega (arith, less, h)) (omega (arith, less, g))

  round_by : (n : ℕ) (es : List Expression) → length es ≡ n → 1 < length es → collected join es ≡ collected join (paired join es)
  round_by zero es e h = absurd (omega (arith, e, h))
  round_by (suc n) es e h =
      ap (λ m. first_of_list (rounds join m es)) e
      ∙ ap first_of_list (enough n (length (paired join es)) (paired join es) (omega (arith, fewer es h, e)) (omega arith))

-- a round leaves fewer, and changes nothing of what is joined in the end
pub fewer_left : (join : Expression → Expression → Expression) (es ds : List Expression) → 1 < length es → ds ≡ paired join es → length ds < length es
fewer_left join es ds h is = let same = ap length is in omega (arith, fewer join es h, same)

pub same_left : (join : Expression → Expression → Expression) (es ds : List Expression) → 1 < length es → ds ≡ paired join es → collected join es ≡ collected join ds
same_left join es ds h is = round_by join (length es) es refl h ∙ ap (collected join) (sym is)

pub ruleset rounded = (fewer_left, same_left)

-- ---- the value of what is joined

module _ (join : Expression → Expression → Expression) (op : Content → Content → Content) (value : Expression → Content) (assoc : (a b c : Content) → op (op a b) c ≡ op a (op b c)) (joins : (x y : Expression) → value (join x y) ≡ op (value x) (value y)) where
  fold-paired : (a : Content) (es : List Expression) → fold op a (map value (paired join es)) ≡ fold op a (map value es)
  fold-paired a [] = refl
  fold-paired a (x ∷ []) = refl
  fold-paired a (x ∷ y ∷ es) =
      fold-paired (op a (value (join x y))) es
      ∙ ap (λ b. fold op b (map value es)) (ap (λ b. op a b) (joins x y) ∙ sym (assoc a (value x) (value y)))

  reduce-paired : (es : List Expression) → reduce op (map value (paired join es)) ≡ reduce op (map value es)
  reduce-paired [] = refl
  reduce-paired (x ∷ []) = refl
  reduce-paired (x ∷ y ∷ es) =
      ap (λ b. Some b) (fold-paired (value (join x y)) es ∙ ap (λ b. fold op b (map value es)) (joins x y))

  reduce-rounds : (n : ℕ) (es : List Expression) → reduce op (map value (rounds join n es)) ≡ reduce op (map value es)
  reduce-rounds zero es = refl
  reduce-rounds (suc n) es = reduce-rounds n (paired join es) ∙ reduce-paired es

  of_one : (es : List Expression) → length es ≤ 1 → option_map value (first_of_list es) ≡ reduce op (map value es)
  of_one [] h = refl
  of_one (x ∷ []) h = refl
  of_one (x ∷ y ∷ es) h = absurd (omega (arith, h))

  pub value-collected : (es : List Expression) → option_map value (collected join es) ≡ reduce op (map value es)
  value-collected es =
      of_one (rounds join (length es) es) (one_left join (length es) es (omega arith)) ∙ reduce-rounds (length es) es

-- ---- the depth of what is joined

-- 2m ≤ n + 1 ∧ 2^l < 2m → 2^(l + 1) < 2n
doubled : (l m n : ℕ) → 2 * m ≤ suc n → 1 < n → 2 ^ l < 2 * m → 2 ^ suc l < 2 * n
doubled zero m n half more h = omega (arith, more)
doubled (suc l) m n half more h = omega (arith, half, h, pow-suc 2 l, pow-suc 2 (suc l))

first_within : (ds : List Expression) (P : Expression → Type 0) → ((d : Expression) → depth_of d ≤ deepest ds → P d) → IfSome (first_of_list ds) P
first_within [] P f = tt
first_within (d ∷ ds) P f = f d (omega arith)

module _ (join : Expression → Expression → Expression) (deeper : (x y : Expression) → depth_of (join x y) ≡ suc (max (depth_of x) (depth_of y))) where
  -- a round joins each two, and makes them a node deeper
  halved : (es : List Expression) → 2 * length (paired join es) ≤ suc (length es)
  halved [] = omega arith
  halved (x ∷ []) = omega arith
  halved (x ∷ y ∷ es) = omega (arith, halved es)

  deepest-paired : (es : List Expression) → deepest (paired join es) ≤ suc (deepest es)
  deepest-paired [] = omega arith
  deepest-paired (x ∷ []) = omega arith
  deepest-paired (x ∷ y ∷ es) = omega (arith, deeper x y, deepest-paired es)

  shallow : (n : ℕ) (es : List Expression) → 0 < length es → length es ≤ suc n →
      (levels : ℕ) × (2 ^ levels < 2 * length es) × (deepest (rounds join n es) ≤ levels + deepest es)
  shallow zero es some h = (0, omega (arith, some), omega arith)
  shallow (suc n) [] some h = absurd (omega (arith, some))
  shallow (suc n) (x ∷ []) some h = shallow n (x ∷ []) (omega arith) (omega arith)
  shallow (suc n) (x ∷ y ∷ es) some h =
      let all = x ∷ y ∷ es in
      let less = fewer join all (omega arith) in
      let rest = shallow n (paired join all) (omega arith) (omega (arith, h, less)) in
      (suc rest.0, doubled rest.0 (length (paired join all)) (length all) (halved all) (omega arith) rest.1, omega (arith, rest.2, deepest-paired all))

  pub shallow-collected : (es : List Expression) → IfSome (collected join es) (IsShallow es)
  shallow-collected [] = tt
  shallow-collected (e ∷ es) =
      let all = e ∷ es in
      let found = shallow (length all) all (omega arith) (omega arith) in
      first_within (rounds join (length all) all) (IsShallow all)
      (λ d h. record { levels = found.0; few = found.1; within = omega (arith, h, found.2) })
