-- Partitions of the same numbers, with what a relation relates.
use Rattle.std.proofs.Common.{◌≡◌, refl, sym, ap, subst, ℕ, List, [], ◌∷◌, ◌++◌, append_assoc, Bool, true, false, ◌==◌, ◌&&◌, nat_le, nat_lt, if◌then◌else◌, Option, Some, None, flat_map}
use Rattle.vortex_stats_set.specs.Pairs.{Pairs}
use Rattle.vortex_stats_set.specs.Merge.{merged_unordered}
use Rattle.example_catalogue.specs.Partitions.{Partitions, at_number, placed, dropped, joined_with, joined, between, all_between, Each}
use Rattle.example_catalogue.specs.Made.{one_more, gathered}

module _ {A B : Type 0} (R : A → B → Type 0) where
  abbrev Both : Option A → Option B → Type 0
  Both None None = Unit {0}
  Both (Some a) (Some b) = R a b
  Both m n = ⊥

  abbrev Rel : Partitions A → Partitions B → Type 0
  Rel es ds = Each R es ds

  found : (es : Partitions A) (ds : Partitions B) (n : ℕ) → Rel es ds → Both (at_number es n) (at_number ds n)
  found [] [] n h = tt
  found [] (d ∷ ds) n h = absurd h
  found (e ∷ es) [] n h = absurd h
  found (e ∷ es) (d ∷ ds) n h =
      subst (λ m. Both (at_number (e ∷ es) n) (if m == n then Some d.1 else at_number ds n)) h.0 (by_test (e.0 == n) (found es ds n h.2))
    where
      by_test : (b : Bool) → Both (at_number es n) (at_number ds n) → Both (if b then Some e.1 else at_number es n) (if b then Some d.1 else at_number ds n)
      by_test true rest = h.1
      by_test false rest = rest

  put : (es : Partitions A) (ds : Partitions B) (n : ℕ) (a : A) (b : B) → Rel es ds → R a b → Rel (placed es n a) (placed ds n b)
  put [] [] n a b h g = tt
  put [] (d ∷ ds) n a b h g = absurd h
  put (e ∷ es) [] n a b h g = absurd h
  put (e ∷ es) (d ∷ ds) n a b h g =
      subst (λ m. Rel (placed (e ∷ es) n a) (if m == n then (d.0, b) ∷ ds else d ∷ placed ds n b)) h.0 (by_test (e.0 == n) (put es ds n a b h.2 g))
    where
      by_test : (t : Bool) → Rel (placed es n a) (placed ds n b) → Rel (if t then (e.0, a) ∷ es else e ∷ placed es n a) (if t then (d.0, b) ∷ ds else d ∷ placed ds n b)
      by_test true rest = (h.0, g, h.2)
      by_test false rest = (h.0, h.1, rest)

  pub without : (es : Partitions A) (ds : Partitions B) (n : ℕ) → Rel es ds → Rel (dropped es n) (dropped ds n)
  without [] [] n h = tt
  without [] (d ∷ ds) n h = absurd h
  without (e ∷ es) [] n h = absurd h
  without (e ∷ es) (d ∷ ds) n h =
      subst (λ m. Rel (dropped (e ∷ es) n) (if m == n then ds else d ∷ dropped ds n)) h.0 (by_test (e.0 == n) (without es ds n h.2))
    where
      by_test : (t : Bool) → Rel (dropped es n) (dropped ds n) → Rel (if t then es else e ∷ dropped es n) (if t then ds else d ∷ dropped ds n)
      by_test true rest = h.2
      by_test false rest = (h.0, h.1, rest)

  pub behind : (es : Partitions A) (ds : Partitions B) (n : ℕ) (a : A) (b : B) → Rel es ds → R a b → Rel (es ++ (n, a) ∷ []) (ds ++ (n, b) ∷ [])
  behind [] [] n a b h g = (refl, g, tt)
  behind [] (d ∷ ds) n a b h g = absurd h
  behind (e ∷ es) [] n a b h g = absurd h
  behind (e ∷ es) (d ∷ ds) n a b h g = (h.0, h.1, behind es ds n a b h.2 g)

  pub together : (f : A → A → A) (g : B → B → B) → ((a c : A) (b d : B) → R a b → R c d → R (f a c) (g b d)) →
      (es : Partitions A) (ds : Partitions B) (m n : ℕ) → Rel es ds → Rel (joined f es m n) (joined g ds m n)
  together f g keep es ds m n h = by_options (at_number es m) (at_number es n) (at_number ds m) (at_number ds n) (found es ds m h) (found es ds n h)
    where
      by_options : (a c : Option A) (b d : Option B) → Both a b → Both c d → Rel (joined_with f a c es m n) (joined_with g b d ds m n)
      by_options (Some a) (Some c) (Some b) (Some d) p q =
          without (placed es m (f a c)) (placed ds m (g b d)) n (put es ds m (f a c) (g b d) h (keep a c b d p q))
      by_options (Some a) None (Some b) None p q = h
      by_options None c None d p q = h
      by_options (Some a) (Some c) (Some b) None p q = absurd q
      by_options (Some a) None (Some b) (Some d) p q = absurd q
      by_options (Some a) c None d p q = absurd p
      by_options None c (Some b) d p q = absurd p

  -- ---- those of a range

  abbrev pub Along : List A → List B → Type 0
  Along [] [] = Unit {0}
  Along (a ∷ us) (b ∷ vs) = R a b × Along us vs
  Along us vs = ⊥

  pub along : (from to : ℕ) (es : Partitions A) (ds : Partitions B) → Rel es ds → Along (between from to es) (between from to ds)
  along from to [] [] h = tt
  along from to [] (d ∷ ds) h = absurd h
  along from to (e ∷ es) [] h = absurd h
  along from to (e ∷ es) (d ∷ ds) h =
      subst (λ m. Along (between from to (e ∷ es)) (if nat_le from m && nat_lt m to then d.1 ∷ between from to ds else between from to ds)) h.0 (by_test (nat_le from e.0 && nat_lt e.0 to) (along from to es ds h.2))
    where
      by_test : (t : Bool) → Along (between from to es) (between from to ds) → Along (if t then e.1 ∷ between from to es else between from to es) (if t then d.1 ∷ between from to ds else between from to ds)
      by_test true rest = (h.1, rest)
      by_test false rest = rest

-- ---- sets that are gathered

module _ {B : Type 0} (R : Pairs → List B → Type 0)
    (keep : (xs ys : Pairs) (cs ds : List B) → R xs cs → R ys ds → R (merged_unordered true xs ys) (cs ++ ds)) where
  abbrev pub Held : Option Pairs → List B → Type 0
  Held None cs = cs ≡ []
  Held (Some xs) cs = R xs cs

  more : (m : Option Pairs) (cs : List B) (ys : Pairs) (ds : List B) → Held m cs → R ys ds → R (one_more m ys) (cs ++ ds)
  more None cs ys ds h g = subst (λ us. R ys (us ++ ds)) (sym h) g
  more (Some xs) cs ys ds h g = keep xs ys cs ds h g

  nil_behind : (cs : List B) → cs ≡ cs ++ []
  nil_behind [] = refl
  nil_behind (c ∷ cs) = ap (λ us. c ∷ us) (nil_behind cs)

  pub all_held : (m : Option Pairs) (cs : List B) (xss : List Pairs) (css : List (List B)) → Held m cs → Along R xss css →
      Held (gathered m xss) (cs ++ flat_map (λ us. us) css)
  all_held m cs [] [] h g = subst (Held m) (nil_behind cs) h
  all_held m cs [] (ds ∷ css) h g = absurd g
  all_held m cs (xs ∷ xss) [] h g = absurd g
  all_held m cs (xs ∷ xss) (ds ∷ css) h g =
      subst (Held (gathered (Some (one_more m xs)) xss)) (append_assoc cs ds (flat_map (λ us. us) css))
      (all_held (Some (one_more m xs)) (cs ++ ds) xss css (more m cs xs ds h g.0) g.1)

  pub answer_held : (from to : ℕ) (es : Partitions Pairs) (ds : Partitions (List B)) → Each R es ds →
      Held (gathered None (between from to es)) (all_between from to ds)
  answer_held from to es ds h = all_held None [] (between from to es) (between from to ds) refl (along R from to es ds h)
