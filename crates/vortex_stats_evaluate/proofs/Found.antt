-- The first statistics of a column, one by one, and whether paths are equal.
use Rattle.std.proofs.Common.{◌≡◌, refl, sym, ap, ◌∙◌, ℕ, ◌+◌, ◌<◌, List, [], ◌∷◌, ◌&&◌, nat_eq, length, drop, get_or, Bool, true, false, Option, Some, if◌then◌else◌}
use Rattle.std.proofs.lemmas.List.{drop_more}
use Rattle.std.specs.Cmp.Lexicographic.{pointwise}
use Rattle.vortex_model.specs.Path.{Positions, eq_positions}
use Rattle.vortex_stats_evaluate.specs.declared.column.ColumnStats.{ColumnStats}
use Rattle.vortex_stats_evaluate.specs.Scopes.{stats_at}

pub by_steps : (xs ys : List ℕ) → pointwise nat_eq xs ys ≡ eq_positions xs ys
by_steps [] [] = refl
by_steps [] (y ∷ ys) = refl
by_steps (x ∷ xs) [] = refl
by_steps (x ∷ xs) (y ∷ ys) = ap (λ b. nat_eq x y && b) (by_steps xs ys)

module _ (is : Positions) (cs : List ColumnStats) (i : ℕ) (c : ColumnStats)
    (all : Option ColumnStats) (inside : i < length cs) (here : c ≡ get_or cs i c)
    (left : stats_at (drop i cs) is ≡ all) where
  next_is : drop i cs ≡ c ∷ drop (i + 1) cs
  next_is = drop_more cs i c inside ∙ ap (λ x. x ∷ drop (i + 1) cs) (sym here)

  from_column : (b : Bool) → b ≡ eq_positions c.path.items is →
      (if b then Some c else stats_at (drop (i + 1) cs) is) ≡ all
  from_column b h =
      ap (λ t. if t then Some c else stats_at (drop (i + 1) cs) is) h
      ∙ sym (ap (λ es. stats_at es is) next_is) ∙ left

  pub found_here : (b : Bool) → b ≡ eq_positions c.path.items is → b ≡ true → Some c ≡ all
  found_here b h does =
      ap (λ t. if t then Some c else stats_at (drop (i + 1) cs) is) (sym does) ∙ from_column b h

  pub passed_over : (b : Bool) → b ≡ eq_positions c.path.items is → b ≡ false →
      stats_at (drop (i + 1) cs) is ≡ all
  passed_over b h fails =
      ap (λ t. if t then Some c else stats_at (drop (i + 1) cs) is) (sym fails) ∙ from_column b h
