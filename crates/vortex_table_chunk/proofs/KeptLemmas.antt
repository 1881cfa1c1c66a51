-- The leaf columns that are kept of rows.
use Rattle.std.proofs.Common.{◌≡◌, sym, ap, subst, ◌∙◌, ℕ, zero, suc, ◌+◌, ◌<◌, List, [], ◌∷◌, ◌++◌, length, take, get_or, Option, arith}
use Rattle.std.proofs.lemmas.List.{take_more, length-take-le, length-append}
use Rattle.vortex_model.specs.Content.{Content}
use Rattle.vortex_model.specs.Path.{Positions}
use Rattle.vortex_model_table.specs.ZoneMap.{values_at}
use Rattle.vortex_stats_select.specs.declared.leaf.Leaf.{Leaf}
use Rattle.vortex_table_chunk.specs.Kept.{IsKeptOf, AreKeptOf}

-- the column of one more leaf
one_more_kept : (leaves : List Positions) (columns : List (Option Leaf)) (is : Positions) (column : Option Leaf) (rows : List Content) → length columns ≡ length leaves → AreKeptOf leaves columns rows →
    IsKeptOf column (values_at is rows) → AreKeptOf (leaves ++ is ∷ []) (columns ++ column ∷ []) rows
one_more_kept [] [] is column rows n h g = (g, tt)
one_more_kept (js ∷ leaves) (c ∷ columns) is column rows n h g = (h.0, one_more_kept leaves columns is column rows (omega (arith, n)) h.1 g)
one_more_kept (js ∷ leaves) [] is column rows n h g = absurd (omega (arith, n))
one_more_kept [] (c ∷ columns) is column rows n h g = absurd h

-- one for each of the first leaves
pub record FirstKept (leaves : List Positions) (i : ℕ) (columns : List (Option Leaf)) (rows : List Content) : Type 0 where
  pub many : length columns ≡ i
  pub kept : AreKeptOf (take i leaves) columns rows

pub kept_pushed : (leaves : List Positions) (i : ℕ) (leaf : Positions) (old new : List (Option Leaf)) (column : Option Leaf) (rows : List Content) → i < length leaves → leaf ≡ get_or leaves i leaf →
    new ≡ old ++ column ∷ [] → FirstKept leaves i old rows → IsKeptOf column (values_at leaf rows) → FirstKept leaves (i + 1) new rows
kept_pushed leaves i leaf old new column rows l is made before own =
    let first : length (take i leaves) ≡ i = length-take-le i leaves (omega (arith, l)) in
    record {
      many = ap length made ∙ length-append old (column ∷ []) ∙ ap (λ n. n + 1) before.many;
      kept =
          subst (λ ls. AreKeptOf ls new rows) (sym (take_more leaves i leaf l ∙ ap (λ x. take i leaves ++ x ∷ []) (sym is)))
          (subst (λ cs. AreKeptOf (take i leaves ++ leaf ∷ []) cs rows) (sym made)
          (one_more_kept (take i leaves) old leaf column rows (before.many ∙ sym first) before.kept own));
    }

-- what is kept at an index is the column of the leaf there
pub placed_column : (leaves : List Positions) (columns : List (Option Leaf)) (rows : List Content) (i : ℕ) (is : Positions) (column : Option Leaf) → AreKeptOf leaves columns rows →
    i < length columns → is ≡ get_or leaves i is → column ≡ get_or columns i column → IsKeptOf column (values_at is rows)
placed_column leaves [] rows i is column h l p q = absurd (omega (arith, l))
placed_column (js ∷ leaves) (c ∷ columns) rows zero is column h l p q =
    subst (λ ks. IsKeptOf column (values_at ks rows)) (sym p) (subst (λ x. IsKeptOf x (values_at js rows)) (sym q) h.0)
placed_column (js ∷ leaves) (c ∷ columns) rows (suc i) is column h l p q = placed_column leaves columns rows i is column h.1 (omega (arith, l)) p q
placed_column [] (c ∷ columns) rows i is column h l p q = absurd h
