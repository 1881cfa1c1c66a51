-- Comparisons of operands.
use Rattle.std.proofs.Common.{◌≡◌, refl, sym, ap, ◌∙◌, ℕ, zero, suc, Bool, List, ◌∷◌, length, map, replicate, Option, option_copied, Bor}
use Rattle.std.specs.List.{zip, range_with_len}
use Rattle.std.proofs.lemmas.Simd.{splat_is_map}
use Rattle.std.proofs.lemmas.List.FromFn.{length-range_with_len}
use Rattle.vortex_model.specs.Content.{Content, Raw, content_of}
use Rattle.vortex_model.specs.LogicalType.{LogicalType}
use Rattle.vortex_model_table.specs.Expression.{Comparison}
use Rattle.vortex_model_table.specs.Truth.{compared, is_true}
use Rattle.vortex_scalar_value.specs.View.{raw_at, raw_in}
use Rattle.vortex_scalar_value.specs.declared.scalar_value.ScalarValue.{ScalarValue}
use Rattle.vortex_scalar_value.proofs.Sizes.{raw_at-copied}
use Rattle.vortex_arrays_model.specs.Layout.{constant, rows_of}
use Rattle.vortex_stats_mask.specs.Wanted.{swapped}
use Rattle.vortex_stats_mask.proofs.Truths.{compared_swapped}
use Rattle.vortex_stats_select.proofs.PairLemmas.{beside, beside_left, alike}

pub constant_rows : (k : LogicalType) (r : Raw) (n : ℕ) → rows_of (constant k r n) ≡ replicate n (content_of r)
constant_rows k r n = sym (splat_is_map (range_with_len 0 n) n (content_of r) (length-range_with_len 0 n))

module _ (op : Comparison) (n : ℕ) where
  pub column_with_value : (cs : List Content) (d : Content) → length cs ≡ n → map (λ c. is_true (compared op c d)) cs ≡ map (λ p. is_true (compared op p.0 p.1)) (zip cs (replicate n d))
  column_with_value cs d e = sym (beside (λ c d. is_true (compared op c d)) cs d n e)

  pub value_with_column : (c : Content) (ds : List Content) → length ds ≡ n → map (λ d. is_true (compared (swapped op) d c)) ds ≡ map (λ p. is_true (compared op p.0 p.1)) (zip (replicate n c) ds)
  value_with_column c ds e =
      (λ i. map (λ d. is_true (sym (compared_swapped op c d) i)) ds)
      ∙ sym (beside_left (λ c d. is_true (compared op c d)) c ds n e)

  pub value_with_value : (c d : Content) → replicate n (is_true (compared op c d)) ≡ map (λ p. is_true (compared op p.0 p.1)) (zip (replicate n c) (replicate n d))
  value_with_value c d = sym (alike (λ c d. is_true (compared op c d)) c d n)

-- a test of one value for all rows
pub tested_alike : (test : Content → Bool) (c : Content) (n : ℕ) → replicate n (test c) ≡ map test (replicate n c)
tested_alike test c zero = refl
tested_alike test c (suc n) = ap (λ bs. test c ∷ bs) (tested_alike test c n)

-- a value that is lent
pub lent : (v : Option ScalarValue) (o : Option (Bor ScalarValue)) → option_copied o ≡ v → raw_at o ≡ raw_in v
lent v o e = raw_at-copied o ∙ ap (λ u. raw_in u) e
