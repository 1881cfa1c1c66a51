-- What a meter counts of rewrites.
use Rattle.std.specs.Prelude.{ℕ, ◌+◌, ⊤}
use Rattle.vortex_model_table.specs.Expression.{Expression, compare, both, either}
use Rattle.vortex_model_table.specs.Scan.{saturated}
use Rattle.vortex_stats_rules.specs.declared.meter.Meter.{Meter}

abbrev pub unused : Meter
unused = record { rows_tested = 0; proofs = 0; visits = 0 }

-- after n nodes more
abbrev pub visited : ℕ → Meter → Meter
visited n meter = record {
  rows_tested = meter.rows_tested;
  proofs = meter.proofs;
  visits = saturated (meter.visits + n);
}

-- AND and OR over comparisons
abbrev pub IsOfComparisons : Expression → Type 0
IsOfComparisons (compare op x y) = ⊤
IsOfComparisons (both x y) = IsOfComparisons x × IsOfComparisons y
IsOfComparisons (either x y) = IsOfComparisons x × IsOfComparisons y
IsOfComparisons e = ⊥

-- how many comparisons, ANDs and ORs it has, where it has nothing else
abbrev pub node_count : Expression → ℕ
node_count (both x y) = node_count x + node_count y + 1
node_count (either x y) = node_count x + node_count y + 1
node_count e = 1
