-- What a meter counts of rows and proofs.
use Rattle.std.specs.Prelude.{ℕ, ◌+◌}
use Rattle.vortex_model_table.specs.Scan.{saturated}
use Rattle.vortex_stats_rules.specs.declared.meter.Meter.{Meter}

-- after n rows more
abbrev pub tested : ℕ → Meter → Meter
tested n meter = record {
  rows_tested = saturated (meter.rows_tested + n);
  proofs = meter.proofs;
  visits = meter.visits;
}

-- after one proof more
abbrev pub proved : Meter → Meter
proved meter = record {
  rows_tested = meter.rows_tested;
  proofs = saturated (meter.proofs + 1);
  visits = meter.visits;
}
