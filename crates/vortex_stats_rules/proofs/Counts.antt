-- Counts that stop at the greatest number of 64 bits.
use Rattle.std.proofs.Common.{◌≡◌, ℕ, ◌-◌, ◌^◌, min, arith}
use Rattle.std.proofs.lemmas.Bool.Decides.{nat_tests}
use Rattle.vortex_model_table.specs.Scan.{saturated}

pub stopped : (n : ℕ) → min n (2 ^ 64 - 1) ≡ saturated n
stopped n = grind (arith, nat_tests)
