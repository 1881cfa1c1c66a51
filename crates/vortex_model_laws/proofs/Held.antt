-- Refusals that are absent: the first of two faults, and the faults of a struct's fields.
use Rattle.std.proofs.Common.{◌≡◌, Bool, true, false, Option, Some, None, if◌then◌else◌}
use Rattle.vortex_model.specs.Refusal.{Refusal}

-- a struct without a fault has distinct names, and fields without one
pub parts_faultless : (b : Bool) (p : Option Refusal) (r : Refusal) → (if b then p else Some r) ≡ None → p ≡ None
parts_faultless true p r e = e
parts_faultless false p r e = absurd (cc (e))
