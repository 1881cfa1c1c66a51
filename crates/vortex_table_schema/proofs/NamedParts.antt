-- The parts of records by their names.
use Rattle.std.proofs.Common.{◌≡◌, refl, List, ℕ, option_and_then}
use Rattle.vortex_model.specs.LogicalType.{LogicalType, struct}
use Rattle.vortex_model_table.specs.Command.{part_named}
use Rattle.vortex_dtype_core.specs.Parts.{fields_in_type}
use Rattle.vortex_dtype_fields.specs.Records.{type_named}
use Rattle.vortex_dtype_core.proofs.Views.{one_level}

-- a named part is one of a record's fields
pub among_fields : (k : LogicalType) (x : List ℕ) → part_named k x ≡ option_and_then (λ fs. type_named fs x) (fields_in_type k)
among_fields (struct fs n) x = refl
among_fields k x = refl

pub ruleset named = (one_level, among_fields)
