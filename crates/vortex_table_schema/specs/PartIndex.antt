-- The parts of a record by their names.
use Rattle.std.specs.Prelude.{◌≡◌, ℕ, List, option_map}
use Rattle.std.specs.Borrow.{Bor}
use Rattle.std.specs.BTreeMap.{BTreeMap, get}
use Rattle.vortex_model.specs.LogicalType.{LogicalType, Fields}
use Rattle.vortex_model_table.specs.Command.{part_named}
use Rattle.vortex_dtype_core.specs.View.{type_of}
use Rattle.vortex_dtype_core.specs.declared.dtype.DType.{DType}
use Rattle.vortex_dtype_fields.specs.Records.{type_named}
use Rattle.vortex_table_schema.specs.Cut.{text_cmp}

abbrev pub Parts : Type 0
Parts = BTreeMap (Bor (List ℕ)) (Bor DType)

-- under each name is the type of the first of these fields that has it
abbrev pub AreOf : Parts → Fields → Type 0
AreOf parts fs = (name : Bor (List ℕ)) →
    option_map (λ part. type_of part.now) (get text_cmp parts name) ≡ type_named fs name.now

-- the index has the fields of a record; what is none has no parts
abbrev pub IsIndexOf : Parts → LogicalType → Type 0
IsIndexOf parts k = (name : Bor (List ℕ)) →
    option_map (λ part. type_of part.now) (get text_cmp parts name) ≡ part_named k name.now
