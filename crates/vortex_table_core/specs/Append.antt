-- What an append does to a table.
use Rattle.std.specs.Prelude.{◌≡◌, List, Option, Some, None, map, Result, OnOk, IfErr, OnErr, IsErrOf}
use Rattle.vortex_model.specs.LogicalType.{LogicalType}
use Rattle.vortex_model.specs.Content.{Content}
use Rattle.vortex_model_table.specs.Table.{Table}
use Rattle.vortex_model_table.specs.Command.{append, append_array, refusal, after}
use Rattle.vortex_scalar_value.specs.View.{raw_in}
use Rattle.vortex_scalar_value.specs.declared.scalar_value.ScalarValue.{ScalarValue}
use Rattle.vortex_table_schema.specs.Error.{Explains}
use Rattle.vortex_table_schema.specs.declared.error.TableError.{TableError}
use Rattle.vortex_table_schema.specs.declared.error.TableError.TheVariants as error
use Rattle.vortex_table_core.specs.Totals.{PassesTotal}

-- An append to the old table of these values, each of this type or null, ended with this result
-- and left the new table.
pub record Appends {A : Type 0} (old : Table) (k : LogicalType) (values : List (Option ScalarValue))
    (result : Result A TableError) (new : Table) : Type 0 where
  pub appended : OnOk result (new ≡ after old (append k (map raw_in values)))
  pub accepted : OnOk result (refusal old (append k (map raw_in values)) ≡ None)
  -- what is refused is refused for the model's reason, or since a total is passed
  pub refused : IfErr result (λ e. Explains (PassesTotal (Some old) (append k (map raw_in values)))
      (refusal old (append k (map raw_in values))) e)
  -- a total that is passed is the last reason
  pub total : IsErrOf result error.Total → refusal old (append k (map raw_in values)) ≡ None
  pub unchanged : OnErr result (new ≡ old)

-- an append of an array of the type with these rows, refused as one of values
pub record AppendsArray {A : Type 0} (old : Table) (k : LogicalType) (rows : List Content)
    (result : Result A TableError) (new : Table) : Type 0 where
  pub appended : OnOk result (new ≡ after old (append_array k rows))
  pub accepted : OnOk result (refusal old (append_array k rows) ≡ None)
  pub refused : IfErr result (λ e. Explains (PassesTotal (Some old) (append_array k rows))
      (refusal old (append_array k rows)) e)
  pub total : IsErrOf result error.Total → refusal old (append_array k rows) ≡ None
  pub unchanged : OnErr result (new ≡ old)
