-- What calls of a table give.
use Rattle.std.specs.Prelude.{◌≡◌, List, map, Some, None, Result, IfOk, OnOk, IfErr, OnErr, IsErrOf}
use Rattle.vortex_model.specs.LogicalType.{LogicalType}
use Rattle.vortex_model.specs.Path.{Step}
use Rattle.vortex_model_table.specs.Expression.{Expression}
use Rattle.vortex_model_table.specs.Table.{Table}
use Rattle.vortex_model_table.specs.Scan.{scanned}
use Rattle.vortex_model_table.specs.Command.{scan, retype, names_of, refusal, after}
use Rattle.vortex_table_schema.specs.Answer.{answer_of, IsTyped}
use Rattle.vortex_table_schema.specs.Error.{Explains}
use Rattle.vortex_table_schema.specs.declared.answer.ScanAnswer.{ScanAnswer}
use Rattle.vortex_table_schema.specs.declared.error.TableError.{TableError}
use Rattle.vortex_table_schema.specs.declared.error.TableError.TheVariants as error
use Rattle.vortex_table_core.specs.Totals.{PassesTotal}

-- a scan of the table was answered so
pub record IsScanned (t : Table) (paths : List (List Step)) (e : Expression)
    (result : Result ScanAnswer TableError) : Type 0 where
  pub found : IfOk result (λ a. answer_of a ≡ scanned t (map names_of paths) e)
  pub typed : IfOk result (λ a. IsTyped a)
  pub accepted : OnOk result (refusal t (scan paths e) ≡ None)
  pub refused : IfErr result (λ why. Explains ⊥ (refusal t (scan paths e)) why)

-- a retype of the old table to the type ended so, and left the new table
pub record IsRetyped {A : Type 0} (old : Table) (k : LogicalType) (result : Result A TableError)
    (new : Table) : Type 0 where
  pub retyped : OnOk result (new ≡ after old (retype k))
  pub accepted : OnOk result (refusal old (retype k) ≡ None)
  pub refused : IfErr result
      (λ why. Explains (PassesTotal (Some old) (retype k)) (refusal old (retype k)) why)
  pub total : IsErrOf result error.Total → refusal old (retype k) ≡ None
  pub unchanged : OnErr result (new ≡ old)
