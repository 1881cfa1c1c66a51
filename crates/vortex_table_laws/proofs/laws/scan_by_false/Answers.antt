use Rattle.std.proofs.Common.{◌∙◌, ap, map}
use Rattle.vortex_model_table.specs.Scan.{skipped_chunks}
use Rattle.vortex_model_table.specs.Table.{answer}
use Rattle.vortex_model_table.specs.Command.{names_of}
use Rattle.vortex_dtype_path.specs.View.{steps_of}
use Rattle.vortex_table_core.specs.TableView.{table_of}
use Rattle.vortex_table_core.proofs.Tables.{is_table}
use Rattle.vortex_table_laws.proofs.Answered.{on_ok}
use Rattle.vortex_table_laws.proofs.laws.scan_by_false.Goals as goal

pub returns-clause-law : goal.returns-clause-law
returns-clause-law c =
    let t = table_of c.args.table.now in let paths = map names_of (map steps_of c.args.paths.now) in
    let is = c.constant-predicate.ensures in
    on_ok c.scan.result (λ a h. (
      ap (λ b. b.rows) h ∙ (ap (λ e. answer t paths e) is ∙ c.false_selects_none.ensures t paths),
      ap (λ b. b.skipped) h ∙ (ap (λ e. skipped_chunks t e) is
          ∙ c.false_skips_all.ensures t (is_table c.args.table.now)),
    )) c.scan.ensures.found
