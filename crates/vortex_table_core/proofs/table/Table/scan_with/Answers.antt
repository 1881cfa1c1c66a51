use Rattle.std.specs.Prelude.{option_map}
use Rattle.vortex_dtype_core.specs.View.{type_of}
use Rattle.vortex_stats_bind.specs.Bound.{expression_of}
use Rattle.vortex_stats_rules.specs.Meanings.{rules_of}
use Rattle.vortex_stats_rules.proofs.Keeping.{all_keep}
use Rattle.vortex_table_schema.specs.Answer.{answer_of}
use Rattle.vortex_table_schema.specs.Cut.{paths_of}
use Rattle.vortex_table_core.specs.TableView.{table_of}
use Rattle.vortex_table_core.proofs.ByProofs.{found_with}
use Rattle.vortex_table_core.proofs.Tables.{is_table}
use Rattle.vortex_table_core.proofs.table.Table.scan_with.Goals as goal

pub returns-clause-rows : goal.returns-clause-rows
returns-clause-rows g c =
    let t = c.args.self.now in let rules = c.args.rules.now in let made = c.in_ok-prepared.ensures in let plan = c.in_ok-prepared.prepared in
    let paths = paths_of c.args.paths.now in let e = c.args.predicate.now in let a = answer_of c.in_ok-answer.answer in
    let meant = rules_of (λ b. (goal.StatsRewriteRule-dyn g (b.vtable, b.value)).meaning b.value) rules in
    c.scans_with_rules_lose_none.ensures (table_of t) meant paths e a
    (all_keep (λ b. (goal.StatsRewriteRule-dyn g (b.vtable, b.value)).meaning b.value) rules (type_of t.dtype))
    (record { faultless = made.faultless; formed = made.formed }) (is_table t)
    (found_with (table_of t) meant paths e (option_map expression_of plan.falsifier) (option_map expression_of plan.satisfier) a made.falsifier made.satisfier c.in_ok-answer.ensures.found)
