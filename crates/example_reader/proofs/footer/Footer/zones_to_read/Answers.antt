use Rattle.std.proofs.Common.{◌≡◌, ap, map, not, ◌∙◌, rules}
use Rattle.std.specs.Prelude.{IfErr}
use Rattle.std.proofs.lemmas.Iterator.{YieldsList-from_slice, YieldsList-from_map_by, items_from_collect}
use Rattle.std.proofs.lemmas.Result.{IfOk-at_ok}
use Rattle.vortex_dtype_core.specs.View.{type_of}
use Rattle.vortex_model_rules.specs.Rules.{fals}
use Rattle.vortex_arrays_model.specs.Layout.{rows_of}
use Rattle.vortex_stats_bind.specs.Bound.{expression_of}
use Rattle.vortex_stats_rules.specs.Meanings.{rules_of}
use Rattle.vortex_stats_rules.proofs.Joining.{at_error}
use Rattle.vortex_stats_pruner.specs.Pruning.{IsPrunerFault}
use Rattle.example_reader.proofs.ZoneLemmas.{none_left_out, read_exactly}
use Rattle.example_reader.proofs.footer.Footer.zones_to_read.Goals as goal

pub returns-in_err-pruner-clause-refused : goal.returns-in_err-pruner-clause-refused
returns-in_err-pruner-clause-refused g c =
    let rules = rules_of (λ b. (goal.StatsRewriteRule-dyn g (b.vtable, b.value)).meaning b.value) c.args.rules.now in
    let k = type_of c.args.self.now.dtype in let e = c.args.predicate.now in
    at_error c.from_residual.result c.in_err-pruner.field-0.0
    (λ r. IfErr r (IsPrunerFault k rules e)) c.from_residual.ensures.1
    c.in_err-pruner.ensures.refused

pub returns-clause-theorem : goal.returns-clause-theorem
returns-clause-theorem g c =
    let pruner = c.in_ok-pruner.pruner in
    let read : c.in_ok-read.read.items ≡ map not c.deref.result.now =
    IfOk-at_ok _ c.in_ok-read.was (items_from_collect _ c.collect.ensures.ran
    (YieldsList-from_map_by _ (λ r. r) not (YieldsList-from_slice c.deref.result.now cc) c.map.ensures.closure (λ x r q k. search rules))) in
    none_left_out (type_of c.args.self.now.dtype) (type_of pruner.dtype) c.args.predicate.now
    (expression_of pruner.predicate) c.in_ok-counts.counts (rows_of c.args.self.now.zones)
    c.in_ok-skipped.skipped.items c.in_ok-read.read.items c.in_ok-pruner.ensures.dtype
    c.in_ok-pruner.ensures.predicate c.in_ok-counts.ensures c.in_ok-skipped.ensures.sound
    (read ∙ ap (map not) c.deref.ensures.value)

pub returns-clause-exact : goal.returns-clause-exact
returns-clause-exact g c =
    let read : c.in_ok-read.read.items ≡ map not c.deref.result.now =
    IfOk-at_ok _ c.in_ok-read.was (items_from_collect _ c.collect.ensures.ran
    (YieldsList-from_map_by _ (λ r. r) not (YieldsList-from_slice c.deref.result.now cc) c.map.ensures.closure (λ x r q k. search rules))) in
    let rules = rules_of (λ b. (goal.StatsRewriteRule-dyn g (b.vtable, b.value)).meaning b.value) c.args.rules.now in
    let k = type_of c.args.self.now.dtype in
    read_exactly k (fals k rules c.args.predicate.now) c.in_ok-pruner.pruner.falsifier
    c.in_ok-counts.counts (rows_of c.args.self.now.zones) c.in_ok-skipped.skipped.items
    c.in_ok-read.read.items c.in_ok-pruner.ensures.falsifier c.in_ok-counts.ensures
    c.in_ok-skipped.ensures.proved (read ∙ ap (map not) c.deref.ensures.value)
