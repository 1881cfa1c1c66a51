use Rattle.std.proofs.Common.{sym, ap, ◌∙◌, option_map}
use Rattle.vortex_table_schema.specs.Cut.{names_at}
use Rattle.vortex_table_schema.proofs.Paths.{led_on, not_on}
use Rattle.vortex_table_schema.proofs.cut.strip_all.Goals as goal
use Rattle.vortex_table_schema.proofs.cut.strip_all.Goals.{in-Some+in_ok-push-in-Some, in-None}

pub loop-path-preserved : goal.loop-path-preserved
loop-path-preserved c =
    let name = c.args.name.now in
    let paths = c.args.paths.now in
    let i = c.loop-path.path-index in
    elim c.match-strip_step.branch [
      | in-Some+in_ok-push-in-Some w ↦
          led_on name paths i c.path-item.result w.in-Some.rest c.loop-path.left.items c.match-strip_step.left.items c.loop-path-test.true c.path-item.is
          (ap (option_map names_at) (sym w.in-Some.is) ∙ c.strip_step.ensures) (ap (λ v. v.items) w.left-is ∙ w.in_ok-push-in-Some.ensures.items) c.loop-path.invariant
      | in-None w ↦
          not_on name paths i c.path-item.result c.loop-path.left.items c.match-strip_step.left.items c.loop-path-test.true c.path-item.is
          (ap (option_map names_at) (sym w.in-None.is) ∙ c.strip_step.ensures) (ap (λ v. v.items) w.left-is) c.loop-path.invariant
    ]
