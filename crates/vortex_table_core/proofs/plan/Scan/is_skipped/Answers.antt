use Rattle.std.proofs.Common.{ap, ◌∙◌}
use Rattle.std.specs.Prelude.{option_map}
use Rattle.vortex_table_zonemaps.specs.Proved.{zone_proved}
use Rattle.vortex_table_core.proofs.Proven.{many_proved}
use Rattle.vortex_table_core.proofs.plan.Scan.is_skipped.Goals as goal

pub returns-in-Some : goal.returns-in-Some
returns-in-Some c =
    let plan = c.args.self.now in
    λ chunks formed group.
    many_proved plan c.requires c.args.group.now chunks formed group _ c.in-Some.bounds.items c.proves.result
    (ap (option_map (λ v. v.items)) c.in-Some.is) group.statistics
    (c.proves.ensures ∙ ap (λ bounds. zone_proved bounds c.args.group.now.rows plan.falsifier) c.as_slice.ensures.value
    ∙ c.requires.falsifier c.in-Some.bounds.items c.args.group.now.rows)
