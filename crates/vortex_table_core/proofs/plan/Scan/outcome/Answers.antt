use Rattle.std.proofs.Common.{◌∙◌}
use Rattle.vortex_arrays_model.specs.Layout.{len_of}
use Rattle.vortex_table_zonemaps.specs.Proved.{zone_proved}
use Rattle.vortex_table_core.proofs.Proven.{outcome_skipped, outcome_whole, outcome_tested}
use Rattle.vortex_table_core.proofs.plan.Scan.outcome.Goals as goal

pub returns-then-falsified : goal.returns-then-falsified
returns-then-falsified c =
    let plan = c.args.self.now in
    outcome_skipped plan c.requires.plan c.args.chunk.now c.requires.formed c.args.falsified
    (c.requires.falsified ∙ c.requires.plan.falsifier c.args.chunk.now.bounds.items (len_of c.args.chunk.now.array)) c.if-falsified.true

pub returns-then-satisfied : goal.returns-then-satisfied
returns-then-satisfied c =
    let plan = c.args.self.now in
    outcome_whole plan c.requires.plan c.args.chunk.now c.requires.formed c.args.falsified c.proves-satisfied.result
    (c.requires.falsified ∙ c.requires.plan.falsifier c.args.chunk.now.bounds.items (len_of c.args.chunk.now.array))
    (c.proves-satisfied.ensures ∙ (λ i. zone_proved (c.as_slice-bounds.ensures.value i) (c.args.chunk.now.counted i) plan.satisfier) ∙ c.requires.plan.satisfier c.args.chunk.now.bounds.items (len_of c.args.chunk.now.array)) c.if-falsified.false c.if-satisfied.true

pub returns : goal.returns
returns c =
    let plan = c.args.self.now in
    outcome_tested plan c.requires.plan c.args.chunk.now c.requires.formed c.args.falsified c.proves-satisfied.result
    (c.requires.falsified ∙ c.requires.plan.falsifier c.args.chunk.now.bounds.items (len_of c.args.chunk.now.array))
    (c.proves-satisfied.ensures ∙ (λ i. zone_proved (c.as_slice-bounds.ensures.value i) (c.args.chunk.now.counted i) plan.satisfier) ∙ c.requires.plan.satisfier c.args.chunk.now.bounds.items (len_of c.args.chunk.now.array)) c.if-falsified.false c.if-satisfied.false
