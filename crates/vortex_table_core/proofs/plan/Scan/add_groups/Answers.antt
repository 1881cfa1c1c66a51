use Rattle.std.proofs.Common.{◌≡◌, sym, subst, ◌∙◌, ◌+◌, ◌∷◌, drop}
use Rattle.vortex_table_io.specs.Blocks.{left_in}
use Rattle.vortex_table_core.specs.Plan.{answer_by, chunks_in}
use Rattle.vortex_table_core.specs.Progress.{IsCounted}
use Rattle.vortex_table_core.proofs.Skipped.{ahead_counted}
use Rattle.vortex_table_core.proofs.Ranges.{waiting_start, one_waits, group_next, none_if}
use Rattle.vortex_table_core.proofs.Walked.{there, is_there, behind}
use Rattle.vortex_table_core.proofs.plan.Scan.add_groups.Goals as goal

pub loop-group-init : goal.loop-group-init
loop-group-init c = record {
  index = 0;
  left = c.walk-groups.ensures;
  waiting = waiting_start c.args.self.now (answer_by c.args.self.now c.args.answer.now) c.requires.none;
  typed = c.requires.typed;
}

pub add_range-requires-clause-counted : goal.add_range-requires-clause-counted
add_range-requires-clause-counted c = c.loop-group.invariant.waiting.counted

pub add_group-requires-clause-counted : goal.add_group-requires-clause-counted
add_group-requires-clause-counted c =
    let plan = c.args.self.now in let i = c.loop-group.invariant in let l = c.loop-group in
    subst IsCounted (sym c.in_ok-add_range.ensures.found)
    (ahead_counted plan c.requires.plan l.first (chunks_in plan l.first l.count) (answer_by plan l.answer) i.waiting.counted)

pub loop-group-preserved-then-is_some : goal.loop-group-preserved-then-is_some
loop-group-preserved-then-is_some c =
    let plan = c.args.self.now in let all = plan.table.now.groups in
    let i = c.loop-group.invariant in let j = i.index in let g = c.in-Some.group.now in
    let left = left_in c.next_item.new.self in
    let here : drop j all ≡ g ∷ left = sym i.left ∙ c.in-Some.ensures in
    record {
      index = j + 1;
      left = behind all j g left here;
      waiting =
          group_next plan j c.loop-group.first c.loop-group.count (answer_by plan c.loop-group.answer) (answer_by plan c.add_range.new.answer) i.waiting c.in_ok-add_range.ensures.found
          g (answer_by plan c.add_group.new.answer) (there all j g left here) (is_there all j g left here) c.in_ok-add_group.ensures.found;
      typed = c.in_ok-add_group.ensures.typed;
    }

pub loop-group-preserved : goal.loop-group-preserved
loop-group-preserved c =
    let plan = c.args.self.now in let all = plan.table.now.groups in
    let i = c.loop-group.invariant in let j = i.index in let g = c.in-Some.group.now in
    let left = left_in c.next_item.new.self in
    let here : drop j all ≡ g ∷ left = sym i.left ∙ c.in-Some.ensures in
    record {
      index = j + 1;
      left = behind all j g left here;
      waiting =
          one_waits plan c.requires.plan j c.loop-group.first c.loop-group.count (answer_by plan c.loop-group.answer) i.waiting
          g (there all j g left here) (is_there all j g left here) (none_if (λ v. v.items) g.joined (sym c.is_some.ensures ∙ c.if-is_some.false));
      typed = i.typed;
    }
