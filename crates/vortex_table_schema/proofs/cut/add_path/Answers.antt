use Rattle.std.proofs.Common.{◌≡◌, sym, ap, ◌∙◌, map}
use Rattle.vortex_table_schema.specs.Cut.{group_of, names_at}
use Rattle.vortex_table_schema.proofs.Indexed.{one_more}
use Rattle.vortex_table_schema.proofs.cut.add_path.Goals as goal
use Rattle.vortex_table_schema.proofs.cut.add_path.Goals.{in-Some, in-None}

pub returns : goal.returns
returns c =
    let old = c.match-remove.group in
    let was : map names_at old.items ≡ group_of c.remove.result
    = elim c.match-remove.branch [
      | in-Some w ↦ ap (λ v. map names_at v.items) w.group-is ∙ ap group_of (sym w.in-Some.is)
      | in-None w ↦ ap (λ v. map names_at v.items) w.group-is ∙ ap (map names_at) w.new-group.ensures.items ∙ ap group_of (sym w.in-None.is)
    ] in
    one_more c.args.index.now c.remove.new.self c.insert.new.self c.args.name c.args.rest old c.push.new.self
    c.remove.ensures.updates c.in_ok-insert.ensures.updates (was ∙ ap group_of c.remove.ensures.value) c.in_ok-push.ensures.items
