use Rattle.std.proofs.Common.{◌≡◌, ◌++◌, ◌∷◌, [], sym, ap, ◌∙◌, map, take, option_map, true, false}
use Rattle.std.specs.BTreeMap.{get}
use Rattle.vortex_table_schema.specs.Cut.{group_of, text_cmp, names_at, strip_all}
use Rattle.vortex_table_schema.proofs.Indexed.{led, no_root}
use Rattle.vortex_table_schema.proofs.cut.index_paths.Goals as goal
use Rattle.vortex_table_schema.proofs.cut.index_paths.Goals.{in-Some+in_ok-add_path-in-Some, in-None}

pub loop-path-preserved : goal.loop-path-preserved
loop-path-preserved c =
    let paths = c.args.paths.now in
    let i = c.loop-path.path-index in
    let path = c.path-item.result in
    let before = map names_at (take i paths) in
    elim c.match-first_step.branch [
      | in-Some+in_ok-add_path-in-Some w ↦
          let rest = names_at w.in-Some.rest in
          led paths i path c.loop-path-test.true c.path-item.is c.match-first_step.index w.in-Some.name.now rest
          (ap (option_map (λ p. (p.0.now, names_at p.1))) (sym w.in-Some.is) ∙ c.first_step.ensures)
          (λ q. ap (λ m. group_of (get text_cmp m q)) w.index-is ∙ w.in_ok-add_path-in-Some.ensures before c.loop-path.invariant q
          ∙ ap (λ x. strip_all q.now (before ++ (x ∷ rest) ∷ [])) w.as_str.ensures)
      | in-None w ↦
          let wrong : true ≡ false
          = no_root paths i path c.loop-path-test.true c.path-item.is (ap (option_map (λ p. (p.0.now, names_at p.1))) (sym w.in-None.is) ∙ c.first_step.ensures) c.requires in
          absurd (cc wrong)
    ]
