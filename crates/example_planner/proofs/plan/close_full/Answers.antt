use Rattle.std.proofs.Common.{◌∙◌, ap, subst, ◌≤◌, ◌++◌, ◌∷◌, [], map, inr}
use Rattle.std.proofs.lemmas.List.{map-append}
use Rattle.vortex_table_core.specs.TableView.{table_of}
use Rattle.example_planner.proofs.plan.close_full.Goals as goal

pub returns-clause-closed : goal.returns-clause-closed
returns-clause-closed c =
    let parts = c.args.parts.now.items in
    inr (
      subst (λ n. c.args.share ≤ n) c.len.ensures c.if-len-share.false,
      ap (map table_of) c.in_ok-push.ensures.items ∙ map-append table_of parts (c.replace-full.result ∷ [])
          ∙ ap (λ p. map table_of parts ++ table_of p ∷ []) c.replace-full.ensures.value,
      ap (λ p. (table_of p).kind) c.replace-full.ensures.after ∙ c.in_ok-next.ensures.made.kind,
      ap (λ p. (table_of p).chunks) c.replace-full.ensures.after ∙ c.in_ok-next.ensures.made.chunks,
    )
