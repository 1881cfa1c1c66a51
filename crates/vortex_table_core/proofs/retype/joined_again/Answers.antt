use Rattle.std.proofs.Common.{◌≡◌, ◌+◌, ◌-◌, sym, ap, subst, map, true, arith}
use Rattle.std.specs.Prelude.{is_some}
use Rattle.std.specs.List.{list_all}
use Rattle.vortex_table_schema.specs.Leaves.{leaf_positions}
use Rattle.vortex_table_chunk.specs.Chunk.{chunk_rows}
use Rattle.vortex_table_chunk.specs.Formed.{is_formed}
use Rattle.vortex_table_layout.specs.InOrder.{AreJoinedInOrder}
use Rattle.vortex_table_layout.specs.Retyping.{target_of, lengths_of}
use Rattle.vortex_table_core.proofs.Groups.{formed_in}
use Rattle.vortex_table_core.proofs.Regrouped.{sliced, own_many, few_within}
use Rattle.vortex_table_core.proofs.retype.joined_again.Goals as goal

pub join_chunks-requires-clause-formed : goal.join_chunks-requires-clause-formed
join_chunks-requires-clause-formed c =
    let g = c.args.group.now in let chunks = c.args.chunks.now in
    let p = is_formed (lengths_of c.args.retyping.now) (target_of c.args.retyping.now) in
    subst (λ cs. list_all p cs ≡ true) (sym (sliced g chunks)) (formed_in p g chunks c.requires.formed)

pub returns-in_ok-joined-in-Some : goal.returns-in_ok-joined-in-Some
returns-in_ok-joined-in-Some c =
    let g = c.args.group.now in let chunks = c.args.chunks.now in
    let r = c.args.retyping.now in let k = target_of r in (
      own_many g chunks c.requires.size (ap is_some c.in-Some.is),
      subst (λ cs. ∥ AreJoinedInOrder k (lengths_of r) (leaf_positions k) c.in_ok-joined-in-Some.joined.items (map chunk_rows cs) ∥₁) (sliced g chunks) c.in_ok-joined-in-Some.ensures,
    )

pub join_chunks-requires-clause-fits : goal.join_chunks-requires-clause-fits
join_chunks-requires-clause-fits c =
    let g = c.args.group.now in
    let few = few_within (g.first + g.chunks - g.first) g.first c.args.chunks.now in
    omega (arith, few, c.requires.fits)
