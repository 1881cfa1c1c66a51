use Rattle.std.proofs.Common.{refl, ◌+◌}
use Rattle.vortex_stats_array.specs.declared.array_stats.ArrayStats.{ArrayStats}
use Rattle.vortex_table_chunk.proofs.zones.JoinLemmas.{is_join}
use Rattle.vortex_table_chunk.proofs.zones.TypeLemmas.{typed_join}
use Rattle.vortex_table_chunk.proofs.zones.join.join_stats.Goals as goal

pub returns : goal.returns
returns c =
    let a = c.args.left.now in let b = c.args.right.now in
    let both : ArrayStats = record {
      min = c.in_ok-min.min;
      max = c.in_ok-max.max;
      null_count = a.null_count + b.null_count;
      row_count = a.row_count + b.row_count;
      sum = c.joined_sum.result;
      is_constant = c.joined_constancy.result;
    } in
    is_join a b both c.in_ok-min.ensures.bound c.in_ok-max.ensures.bound refl refl c.joined_sum.ensures.number c.joined_constancy.ensures
    (typed_join a b both c.joined_sum.ensures.kind c.in_ok-min.ensures.kind c.in_ok-max.ensures.kind)
