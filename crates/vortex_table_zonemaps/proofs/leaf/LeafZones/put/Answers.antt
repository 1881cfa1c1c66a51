use Rattle.vortex_model_table.specs.Expression.{min, max, null_count}
use Rattle.vortex_table_zonemaps.specs.Stats.{leaf_stat}
use Rattle.vortex_stats_bind.specs.OperandValue.{operand_value}
use Rattle.vortex_table_zonemaps.proofs.Held.{zones_kept, zone_put, as_told}
use Rattle.vortex_table_zonemaps.proofs.leaf.LeafZones.put.Goals as goal

pub returns-in_err-put-clause-kept : goal.returns-in_err-put-clause-kept
returns-in_err-put-clause-kept c = λ j zones many is.
    let old = c.args.self.now in let n = c.args.count in record {
      lows = zones_kept (leaf_stat j min) n old.lows c.put.new.self zones many c.put.ensures.kept is.lows;
      highs = is.highs;
      null_counts = is.null_counts;
    }

pub returns-in_err-put-2-clause-kept : goal.returns-in_err-put-2-clause-kept
returns-in_err-put-2-clause-kept c = λ j zones many is.
    let old = c.args.self.now in let n = c.args.count in record {
      lows = zones_kept (leaf_stat j min) n old.lows c.put.new.self zones many c.put.ensures.kept is.lows;
      highs = zones_kept (leaf_stat j max) n old.highs c.put-2.new.self zones many c.put-2.ensures.kept is.highs;
      null_counts = is.null_counts;
    }

pub returns-in_err-put-3-clause-kept : goal.returns-in_err-put-3-clause-kept
returns-in_err-put-3-clause-kept c = λ j zones many is.
    let old = c.args.self.now in let n = c.args.count in record {
      lows = zones_kept (leaf_stat j min) n old.lows c.put.new.self zones many c.put.ensures.kept is.lows;
      highs = zones_kept (leaf_stat j max) n old.highs c.put-2.new.self zones many c.put-2.ensures.kept is.highs;
      null_counts = zones_kept (leaf_stat j null_count) n old.null_counts c.put-3.new.self zones many c.put-3.ensures.kept is.null_counts;
    }

pub returns-clause-kept : goal.returns-clause-kept
returns-clause-kept c = λ j zones many is.
    let old = c.args.self.now in let n = c.args.count in record {
      lows = zones_kept (leaf_stat j min) n old.lows c.put.new.self zones many c.put.ensures.kept is.lows;
      highs = zones_kept (leaf_stat j max) n old.highs c.put-2.new.self zones many c.put-2.ensures.kept is.highs;
      null_counts = zones_kept (leaf_stat j null_count) n old.null_counts c.put-3.new.self zones many c.put-3.ensures.kept is.null_counts;
    }

pub returns-clause-put : goal.returns-clause-put
returns-clause-put c = λ j zones zone many at rows is.
    let old = c.args.self.now in let n = c.args.count in record {
      lows = zone_put (leaf_stat j min) n old.lows c.put.new.self zones many (operand_value c.statistic_in-low.result) zone c.in_ok-put.ensures.put
          (as_told (operand_value c.statistic_in-low.result) j zone _ c.args.rows min at rows c.statistic_in-low.ensures) is.lows;
      highs = zone_put (leaf_stat j max) n old.highs c.put-2.new.self zones many (operand_value c.statistic_in-high.result) zone c.in_ok-put-2.ensures.put
          (as_told (operand_value c.statistic_in-high.result) j zone _ c.args.rows max at rows c.statistic_in-high.ensures) is.highs;
      null_counts = zone_put (leaf_stat j null_count) n old.null_counts c.put-3.new.self zones many (operand_value c.statistic_in-null_count.result) zone c.in_ok-put-3.ensures.put
          (as_told (operand_value c.statistic_in-null_count.result) j zone _ c.args.rows null_count at rows c.statistic_in-null_count.ensures) is.null_counts;
    }
