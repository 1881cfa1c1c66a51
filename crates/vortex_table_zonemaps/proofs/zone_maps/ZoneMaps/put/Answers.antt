use Rattle.std.proofs.Common.{refl}
use Rattle.vortex_table_zonemaps.specs.Stats.{rows_stat}
use Rattle.vortex_table_zonemaps.proofs.Held.{zones_kept, zone_put}
use Rattle.vortex_table_zonemaps.proofs.zone_maps.ZoneMaps.put.Goals as goal

pub returns-in_err-put_leaves-clause-kept : goal.returns-in_err-put_leaves-clause-kept
returns-in_err-put_leaves-clause-kept c = λ zones many is. record {
  leaves = c.put_leaves.ensures.kept zones many is.leaves;
  rows = is.rows;
}

pub returns-in_err-put-clause-kept : goal.returns-in_err-put-clause-kept
returns-in_err-put-clause-kept c = λ zones many is. record {
  leaves = c.put_leaves.ensures.kept zones many is.leaves;
  rows = zones_kept rows_stat c.args.count c.args.self.now.rows c.put.new.self zones many c.put.ensures.kept is.rows;
}

pub returns-clause-kept : goal.returns-clause-kept
returns-clause-kept c = λ zones many is. record {
  leaves = c.put_leaves.ensures.kept zones many is.leaves;
  rows = zones_kept rows_stat c.args.count c.args.self.now.rows c.put.new.self zones many c.put.ensures.kept is.rows;
}

pub returns-clause-put : goal.returns-clause-put
returns-clause-put c = λ zones many is. record {
  leaves = c.in_ok-put_leaves.ensures.put zones many is.leaves;
  rows = zone_put rows_stat c.args.count c.args.self.now.rows c.put.new.self zones many (rows_stat (c.args.bounds.now, c.args.rows)) (c.args.bounds.now, c.args.rows) c.in_ok-put.ensures.put refl is.rows;
}
