use Rattle.vortex_table_schema.proofs.Paths.{kept_added}
use Rattle.vortex_table_schema.proofs.cut.push_kept.Goals as goal

pub returns : goal.returns
returns c = kept_added c.args.kept.now.items c.push.new.self.items _ c.in_ok-push.ensures.items
