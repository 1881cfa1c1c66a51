use Rattle.std.proofs.Common.{◌≡◌, drop}
use Rattle.vortex_model.specs.Content.{content_of}
use Rattle.vortex_model.specs.Path.{at}
use Rattle.vortex_scalar_value.specs.View.{raw_of, content_at}
use Rattle.vortex_stats_bind.proofs.bound.part_at.Given as goal

abbrev pub invariant-loop-index : goal.invariant-loop-index
invariant-loop-index l = at (content_at l.current) (drop l.index-index l.path) ≡ at (content_of (raw_of l.row)) l.path
