use Rattle.std.proofs.Common.{ap, ◌==◌}
use Rattle.vortex_dtype_path.specs.Tree.{nodes_of, kept_paths}
use Rattle.vortex_dtype_path.proofs.Sets.{empty_or_not}
use Rattle.vortex_dtype_path.proofs.path_set.FieldPathSet.is_empty.Goals as goal

pub returns : goal.returns
returns c = empty_or_not (kept_paths (nodes_of c.args.self.now.nodes.items)) _ (ap (λ n. n == 0) c.args.self.now.counted)
