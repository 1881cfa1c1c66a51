use Rattle.std.proofs.Common.{refl, sym}
use Rattle.vortex_dtype_path.specs.Tree.{nodes_of, kept_paths}
use Rattle.vortex_dtype_path.proofs.Kept.{distinct}
use Rattle.vortex_dtype_path.proofs.path_set.FieldPathSet.len.Goals as goal

pub returns : goal.returns
returns c = (kept_paths (nodes_of c.args.self.now.nodes.items), distinct _ c.args.self.now.tree, λ q. refl, sym c.args.self.now.counted)
