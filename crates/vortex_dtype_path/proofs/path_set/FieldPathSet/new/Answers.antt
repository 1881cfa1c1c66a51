use Rattle.std.proofs.Common.{sym, ap, subst, length}
use Rattle.vortex_dtype_path.specs.Tree.{IsTree, nodes_of, kept_paths}
use Rattle.vortex_dtype_path.proofs.Grown.{empty_tree}
use Rattle.vortex_dtype_path.proofs.path_set.FieldPathSet.new.Goals as goal

pub invariant_of-result : goal.invariant_of-result
invariant_of-result c = record {
  tree = subst (λ ns. IsTree (nodes_of ns)) (sym c.new.ensures.items) empty_tree;
  counted = ap (λ ns. length (kept_paths (nodes_of ns))) (sym c.new.ensures.items);
}
