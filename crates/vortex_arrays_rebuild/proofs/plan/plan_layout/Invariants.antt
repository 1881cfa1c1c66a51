use Rattle.std.proofs.Common.{◌≡◌, ◌++◌, false, length, map, take}
use Rattle.vortex_arrays_model.specs.Layout.{content_at, len_of, list_views, rows_of}
use Rattle.vortex_arrays_model.specs.Canonical.{IsCanonical}
use Rattle.vortex_arrays_core.specs.LayoutOf.{valid_of}
use Rattle.vortex_arrays_rebuild.specs.Runs.{positions_of, positions_in}
use Rattle.vortex_arrays_rebuild.proofs.plan.plan_layout.Given as goal

abbrev pub invariant-loop-i : goal.invariant-loop-i
invariant-loop-i l = record {
  canonical : IsCanonical (take l.i (rows_of (list_views l.elements l.offsets l.sizes false (valid_of l.validity)))) (take l.i l.new_starts.items) (take l.i l.new_counts.items) (map (content_at l.elements) (positions_in l.runs.done.items ++ positions_of l.runs.last));
  limit : l.runs.limit ≡ len_of l.elements;
  as_many_starts : length l.new_starts.items ≡ length l.starts.items;
  as_many_counts : length l.new_counts.items ≡ length l.starts.items;
}
