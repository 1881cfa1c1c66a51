use Rattle.std.proofs.Common.{◌≡◌, ◌+◌, ◌-◌, ◌++◌, false, map}
use Rattle.vortex_arrays_model.specs.Layout.{content_at, numbers, span}
use Rattle.vortex_arrays_core.specs.LayoutOf.{valid_of}
use Rattle.vortex_table_response.specs.Text.{contents_text}
use Rattle.vortex_table_run.proofs.leaves.push_native.Given as goal

-- what is written, and the string of the rest, is the string of all
abbrev pub invariant-loop-k : goal.invariant-loop-k
invariant-loop-k g l =
    let column = numbers g.T.Sealed.kind (map g.T.Sealed.integer l.items) (valid_of l.validity) in
    l.out.items ++ contents_text l.later (span (content_at column) (l.start + l.k) (l.count - l.k)) ≡ l.fn.out.items ++ contents_text false (span (content_at column) l.start l.count)
