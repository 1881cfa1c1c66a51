use Rattle.std.proofs.Common.{◌≡◌, drop, map}
use Rattle.vortex_dtype_core.specs.View.{entries_in}
use Rattle.vortex_scalar_core.specs.Scalar.{scalar_type}
use Rattle.vortex_scalar_builders.specs.nested.Children.{all_are_entries}
use Rattle.vortex_scalar_builders.proofs.nested.children.all_are_entries.Given as goal

abbrev pub invariant-loop-entry : goal.invariant-loop-entry
invariant-loop-entry l = all_are_entries (entries_in l.types).key (entries_in l.types).value (map (λ entry. (scalar_type entry.0, scalar_type entry.1)) (drop l.entry-index l.entries))
    ≡ all_are_entries (entries_in l.types).key (entries_in l.types).value (map (λ entry. (scalar_type entry.0, scalar_type entry.1)) l.entries)
