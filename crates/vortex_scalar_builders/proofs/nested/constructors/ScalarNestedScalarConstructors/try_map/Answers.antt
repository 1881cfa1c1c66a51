use Rattle.std.proofs.Common.{◌≡◌, ◌∙◌, true, map, sym, ap}
use Rattle.vortex_dtype_core.specs.View.{entries_in}
use Rattle.vortex_scalar_core.specs.Scalar.{scalar_type}
use Rattle.vortex_scalar_builders.specs.nested.Children.{all_are_entries}
use Rattle.vortex_scalar_builders.proofs.nested.Made.{map_valid}
use Rattle.vortex_scalar_builders.proofs.nested.constructors.ScalarNestedScalarConstructors.try_map.Goals as goal

pub new_unchecked-requires : goal.new_unchecked-requires
new_unchecked-requires c =
    let types = entries_in c.args.types in
    let fit : all_are_entries types.key types.value (map (λ e. (scalar_type e.0, scalar_type e.1)) c.args.entries.items) ≡ true
    = ap (λ es. all_are_entries types.key types.value (map (λ e. (scalar_type e.0, scalar_type e.1)) es)) (sym c.deref.ensures.value) ∙ sym c.if-not-all_are_entries.ensures in
    map_valid c.args.types c.args.nullability c.in_ok-values.values c.args.entries.items c.in_ok-values.ensures fit
