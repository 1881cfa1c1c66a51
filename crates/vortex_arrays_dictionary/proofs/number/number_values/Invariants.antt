use Rattle.std.proofs.Common.{◌≡◌, true, length, map, take}
use Rattle.vortex_model.specs.LogicalType.{LogicalType}
use Rattle.vortex_model.specs.Kept.{is_leaf}
use Rattle.vortex_scalar_value.specs.View.{raw_at}
use Rattle.vortex_arrays_dictionary.specs.Numbering.{Knows, AreOf, IsNumbering}
use Rattle.vortex_arrays_dictionary.proofs.number.number_values.Given as goal

abbrev pub invariant-loop-i : goal.invariant-loop-i
invariant-loop-i l = record {
  many : length l.numbers.items ≡ length l.values;
  known : Knows l.places (map raw_at l.distinct.items);
  numbered : (k : LogicalType) → is_leaf k ≡ true → AreOf k (map raw_at l.values) →
      IsNumbering k (map raw_at (take l.i l.values)) (map raw_at l.distinct.items) (take l.i l.numbers.items);
}
