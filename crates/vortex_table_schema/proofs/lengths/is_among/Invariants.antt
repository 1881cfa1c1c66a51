use Rattle.std.proofs.Common.{◌≡◌, map, drop}
use Rattle.std.specs.List.{list_any}
use Rattle.vortex_model.specs.Path.{eq_positions}
use Rattle.vortex_table_schema.proofs.lengths.is_among.Given as goal

abbrev pub invariant-loop-entry : goal.invariant-loop-entry
invariant-loop-entry l = list_any (eq_positions l.positions) (map (λ e. e.0) (drop l.entry-index l.entries)) ≡ list_any (eq_positions l.positions) (map (λ e. e.0) l.entries)
