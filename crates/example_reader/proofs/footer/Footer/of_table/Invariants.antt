use Rattle.example_reader.proofs.TableZones.{AreSoFar}
use Rattle.example_reader.proofs.footer.Footer.of_table.Given as goal

abbrev pub invariant-loop-group : goal.invariant-loop-group
invariant-loop-group l = AreSoFar l.table l.group l.zones.items
