use Rattle.std.proofs.Common.{◌≡◌, None, option_map, drop}
use Rattle.vortex_stats_set.specs.Known.{raw_pairs}
use Rattle.example_catalogue.specs.Partitions.{between}
use Rattle.example_catalogue.specs.Made.{gathered}
use Rattle.example_catalogue.specs.Catalogued.{raw_partitions}
use Rattle.example_catalogue.proofs.catalogue.Catalogue.answer.Given as goal

abbrev pub invariant-loop-partition : goal.invariant-loop-partition
invariant-loop-partition l = gathered (option_map raw_pairs l.all) (between l.from l.to (raw_partitions (drop l.partition-index l.partition-items))) ≡ gathered None (between l.from l.to (raw_partitions l.partition-items))
