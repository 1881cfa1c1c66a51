use Rattle.vortex_stats_set.specs.Known.{raw_pairs}
use Rattle.example_catalogue.specs.Catalogued.{partitions, kind}
use Rattle.example_catalogue.proofs.Clauses.{both_alike}
use Rattle.example_catalogue.proofs.catalogue.ask_both.Goals as goal

pub returns-clause-alike : goal.returns-clause-alike
returns-clause-alike c = both_alike (kind c.args.first.now) (kind c.args.second.now) (partitions c.args.first.now) (partitions c.args.second.now) c.args.from c.args.to (raw_pairs c.in_ok-answer.answer) (raw_pairs c.in_ok-other.other) c.in_ok-answer.ensures.made c.in_ok-other.ensures.made
