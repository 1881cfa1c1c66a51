use Rattle.example_catalogue.specs.Catalogued.{partitions, kind}
use Rattle.example_catalogue.proofs.Clauses.{if_honest, if_made}
use Rattle.example_catalogue.proofs.catalogue.Catalogue.statistics.Goals as goal

pub returns-clause-honest : goal.returns-clause-honest
returns-clause-honest c = if_honest (kind c.args.self.now) (partitions c.args.self.now) c.args.from c.args.to c.unordered_merges_are_honest.ensures c.answer.result c.answer.ensures.value

pub returns-clause-made : goal.returns-clause-made
returns-clause-made c = if_made (kind c.args.self.now) (partitions c.args.self.now) c.args.from c.args.to c.answer.result c.answer.ensures.value
