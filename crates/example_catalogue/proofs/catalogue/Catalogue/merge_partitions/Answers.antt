use Rattle.example_catalogue.specs.Catalogued.{partitions, kind}
use Rattle.example_catalogue.proofs.Clauses.{if_joined_honest, if_joined_made}
use Rattle.example_catalogue.proofs.catalogue.Catalogue.merge_partitions.Goals as goal

pub returns-clause-honest : goal.returns-clause-honest
returns-clause-honest c = if_joined_honest (kind c.args.self.now) (partitions c.args.self.now) (partitions c.join.new.self) c.args.into c.args.from c.unordered_merges_are_honest.ensures c.join.result c.join.ensures.ok

pub returns-clause-made : goal.returns-clause-made
returns-clause-made c = if_joined_made (kind c.args.self.now) (partitions c.args.self.now) (partitions c.join.new.self) c.args.into c.args.from c.join.result c.join.ensures.ok
