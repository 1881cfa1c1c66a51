use Rattle.example_catalogue.specs.Catalogued.{partitions, kind}
use Rattle.example_catalogue.proofs.Clauses.{if_added_honest, if_added_made}
use Rattle.example_catalogue.proofs.catalogue.Catalogue.add.Goals as goal

pub returns-clause-honest : goal.returns-clause-honest
returns-clause-honest c = if_added_honest (kind c.args.self.now) (partitions c.args.self.now) (partitions c.put_in.new.self) c.args.number c.args.set c.valid_sets_count_nulls.ensures c.put_in.result c.put_in.ensures.ok

pub returns-clause-made : goal.returns-clause-made
returns-clause-made c = if_added_made (kind c.args.self.now) (partitions c.args.self.now) (partitions c.put_in.new.self) c.args.number c.args.set c.put_in.result c.put_in.ensures.ok
