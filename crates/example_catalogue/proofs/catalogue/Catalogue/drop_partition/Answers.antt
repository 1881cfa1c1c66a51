use Rattle.std.proofs.Common.{sym, ap, ◌∙◌, is_some}
use Rattle.example_catalogue.specs.Catalogued.{raw_partitions, partitions, kind}
use Rattle.example_catalogue.proofs.Clauses.{dropped_honest, dropped_made}
use Rattle.example_catalogue.proofs.Found.{raw_drop, raw_no_drop, raw_value}
use Rattle.example_catalogue.proofs.catalogue.Catalogue.drop_partition.Goals as goal

pub returns-in-Some-clause-dropped : goal.returns-in-Some-clause-dropped
returns-in-Some-clause-dropped c =
    ap raw_partitions c.remove-dropped.ensures.items
    ∙ raw_drop c.args.self.now.partitions.items c.args.number c.in-Some.i (sym c.position.ensures ∙ c.in-Some.is)

pub returns-in-Some-clause-found : goal.returns-in-Some-clause-found
returns-in-Some-clause-found c =
    sym (ap is_some (raw_value c.args.self.now.partitions.items c.args.number c.in-Some.i c.remove-dropped.result (sym c.position.ensures ∙ c.in-Some.is)))

pub returns-in-Some-clause-honest : goal.returns-in-Some-clause-honest
returns-in-Some-clause-honest c =
    dropped_honest (kind c.args.self.now) (partitions c.args.self.now) (raw_partitions c.remove-dropped.new.self.items) c.args.number
    (ap raw_partitions c.remove-dropped.ensures.items
    ∙ raw_drop c.args.self.now.partitions.items c.args.number c.in-Some.i (sym c.position.ensures ∙ c.in-Some.is))

pub returns-in-Some-clause-made : goal.returns-in-Some-clause-made
returns-in-Some-clause-made c =
    dropped_made (kind c.args.self.now) (partitions c.args.self.now) (raw_partitions c.remove-dropped.new.self.items) c.args.number
    (ap raw_partitions c.remove-dropped.ensures.items
    ∙ raw_drop c.args.self.now.partitions.items c.args.number c.in-Some.i (sym c.position.ensures ∙ c.in-Some.is))

pub returns-in-None-clause-honest : goal.returns-in-None-clause-honest
returns-in-None-clause-honest c =
    dropped_honest (kind c.args.self.now) (partitions c.args.self.now) (partitions c.args.self.now) c.args.number
    (raw_no_drop c.args.self.now.partitions.items c.args.number (sym c.position.ensures ∙ c.in-None.is))

pub returns-in-None-clause-made : goal.returns-in-None-clause-made
returns-in-None-clause-made c =
    dropped_made (kind c.args.self.now) (partitions c.args.self.now) (partitions c.args.self.now) c.args.number
    (raw_no_drop c.args.self.now.partitions.items c.args.number (sym c.position.ensures ∙ c.in-None.is))
