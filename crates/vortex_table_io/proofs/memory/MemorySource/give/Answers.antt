use Rattle.std.proofs.Common.{ap, ◌∙◌, take}
use Rattle.vortex_table_io.proofs.Fronts.{front_and_more}
use Rattle.vortex_table_io.proofs.memory.MemorySource.give.Goals as goal

pub returns-clause-bytes : goal.returns-clause-bytes
returns-clause-bytes c =
    front_and_more c.args.self.now.all.now c.put_front.new.buf c.args.self.now.at c.min-n.result
    (c.put_front.ensures ∙ ap (take c.min-n.result) c.split_at.ensures.back)
