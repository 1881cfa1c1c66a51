use Rattle.std.proofs.Common.{arith}
use Rattle.std.proofs.lemmas.Grind.{elements}
use Rattle.vortex_dtype_ptype.specs.View.{nullability_of_flag, number_kind_of}
use Rattle.vortex_arrays_builder.proofs.LeafLemmas.{all_within}
use Rattle.vortex_arrays_builder.proofs.leaves.of_integers.Goals as goal

pub numbers_of_kind-requires-clause-held : goal.numbers_of_kind-requires-clause-held
numbers_of_kind-requires-clause-held c = all_within (number_kind_of c.args.ptype) (nullability_of_flag c.args.nullability) c.args.values.now c.requires.kind c.requires.held

pub returns : goal.returns
returns c = grind (arith, elements)
