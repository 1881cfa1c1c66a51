use Rattle.std.proofs.Common.{rules}
use Rattle.vortex_arrays_core.proofs.array.ArrayRef.TheLaws.TheTie as laws
use Rattle.vortex_arrays_leaf.proofs.options.valid_where_some.Goals as goal

pub returns-in_err-bits : goal.returns-in_err-bits
returns-in_err-bits c = search (rules, laws.the_lemmas)

pub returns-in_err-valid : goal.returns-in_err-valid
returns-in_err-valid c = search (rules, laws.the_lemmas)
