use Rattle.std.proofs.Common.{◌≡◌, ◌++◌, take}
use Rattle.vortex_dtype_ptype.proofs.field_names_iter.push_copies.Given as goal

abbrev pub invariant-loop-name : goal.invariant-loop-name
invariant-loop-name l = l.names.items ≡ l.initial.names.items ++ take l.name-index l.more
