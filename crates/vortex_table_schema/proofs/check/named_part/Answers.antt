use Rattle.std.proofs.Common.{arith}
use Rattle.vortex_table_schema.proofs.NamedParts.{named}
use borrow.Author.Rules.{get_or_read}
use Rattle.vortex_table_schema.proofs.check.named_part.Goals as goal

pub returns-in_err-as_struct_fields_opt : goal.returns-in_err-as_struct_fields_opt
returns-in_err-as_struct_fields_opt c = grind (arith, named, get_or_read)

pub returns : goal.returns
returns c = grind (arith, named, get_or_read)
