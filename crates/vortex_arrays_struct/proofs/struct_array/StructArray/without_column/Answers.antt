use Rattle.std.proofs.Common.{rules, ◌≡◌, ◌<◌, ◌∙◌, length, sym, subst, arith}
use Rattle.std.specs.Vec.{vec_len}
use Rattle.std.below.core.proofs.iter.Serving.{as_err}
use Rattle.vortex_arrays_struct.specs.Records.{columns_in, arrays_in}
use Rattle.vortex_arrays_struct.proofs.EditLemmas.{array_within, taken}
use borrow.Author.Rules.{get_or_read}
use Rattle.vortex_arrays_struct.proofs.struct_array.StructArray.without_column.Goals as goal

pub remove-column-requires : goal.remove-column-requires
remove-column-requires c =
    let same : c.in_ok-fields.fields.items ≡ arrays_in (columns_in c.args.self.now) = c.in_ok-fields.ensures ∙ c.unmasked_fields.ensures in
    let within : c.args.place < length c.in_ok-fields.fields.items = subst (λ xs. c.args.place < length xs) (sym same) (array_within (columns_in c.args.self.now) c.args.place c.requires) in
    let many : vec_len c.in_ok-fields.fields ≡ length c.in_ok-fields.fields.items = search rules in
    omega (arith, within, many)

pub returns-in_err-validity-clause-rest : goal.returns-in_err-validity-clause-rest
returns-in_err-validity-clause-rest c = grind (arith, (as_err c.from_residual-in_err-validity.ensures.0).1)

pub returns-in_err-names-clause-rest : goal.returns-in_err-names-clause-rest
returns-in_err-names-clause-rest c = grind (arith, (as_err c.from_residual-in_err-names.ensures.0).1)

pub returns-in_err-validity-clause-column : goal.returns-in_err-validity-clause-column
returns-in_err-validity-clause-column c = grind (arith, (as_err c.from_residual-in_err-validity.ensures.0).1)

pub returns-in_err-rest-clause-column : goal.returns-in_err-rest-clause-column
returns-in_err-rest-clause-column c = grind (arith, (as_err c.from_residual-in_err-rest.ensures.0).1)

pub returns-in_err-names-clause-column : goal.returns-in_err-names-clause-column
returns-in_err-names-clause-column c = grind (arith, (as_err c.from_residual-in_err-names.ensures.0).1)

pub returns-in_err-fields-clause-column : goal.returns-in_err-fields-clause-column
returns-in_err-fields-clause-column c = grind (arith, (as_err c.from_residual.ensures.0).1)

pub returns-in_err-names-2-clause-rest : goal.returns-in_err-names-2-clause-rest
returns-in_err-names-2-clause-rest c = grind (arith, (as_err c.from_residual-in_err-names-2.ensures.0).1)

pub returns-in_err-fields-clause-rest : goal.returns-in_err-fields-clause-rest
returns-in_err-fields-clause-rest c = grind (arith, (as_err c.from_residual.ensures.0).1)

pub returns-clause-rest : goal.returns-clause-rest
returns-clause-rest c = grind (arith, taken, get_or_read)

pub returns-clause-column : goal.returns-clause-column
returns-clause-column c = grind (arith, taken, get_or_read)

pub returns-in_err-names-2-clause-column : goal.returns-in_err-names-2-clause-column
returns-in_err-names-2-clause-column c = grind (arith, (as_err c.from_residual-in_err-names-2.ensures.0).1)

pub returns-in_err-rest-clause-rest : goal.returns-in_err-rest-clause-rest
returns-in_err-rest-clause-rest c = grind (arith, (as_err c.from_residual-in_err-rest.ensures.0).1)
