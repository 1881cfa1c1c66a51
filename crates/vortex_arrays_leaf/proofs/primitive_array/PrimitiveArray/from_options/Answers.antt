use Rattle.std.proofs.Common.{map, ap, ◌∙◌, rules}
use Rattle.std.proofs.lemmas.Result.{IfOk-weaker}
use Rattle.vortex_arrays_leaf.proofs.OptionLemmas.{rows_made}
use Rattle.vortex_arrays_core.proofs.array.ArrayRef.TheLaws.TheTie as laws
use Rattle.vortex_arrays_leaf.proofs.primitive_array.PrimitiveArray.from_options.Goals as goal

pub returns-clause-rows : goal.returns-clause-rows
returns-clause-rows g c = IfOk-weaker c.new.result _ _ (λ a made. rows_made g.T.Sealed.integer _ a _ _ c.args.items.now made (ap (map g.T.Sealed.integer) c.in_ok-numbers.ensures ∙ c.in_ok-numbers_or_zero.ensures) c.in_ok-validity.ensures) c.new.ensures

pub returns-in_err-numbers_or_zero-clause-rows : goal.returns-in_err-numbers_or_zero-clause-rows
returns-in_err-numbers_or_zero-clause-rows c = search (rules, laws.the_lemmas)

pub returns-in_err-numbers_or_zero-clause-kind : goal.returns-in_err-numbers_or_zero-clause-kind
returns-in_err-numbers_or_zero-clause-kind c = search (rules, laws.the_lemmas)

pub returns-in_err-numbers-clause-rows : goal.returns-in_err-numbers-clause-rows
returns-in_err-numbers-clause-rows c = search (rules, laws.the_lemmas)

pub returns-in_err-numbers-clause-kind : goal.returns-in_err-numbers-clause-kind
returns-in_err-numbers-clause-kind c = search (rules, laws.the_lemmas)

pub returns-in_err-validity-clause-rows : goal.returns-in_err-validity-clause-rows
returns-in_err-validity-clause-rows c = search (rules, laws.the_lemmas)

pub returns-in_err-validity-clause-kind : goal.returns-in_err-validity-clause-kind
returns-in_err-validity-clause-kind c = search (rules, laws.the_lemmas)
