use Rattle.std.proofs.Common.{sym, subst}
use Rattle.vortex_arrays_model.specs.Layout.{IsSound}
use Rattle.vortex_arrays_nested.proofs.CodeLemmas.{reflagged}
use Rattle.vortex_arrays_nested.proofs.dict_array.DictArray.set_all_values_referenced.Goals as goal

pub of_dict-requires : goal.of_dict-requires
of_dict-requires c = λ _ _. rw (c.in_ok-codes.ensures.cases, c.in_ok-values.ensures.cases) (reflagged c.args.self c.parts.result.0.now c.parts.result.1.now c.parts.result.2 c.args.all_values_referenced c.parts.ensures.parts (subst IsSound (sym c.parts.ensures.parts) c.parts.ensures.sound) c.requires)
