use Rattle.std.proofs.Common.{map, ◌∙◌}
use Rattle.std.proofs.lemmas.List.{length-set}
use Rattle.vortex_scalar_value.specs.View.{raw_at}
use Rattle.vortex_arrays_dictionary.proofs.NumberLemmas.{numbered_turn}
use Rattle.vortex_arrays_dictionary.proofs.number.number_values.Goals as goal

pub loop-i-preserved : goal.loop-i-preserved
loop-i-preserved c =
    let ns = c.loop-i.numbers.items in
    let n = c.in_ok-numbers-2.field-0 in
    record {
      many = length-set ns c.loop-i.i n ∙ c.loop-i.invariant.many;
      known = c.in_ok-numbers-2.ensures.known;
      numbered = λ k leaf held.
          numbered_turn k c.args.values.now c.loop-i.i c.index-values-i.result (map raw_at c.loop-i.distinct.items) (map raw_at c.number_or_zero.new.distinct.items) ns n leaf c.loop-i.invariant.many held
          (c.loop-i.invariant.numbered k leaf held) c.loop-i-test.true c.index-values-i.is c.in_ok-numbers-2.ensures.number;
    }
