use Rattle.std.proofs.Common.{◌≡◌, ◌<◌, true, sym, ap, subst, ◌∙◌}
use Rattle.std.specs.List.{All}
use Rattle.vortex_arrays_model.specs.Layout.{bools, numbers, strings, len_of, is_valid}
use Rattle.vortex_arrays_model.specs.Parts.{valid_in}
use Rattle.vortex_arrays_buffer.specs.PrimitiveBuffers.{kind_of_numbers, integers_of}
use Rattle.vortex_arrays_core.specs.LayoutOf.{layout_of, valid_of, strings_of}
use Rattle.vortex_arrays_dictionary.proofs.ValueLemmas.{within_column, valid_there}
use Rattle.vortex_arrays_dictionary.proofs.values.rows_at.Goals as goal

pub bools_at-requires-clause-within : goal.bools_at-requires-clause-within
bools_at-requires-clause-within c =
    let same : c.args.array.now ≡ bools c.in-Bool.bits (valid_of c.in-Bool.validity) = sym c.layout.ensures.layout ∙ ap layout_of c.in-Bool.is in
    subst (λ a. All (λ p. p < len_of a) c.args.places.now) same (within_column c.args.array.now c.args.places.now c.requires.within)

pub bools_at-requires-clause-there : goal.bools_at-requires-clause-there
bools_at-requires-clause-there c =
    let same : c.args.array.now ≡ bools c.in-Bool.bits (valid_of c.in-Bool.validity) = sym c.layout.ensures.layout ∙ ap layout_of c.in-Bool.is in
    subst (λ a. All (λ p. is_valid (valid_in a) p ≡ true) c.args.places.now) same (valid_there c.args.array.now c.args.places.now c.requires.leaf c.requires.within c.requires.there)

pub numbers_at-requires-clause-within : goal.numbers_at-requires-clause-within
numbers_at-requires-clause-within c =
    let same : c.args.array.now ≡ numbers (kind_of_numbers c.in-Primitive.items) (integers_of c.in-Primitive.items) (valid_of c.in-Primitive.validity) = sym c.layout.ensures.layout ∙ ap layout_of c.in-Primitive.is in
    subst (λ a. All (λ p. p < len_of a) c.args.places.now) same (within_column c.args.array.now c.args.places.now c.requires.within)

pub numbers_at-requires-clause-there : goal.numbers_at-requires-clause-there
numbers_at-requires-clause-there c =
    let same : c.args.array.now ≡ numbers (kind_of_numbers c.in-Primitive.items) (integers_of c.in-Primitive.items) (valid_of c.in-Primitive.validity) = sym c.layout.ensures.layout ∙ ap layout_of c.in-Primitive.is in
    subst (λ a. All (λ p. is_valid (valid_in a) p ≡ true) c.args.places.now) same (valid_there c.args.array.now c.args.places.now c.requires.leaf c.requires.within c.requires.there)

pub strings_at-requires-clause-within : goal.strings_at-requires-clause-within
strings_at-requires-clause-within c =
    let same : c.args.array.now ≡ strings (strings_of c.in-VarBinView.kind) c.in-VarBinView.views c.in-VarBinView.buffers.value.items (valid_of c.in-VarBinView.validity) = sym c.layout.ensures.layout ∙ ap layout_of c.in-VarBinView.is in
    subst (λ a. All (λ p. p < len_of a) c.args.places.now) same (within_column c.args.array.now c.args.places.now c.requires.within)

pub strings_at-requires-clause-there : goal.strings_at-requires-clause-there
strings_at-requires-clause-there c =
    let same : c.args.array.now ≡ strings (strings_of c.in-VarBinView.kind) c.in-VarBinView.views c.in-VarBinView.buffers.value.items (valid_of c.in-VarBinView.validity) = sym c.layout.ensures.layout ∙ ap layout_of c.in-VarBinView.is in
    subst (λ a. All (λ p. is_valid (valid_in a) p ≡ true) c.args.places.now) same (valid_there c.args.array.now c.args.places.now c.requires.leaf c.requires.within c.requires.there)
