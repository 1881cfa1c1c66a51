use Rattle.std.proofs.Common.{rules, ◌≡◌, ◌<◌, ◌≤ℤ◌, ◌∙◌, pos, ap, arith}
use borrow.Author.Differences.{ints}
use Rattle.vortex_model.specs.Content.{integer}
use Rattle.vortex_arrays_model.specs.Layout.{content_at, len_of}
use Rattle.vortex_arrays_core.specs.LayoutOf.{integer_content}
use Rattle.vortex_arrays_validity.proofs.PlaceLemmas.{first_in_word}
use Rattle.vortex_arrays_validity.proofs.places.first_place.Goals as goal

pub overflow_cast-result : goal.overflow_cast-result
overflow_cast-result c =
    let array = c.args.array.now in
    let number = c.in-Some.number in
    let some : 0 < len_of array = search rules in
    let there : content_at array 0 ≡ integer number =
    c.integer.ensures ∙ ap integer_content c.in-Some.is in
    let within : number ≤ℤ pos 18446744073709551615 =
    first_in_word array number c.len.ensures.sound c.requires some there in
    grind (ints, arith, within)
