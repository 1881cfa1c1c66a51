use Rattle.std.proofs.Common.{◌≡◌, length, ap, ◌∙◌}
use Rattle.vortex_arrays_buffer.specs.PrimitiveBuffers.{kind_of_numbers, integers_of}
use Rattle.vortex_arrays_core.specs.LayoutOf.{valid_of}
use Rattle.vortex_arrays_dictionary.specs.Columns.{valid_flags}
use Rattle.vortex_arrays_dictionary.proofs.ColumnLemmas.{flag_count, numbers_keyed}
use Rattle.vortex_arrays_dictionary.proofs.KeyedLemmas.{numbers_are_leaves}
use Rattle.vortex_arrays_dictionary.proofs.keyed.keyed_integers.Goals as goal

pub returns : goal.returns
returns c =
    let items = c.args.items.now in
    let v = valid_of c.args.validity.now in
    let flags = c.in_ok-present.present.items in
    let present : flags ≡ valid_flags v (length (integers_of items)) = c.in_ok-present.ensures ∙ ap (valid_flags v) c.len.ensures.count in
    record {
      many = flag_count v (length (integers_of items)) flags present;
      keys = numbers_keyed (kind_of_numbers items) (integers_of items) v flags present;
      leaves = numbers_are_leaves (kind_of_numbers items) (integers_of items) v;
    }
