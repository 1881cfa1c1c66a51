use Rattle.std.proofs.Common.{◌≡◌, length, map, ap, ◌∙◌}
use Rattle.std.specs.List.{range_with_len}
use Rattle.vortex_arrays_core.specs.LayoutOf.{valid_of}
use Rattle.vortex_arrays_dictionary.specs.Columns.{valid_flags, bytes_or_none}
use Rattle.vortex_arrays_dictionary.proofs.ColumnLemmas.{key_rows, strings_keyed}
use Rattle.vortex_arrays_dictionary.proofs.KeyedLemmas.{strings_are_leaves}
use Rattle.vortex_arrays_dictionary.proofs.keyed.keyed_strings.Goals as goal

pub returns : goal.returns
returns c =
    let vs = c.args.views.now in
    let bs = c.args.buffers.now in
    let v = valid_of c.args.validity.now in
    let rows = range_with_len 0 (length vs) in
    let flags = c.in_ok-present.present.items in
    let keys = c.in_ok-keys.keys.items in
    let present : flags ≡ valid_flags v (length vs) = c.in_ok-present.ensures in
    let same : map (λ key. key.bytes.now) keys ≡ map (bytes_or_none vs bs flags) rows =
    c.in_ok-keys.ensures ∙ ap (λ p. map (bytes_or_none vs bs p) rows) c.as_slice.ensures.value in
    λ s. record {
      many = key_rows vs bs v flags keys present same;
      keys = strings_keyed s vs bs v flags keys present same;
      leaves = strings_are_leaves s vs bs v;
    }
