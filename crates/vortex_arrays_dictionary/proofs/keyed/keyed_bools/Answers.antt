use Rattle.std.proofs.Common.{◌≡◌, length, sym, ap, subst, ◌∙◌}
use Rattle.std.specs.Bool.{beq}
use Rattle.vortex_arrays_model.specs.Layout.{bools, rows_of}
use Rattle.vortex_arrays_core.specs.LayoutOf.{valid_of}
use Rattle.vortex_arrays_dictionary.specs.Columns.{valid_flags}
use Rattle.vortex_arrays_dictionary.specs.Firsts.{AreKeysOf}
use Rattle.vortex_arrays_dictionary.proofs.ColumnLemmas.{flag_count, bools_keyed}
use Rattle.vortex_arrays_dictionary.proofs.KeyedLemmas.{truths_are_leaves}
use Rattle.vortex_arrays_dictionary.proofs.keyed.keyed_bools.Goals as goal

pub returns : goal.returns
returns c =
    let bs = c.args.bits.now in
    let v = valid_of c.args.validity.now in
    let flags = c.in_ok-present.present.items in
    let truths = c.in_ok-truths.truths.items in
    let present : flags ≡ valid_flags v (length bs) = c.in_ok-present.ensures ∙ ap (valid_flags v) c.len.ensures in
    let same : truths ≡ bs = c.in_ok-truths.ensures in
    record {
      many = flag_count v (length bs) flags present ∙ ap length (sym same);
      keys = subst (λ ks. AreKeysOf beq ks flags (rows_of (bools bs v))) (sym same) (bools_keyed bs v flags present);
      leaves = truths_are_leaves bs v;
    }
