use Rattle.std.proofs.Common.{◌≡◌, ◌∙◌, ◌++◌, ◌+◌, ◌-◌, ap, sym, drop, length, length-drop, map, take}
use Rattle.std.proofs.Math.Seq.{take-length}
use Rattle.vortex_dtype_core.specs.View.{field_of}
use Rattle.vortex_dtype_fields.proofs.Pieces.{without-place}
use Rattle.vortex_dtype_fields.proofs.struct_fields_ext.all_but.Goals as goal

pub returns : goal.returns
returns c =
    let front = c.in_ok-front-2.front.items in
    let behind = drop (c.args.place + 1) c.args.fields.now in
    let whole : take (length c.args.fields.now - (c.args.place + 1)) behind ≡ behind
    = ap (λ n. take n behind) (sym (length-drop (c.args.place + 1) c.args.fields.now)) ∙ take-length behind in
    without-place c.args.fields.now front c.in_ok-all.all.items c.args.place
    (c.in_ok-front-2.ensures ∙ ap (λ fs. map field_of fs ++ map field_of (take c.args.place c.args.fields.now)) c.in_ok-front.ensures.items)
    (c.in_ok-all.ensures ∙ ap (λ fs. map field_of front ++ map field_of fs) whole)
