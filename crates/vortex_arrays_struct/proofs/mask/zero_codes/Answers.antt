use Rattle.std.proofs.Common.{◌≡◌, replicate, rules, ◌∙◌}
use Rattle.vortex_arrays_core.specs.LayoutOf.{valid_of}
use Rattle.vortex_arrays_struct.proofs.Constants.{codes_sound}
use Rattle.vortex_arrays_struct.proofs.mask.zero_codes.Goals as goal

pub of_numbers-requires : goal.of_numbers-requires
of_numbers-requires c =
    let all : c.in_ok-vec.field-0.items ≡ replicate c.args.len 0 = search rules in
    (codes_sound c.in_ok-zeros.zeros c.args.len (valid_of c.args.validity.now) (valid_of c.in_ok-clone.field-0) (c.in_ok-zeros.ensures ∙ all) c.in_ok-clone.ensures.cases c.requires).1
