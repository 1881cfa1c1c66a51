use Rattle.std.proofs.Common.{ap, map, ◌∙◌}
use Rattle.vortex_dtype_core.specs.View.{type_of}
use Rattle.vortex_arrays_model.specs.Layout.{rows_of}
use Rattle.vortex_scalar_value.specs.View.{content_in}
use Rattle.example_reader.proofs.ReadLemmas.{footer_read}
use Rattle.example_reader.proofs.footer.Footer.read.Goals as goal

pub returns-clause-made : goal.returns-clause-made
returns-clause-made c =
    footer_read c.args.bytes.now c.in-Some.first.now c.in-Some.rest.now c.in-Some.ensures (type_of c.in-Ok.dtype) (type_of c.in_ok-zone_dtype.zone_dtype)
    c.in-Ok-read_lines.zones.items c.in-Ok.ensures c.in_ok-zone_dtype.ensures.dtype c.in-Ok-read_lines.ensures.rows (rows_of c.in_ok-zones.zones)
    (c.in_ok-zones.ensures.rows ∙ ap (map content_in) c.deref.ensures.value)
