-- Raw values of views with parts, and null for none.
use Rattle.std.specs.Prelude.{List, Option, Some, None}
use Rattle.std.specs.Borrow.{Bor}
use Rattle.vortex_model.specs.Content.{Raw, raw_null, raw_tuple}
use Rattle.vortex_scalar_value.specs.View.{raws_in}
use Rattle.vortex_scalar_value.specs.declared.scalar_value.ScalarValue.{ScalarValue}

abbrev pub raw_of_items : Option (Bor (List (Option ScalarValue))) → Raw
raw_of_items None = raw_null
raw_of_items (Some items) = raw_tuple (raws_in items.now)
