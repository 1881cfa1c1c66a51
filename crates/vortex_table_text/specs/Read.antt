-- What is read of JSON text.
use Rattle.std.specs.Prelude.{ℕ, List, Option, option_and_then}
use Rattle.vortex_model_table.specs.Expression.{Expression}
use Rattle.vortex_table_request.specs.Parsed.{data_of}
use Rattle.vortex_table_request.specs.Where.{predicate_in}

abbrev pub predicate_read : List ℕ → Option Expression
predicate_read text = option_and_then predicate_in (data_of text)
