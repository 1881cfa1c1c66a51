-- The model's state of a session.
use Rattle.std.specs.Prelude.{Option, option_map}
use Rattle.vortex_model_table.specs.Table as model
use Rattle.vortex_table_core.specs.TableView.{table_of}
use Rattle.vortex_table_run.specs.declared.session.Session.{Session}

-- the table, or none
abbrev pub table_in : Session → Option model.Table
table_in s = option_map table_of s.table
