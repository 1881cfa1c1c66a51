-- The state of a service.
use Rattle.vortex_table_run.specs.State.{table_in}
use Rattle.example_service.specs.Log.{State, state_of}
use Rattle.example_service.specs.declared.service.Service.{Service}

abbrev pub state_in : Service → State
state_in s = state_of (table_in s.session) s.log.items
