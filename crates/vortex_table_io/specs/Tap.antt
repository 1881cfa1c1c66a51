-- What contracts see of a `Tap`.
use Rattle.std.specs.Prelude.{ℕ, List}
use Rattle.vortex_table_io.specs.declared.call.Call.{Call}
use Rattle.vortex_table_io.specs.declared.tap.Tap.{Tap}

-- the reader or writer
abbrev pub tap_inner : {T : Type 0} → Tap T → T
tap_inner t = t.inner

-- the bytes that went through
abbrev pub tap_history : {T : Type 0} → Tap T → List ℕ
tap_history t = t.log.bytes

abbrev pub tap_calls : {T : Type 0} → Tap T → List Call
tap_calls t = t.calls.log.calls

-- the bytes that had gone through at the last flush that succeeded
abbrev pub tap_flushed : {T : Type 0} → Tap T → List ℕ
tap_flushed t = t.flushed.bytes
