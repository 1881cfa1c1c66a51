-- What contracts see of a source and a sink in memory.
use Rattle.std.specs.Prelude.{ℕ, List, Bool, take, drop}
use Rattle.vortex_table_io.specs.declared.call.Call.{Call}
use Rattle.vortex_table_io.specs.declared.memory.MemorySource.{MemorySource}
use Rattle.vortex_table_io.specs.declared.memory.MemorySink.{MemorySink}

-- all bytes of the source
abbrev pub source_bytes : MemorySource → List ℕ
source_bytes s = s.all.now

-- the most bytes that one read returns
abbrev pub source_most : MemorySource → ℕ
source_most s = s.most

-- how many more reads succeed
abbrev pub source_good : MemorySource → ℕ
source_good s = s.good

-- what a source was made of: its bytes, and the most that one read returns
pub record Made : Type 0 where
  pub bytes : List ℕ
  pub most : ℕ

abbrev pub made_by : List ℕ → ℕ → Made
made_by bytes most = record { bytes = bytes; most = most }

abbrev pub made_of : MemorySource → Made
made_of s = made_by s.all.now s.most

-- the bytes not read yet
abbrev pub source_left : MemorySource → List ℕ
source_left s = drop s.at s.all.now

abbrev pub source_history : MemorySource → List ℕ
source_history s = take s.at s.all.now

abbrev pub source_calls : MemorySource → List Call
source_calls s = s.calls.log.calls

-- the most bytes that one write takes
abbrev pub sink_most : MemorySink → ℕ
sink_most s = s.most

-- how many more calls succeed
abbrev pub sink_good : MemorySink → ℕ
sink_good s = s.good

-- whether a flush can succeed
abbrev pub sink_flushes : MemorySink → Bool
sink_flushes s = s.flushes

abbrev pub sink_calls : MemorySink → List Call
sink_calls s = s.calls.log.calls

-- what had been written at the last flush that succeeded
abbrev pub sink_flushed : MemorySink → List ℕ
sink_flushed s = s.flushed.bytes
