-- How the calls of a source and a sink ended, and what they add to the bytes so far.
use Rattle.std.specs.Prelude.{◌≡◌, ℕ, List, [], ◌∷◌, ◌++◌, take, All, Result, MatchResult, Bool, true, false, ◌&&◌, ◌==◌, nat_lt, if◌then◌else◌, Ok, Err}
use Rattle.std.specs.List.{list_any}
use Rattle.vortex_table_io.specs.declared.call.Call.{Call}
use Rattle.vortex_table_io.specs.declared.call.Call.TheVariants.{Passed, AtEnd, Flushed, Failed}

-- At `Ok(n)` the first n bytes of the buffer are added, and at `Err` none.
abbrev pub Adds : {E : Type 0} → List ℕ → List ℕ → Result ℕ E → List ℕ → Type 0
Adds old new r buf = MatchResult r (λ n. new ≡ old ++ take n buf) (λ _. new ≡ old)

-- What is flushed after a flush that returned this: all that was written at `Ok`, and no more than
-- before at `Err`.
abbrev pub flushed_after : {T E : Type 0} → Result T E → List ℕ → List ℕ → List ℕ
flushed_after (Ok u) written flushed = written
flushed_after (Err e) written flushed = flushed

-- How a read into a buffer of this length ended: at the end of the input, where the buffer has room
-- and no byte came.
abbrev pub read_call : {E : Type 0} → Result ℕ E → ℕ → Call
read_call (Ok n) room = if n == 0 && nat_lt 0 room then AtEnd else Passed
read_call (Err e) room = Failed

-- How a write of this many bytes ended. A write that took none of some bytes failed.
abbrev pub write_call : {E : Type 0} → Result ℕ E → ℕ → Call
write_call (Ok n) len = if n == 0 && nat_lt 0 len then Failed else Passed
write_call (Err e) len = Failed

abbrev pub flush_call : {T E : Type 0} → Result T E → Call
flush_call (Ok u) = Flushed
flush_call (Err e) = Failed

abbrev pub is_end : Call → Bool
is_end AtEnd = true
is_end c = false

abbrev pub is_failure : Call → Bool
is_failure Failed = true
is_failure c = false

-- a read into a buffer with room has returned no byte
abbrev pub has_ended : List Call → Bool
has_ended calls = list_any is_end calls

-- a call has failed, or a write has taken none of some bytes
abbrev pub has_failed : List Call → Bool
has_failed calls = list_any is_failure calls

-- All calls since then are reads or writes that passed.
abbrev pub OnlyPassed : List Call → List Call → Type 0
OnlyPassed old new = (calls : List Call) × All (λ c. c ≡ Passed) calls × (new ≡ old ++ calls)

-- All calls since then passed, but for one more, the last, which ended so.
abbrev pub EndsIn : Call → List Call → List Call → Type 0
EndsIn last old new = (before : List Call) × OnlyPassed old before × (new ≡ before ++ last ∷ [])
