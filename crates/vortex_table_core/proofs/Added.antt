-- The answer with one more chunk, part by part.
use Rattle.std.proofs.Common.{◌≡◌, refl, ◌+◌, ◌-◌, ◌^◌, ◌++◌, ℕ, min, List, Option, Some, None, is_some, option_map, arith}
use Rattle.std.proofs.lemmas.Bool.Decides.{nat_tests}
use Rattle.vortex_model.specs.Content.{Content}
use Rattle.vortex_model_table.specs.Scan.{Outcome, is_skipped, is_whole, saturated, ScanAnswer}
use Rattle.vortex_table_core.specs.Progress.{Question, found_rows, push_if, tested_rows, proofs_at, with_chunk}

-- a sum that stops at the greatest number of 64 bits
pub stopped : (n : ℕ) → min n (2 ^ 64 - 1) ≡ saturated n
stopped n = grind (arith, nat_tests)

-- what is made of what is there, is
pub as_there : {X Y : Type 0} (f : X → Y) (o : Option X) → is_some o ≡ is_some (option_map f o)
as_there f None = refl
as_there f (Some x) = refl

pub added : (q : Question) (i : ℕ) (chunk : List Content) (o : Outcome) (a b : ScanAnswer) →
    b.rows ≡ a.rows ++ found_rows q o chunk → b.kind ≡ a.kind → b.skipped ≡ push_if (is_skipped o) i a.skipped → b.whole ≡ push_if (is_whole o) i a.whole →
    b.rows_tested ≡ saturated (a.rows_tested + tested_rows o chunk) → b.proofs ≡ saturated (a.proofs + proofs_at (is_some q.falsifier) (is_some q.satisfier) o) →
    b ≡ with_chunk q i chunk o a
added q i chunk o a b rows kind skipped whole tested proofs = λ j. record {
  rows = rows j;
  kind = kind j;
  skipped = skipped j;
  whole = whole j;
  rows_tested = tested j;
  proofs = proofs j;
}
