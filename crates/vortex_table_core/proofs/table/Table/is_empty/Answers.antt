use Rattle.std.proofs.Common.{◌≡◌, sym, ap, ◌∙◌, ℕ, length, nat_eq, IsTrue, arith}
use Rattle.std.proofs.lemmas.Bool.Decides.{nat_tests}
use Rattle.vortex_table_core.proofs.Counts.{all_rows, no_rows}
use Rattle.vortex_table_core.proofs.table.Table.is_empty.Goals as goal

is_zero : (n : ℕ) → IsTrue (nat_eq n 0) → n ≡ 0
is_zero n h = grind (arith, nat_tests, h)

zero_is : (n : ℕ) → n ≡ 0 → IsTrue (nat_eq n 0)
zero_is n h = grind (arith, nat_tests, h)

pub returns : goal.returns
returns c =
    let table = c.args.self.now in (
      λ h. no_rows table.chunks.items (table.counted ∙ is_zero table.len h),
      λ h. zero_is table.len (sym table.counted ∙ sym (all_rows table.chunks.items) ∙ ap length h),
    )
