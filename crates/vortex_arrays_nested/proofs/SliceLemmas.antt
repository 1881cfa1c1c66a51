-- The elements of one list.
use Rattle.std.proofs.Common.{◌≡◌, ◌<◌, ◌≤◌, ◌+◌, ◌-◌, ◌*◌, ℕ, refl, subst, arith}
use Rattle.std.proofs.lemmas.Nat.{mul-le}
use Rattle.vortex_arrays_view.specs.declared.error.ArrayError.{ArrayError}
use Rattle.vortex_arrays_view.specs.declared.error.ArrayError.TheVariants.{Memory, OutOfRange}
use Rattle.vortex_arrays_model.specs.Layout.{Layout}
use Rattle.vortex_arrays_model.specs.Picks.{Picks}
use Rattle.vortex_arrays_core.specs.Picking.{IsSliceFault}

-- a range within the rows is refused only where memory runs out
pub only_memory : (e : ArrayError) (n start end : ℕ) → IsSliceFault e n start end → start ≤ end → end ≤ n → e ≡ Memory
only_memory Memory n start end h l m = refl
only_memory OutOfRange n start end h l m = absurd (h (l, m))
only_memory e n start end h l m = absurd h

-- n rows from the start on
pub so_many : (a r : Layout) (start size k : ℕ) → k ≡ size → Picks a r (start + k - start) (λ i. start + i) → Picks a r size (λ i. start + i)
so_many a r start size k e h =
    let same : start + k - start ≡ size = omega (arith, e) in
    subst (λ n. Picks a r n (λ i. start + i)) same h

-- a list of one size ends within the elements
pub ends_within : (i n size count : ℕ) → count ≡ n * size → i < n → i * size + size ≤ count
ends_within i n size count e h = let p = mul-le (i + 1) size n size (omega arith) (omega arith) in omega (arith, p, e)

pub ruleset slices = (only_memory, so_many, ends_within)
