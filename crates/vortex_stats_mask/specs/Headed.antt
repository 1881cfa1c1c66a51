-- Columns of which the views of valid rows have the first bytes of their values.
use Rattle.std.specs.Prelude.{◌≡◌, ℕ, List, [], ◌∷◌, Option, Some, None, Bool, true, All}
use Rattle.vortex_stats_match.specs.Buffers.{buffers_in}
use Rattle.vortex_stats_match.specs.Heads.{HasHead}
use Rattle.vortex_stats_mask.specs.declared.column.Items.{Items}
use Rattle.vortex_stats_mask.specs.declared.column.Items.TheVariants.{Texts, Binaries}
use Rattle.vortex_stats_mask.specs.declared.column.Strings.{Strings}

-- P holds of the item of each valid row
abbrev pub AllValid : {X : Type 0} → (X → Type 0) → List Bool → List X → Type 0
AllValid P [] xs = Unit {0}
AllValid P (v ∷ vs) [] = Unit {0}
AllValid P (v ∷ vs) (x ∷ xs) = (v ≡ true → P x) × AllValid P vs xs

-- the views of valid rows have the first bytes of their values; with no validity all rows are valid
abbrev pub ViewsHaveHeads : Option (List Bool) → List (List ℕ) → List (List ℕ) → Type 0
ViewsHaveHeads None views buffers = All (λ v. HasHead v buffers) views
ViewsHaveHeads (Some rows) views buffers = AllValid (λ v. HasHead v buffers) rows views

abbrev pub HaveHeads : Option (List Bool) → Strings → Type 0
HaveHeads valid s = ViewsHaveHeads valid s.views.now (buffers_in s.buffers)

-- numbers and booleans have no views
abbrev pub AreHeaded : Items → Option (List Bool) → Type 0
AreHeaded (Texts s) valid = HaveHeads valid s
AreHeaded (Binaries s) valid = HaveHeads valid s
AreHeaded items valid = Unit {0}
