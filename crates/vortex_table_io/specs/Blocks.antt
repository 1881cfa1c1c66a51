-- Lists in blocks.
use Rattle.std.specs.Prelude.{◌≡◌, ◌<◌, ◌+◌, ℕ, zero, suc, List, [], ◌∷◌, ◌++◌, length}
use Rattle.std.specs.List.{flat_map}
use Rattle.std.specs.declared.vec.Vec.{Vec}
use Rattle.vortex_table_io.specs.declared.walk.Walk.{Walk}

abbrev pub items_in : {T Z : Type 0} → List (Vec T Z) → List T
items_in blocks = flat_map (λ b. b.items) blocks

-- the item at the index among all is at this offset of this block
abbrev pub IsAt : {T Z : Type 0} → List (Vec T Z) → ℕ → ℕ → ℕ → Type 0
IsAt [] block offset index = ⊥
IsAt (b ∷ blocks) zero offset index = (offset ≡ index) × (offset < length b.items)
IsAt (b ∷ blocks) (suc block) offset index =
    (behind : ℕ) × (index ≡ length b.items + behind) × IsAt blocks block offset behind

-- the items that are left
abbrev pub left_in : {T : Type 0} → Walk T → List T
left_in walk = walk.block.now ++ items_in walk.blocks.now
