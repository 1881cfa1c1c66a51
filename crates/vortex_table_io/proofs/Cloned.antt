-- The items of blocks that are cloned.
use Rattle.std.proofs.Common.{◌≡◌, ℕ, List, [], ◌∷◌, ◌++◌, length}
use Rattle.std.specs.List.{AllZip}
use Rattle.std.specs.Vec.{vec_len}
use Rattle.std.specs.declared.vec.Vec.{Vec}
use Rattle.std.proofs.lemmas.Slice.Zip.{AllZip-long}
use Rattle.vortex_table_io.specs.Blocks.{items_in}

module _ {T : Type 0} (R : T → T → Type 0) where
  zip_behind : (us vs xs ys : List T) → AllZip R us vs → AllZip R xs ys → AllZip R (us ++ xs) (vs ++ ys)
  zip_behind [] [] xs ys h g = g
  zip_behind (u ∷ us) (v ∷ vs) xs ys h g = (h.0, zip_behind us vs xs ys h.1 g)
  zip_behind [] (v ∷ vs) xs ys h g = absurd h
  zip_behind (u ∷ us) [] xs ys h g = absurd h

  -- the items of a clone of a block
  abbrev pub IsBlockClone : {Z : Type 0} → Vec T Z → Vec T Z → Type 0
  IsBlockClone v w = AllZip R v.items w.items × (vec_len w ≡ vec_len v)

  pub blocks_cloned : {Z : Type 0} (old new : List (Vec T Z)) → AllZip IsBlockClone old new → AllZip R (items_in old) (items_in new)
  blocks_cloned [] [] h = tt
  blocks_cloned (v ∷ old) (w ∷ new) h = zip_behind v.items w.items (items_in old) (items_in new) h.0.0 (blocks_cloned old new h.1)
  blocks_cloned [] (w ∷ new) h = absurd h
  blocks_cloned (v ∷ old) [] h = absurd h

  pub blocks_as_long : {Z : Type 0} (old new : List (Vec T Z)) → AllZip IsBlockClone old new → length (items_in new) ≡ length (items_in old)
  blocks_as_long old new h = AllZip-long R (items_in old) (items_in new) (blocks_cloned old new h)
