-- Values of zones, and which of them are known.
use Rattle.std.specs.Prelude.{◌≡◌, ◌≤◌, ℕ, List, [], ◌∷◌, ◌++◌, length, take, map, Bool, Some}
use Rattle.vortex_model.specs.Content.{Content}
use Rattle.vortex_stats_mask.specs.Columns.{shown}
use Rattle.vortex_table_zonemaps.specs.declared.known.Known.{Known}

-- the first of them are one by one these contents, which are null where they aren't known
abbrev pub AreKnown : {T : Type 0} → (T → Content) → Known T → List Content → Type 0
AreKnown f known cs =
    shown (Some (take (length cs) known.flags.items)) (map f (take (length cs) known.values.items))
    ≡ cs

-- the first n stay
pub record IsKept {T : Type 0} (n : ℕ) (old new : Known T) : Type 0 where
  pub values : n ≤ length old.values.items →
      take n new.values.items ≡ take n old.values.items
  pub flags : n ≤ length old.flags.items → take n new.flags.items ≡ take n old.flags.items

-- one more comes after the first n
pub record IsPut {T : Type 0} (n : ℕ) (x : T) (k : Bool) (old new : Known T) : Type 0 where
  pub values : new.values.items ≡ take n old.values.items ++ x ∷ []
  pub flags : new.flags.items ≡ take n old.flags.items ++ k ∷ []
