-- Covered paths, by the members of a set given as a test.
use Rattle.std.specs.Prelude.{◌≡◌, List, Bool, IsTrue}
use Rattle.vortex_model.specs.Path.{Step}
use Rattle.vortex_dtype_path.specs.Steps.{Begins}

-- a member is a prefix of this path
abbrev pub Covers : (List Step → Bool) → List Step → Type 0
Covers members q = (p : List Step) × IsTrue (members p) × Begins p q

-- a member that no other member is a prefix of
abbrev pub IsOutermost : (List Step → Bool) → List Step → Type 0
IsOutermost members q =
    IsTrue (members q) × ((p : List Step) → IsTrue (members p) → Begins p q → p ≡ q)
