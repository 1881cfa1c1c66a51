-- Statements of the laws of paths and of what they cover.
use Rattle.std.specs.Prelude.{◌≡◌, ◌↔◌, ◌++◌, List, Bool, IsTrue, IsSome, option_and_then}
use Rattle.vortex_model.specs.LogicalType.{LogicalType}
use Rattle.vortex_model.specs.Path.{Step}
use Rattle.vortex_dtype_path.specs.Steps.{Begins, Overlap, eq_step, eq_steps}
use Rattle.vortex_dtype_path.specs.Coverage.{Covers, IsOutermost}
use Rattle.vortex_dtype_path.specs.Resolve.{resolved}

-- steps, and paths, are equal exactly where the test for it passes
abbrev pub EqualStepsPass : Type 0
EqualStepsPass = (s t : Step) → IsTrue (eq_step s t) ↔ (s ≡ t)

abbrev pub EqualPathsPass : Type 0
EqualPathsPass = (p q : List Step) → IsTrue (eq_steps p q) ↔ (p ≡ q)

-- two paths overlap where some path has both as prefixes
abbrev pub OverlapsAreShared : Type 0
OverlapsAreShared = (p q : List Step) → Overlap p q ↔ ((r : List Step) × Begins p r × Begins q r)

-- sets have equal outermost members where they cover the same paths
abbrev pub CoverageTellsOutermost : Type 0
CoverageTellsOutermost =
    (s t : List Step → Bool) → ((q : List Step) → IsOutermost s q ↔ IsOutermost t q) ↔
    ((q : List Step) → Covers s q ↔ Covers t q)

-- the outermost members cover what all members do
abbrev pub OutermostCoverAll : Type 0
OutermostCoverAll = (s : List Step → Bool) (q : List Step) → Covers s q ↔
    ((p : List Step) × IsOutermost s p × Begins p q)

-- the outermost members are in each set that covers the same paths
abbrev pub OutermostAreNeeded : Type 0
OutermostAreNeeded = (s t : List Step → Bool) → ((q : List Step) → Covers s q ↔ Covers t q) →
    (q : List Step) → IsOutermost s q → IsTrue (t q)

-- the type at two paths as one is the type at the second in the type at the first
abbrev pub ResolvingGoesOn : Type 0
ResolvingGoesOn = (k : LogicalType) (p q : List Step) →
    resolved k (p ++ q) ≡ option_and_then (λ part. resolved part q) (resolved k p)

-- each prefix of a path that exists in a type exists in it
abbrev pub BeginningsExist : Type 0
BeginningsExist =
    (k : LogicalType) (p q : List Step) → Begins p q → IsSome (resolved k q) → IsSome (resolved k p)
