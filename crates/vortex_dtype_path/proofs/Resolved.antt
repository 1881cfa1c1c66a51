-- Types at paths, step by step.
use Rattle.std.proofs.Common.{rules, ◌≡◌, refl, sym, ap, subst, ◌∙◌, List, [], ◌∷◌, ◌++◌, Option, Some, None, IsSome, is_some, option_map, option_and_then, Bor}
use Rattle.vortex_model.specs.LogicalType.{LogicalType, Nullability}
use Rattle.vortex_model.specs.Path.{Step}
use Rattle.vortex_dtype_ptype.specs.Numbers.{NumberKind, integral, floating, type_of_numbers}
use Rattle.vortex_dtype_core.specs.View.{type_of}
use Rattle.vortex_dtype_core.proofs.Views.{one_level, extension_type-parts}
use Rattle.vortex_dtype_core.specs.declared.dtype.DType.{DType}
use Rattle.vortex_dtype_path.specs.Steps.{Begins}
use Rattle.vortex_dtype_path.specs.Resolve.{part_along, type_along, resolved}

pub goes_on : (o : Option LogicalType) (p q : List Step) → type_along o (p ++ q) ≡ option_and_then (λ part. resolved part q) (type_along o p)
goes_on None [] q = refl
goes_on None (s ∷ p) q = refl
goes_on (Some k) [] q = refl
goes_on (Some k) (s ∷ p) q = goes_on (part_along k s) p q

was_there : (o : Option LogicalType) (q : List Step) → IsSome (option_and_then (λ part. resolved part q) o) → IsSome o
was_there None q h = h
was_there (Some k) q h = search rules

pub beginning_exists : (k : LogicalType) (p q : List Step) → Begins p q → IsSome (resolved k q) → IsSome (resolved k p)
beginning_exists k p q b h = was_there (resolved k p) b.0 (subst IsSome (ap (resolved k) (sym b.1) ∙ goes_on (Some k) p b.0) h)

pub seen : (o : Option (Bor DType)) → is_some o ≡ is_some (option_map (λ part. type_of part.now) o)
seen None = refl
seen (Some part) = refl

pub no_part_in_numbers : (k : NumberKind) (n : Nullability) (s : Step) → part_along (type_of_numbers k n) s ≡ None
no_part_in_numbers (integral i) n s = refl
no_part_in_numbers (floating f) n s = refl

pub ruleset parts = (one_level, extension_type-parts, no_part_in_numbers)
