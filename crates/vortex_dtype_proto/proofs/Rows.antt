-- Nodes by the number of their children.
use Rattle.std.proofs.Common.{◌≡◌, ◌≢◌, List, [], ◌∷◌, length, map, get_or, refl, sym, ap, ◌∙◌}
use Rattle.vortex_model.specs.LogicalType.{LogicalType}
use Rattle.vortex_dtype_core.specs.View.{type_of}
use Rattle.vortex_dtype_core.specs.declared.dtype.DType.{DType}
use Rattle.vortex_dtype_core.proofs.Views.{one_level}
use Rattle.vortex_dtype_proto.specs.Messages.{Reading, malformed, childless, one_child, two_children}

pub childless-some : (ds : List DType) (r : Reading LogicalType) → length ds ≢ 0 → childless (map type_of ds) r ≡ malformed
childless-some [] r h = absurd (h refl)
childless-some (d ∷ ds) r h = refl

pub childless-none : (ds : List DType) (r : Reading LogicalType) → length ds ≡ 0 → childless (map type_of ds) r ≡ r
childless-none [] r h = refl
childless-none (d ∷ ds) r h = absurd (cc (h))

pub one_child-other : (ds : List DType) (f : LogicalType → Reading LogicalType) → length ds ≢ 1 → one_child (map type_of ds) f ≡ malformed
one_child-other [] f h = refl
one_child-other (d ∷ []) f h = absurd (h refl)
one_child-other (d ∷ e ∷ ds) f h = refl

pub one_child-read : (ds : List DType) (f : LogicalType → Reading LogicalType) (d : DType) → length ds ≡ 1 → d ≡ get_or ds 0 d → one_child (map type_of ds) f ≡ f (type_of d)
one_child-read [] f d h e = absurd (cc (h))
one_child-read (c ∷ []) f d h e = ap (λ x. f (type_of x)) (sym e)
one_child-read (c ∷ b ∷ ds) f d h e = absurd (cc (h))

pub two_children-other : (ds : List DType) (f : LogicalType → LogicalType → Reading LogicalType) → length ds ≢ 2 → two_children (map type_of ds) f ≡ malformed
two_children-other [] f h = refl
two_children-other (d ∷ []) f h = refl
two_children-other (d ∷ e ∷ []) f h = absurd (h refl)
two_children-other (d ∷ e ∷ b ∷ ds) f h = refl

pub two_children-read : (ds : List DType) (f : LogicalType → LogicalType → Reading LogicalType) (d e : DType) → length ds ≡ 2 → d ≡ get_or ds 0 d → e ≡ get_or ds 1 e → two_children (map type_of ds) f ≡ f (type_of d) (type_of e)
two_children-read [] f d e h p q = absurd (cc (h))
two_children-read (c ∷ []) f d e h p q = absurd (cc (h))
two_children-read (c ∷ b ∷ []) f d e h p q = ap (λ x. f (type_of x) (type_of b)) (sym p) ∙ ap (λ x. f (type_of d) (type_of x)) (sym q)
two_children-read (c ∷ b ∷ a ∷ ds) f d e h p q = absurd (cc (h))

pub ruleset counts = (one_level, childless-some, childless-none, one_child-other, one_child-read, two_children-other, two_children-read)

pub ruleset shapes = (one_level)
