-- Signs and shapes of LIKE patterns, as the code has them.
use Rattle.std.specs.Prelude.{◌≡◌, ◌⊎◌, ℕ, List, [], ◌∷◌, Option, Some, None, chars, string_bytes}
use Rattle.vortex_model_table.specs.Rewrite.{Sign, letter, wildcard, signs_of, Shape, exact_text, beginning, no_shape}
use Rattle.vortex_stats_rules.specs.declared.like_variant.Sign as code
use Rattle.vortex_stats_rules.specs.declared.like_variant.Sign.TheVariants as sign
use Rattle.vortex_stats_rules.specs.declared.like_variant.LikeVariant as variants
use Rattle.vortex_stats_rules.specs.declared.like_variant.LikeVariant.TheVariants as variant

abbrev pub sign_in : code.Sign → Sign
sign_in (sign.Letter c) = letter c
sign_in sign.Wildcard = wildcard

abbrev pub shape_in : Option variants.LikeVariant → Shape
shape_in (Some (variant.Exact t)) = exact_text (chars (string_bytes t))
shape_in (Some (variant.Prefix t)) = beginning (chars (string_bytes t))
shape_in None = no_shape

-- no sign comes first: the pattern is empty, or a lone backslash
abbrev pub IsUnsigned : List ℕ → Type 0
IsUnsigned cs = (cs ≡ []) ⊎ (cs ≡ 92 ∷ [])

-- no letter comes first
abbrev pub AreNoLetter : Option (List Sign) → Type 0
AreNoLetter (Some (letter c ∷ signs)) = ⊥
AreNoLetter signs = Unit {0}

abbrev pub StartsWithoutLetter : List ℕ → Type 0
StartsWithoutLetter cs = AreNoLetter (signs_of cs)
