-- The value at the start of tokens, and the tokens after it.
use Rattle.std.specs.Prelude.{◌≡◌, ◌≤◌, ◌<◌, ℕ, List, ◌∷◌, length, Some}
use Rattle.json.specs.Token.{Token}
use Rattle.json.specs.Json.{value, items, members}
use Rattle.serde_json.specs.Data.{Data, Items, Members}
use Rattle.serde_json.specs.Read.{of_json, of_items, of_members, converted}

-- a value, nested at most `depth` deep
abbrev pub Begins : ℕ → List Token → Data → List Token → Type 0
Begins depth old d new =
    (converted of_json (value depth old) ≡ Some (d, new)) × (length new < length old)

-- the token alone is this value, at any depth
abbrev pub IsOne : Token → Data → Type 0
IsOne t d = (depth : ℕ) (ts : List Token) → Begins depth (t ∷ ts) d ts

-- the items of an array, and its end
abbrev pub BeginsItems : ℕ → List Token → Items → List Token → Type 0
BeginsItems depth old ds new =
    ((n : ℕ) → length old ≤ n → converted of_items (items (value depth) n old) ≡ Some (ds, new))
    × (length new < length old)

-- the members of an object, and its end; with the members `found` before they are these
abbrev pub BeginsMembers : ℕ → List Token → Members → Members → List Token → Type 0
BeginsMembers depth old found ms new =
    ((n : ℕ) → length old ≤ n
    → converted (λ js. of_members js found) (members (value depth) n old) ≡ Some (ms, new))
    × (length new < length old)
