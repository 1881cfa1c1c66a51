-- Where a mask is true, found bit by bit, but in blocks that have no such place.
use Rattle.std.proofs.Common.{◌≡◌, ℕ, suc, ◌+◌, ◌-◌, ◌++◌, ◌≤◌, ◌<◌, List, [], ◌∷◌, Bool, true, false, length, take, drop, get_or, cond, refl, sym, ap, ◌∙◌, arith}
use Rattle.std.proofs.Math.Bool.{beq}
use Rattle.std.specs.List.{list_any, slice_range}
use Rattle.std.proofs.Math.Seq.{take-add}
use Rattle.std.proofs.lemmas.List.{append-nil, length-take-le, take_more}
use Rattle.vortex_arrays_buffer.specs.Bits.{positions_from, positions_of}
use Rattle.vortex_arrays_buffer.proofs.Placed.{positions_joined}

-- the bit after the first ones
positions_push : (at : ℕ) (bits : List Bool) (b : Bool) → positions_from at (bits ++ b ∷ []) ≡ positions_from at bits ++ cond b ((at + length bits) ∷ []) []
positions_push at [] true = ap (λ n. n ∷ []) (let e : at ≡ at + 0 = omega arith in e)
positions_push at [] false = refl
positions_push at (true ∷ bits) b = ap (λ l. at ∷ l) (positions_push (suc at) bits b ∙ ap (λ n. positions_from (suc at) bits ++ cond b (n ∷ []) []) (let e : suc at + length bits ≡ at + suc (length bits) = omega arith in e))
positions_push at (false ∷ bits) b = positions_push (suc at) bits b ∙ ap (λ n. positions_from (suc at) bits ++ cond b (n ∷ []) []) (let e : suc at + length bits ≡ at + suc (length bits) = omega arith in e)

pub position_yes : (bits : List Bool) (i : ℕ) (b : Bool) → i < length bits → b ≡ get_or bits i false → b ≡ true → positions_of (take (i + 1) bits) ≡ positions_of (take i bits) ++ i ∷ []
position_yes bits i b l at is =
    let place : 0 + length (take i bits) ≡ i = omega (arith, length-take-le i bits (omega arith)) in
    ap positions_of (take_more bits i false l) ∙ positions_push 0 (take i bits) (get_or bits i false)
    ∙ ap (λ x. positions_of (take i bits) ++ cond x ((0 + length (take i bits)) ∷ []) []) (sym at ∙ is)
    ∙ ap (λ n. positions_of (take i bits) ++ n ∷ []) place

pub position_no : (bits : List Bool) (i : ℕ) (b : Bool) → i < length bits → b ≡ get_or bits i false → b ≡ false → positions_of (take (i + 1) bits) ≡ positions_of (take i bits)
position_no bits i b l at is = ap positions_of (take_more bits i false l) ∙ positions_push 0 (take i bits) (get_or bits i false)
    ∙ ap (λ x. positions_of (take i bits) ++ cond x ((0 + length (take i bits)) ∷ []) []) (sym at ∙ is) ∙ append-nil (positions_of (take i bits))

pub ruleset placed = (position_yes, position_no)

nowhere : (at : ℕ) (bits : List Bool) → list_any (λ b. beq b true) bits ≡ false → positions_from at bits ≡ []
nowhere at [] h = refl
nowhere at (true ∷ bits) h = absurd (cc (h))
nowhere at (false ∷ bits) h = nowhere (suc at) bits h

-- a block with no true bit has no place
pub block_passed : (bits : List Bool) (from to : ℕ) (b : Bool) → from ≤ to → to ≤ length bits → b ≡ list_any (λ x. beq x true) (slice_range bits from to) → b ≡ false → positions_of (take from bits) ≡ positions_of (take to bits)
block_passed bits from to b order within is none =
    let whole : from + (to - from) ≡ to = omega arith in
    let place : 0 + length (take from bits) ≡ from = omega (arith, length-take-le from bits (omega arith)) in
    sym (ap (λ n. positions_of (take n bits)) (sym whole) ∙ ap positions_of (take-add from (to - from) bits)
    ∙ positions_joined 0 from (take from bits) (take (to - from) (drop from bits)) place
    ∙ ap (λ l. positions_of (take from bits) ++ l) (nowhere from (take (to - from) (drop from bits)) (sym is ∙ none))
    ∙ append-nil (positions_of (take from bits)))
