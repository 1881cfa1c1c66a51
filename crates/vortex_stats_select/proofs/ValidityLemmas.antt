-- Bits in their order, and validities of one form.
use Rattle.std.proofs.Common.{◌≡◌, refl, sym, ℕ, Bool, false, List, length, map, replicate, get_or}
use Rattle.std.specs.List.{range_with_len}
use Rattle.std.proofs.lemmas.Simd.{splat_is_map}
use Rattle.std.proofs.lemmas.List.FromFn.{fill_by_all, length-range_with_len}
use Rattle.vortex_model.specs.LogicalType.{boolean_type, non_nullable}
use Rattle.vortex_arrays_model.specs.Layout.{Valid, required, all_valid, all_null, by_array, bools, array_type_of, is_valid}

pub in_order : (bits : List Bool) → map (λ i. get_or bits i false) (range_with_len 0 (length bits)) ≡ bits
in_order bits = sym (fill_by_all (λ i. get_or bits i false) bits (length bits) false refl (λ k l. refl))

-- packed bits are the rows, where none of them can be null
pub packed : (bits : List Bool) (v : Valid) → array_type_of (bools bits v) ≡ boolean_type non_nullable → bits ≡ map (is_valid (by_array (bools bits v))) (range_with_len 0 (length bits))
packed bits required e = sym (in_order bits)
packed bits all_valid e = absurd (cc (e))
packed bits all_null e = absurd (cc (e))
packed bits (by_array a) e = absurd (cc (e))

pub none_valid : (n : ℕ) → replicate n false ≡ map (is_valid all_null) (range_with_len 0 n)
none_valid n = splat_is_map (range_with_len 0 n) n false (length-range_with_len 0 n)
