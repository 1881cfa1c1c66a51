-- A value is between its low and its high, and so is each value between the least and the greatest.
use Rattle.std.proofs.Common.{◌≡◌, refl, sym, ap, subst, ℕ, List, length, ⊎_elim, true, false, Some}
use Rattle.std.specs.Ordering.{is_le}
use Rattle.std.proofs.lemmas.Cmp.{tied_itself, int_cmp_total}
use Rattle.std.proofs.lemmas.Bool.{cases_lt}
use Rattle.vortex_model.specs.Content.{Content, null, boolean, integer, text, byte_string, tuple, tagged, scalar}
use Rattle.vortex_model.specs.Order.{IsAtMost}
use Rattle.vortex_model_table.specs.Bounds.{Begins, IsAtMostBytes, IsLow, IsHigh, IsHighText, IsHighBytes}
use Rattle.vortex_model_table.specs.Laws.{is_leaf_value}
use Rattle.vortex_model_table.proofs.ContentOrder.{at_most_trans}
use Rattle.vortex_model_laws.proofs.ByteOrder.{IsUnder, upto_front, upto_refl, under_upto, below_under}
use Rattle.vortex_model_laws.proofs.Raised.{raised_over}

pub eq_leaf_below : (v : Content) → is_leaf_value v ≡ true → IsAtMost v v
eq_leaf_below (boolean true) e = refl
eq_leaf_below (boolean false) e = refl
eq_leaf_below (integer z) e = ap (λ o. is_le o) (tied_itself int_cmp_total z)
eq_leaf_below (text v) e = upto_refl v
eq_leaf_below (byte_string v) e = upto_refl v
eq_leaf_below null e = absurd (cc (e))
eq_leaf_below (tuple cs) e = absurd (cc (e))
eq_leaf_below (tagged t c) e = absurd (cc (e))
eq_leaf_below (scalar k c) e = absurd (cc (e))

begins_upto : (p x : List ℕ) → Begins p x → IsAtMostBytes p x
begins_upto p x b = subst (λ y. IsAtMostBytes p y) (sym b.1) (upto_front p b.0)

pub some_equal : (h v : Content) → Some h ≡ Some v → h ≡ v
some_equal h v e = cc (e)

-- ---- strings and bytes

pub low_of_text_upto : (v a : List ℕ) (L : ℕ) → IsLow (text v) L (text a) → IsAtMost (text a) (text v)
low_of_text_upto v a L h = begins_upto a v h.begins

pub low_of_byte_string_upto : (v a : List ℕ) (L : ℕ) → IsLow (byte_string v) L (byte_string a) → IsAtMost (byte_string a) (byte_string v)
low_of_byte_string_upto v a L h = begins_upto a v h.begins

long_text_over : (v : List ℕ) (h : Content) (L : ℕ) → IsHighText v L (Some h) → IsAtMost (text v) h
long_text_over v (text s) L p =
    under_upto v s (subst (λ w. IsUnder w s) (sym p.1.begins.1) (raised_over p.0 s p.1.begins.0 p.1.passes p.2))
long_text_over v h L p = absurd p

long_blob_over : (v : List ℕ) (h : Content) (L : ℕ) → IsHighBytes v L (Some h) → IsAtMost (byte_string v) h
long_blob_over v (byte_string s) L p = under_upto v s (below_under v s p.above)
long_blob_over v h L p = absurd p

pub high_of_text_over : (v : List ℕ) (h : Content) (L : ℕ) → IsHigh (text v) L (Some h) → IsAtMost (text v) h
high_of_text_over v h L p =
    ⊎_elim
    (λ lt. long_text_over v h L (p.1 lt))
    (λ le. subst (λ c. IsAtMost (text v) c) (sym (some_equal h (text v) (p.0 le))) (upto_refl v))
    (cases_lt L (length v))

pub high_of_byte_string_over : (v : List ℕ) (h : Content) (L : ℕ) → IsHigh (byte_string v) L (Some h) → IsAtMost (byte_string v) h
high_of_byte_string_over v h L p =
    ⊎_elim
    (λ lt. long_blob_over v h L (p.1 lt))
    (λ le. subst (λ c. IsAtMost (byte_string v) c) (sym (some_equal h (byte_string v) (p.0 le))) (upto_refl v))
    (cases_lt L (length v))

-- ---- values between bounds

pub covered_low : (least l v : Content) (L : ℕ) → IsLow least L l → IsAtMost least v → IsAtMost l v
covered_low (text a) (text b) v L h le = at_most_trans (text b) (text a) v (low_of_text_upto a b L h) le
covered_low (text a) l v L h le = absurd h
covered_low (byte_string a) (byte_string b) v L h le = at_most_trans (byte_string b) (byte_string a) v (low_of_byte_string_upto a b L h) le
covered_low (byte_string a) l v L h le = absurd h
covered_low least l v L h le = subst (λ c. IsAtMost c v) (sym h) le

pub covered_high : (greatest h v : Content) (L : ℕ) → IsHigh greatest L (Some h) → IsAtMost v greatest → IsAtMost v h
covered_high (text a) h v L p le = at_most_trans v (text a) h le (high_of_text_over a h L p)
covered_high (byte_string a) h v L p le = at_most_trans v (byte_string a) h le (high_of_byte_string_over a h L p)
covered_high greatest h v L p le = subst (λ c. IsAtMost v c) (sym (some_equal h greatest p)) le

pub low_below : (v : Content) (L : ℕ) (l : Content) → is_leaf_value v ≡ true → IsLow v L l → IsAtMost l v
low_below v L l e h = covered_low v l v L h (eq_leaf_below v e)

pub high_above : (v : Content) (L : ℕ) (h : Content) → is_leaf_value v ≡ true → IsHigh v L (Some h) → IsAtMost v h
high_above v L h e p = covered_high v h v L p (eq_leaf_below v e)
