-- Form and length of bounds.
use Rattle.std.proofs.Common.{◌≡◌, ℕ, ◌≤◌, List, length, refl, sym, subst, arith, ⊎_elim, Some, nat_lt, le-ltb}
use Rattle.std.proofs.lemmas.Bool.{cases_lt}
use Rattle.vortex_model.specs.Content.{Content, text, byte_string}
use Rattle.vortex_model.specs.Valid.{AreBytes}
use Rattle.vortex_model_table.specs.Bounds.{IsLow, IsHigh, IsHighText, IsHighBytes, IsWellFormed, bytes_of, is_longer}
use Rattle.vortex_model_laws.proofs.Bounded.{some_equal}
use Rattle.vortex_model_laws.proofs.CountUp.{front_bytes}
use Rattle.vortex_scalar_builders.proofs.Raised.{raised_length}

pub low_well_formed : (v l : Content) (L : ℕ) → IsWellFormed v → IsLow v L l → IsWellFormed l
low_well_formed (text v) (text a) L w h = h.passes
low_well_formed (text v) l L w h = absurd h
low_well_formed (byte_string v) (byte_string a) L w h = front_bytes a h.begins.0 (subst AreBytes h.begins.1 w)
low_well_formed (byte_string v) l L w h = absurd h
low_well_formed v l L w h = subst IsWellFormed (sym h) w

long_text_formed : (v : List ℕ) (h : Content) (L : ℕ) → IsHighText v L (Some h) → IsWellFormed h
long_text_formed v (text s) L p = p.2.0
long_text_formed v h L p = absurd p

long_blob_formed : (v : List ℕ) (h : Content) (L : ℕ) → IsHighBytes v L (Some h) → IsWellFormed h
long_blob_formed v (byte_string s) L p = p.bytes
long_blob_formed v h L p = absurd p

pub high_well_formed : (v h : Content) (L : ℕ) → IsWellFormed v → IsHigh v L (Some h) → IsWellFormed h
high_well_formed (text v) h L w p =
    ⊎_elim (λ lt. long_text_formed v h L (p.1 lt)) (λ le. subst IsWellFormed (sym (some_equal h (text v) (p.0 le))) w) (cases_lt L (length v))
high_well_formed (byte_string v) h L w p =
    ⊎_elim (λ lt. long_blob_formed v h L (p.1 lt)) (λ le. subst IsWellFormed (sym (some_equal h (byte_string v) (p.0 le))) w) (cases_lt L (length v))
high_well_formed v h L w p = subst IsWellFormed (sym (some_equal h v p)) w

pub low_fits : (v l : Content) (L : ℕ) → IsLow v L l → length (bytes_of l) ≤ L
low_fits (text v) (text a) L h = h.fits
low_fits (text v) l L h = absurd h
low_fits (byte_string v) (byte_string a) L h = h.fits
low_fits (byte_string v) l L h = absurd h
low_fits v l L h = subst (λ c. length (bytes_of c) ≤ L) (sym h) (omega arith)

long_text_fits : (v : List ℕ) (h : Content) (L : ℕ) → IsHighText v L (Some h) → length (bytes_of h) ≤ L
long_text_fits v (text s) L p = let le = raised_length p.0 s p.1.passes p.2 in let fits = p.1.fits in omega (arith, le, fits)
long_text_fits v h L p = absurd p

long_blob_fits : (v : List ℕ) (h : Content) (L : ℕ) → IsHighBytes v L (Some h) → length (bytes_of h) ≤ L
long_blob_fits v (byte_string s) L p = let len = p.exact in omega (arith, len)
long_blob_fits v h L p = absurd p

pub high_fits : (v h : Content) (L : ℕ) → IsHigh v L (Some h) → length (bytes_of h) ≤ L
high_fits (text v) h L p =
    ⊎_elim (λ lt. long_text_fits v h L (p.1 lt)) (λ le. subst (λ c. length (bytes_of c) ≤ L) (sym (some_equal h (text v) (p.0 le))) le) (cases_lt L (length v))
high_fits (byte_string v) h L p =
    ⊎_elim (λ lt. long_blob_fits v h L (p.1 lt)) (λ le. subst (λ c. length (bytes_of c) ≤ L) (sym (some_equal h (byte_string v) (p.0 le))) le) (cases_lt L (length v))
high_fits v h L p = subst (λ c. length (bytes_of c) ≤ L) (sym (some_equal h v p)) (omega arith)

-- a value is longer by its bytes
pub longer_by_bytes : (v : Content) (L : ℕ) → is_longer L v ≡ nat_lt L (length (bytes_of v))
longer_by_bytes (text v) L = refl
longer_by_bytes (byte_string v) L = refl
longer_by_bytes v L = sym (le-ltb L 0 (omega arith))
