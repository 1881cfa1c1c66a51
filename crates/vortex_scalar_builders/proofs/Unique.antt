-- A value has one low, and at most one high.
use Rattle.std.proofs.Common.{◌≡◌, ℕ, List, length, refl, sym, ap, ◌∙◌, subst, ⊎_elim, IsUtf8, Option, Some, None, option_map}
use Rattle.std.proofs.lemmas.Bool.{cases_lt}
use Rattle.vortex_model.specs.Content.{Content, text, byte_string}
use Rattle.vortex_model_table.specs.Bounds.{IsLow, IsHigh, IsHighText, IsHighBytes, IsRaise, IsRaisedBeginning, IsLeastAbove, NoneAbove, IsWellFormed, AnyBytes, low, high}
use Rattle.vortex_model_laws.proofs.ByteOrder.{upto_antisym}
use Rattle.vortex_model_laws.proofs.Beginnings.{longest_same}
use Rattle.vortex_model_laws.proofs.BoundFunctions.{low_by_function, high_by_function}
use Rattle.vortex_scalar_builders.proofs.Raised.{raise_same}

pub low_same : (v l m : Content) (L : ℕ) → IsLow v L l → IsLow v L m → l ≡ m
low_same (text v) (text a) (text b) L p q = ap text (longest_same IsUtf8 v a b L p q)
low_same (text v) (text a) m L p q = absurd q
low_same (text v) l m L p q = absurd p
low_same (byte_string v) (byte_string a) (byte_string b) L p q = ap byte_string (longest_same AnyBytes v a b L p q)
low_same (byte_string v) (byte_string a) m L p q = absurd q
low_same (byte_string v) l m L p q = absurd p
low_same v l m L p q = p ∙ sym q

-- h is the least byte string of that length above v, or there is none
abbrev IsStringAbove : List ℕ → ℕ → Option (List ℕ) → Type 0
IsStringAbove v L (Some h) = IsLeastAbove v L h
IsStringAbove v L None = NoneAbove v L

-- the bytes of the high of a longer string, and of longer bytes
pub text_part : (v : List ℕ) (L : ℕ) (o : Option Content) → IsHighText v L o → (s : Option (List ℕ)) × (o ≡ option_map text s) × IsRaisedBeginning v L s
text_part v L None h = (None, refl, h)
text_part v L (Some (text s)) h = (Some s, refl, h)
text_part v L o h = absurd h

pub byte_string_part : (v : List ℕ) (L : ℕ) (o : Option Content) → IsHighBytes v L o → (s : Option (List ℕ)) × (o ≡ option_map byte_string s) × IsStringAbove v L s
byte_string_part v L None h = (None, refl, h)
byte_string_part v L (Some (byte_string s)) h = (Some s, refl, h)
byte_string_part v L o h = absurd h

raised_beginning_same : (v : List ℕ) (L : ℕ) (o q : Option (List ℕ)) → IsRaisedBeginning v L o → IsRaisedBeginning v L q → o ≡ q
raised_beginning_same v L o q a b = raise_same b.0 o q (subst (λ p. IsRaise p o) (longest_same IsUtf8 v a.0 b.0 L a.1 b.1) a.2) b.2

string_above_same : (v : List ℕ) (L : ℕ) (o q : Option (List ℕ)) → IsStringAbove v L o → IsStringAbove v L q → o ≡ q
string_above_same v L None None a b = refl
string_above_same v L None (Some k) a b = absurd (a k b.bytes b.exact b.above)
string_above_same v L (Some h) None a b = absurd (b h a.bytes a.exact a.above)
string_above_same v L (Some h) (Some k) a b = ap Some (upto_antisym h k (a.least k b.bytes b.exact b.above) (b.least h a.bytes a.exact a.above))

long_text_same : (v : List ℕ) (L : ℕ) (o q : Option Content) → IsHighText v L o → IsHighText v L q → o ≡ q
long_text_same v L o q a b =
    let x = text_part v L o a in let y = text_part v L q b in
    x.1 ∙ ap (λ s. option_map text s) (raised_beginning_same v L x.0 y.0 x.2 y.2) ∙ sym y.1

long_blob_same : (v : List ℕ) (L : ℕ) (o q : Option Content) → IsHighBytes v L o → IsHighBytes v L q → o ≡ q
long_blob_same v L o q a b =
    let x = byte_string_part v L o a in let y = byte_string_part v L q b in
    x.1 ∙ ap (λ s. option_map byte_string s) (string_above_same v L x.0 y.0 x.2 y.2) ∙ sym y.1

pub high_same : (v : Content) (o q : Option Content) (L : ℕ) → IsHigh v L o → IsHigh v L q → o ≡ q
high_same (text v) o q L a b = ⊎_elim (λ lt. long_text_same v L o q (a.1 lt) (b.1 lt)) (λ le. a.0 le ∙ sym (b.0 le)) (cases_lt L (length v))
high_same (byte_string v) o q L a b = ⊎_elim (λ lt. long_blob_same v L o q (a.1 lt) (b.1 lt)) (λ le. a.0 le ∙ sym (b.0 le)) (cases_lt L (length v))
high_same v o q L a b = a ∙ sym b

-- so each is the function's result
pub low_is : (v l : Content) (L : ℕ) → IsWellFormed v → IsLow v L l → l ≡ low L v
low_is v l L w p = low_same v l (low L v) L p (low_by_function v L w)

pub high_is : (v : Content) (o : Option Content) (L : ℕ) → IsWellFormed v → IsHigh v L o → o ≡ high L v
high_is v o L w p = high_same v o (high L v) L p (high_by_function v L w)
