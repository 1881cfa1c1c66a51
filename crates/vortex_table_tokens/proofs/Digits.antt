-- Numbers of digits alone.
use Rattle.std.proofs.Common.{◌≡◌, ◌<◌, ◌≤◌, ◌^◌, ◌++◌, ◌==◌, ◌&&◌, ℕ, suc, zero, ℤ, pos, List, [], length, drop, Bool, true, false, cond, Option, Some, if◌then◌else◌, refl, sym, ap, subst, ◌∙◌, arith, append-nil}
use Rattle.std.specs.Prelude.{neg_ℤ, slice_index, nat_lt, nat_le}
use Rattle.std.specs.Str.Parse.{digits_value, AllDigits, IsNumeral, without_leading_plus}
use Rattle.std.specs.Float.Numeral.{Parts}
use Rattle.std.proofs.lemmas.Float.Parse.{scan_numeral-text_of}
use Rattle.std.proofs.lemmas.Bool.{lt-ltb, le-leb}
use Rattle.fast_float.specs.Text.{scan}
use Rattle.serde_json.specs.Data.{Num, unsigned, negative}
use Rattle.serde_json.specs.Find.{of_integer}
use Rattle.serde_json.specs.Read.{number_from, float_of}

abbrev parts : List ℕ → Parts
parts ds = record { whole = ds; point = false; fraction = []; exponent_negative = false; exponent = []; len = length ds }

scan_digits : (ds : List ℕ) → AllDigits 10 ds → scan ds ≡ parts ds
scan_digits ds h = ap scan (sym (append-nil ds)) ∙ scan_numeral-text_of (parts ds) (record {
  whole_digits = h;
  fraction_digits = tt;
  exponent_digits = tt;
  no_point = λ e. refl;
  no_exponent = λ e. refl;
  len_is = ap length (sym (append-nil ds));
})

value_of : (ds : List ℕ) (n : ℕ) → digits_value 10 ds ≡ n → digits_value 10 (ds ++ []) ≡ n
value_of ds n e = ap (digits_value 10) (append-nil ds) ∙ e

both_pass : (a b : Bool) (x y : Option Num) → a ≡ true → b ≡ true → (if (a && true && true) && b then x else y) ≡ x
both_pass true true x y e f = refl
both_pass true false x y e f = absurd (cc f)
both_pass false b x y e f = absurd (cc e)

all_pass : (a b c : Bool) (x y : Option Num) → a ≡ true → b ≡ true → c ≡ true → (if (a && true && true) && b && c then x else y) ≡ x
all_pass true true true x y e f g = refl
all_pass true true false x y e f g = absurd (cc g)
all_pass true false c x y e f g = absurd (cc f)
all_pass false b c x y e f g = absurd (cc e)

pub unsigned_read : (ds : List ℕ) (n : ℕ) → IsNumeral 10 ds → digits_value 10 ds ≡ n → n < 2 ^ 64 → number_from false (scan ds) ≡ Some (of_integer (pos n))
unsigned_read ds n h e l =
    let v = digits_value 10 (ds ++ []) in
    let is : v ≡ n = value_of ds n e in
    ap (number_from false) (scan_digits ds h.1)
    ∙ both_pass (nat_lt 0 (length ds)) (nat_lt v (2 ^ 64)) (Some (unsigned v)) (float_of false (parts ds)) (lt-ltb 0 (length ds) h.0) (lt-ltb v (2 ^ 64) (subst (λ m. m < 2 ^ 64) (sym is) l))
    ∙ ap (λ m. Some (unsigned m)) is

is_negative : (n : ℕ) → 0 < n → negative (neg_ℤ (pos n)) ≡ of_integer (neg_ℤ (pos n))
is_negative zero l = absurd (omega arith)
is_negative (suc n) l = refl

pub negative_read : (ds : List ℕ) (n : ℕ) (z : ℤ) → IsNumeral 10 ds → digits_value 10 ds ≡ n → 0 < n → n ≤ 2 ^ 63 → z ≡ neg_ℤ (pos n) → number_from true (scan ds) ≡ Some (of_integer z)
negative_read ds n z h e some l same =
    let v = digits_value 10 (ds ++ []) in
    let is : v ≡ n = value_of ds n e in
    ap (number_from true) (scan_digits ds h.1)
    ∙ all_pass (nat_lt 0 (length ds)) (nat_lt 0 v) (nat_le v (2 ^ 63)) (Some (negative (neg_ℤ (pos v)))) (float_of true (parts ds)) (lt-ltb 0 (length ds) h.0) (lt-ltb 0 v (subst (λ m. 0 < m) (sym is) some))
    (le-leb v (2 ^ 63) (subst (λ m. m ≤ 2 ^ 63) (sym is) l))
    ∙ ap (λ m. Some (negative (neg_ℤ (pos m)))) is
    ∙ ap Some (is_negative n some)
    ∙ ap (λ y. Some (of_integer y)) (sym same)

-- digits without a plus before them
pub no_plus : (bs : List ℕ) → (slice_index bs 0 == 43) ≡ false → without_leading_plus bs ≡ bs
no_plus bs e = ap (λ (b : Bool). drop (cond b 1 0) bs) e

pub ruleset digits_alone = (no_plus)
