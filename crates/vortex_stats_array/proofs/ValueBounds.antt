-- The low and the high of a string and of bytes, as values.
use Rattle.std.proofs.Common.{◌≡◌, refl, ap, ◌∙◌, subst, ℕ, List, Bool, Option, Some, None, option_map, IfSome, IsUtf8}
use Rattle.vortex_model.specs.Content.{Content, content_of, text, byte_string}
use Rattle.vortex_model.specs.Valid.{AreBytes}
use Rattle.vortex_model_table.specs.Bounds.{IsLow, IsHigh, low, high, is_longer}
use Rattle.vortex_model_table.specs.Statistics.{absent}
use Rattle.vortex_model_table.specs.ZoneMap.{bound_of}
use Rattle.vortex_scalar_value.specs.View.{raw_of}
use Rattle.vortex_scalar_value.specs.declared.scalar_value.ScalarValue as value
use Rattle.vortex_scalar_value.proofs.Views.{raw_of-Utf8, raw_of-Binary}
use Rattle.vortex_stats_array.specs.Zones.{high_by}
use Rattle.vortex_scalar_builders.proofs.Unique.{low_is, high_is}

abbrev pub text_said : List ℕ → Content
text_said t = content_of (raw_of (value.Utf8 t))

abbrev pub bytes_said : List ℕ → Content
bytes_said b = content_of (raw_of (value.Binary b))

pub low_of_a_text : (v w a : List ℕ) (L : ℕ) → IsUtf8 v → w ≡ v → IsLow (text w) L (text a) → text_said a ≡ low L (text v)
low_of_a_text v w a L u e h = ap content_of (raw_of-Utf8 a) ∙ low_is (text v) (text a) L u (subst (λ x. IsLow (text x) L (text a)) e h)

pub low_of_some_bytes : (v w a : List ℕ) (L : ℕ) → AreBytes v → w ≡ v → IsLow (byte_string w) L (byte_string a) → bytes_said a ≡ low L (byte_string v)
low_of_some_bytes v w a L u e h = ap content_of (raw_of-Binary a) ∙ low_is (byte_string v) (byte_string a) L u (subst (λ x. IsLow (byte_string x) L (byte_string a)) e h)

text_in : (o : Option (List ℕ × Bool)) → option_map (λ p. text_said p.0) o ≡ option_map (λ p. text p.0) o
text_in None = refl
text_in (Some p) = ap (λ r. Some (content_of r)) (raw_of-Utf8 p.0)

bytes_in : (o : Option (List ℕ × Bool)) → option_map (λ p. bytes_said p.0) o ≡ option_map (λ p. byte_string p.0) o
bytes_in None = refl
bytes_in (Some p) = ap (λ r. Some (content_of r)) (raw_of-Binary p.0)

pub high_of_a_text : (v w : List ℕ) (L : ℕ) (o q : Option (List ℕ × Bool)) → IsUtf8 v → w ≡ v → o ≡ q → IsHigh (text w) L (option_map (λ p. text p.0) o) → option_map (λ p. text_said p.0) q ≡ high L (text v)
high_of_a_text v w L o q u e is h =
    text_in q ∙ high_is (text v) (option_map (λ p. text p.0) q) L u
    (subst (λ x. IsHigh (text v) L (option_map (λ p. text p.0) x)) is (subst (λ x. IsHigh (text x) L (option_map (λ p. text p.0) o)) e h))

pub high_of_some_bytes : (v w : List ℕ) (L : ℕ) (o q : Option (List ℕ × Bool)) → AreBytes v → w ≡ v → o ≡ q → IsHigh (byte_string w) L (option_map (λ p. byte_string p.0) o) → option_map (λ p. bytes_said p.0) q ≡ high L (byte_string v)
high_of_some_bytes v w L o q u e is h =
    bytes_in q ∙ high_is (byte_string v) (option_map (λ p. byte_string p.0) q) L u
    (subst (λ x. IsHigh (byte_string v) L (option_map (λ p. byte_string p.0) x)) is (subst (λ x. IsHigh (byte_string x) L (option_map (λ p. byte_string p.0) o)) e h))

pub text_below_is : (v w a : List ℕ) (L : ℕ) (b : Bool) → IsUtf8 v → w ≡ v → IsLow (text w) L (text a) → b ≡ is_longer L (text w) →
    bound_of b (text_said a) ≡ bound_of (is_longer L (text v)) (low L (text v))
text_below_is v w a L b u e h longer = (λ i. bound_of ((longer ∙ ap (λ t. is_longer L (text t)) e) i) (low_of_a_text v w a L u e h i))

pub text_above_is : (v w : List ℕ) (L : ℕ) (o : Option (List ℕ × Bool)) (h : List ℕ) (b : Bool) → IsUtf8 v → w ≡ v → o ≡ Some (h, b) →
    IsHigh (text w) L (option_map (λ p. text p.0) o) → IfSome o (λ p. p.1 ≡ is_longer L (text w)) → bound_of b (text_said h) ≡ high_by L (text v) (high L (text v))
text_above_is v w L o h b u e is high longer =
    let short : b ≡ is_longer L (text v) = subst (λ q. IfSome q (λ p. p.1 ≡ is_longer L (text w))) is longer ∙ ap (λ t. is_longer L (text t)) e in
    (λ i. bound_of (short i) (text_said h)) ∙ ap (high_by L (text v)) (high_of_a_text v w L o (Some (h, b)) u e is high)

pub no_text_above : (v w : List ℕ) (L : ℕ) (o : Option (List ℕ × Bool)) → IsUtf8 v → w ≡ v → o ≡ None →
    IsHigh (text w) L (option_map (λ p. text p.0) o) → absent ≡ high_by L (text v) (high L (text v))
no_text_above v w L o u e is h = ap (high_by L (text v)) (high_of_a_text v w L o None u e is h)

pub bytes_below_is : (v w a : List ℕ) (L : ℕ) (b : Bool) → AreBytes v → w ≡ v → IsLow (byte_string w) L (byte_string a) → b ≡ is_longer L (byte_string w) →
    bound_of b (bytes_said a) ≡ bound_of (is_longer L (byte_string v)) (low L (byte_string v))
bytes_below_is v w a L b u e h longer = (λ i. bound_of ((longer ∙ ap (λ t. is_longer L (byte_string t)) e) i) (low_of_some_bytes v w a L u e h i))

pub bytes_above_is : (v w : List ℕ) (L : ℕ) (o : Option (List ℕ × Bool)) (h : List ℕ) (b : Bool) → AreBytes v → w ≡ v → o ≡ Some (h, b) →
    IsHigh (byte_string w) L (option_map (λ p. byte_string p.0) o) → IfSome o (λ p. p.1 ≡ is_longer L (byte_string w)) → bound_of b (bytes_said h) ≡ high_by L (byte_string v) (high L (byte_string v))
bytes_above_is v w L o h b u e is high longer =
    let short : b ≡ is_longer L (byte_string v) = subst (λ q. IfSome q (λ p. p.1 ≡ is_longer L (byte_string w))) is longer ∙ ap (λ t. is_longer L (byte_string t)) e in
    (λ i. bound_of (short i) (bytes_said h)) ∙ ap (high_by L (byte_string v)) (high_of_some_bytes v w L o (Some (h, b)) u e is high)

pub no_bytes_above : (v w : List ℕ) (L : ℕ) (o : Option (List ℕ × Bool)) → AreBytes v → w ≡ v → o ≡ None →
    IsHigh (byte_string w) L (option_map (λ p. byte_string p.0) o) → absent ≡ high_by L (byte_string v) (high L (byte_string v))
no_bytes_above v w L o u e is h = ap (high_by L (byte_string v)) (high_of_some_bytes v w L o None u e is h)
