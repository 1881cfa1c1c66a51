-- The bytes plus one are the least byte string of their length above longer bytes.
use Rattle.std.proofs.Common.{◌≡◌, ℕ, zero, suc, ◌+◌, ◌-◌, ◌<◌, ◌≤◌, List, [], ◌∷◌, ◌++◌, length, take, drop, get_or, sym, ap, ◌∙◌, subst, arith, ⊎_elim, append_assoc, length-append, length-take, length-drop, take_all, replicate}
use Rattle.std.specs.List.{AllByRecursion}
use Rattle.std.proofs.lemmas.List.Elements.{All-from_get_or, recursion_from_All}
use Rattle.std.proofs.lemmas.List.{get_or-take, get_or-drop, take-append-drop, length-replicate}
use Rattle.std.proofs.Math.Seq.{drop-cons}
use Rattle.vortex_model.specs.Valid.{AreBytes}
use Rattle.vortex_model_table.specs.Bounds.{IsLeastAbove, NoneAbove}
use Rattle.vortex_model_laws.proofs.CountUp.{zeros_are_bytes, front_bytes}
use Rattle.vortex_model_laws.proofs.ByteOrder.{IsUnder, under_cases, under_head, under_tail, under_below, below_under, under_or_upto}

abbrev pub AreFull : List ℕ → Type 0
AreFull f = AllByRecursion (λ b. b ≡ 255) f

-- no byte string as long as f is above f and more, where f is all ff
none_above : (f rest w : List ℕ) → AreFull f → 0 < length rest → length w ≡ length f → AreBytes w → IsUnder (f ++ rest) w → ⊥
none_above [] [] w a r e b u = absurd (omega arith)
none_above [] (r ∷ rest) [] a p e b u = cc
none_above [] (r ∷ rest) (y ∷ ys) a p e b u = absurd (omega arith)
none_above (x ∷ f) rest [] a p e b u = absurd (omega arith)
none_above (x ∷ f) rest (y ∷ ys) a p e b u =
    ⊎_elim
    (λ lt. let full : x ≡ 255 = a.0 in let byte : y < 256 = b.0 in omega arith)
    (λ t. none_above f rest ys a.1 p (omega arith) b.1 t.1)
    (under_cases x y (f ++ rest) ys u)

-- nothing is below zeros
none_below : (n : ℕ) (w : List ℕ) → length w ≡ n → IsUnder w (replicate n 0) → ⊥
none_below zero [] e u = cc
none_below zero (y ∷ ys) e u = absurd (omega arith)
none_below (suc n) [] e u = absurd (omega arith)
none_below (suc n) (y ∷ ys) e u = ⊎_elim (λ lt. absurd (omega arith)) (λ t. none_below n ys (omega arith) t.1) (under_cases y 0 ys (replicate n 0) u)

bytes_with : (a : List ℕ) (y : ℕ) (ys : List ℕ) → AreBytes a → y < 256 → AreBytes ys → AreBytes (a ++ y ∷ ys)
bytes_with [] y ys a b c = (b, c)
bytes_with (x ∷ xs) y ys a b c = (a.0, bytes_with xs y ys a.1 b c)

-- a byte string that ends in ff bytes after a smaller byte
module _ (x : ℕ) (f rest : List ℕ) (small : x < 255) (full : AreFull f) (more : 0 < length rest) where
  raise_above : (a : List ℕ) → IsUnder (a ++ x ∷ (f ++ rest)) (a ++ suc x ∷ replicate (length f) 0)
  raise_above [] = under_head x (suc x) (f ++ rest) (replicate (length f) 0) (omega arith)
  raise_above (b ∷ a) = under_tail b (a ++ x ∷ (f ++ rest)) (a ++ suc x ∷ replicate (length f) 0) (raise_above a)

  raise_over : (a w : List ℕ) → length w ≡ length a + (1 + length f) → AreBytes w → IsUnder (a ++ x ∷ (f ++ rest)) w → IsUnder w (a ++ suc x ∷ replicate (length f) 0) → ⊥
  raise_over [] [] e b u t = absurd (omega arith)
  raise_over [] (y ∷ ys) e b u t =
      ⊎_elim
      (λ lt. ⊎_elim (λ lower. absurd (omega arith)) (λ k. none_below (length f) ys (omega arith) k.1) (under_cases y (suc x) ys (replicate (length f) 0) t))
      (λ k. none_above f rest ys full more (omega arith) b.1 k.1)
      (under_cases x y (f ++ rest) ys u)
  raise_over (c ∷ a) [] e b u t = absurd (omega arith)
  raise_over (c ∷ a) (y ∷ ys) e b u t =
      ⊎_elim
      (λ lt. ⊎_elim (λ gt. absurd (omega arith)) (λ k. absurd (omega (arith, k.0))) (under_cases y c ys (a ++ suc x ∷ replicate (length f) 0) t))
      (λ k. ⊎_elim (λ gt. absurd (omega (arith, k.0))) (λ l. raise_over a ys (omega arith) b.1 k.1 l.1) (under_cases y c ys (a ++ suc x ∷ replicate (length f) 0) t))
      (under_cases c y (a ++ x ∷ (f ++ rest)) ys u)

  raise_least : (a : List ℕ) → AreBytes a → IsLeastAbove (a ++ x ∷ (f ++ rest)) (length a + (1 + length f)) (a ++ suc x ∷ replicate (length f) 0)
  raise_least a bytes = record {
    bytes = bytes_with a (suc x) (replicate (length f) 0) bytes (omega arith) (zeros_are_bytes (length f));
    exact = omega (arith, length-append a (suc x ∷ replicate (length f) 0), length-replicate {A = ℕ} (length f) 0);
    above = under_below (a ++ x ∷ (f ++ rest)) (a ++ suc x ∷ replicate (length f) 0) (raise_above a);
    least = λ w wb len over.
        ⊎_elim
        (λ under. absurd (raise_over a w len wb (below_under (a ++ x ∷ (f ++ rest)) w over) under))
        (λ upto. upto)
        (under_or_upto w (a ++ suc x ∷ replicate (length f) 0));
  }

-- ---- in a loop

-- the bytes from i up to n
abbrev part : List ℕ → ℕ → ℕ → List ℕ
part v i n = take (n - i) (drop i v)

part_full : (v : List ℕ) (i n : ℕ) → n ≤ length v → ((k : ℕ) → i ≤ k → k < n → get_or v k 0 ≡ 255) → AreFull (part v i n)
part_full v i n within h =
    recursion_from_All (λ b. b ≡ 255) (part v i n)
    (All-from_get_or (λ b. b ≡ 255) (part v i n) 0
    (λ k lt. let inside : k < n - i = omega (arith, lt, length-take (n - i) (drop i v)) in get_or-take (n - i) (drop i v) k 0 inside ∙ get_or-drop i v k 0 ∙ h (i + k) (omega arith) (omega arith)))

length-part : (v : List ℕ) (i n : ℕ) → n ≤ length v → length (part v i n) ≡ n - i
length-part v i n h = omega (arith, length-take (n - i) (drop i v), length-drop i v)

-- bytes from e up to n are ff, after a smaller byte
pub upper : (v : List ℕ) (j e n : ℕ) → AreBytes v → n < length v → e ≡ j + 1 → e ≤ n → ((k : ℕ) → e ≤ k → k < n → get_or v k 0 ≡ 255) → get_or v j 0 < 255 → IsLeastAbove v n (take j v ++ suc (get_or v j 0) ∷ replicate (n - e) 0)
upper v j e n bytes within is le full small =
    let f = part v e n in
    let rest = drop (n - e) (drop e v) in
    let x = get_or v j 0 in
    let more : 0 < length rest = omega (arith, length-drop (n - e) (drop e v), length-drop e v) in
    let front : AreBytes (take j v) = front_bytes (take j v) (drop j v) (subst AreBytes (sym (take-append-drop j v)) bytes) in
    let raised = raise_least x f rest small (part_full v e n (omega arith) full) more (take j v) front in
    let eq_e : suc j ≡ e = omega arith in
    let v_is : take j v ++ x ∷ (f ++ rest) ≡ v = ap (λ t. take j v ++ x ∷ t) (take-append-drop (n - e) (drop e v) ∙ ap (λ m. drop m v) (sym eq_e)) ∙ ap (λ t. take j v ++ t) (sym (drop-cons v j 0 (omega arith))) ∙ take-append-drop j v in
    let f_len : length f ≡ n - e = length-part v e n (omega arith) in
    let n_is : length (take j v) + (1 + length f) ≡ n = omega (arith, length-take j v) in
    subst (λ w. IsLeastAbove w n (take j v ++ suc x ∷ replicate (n - e) 0)) v_is
    (subst (λ m. IsLeastAbove (take j v ++ x ∷ (f ++ rest)) m (take j v ++ suc x ∷ replicate (n - e) 0)) n_is
    (subst (λ m. IsLeastAbove (take j v ++ x ∷ (f ++ rest)) (length (take j v) + (1 + length f)) (take j v ++ suc x ∷ replicate m 0)) f_len raised))

pub no_upper : (v : List ℕ) (n : ℕ) → n < length v → ((k : ℕ) → 0 ≤ k → k < n → get_or v k 0 ≡ 255) → NoneAbove v n
no_upper v n within full w b len u =
    none_above (take n v) (drop n v) w
    (recursion_from_All (λ x. x ≡ 255) (take n v) (All-from_get_or (λ x. x ≡ 255) (take n v) 0 (λ k lt. let inside : k < n = omega (arith, lt, length-take n v) in get_or-take n v k 0 inside ∙ full k (omega arith) inside)))
    (omega (arith, length-drop n v)) (len ∙ omega (arith, length-take n v)) b
    (subst (λ x. IsUnder x w) (sym (take-append-drop n v)) (below_under v w u))

-- a prefix, a byte and zeros, as pushes build them
pub rebuilt : (pre high1 high2 high : List ℕ) (x y e n k : ℕ) → y ≡ suc x → high1 ≡ pre → high2 ≡ high1 ++ y ∷ [] → high ≡ take n high2 ++ replicate (n - k) 0 → k ≡ e → e ≡ length pre + 1 → e ≤ n → high ≡ pre ++ suc x ∷ replicate (n - e) 0
rebuilt pre high1 high2 high x y e n k same a b c d is le =
    let two : high2 ≡ pre ++ suc x ∷ [] = b ∙ ap (λ t. t ++ y ∷ []) a ∙ ap (λ z. pre ++ z ∷ []) same in
    let all : take n high2 ≡ high2 = take_all n high2 (omega (arith, ap length two, length-append pre (suc x ∷ []))) in
    c ∙ ap (λ t. t ++ replicate (n - k) 0) (all ∙ two) ∙ append_assoc pre (suc x ∷ []) (replicate (n - k) 0) ∙ ap (λ m. pre ++ suc x ∷ replicate (n - m) 0) d
