-- Bytes that are written part by part.
use Rattle.std.proofs.Common.{◌≡◌, ℕ, List, ◌++◌, append_assoc}

pub six_pieces : (old s t u v w x a b c d e new : List ℕ) → a ≡ old ++ s → b ≡ a ++ t → c ≡ b ++ u → d ≡ c ++ v → e ≡ d ++ w → new ≡ e ++ x
    → new ≡ old ++ (s ++ t ++ u ++ v ++ w ++ x)
six_pieces old s t u v w x a b c d e new g h i j k l = rw (l, k, j, i, h, g) (simp append_assoc)

pub seven_pieces : (old s t u v w x y a b c d e f new : List ℕ) → a ≡ old ++ s → b ≡ a ++ t → c ≡ b ++ u → d ≡ c ++ v → e ≡ d ++ w → f ≡ e ++ x → new ≡ f ++ y
    → new ≡ old ++ (s ++ t ++ u ++ v ++ w ++ x ++ y)
seven_pieces old s t u v w x y a b c d e f new g h i j k l m = rw (m, l, k, j, i, h, g) (simp append_assoc)

pub three_in_order : (old x t y a b new : List ℕ) → a ≡ old ++ x → b ≡ a ++ t → new ≡ b ++ y → new ≡ old ++ (x ++ t ++ y)
three_in_order old x t y a b new e f g = rw (g, f, e) (simp append_assoc)
