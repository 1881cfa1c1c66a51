-- Bounds of strings and bytes, shortened to a given number of bytes.
use Rattle.std.specs.Prelude.{◌≡◌, ℕ, suc, ◌-◌, ◌<◌, ◌≤◌, List, [], ◌∷◌, ◌++◌, length, take, Option, Some, None, if◌then◌else◌, Bool, true, false, IsUtf8, chars, encode_utf8_all, replicate, nat_lt, nat_le, ◌==◌, option_map, ◌||◌}
use Rattle.std.specs.List.{AllByRecursion}
use Rattle.std.specs.Char.{len_utf8, IsScalar}
use Rattle.std.specs.Ordering.{is_lt, is_le}
use Rattle.vortex_model.specs.Content.{Content, text, byte_string}
use Rattle.vortex_model.specs.Valid.{AreBytes}
use Rattle.vortex_model.specs.Order.{bytes_cmp}

-- a is below b, or not above b, in the lexicographic order of bytes
abbrev pub IsBelow : List ℕ → List ℕ → Type 0
IsBelow a b = is_lt (bytes_cmp a b) ≡ true

abbrev pub IsAtMostBytes : List ℕ → List ℕ → Type 0
IsAtMostBytes a b = is_le (bytes_cmp a b) ≡ true

-- a is a prefix of v
abbrev pub Begins : List ℕ → List ℕ → Type 0
Begins a v = (rest : List ℕ) × (v ≡ a ++ rest)

-- the longest prefix of v with at most L bytes that passes P
pub record IsLongestBeginning (P : List ℕ → Type 0) (v : List ℕ) (L : ℕ) (a : List ℕ) : Type 0 where
  pub fits : length a ≤ L
  pub begins : Begins a v
  pub passes : P a
  pub longest : (d : List ℕ) → length d ≤ L → Begins d v → P d → length d ≤ length a

-- all bytes pass
abbrev pub AnyBytes : List ℕ → Type 0
AnyBytes a = Unit {0}

-- The low of a string is its longest prefix of at most L bytes that is UTF-8; that of bytes is
-- their longest prefix of at most L bytes. Any other value is its own low.
abbrev pub IsLow : Content → ℕ → Content → Type 0
IsLow (text v) L (text a) = IsLongestBeginning IsUtf8 v L a
IsLow (byte_string v) L (byte_string a) = IsLongestBeginning AnyBytes v L a
IsLow (text v) L c = ⊥
IsLow (byte_string v) L c = ⊥
IsLow v L c = c ≡ v

-- h is the least of the byte strings of exactly L bytes above v
pub record IsLeastAbove (v : List ℕ) (L : ℕ) (h : List ℕ) : Type 0 where
  pub bytes : AreBytes h
  pub exact : length h ≡ L
  pub above : IsBelow v h
  pub least : (d : List ℕ) → AreBytes d → length d ≡ L → IsBelow v d → IsAtMostBytes h d

-- no byte string of exactly L bytes is above v
abbrev pub NoneAbove : List ℕ → ℕ → Type 0
NoneAbove v L = (d : List ℕ) → AreBytes d → length d ≡ L → ¬ (IsBelow v d)

-- d is a higher character of as many UTF-8 bytes as c
abbrev pub IsHigher : ℕ → ℕ → Type 0
IsHigher c d = IsScalar d × (c < d) × (len_utf8 d ≡ len_utf8 c)

-- no character of as many UTF-8 bytes is higher
abbrev pub IsHighest : ℕ → Type 0
IsHighest c = (d : ℕ) → ¬ (IsHigher c d)

-- The characters ds are cs up to the last one that can be raised, which is replaced by the next
-- higher one of as many bytes.
pub record IsRaised (cs ds : List ℕ) : Type 0 where
  pub before : List ℕ
  pub char : ℕ
  pub after : List ℕ
  pub split : cs ≡ before ++ char ∷ after
  pub latest : AllByRecursion IsHighest after
  pub raised : ℕ
  pub higher : IsHigher char raised
  pub least : (d : ℕ) → IsHigher char d → raised ≤ d
  pub answer : ds ≡ before ++ raised ∷ []

-- no character can be raised
abbrev pub CannotBeRaised : List ℕ → Type 0
CannotBeRaised cs = AllByRecursion IsHighest cs

-- the string, raised, or nothing where it can't be
abbrev pub IsRaise : List ℕ → Option (List ℕ) → Type 0
IsRaise p (Some h) = IsUtf8 h × IsRaised (chars p) (chars h)
IsRaise p None = CannotBeRaised (chars p)

-- For a string longer than L the high is its low, raised; for bytes longer than L it is the least
-- of exactly L bytes above them.
abbrev pub IsHighText : List ℕ → ℕ → Option Content → Type 0
IsHighText v L (Some (text h)) = (p : List ℕ) × IsLongestBeginning IsUtf8 v L p × IsRaise p (Some h)
IsHighText v L None = (p : List ℕ) × IsLongestBeginning IsUtf8 v L p × IsRaise p None
IsHighText v L c = ⊥

abbrev pub IsHighBytes : List ℕ → ℕ → Option Content → Type 0
IsHighBytes v L (Some (byte_string h)) = IsLeastAbove v L h
IsHighBytes v L None = NoneAbove v L
IsHighBytes v L c = ⊥

-- d is the least higher character of as many UTF-8 bytes as c
abbrev pub IsNext : ℕ → ℕ → Type 0
IsNext c d = IsHigher c d × ((e : ℕ) → IsHigher c e → d ≤ e)

-- the low at length L, raised
abbrev pub IsRaisedBeginning : List ℕ → ℕ → Option (List ℕ) → Type 0
IsRaisedBeginning v L raised = (p : List ℕ) × IsLongestBeginning IsUtf8 v L p × IsRaise p raised

-- The high of a string or of bytes that fit into L bytes, and of any other value, is the value
-- itself.
abbrev pub IsHigh : Content → ℕ → Option Content → Type 0
IsHigh (text v) L h = (length v ≤ L → h ≡ Some (text v)) × (L < length v → IsHighText v L h)
IsHigh (byte_string v) L h =
    (length v ≤ L → h ≡ Some (byte_string v)) × (L < length v → IsHighBytes v L h)
IsHigh v L h = h ≡ Some v

-- a string is UTF-8, and each item of bytes is below 256
abbrev pub IsWellFormed : Content → Type 0
IsWellFormed (text v) = IsUtf8 v
IsWellFormed (byte_string v) = AreBytes v
IsWellFormed c = Unit {0}

-- the bytes of a string or of bytes, and none of any other value
abbrev pub bytes_of : Content → List ℕ
bytes_of (text v) = v
bytes_of (byte_string v) = v
bytes_of c = []

-- a string or bytes of more than L bytes
abbrev pub is_longer : ℕ → Content → Bool
is_longer L (text v) = nat_lt L (length v)
is_longer L (byte_string v) = nat_lt L (length v)
is_longer L c = false

-- ---- as functions

-- the first characters that fit into L bytes
abbrev pub characters_within : ℕ → List ℕ → List ℕ
characters_within L [] = []
characters_within L (c ∷ cs) =
    if nat_le (len_utf8 c) L then c ∷ characters_within (L - len_utf8 c) cs else []

-- the longest prefix of whole characters that fits into L bytes
abbrev pub text_within : ℕ → List ℕ → List ℕ
text_within L v = encode_utf8_all (characters_within L (chars v))

-- the low of a value at length L
abbrev pub low : ℕ → Content → Content
low L (text v) = text (text_within L v)
low L (byte_string v) = byte_string (take L v)
low L c = c

-- the next character of as many UTF-8 bytes, which skips the surrogates
abbrev pub next_character : ℕ → Option ℕ
next_character c =
    if (c == 0x7f) || (c == 0x7ff) || (c == 0xffff) || (c == 0x10ffff) then None
    else (if c == 0xd7ff then Some 0xe000 else Some (suc c))

-- the last character that can be raised is raised, and the characters after it are dropped
abbrev pub raise_characters : List ℕ → Option (List ℕ)
raise_characters [] = None
raise_characters (c ∷ cs) = elim (raise_characters cs) [
  | Some ds ↦ Some (c ∷ ds)
  | None ↦ option_map (λ d. d ∷ []) (next_character c)
]

-- a UTF-8 string, raised
abbrev pub raise : List ℕ → Option (List ℕ)
raise p = option_map encode_utf8_all (raise_characters (chars p))

-- the bytes plus one, as one big-endian number; none where all are 255
abbrev pub count_up : List ℕ → Option (List ℕ)
count_up [] = None
count_up (b ∷ bs) = elim (count_up bs) [
  | Some ds ↦ Some (b ∷ ds)
  | None ↦ (if nat_lt b 255 then Some (suc b ∷ replicate (length bs) 0) else None)
]

-- the high of a value at length L, where there is one
abbrev pub high : ℕ → Content → Option Content
high L (text v) =
    if nat_lt L (length v) then option_map text (raise (text_within L v)) else Some (text v)
high L (byte_string v) = if nat_lt L (length v) then option_map byte_string (count_up (take L v))
    else Some (byte_string v)
high L c = Some c
