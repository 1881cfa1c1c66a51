-- Values numbered in the order of first occurrences.
use Rattle.std.specs.Prelude.{◌≡◌, ◌<◌, ◌≤◌, ◌-◌, ◌⊎◌, ℕ, suc, ℤ, pos, List, [], ◌∷◌, ◌++◌, length, map, Bool, true, false, ◌&&◌, cond, Option, Some, None, option_map, slice_index_or, All}
use Rattle.std.specs.Borrow.{Bor}
use Rattle.std.specs.declared.cmp.Ordering.{Ordering}
use Rattle.std.specs.Ordering.{int_eq, int_cmp, nat_cmp, ordering_then, is_eq}
use Rattle.std.specs.Cmp.Lexicographic.{slice_cmp}
use Rattle.std.specs.Str.{bytes_eq}
use Rattle.std.specs.BTreeMap.{BTreeMap, get}
use Rattle.vortex_model.specs.LogicalType.{LogicalType}
use Rattle.vortex_model.specs.Content.{is_null, content_of, Raw, raw_null, raw_boolean, raw_number, raw_text, raw_byte_string}
use Rattle.vortex_model.specs.Valid.{valid}
use Rattle.vortex_arrays_dictionary.specs.Distinct.{distinct}

-- The key of a value of a leaf type among values of its type: its integer, where a boolean is 0 or
-- 1, and its bytes.
abbrev pub Key : Type 0
Key = ℤ × Bor (List ℕ)

abbrev pub number_in : Raw → ℤ
number_in (raw_boolean b) = cond b (pos 1) (pos 0)
number_in (raw_number i z) = z
number_in r = pos 0

abbrev pub bytes_in : Raw → List ℕ
bytes_in (raw_text bs) = bs
bytes_in (raw_byte_string bs) = bs
bytes_in r = []

abbrev pub has_key : Key → Raw → Bool
has_key q r = int_eq q.0 (number_in r) && bytes_eq q.1.now (bytes_in r)

abbrev pub key_cmp : Key → Key → Ordering
key_cmp x y = ordering_then (int_cmp x.0 y.0) (slice_cmp nat_cmp x.1.now y.1.now)

-- the index of the first that passes
abbrev pub index_where : (Raw → Bool) → List Raw → Option ℕ
index_where p [] = None
index_where p (r ∷ rs) = cond (p r) (Some 0) (option_map (λ i. suc i) (index_where p rs))

-- the map has for each key the index of the first value with it
abbrev pub Knows : BTreeMap Key ℕ → List Raw → Type 0
Knows places ds = (q : Key) → get key_cmp places q ≡ index_where (has_key q) ds

-- The key has the index n in the map: that of before, or the next one if it had none.
abbrev pub IsPlaced : BTreeMap Key ℕ → Key → ℕ → BTreeMap Key ℕ → ℕ → Type 0
IsPlaced old k next new n =
    ((get key_cmp old k ≡ Some n) × (new ≡ old)) ⊎
    ((get key_cmp old k ≡ None) × (n ≡ next) × ((q : Key) →
    get key_cmp new q ≡ cond (is_eq (key_cmp k q)) (Some next) (get key_cmp old q)))

-- The values es are ds, with r added where its key is new, and r has the number n.
abbrev pub IsNumbered : Key → List Raw → Raw → List Raw → ℕ → Type 0
IsNumbered q ds r es n = (has_key q r ≡ true) ×
    (((index_where (has_key q) ds ≡ Some n) × (es ≡ ds)) ⊎
    ((index_where (has_key q) ds ≡ None) × (n ≡ length ds) × (es ≡ ds ++ r ∷ [])))

-- null adds no value and has the number 0
abbrev pub IsNumberedOrNull : List Raw → Raw → List Raw → ℕ → Type 0
IsNumberedOrNull ds r es n =
    ((is_null (content_of r) ≡ true) × (es ≡ ds) × (n ≡ 0)) ⊎
    ((is_null (content_of r) ≡ false) × ((q : Key) × IsNumbered q ds r es n))

-- each is of the type
abbrev pub AreOf : LogicalType → List Raw → Type 0
AreOf k rs = All (λ r. valid k r ≡ true) rs

-- ds are the distinct values of rs, and each value of rs but null is at its number
pub record IsNumbering (k : LogicalType) (rs ds : List Raw) (ns : List ℕ) : Type 0 where
  pub held : AreOf k ds
  pub present : All (λ r. is_null (content_of r) ≡ false) ds
  pub each_once : map content_of ds ≡ distinct (map content_of rs)
  pub many : length ns ≡ length rs
  pub small : All (λ n. n ≤ length ds - 1) ns
  pub stands : (i : ℕ) → i < length rs →
      is_null (content_of (slice_index_or rs i raw_null)) ≡ false →
      (slice_index_or ns i 0 < length ds) ×
      (content_of (slice_index_or ds (slice_index_or ns i 0) raw_null) ≡
      content_of (slice_index_or rs i raw_null))
