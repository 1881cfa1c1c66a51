-- Views and values that are tested one after another.
use Rattle.std.proofs.Common.{◌≡◌, ◌∙◌, sym, ap, subst, ℕ, ◌+◌, ◌<◌, List, [], length, get_or, arith, inl, inr}
use Rattle.std.specs.Prelude.{IsTrue}
use Rattle.std.proofs.lemmas.Bool.{cases_lt}
use Rattle.std.proofs.lemmas.List.{get_or_read}
use Rattle.vortex_arrays_view.specs.Views.{value_of, HasValue}
use Rattle.vortex_arrays_model.specs.Layout.{Layout, strings, len_of, Strings, texts, Valid, is_valid, IsString, IsSound}
use Rattle.vortex_arrays_leaf.specs.Strings.{IsStrings, views_in, buffers_in}
use Rattle.vortex_arrays_model.specs.Parts.{valid_in}
use Rattle.vortex_arrays_leaf.specs.ViewFaults.{HasBadView, HasNoText}

pub bad_view : (views buffers : List (List ℕ)) (v : Valid) (i : ℕ) → i < length views → IsTrue (is_valid v i) → (HasValue (get_or views i []) buffers → ⊥) → HasBadView views buffers v
bad_view views buffers v i l valid bad = record { row = i; within = l; valid = valid; bad = bad }

no_string : (s : Strings) (bs : List ℕ) → s ≡ texts → (IsString s bs → ⊥) → IsString texts bs → ⊥
no_string s bs e h = subst (λ t. IsString t bs → ⊥) e h

pub no_text : (s : Strings) (views buffers : List (List ℕ)) (v : Valid) (i : ℕ) → i < length views → IsTrue (is_valid v i) → s ≡ texts → (IsString s (value_of (get_or views i []) buffers) → ⊥) → HasNoText views buffers v
no_text s views buffers v i l valid e other = record { row = i; within = l; valid = valid; other = no_string s (value_of (get_or views i []) buffers) e other }

-- one more row
pub rows_more : (P : ℕ → Type 0) (n : ℕ) → ((k : ℕ) → k < n → P k) → P n → (k : ℕ) → k < n + 1 → P k
rows_more P n h last k l = elim (cases_lt k n) [ inl before ↦ h k before | inr g ↦ let e : n ≡ k = omega (arith, l, g) in subst P e last ]

-- one more view
pub each_more : (P : List ℕ → Type 0) (vs : List (List ℕ)) (i : ℕ) (x : List ℕ) → ((k : ℕ) → k < i → P (get_or vs k [])) → i < length vs → x ≡ get_or vs i x → P x → (k : ℕ) → k < i + 1 → P (get_or vs k [])
each_more P vs i x h l e p = rows_more (λ k. P (get_or vs k [])) i h (subst P (get_or_read vs i x l e []) p)

-- the view of a row that is not null has its value
pub value_read : (a : Layout) (vs bs : List (List ℕ)) (i : ℕ) (x : List ℕ) → IsStrings a → IsSound a → i < len_of a → IsTrue (is_valid (valid_in a) i) → vs ≡ views_in a → bs ≡ buffers_in a → x ≡ get_or vs i x → HasValue x bs
value_read (strings s ws cs v) vs bs i x t sound l valid e f is =
    let read : x ≡ get_or ws i [] = get_or_read vs i x (subst (λ (w : List (List ℕ)). i < length w) (sym e) l) is [] ∙ ap (λ (w : List (List ℕ)). get_or w i []) e in
    subst (λ (b : List ℕ). HasValue b bs) (sym read) (subst (λ (c : List (List ℕ)). HasValue (get_or ws i []) c) (sym f) ((sound.0 i l valid).0))
value_read a vs bs i x t sound l valid e f is = absurd t

pub ruleset views = (bad_view)

pub ruleset values = (no_text)

pub ruleset reads = (get_or_read)
