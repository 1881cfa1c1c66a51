-- Arrays in plain layout, one by one.
use Rattle.std.proofs.Common.{◌≡◌, ◌<◌, ◌≤◌, ◌+◌, ℕ, true, List, [], ◌∷◌, ◌++◌, length, map, flat_map, take, get_or, Option, Bor, refl, sym, ap, subst, ◌∙◌}
use Rattle.std.specs.List.{All, sum}
use Rattle.std.proofs.lemmas.List.{length-map, map-append, take_more, take_all}
use Rattle.std.proofs.lemmas.List.Folds.{flat_map-map}
use Rattle.std.proofs.lemmas.List.Elements.{All-nil, All-append, All-cons}
use Rattle.vortex_model.specs.LogicalType.{LogicalType}
use Rattle.vortex_model.specs.Content.{content_of}
use Rattle.vortex_model.specs.Valid.{valid}
use Rattle.vortex_scalar_value.specs.View.{raw_in, raw_at, content_in, content_at as value_content}
use Rattle.vortex_scalar_value.specs.declared.scalar_value.ScalarValue.{ScalarValue}
use Rattle.vortex_arrays_model.specs.Layout.{Layout, bools, required, len_of, array_type_of, rows_of}
use Rattle.vortex_arrays_model.proofs.RowsLemmas.{row_count}
use Rattle.vortex_arrays_builder.specs.Types.{HasPlain, IsPlainLayout}
use Rattle.vortex_arrays_concat.specs.EndToEnd.{rows_of_arrays, rows_in_all}
use Rattle.vortex_arrays_concat.specs.Columns.{IsColumn, IsJoined}
use Rattle.vortex_arrays_concat.specs.PlainTypes.{has_plain}
use Rattle.vortex_arrays_concat.specs.PlainParts.{IsPlainPart, ArePlainParts}
use Rattle.vortex_arrays_concat.proofs.RowLemmas.{AreOf, valid_lent, contents_of, contents_in}
use Rattle.vortex_arrays_concat.proofs.TypeLemmas.{plain_so}

abbrev AreOfType : LogicalType → List Layout → Type 0
AreOfType k ls = All (λ a. array_type_of a ≡ k) ls

-- ---- one after another

pub record FirstPlain (k : LogicalType) (ls : List Layout) (i : ℕ) (xs : List Layout) : Type 0 where
  pub own : AreOfType k (take i ls)
  pub kinds : AreOfType k xs
  pub rows : map rows_of xs ≡ map rows_of (take i ls)
  pub plain : All IsPlainLayout xs

pub first_none : (k : LogicalType) (ls : List Layout) → FirstPlain k ls 0 []
first_none k ls = record { own = All-nil (λ a. array_type_of a ≡ k); kinds = All-nil (λ a. array_type_of a ≡ k); rows = refl; plain = All-nil IsPlainLayout }

pub first_more : (k : LogicalType) (ls : List Layout) (i : ℕ) (a r : Layout) (old new : List Layout) → FirstPlain k ls i old → i < length ls → a ≡ get_or ls i a → IsPlainPart k a r → new ≡ old ++ r ∷ [] → FirstPlain k ls (i + 1) new
first_more k ls i a r old new h l e p made =
    let front : take (i + 1) ls ≡ take i ls ++ a ∷ [] = take_more ls i a l ∙ ap (λ y. take i ls ++ y ∷ []) (sym e) in
    let P : Layout → Type 0 = λ b. array_type_of b ≡ k in
    record {
      own = subst (All P) (sym front) (All-append P (take i ls) (a ∷ []) h.own (All-cons P a [] p.own (All-nil P)));
      kinds = subst (All P) (sym made) (All-append P old (r ∷ []) h.kinds (All-cons P r [] p.kind (All-nil P)));
      rows = ap (map rows_of) made ∙ map-append rows_of old (r ∷ []) ∙ (λ t. h.rows t ++ p.rows t ∷ [])
          ∙ sym (ap (map rows_of) front ∙ map-append rows_of (take i ls) (a ∷ []));
      plain = subst (All IsPlainLayout) (sym made) (All-append IsPlainLayout old (r ∷ []) h.plain (All-cons IsPlainLayout r [] p.plain (All-nil IsPlainLayout)));
    }

pub first_all : (k : LogicalType) (ls : List Layout) (i : ℕ) (xs : List Layout) → FirstPlain k ls i xs → length ls ≤ i → 0 < length ls → ArePlainParts k ls xs
first_all k ls i xs h l some =
    let all = take_all i ls l in
    record { some = some; own = subst (AreOfType k) all h.own; kinds = h.kinds; rows = h.rows ∙ ap (map rows_of) all; plain = h.plain }

pub has_layout : (k : LogicalType) → has_plain k ≡ true → HasPlain k
has_layout k h = plain_so k h

pub ruleset gathered = (first_none, first_more, first_all, has_layout)

pub cast_part : (k : LogicalType) (a r : Layout) → array_type_of a ≡ k → array_type_of r ≡ k → rows_of r ≡ rows_of a → IsPlainLayout r → IsPlainPart k a r
cast_part k a r own kind rows plain = record { own = own; kind = kind; rows = rows; plain = plain }

pub ruleset cast = (cast_part)

-- ---- by the values of the rows

abbrev Value : Type 0
Value = Option ScalarValue

abbrev Lent : Type 0
Lent = Option (Bor ScalarValue)

pub built_valid : (k : LogicalType) (a : Layout) (vs : List Value) (bs : List Lent) → array_type_of a ≡ k → AreOf (array_type_of a) vs → map raw_at bs ≡ map raw_in vs → All (λ b. valid k (raw_at b) ≡ true) bs
built_valid k a vs bs kind h e = valid_lent k vs bs e (subst (λ j. AreOf j vs) kind h)

pub built_part : (k : LogicalType) (a r : Layout) (vs : List Value) (bs : List Lent) → array_type_of a ≡ k → map content_in vs ≡ rows_of a → map raw_at bs ≡ map raw_in vs → array_type_of r ≡ k → rows_of r ≡ map value_content bs → IsPlainLayout r → IsPlainPart k a r
built_part k a r vs bs own rows e kind made plain = record {
  own = own;
  kind = kind;
  rows = made ∙ sym (contents_of bs) ∙ ap (map content_of) e ∙ contents_in vs ∙ rows;
  plain = plain;
}

pub ruleset built = (built_valid, built_part)

-- ---- the parts end to end

rows_back : (ls xs : List Layout) → map rows_of xs ≡ map rows_of ls → rows_of_arrays xs ≡ rows_of_arrays ls
rows_back ls xs e = sym (flat_map-map (λ rs. rs) rows_of xs) ∙ ap (flat_map (λ rs. rs)) e ∙ flat_map-map (λ rs. rs) rows_of ls

lengths_by_rows : (ls : List Layout) → map len_of ls ≡ map length (map rows_of ls)
lengths_by_rows [] = refl
lengths_by_rows (a ∷ ls) = λ t. sym (row_count a) t ∷ lengths_by_rows ls t

counts_back : (ls xs : List Layout) → map rows_of xs ≡ map rows_of ls → rows_in_all xs ≡ rows_in_all ls
counts_back ls xs e = ap sum (lengths_by_rows xs ∙ ap (map length) e ∙ sym (lengths_by_rows ls))

pub parts_count : (k : LogicalType) (ls xs : List Layout) (n : ℕ) → ArePlainParts k ls xs → n ≡ rows_in_all ls → n ≡ rows_in_all xs
parts_count k ls xs n p e = e ∙ sym (counts_back ls xs p.rows)

pub parts_joined : (k : LogicalType) (ls xs : List Layout) (r : Layout) → ArePlainParts k ls xs → IsJoined xs r → IsJoined ls r
parts_joined k ls xs r p h =
    let c = h.column k p.kinds in
    let d : Layout = bools [] required in
    let own : IsColumn k ls r = record { kind = c.kind; rows = c.rows ∙ rows_back ls xs p.rows; plain = c.plain } in
    record {
      count = h.count ∙ counts_back ls xs p.rows;
      column = λ t same. subst (λ j. IsColumn j ls r) (sym (p.own 0 d p.some) ∙ same 0 d p.some) own;
    }

pub parts_some : (k : LogicalType) (ls xs : List Layout) → ArePlainParts k ls xs → 0 < length xs
parts_some k ls xs p =
    let many : length xs ≡ length ls = sym (length-map xs rows_of) ∙ ap length p.rows ∙ length-map ls rows_of in
    subst (λ n. 0 < n) (sym many) p.some

pub ruleset joined = (parts_count, parts_joined, parts_some)
