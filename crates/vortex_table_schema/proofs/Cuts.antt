-- Cuts by what is left of the paths, field by field.
use Rattle.std.proofs.Common.{◌≡◌, refl, sym, ◌∙◌, ap, ℕ, zero, suc, List, [], ◌∷◌, ◌++◌, Bool, true, false, ◌&&◌, ◌||◌, Option, Some, None, if◌then◌else◌, bytes_eq}
use Rattle.std.specs.List.{cons_option}
use Rattle.std.proofs.lemmas.Cmp.{nat_list_eq_equiv}
use Rattle.std.specs.Cmp.{first_so, second_so}
use Rattle.std.proofs.Math.Bool.{or-true}
use Rattle.vortex_model.specs.LogicalType.{LogicalType, struct, stored, Fields, no_fields, field, Nullability, nullability_of}
use Rattle.vortex_model.specs.Content.{Content, tuple, Contents, first, nth, content_of, contents_of, Raw, raw_null, raw_tuple, Raws, no_raws, raw_first}
use Rattle.vortex_model.specs.Valid.{valid, has, fields_have}
use Rattle.vortex_model.specs.Path.{Names, begins}
use Rattle.vortex_model_table.specs.Cut.{is_kept, cut_kind, cut_fields, cut_content, cut_contents, cut_row, cut_type}
use Rattle.vortex_model_laws.proofs.Answers.{KeepAll, uncut, uncut_kind}
use Rattle.vortex_model.proofs.Contents.{said}
use Rattle.vortex_model.proofs.Tests.{has_so}
use Rattle.vortex_dtype_core.specs.View.{NamedType, fields_from}
use Rattle.vortex_dtype_core.specs.Parts.{fields_in_type}
use Rattle.vortex_table_schema.specs.Cut.{Tree, whole, parts, Parts, no_parts, part, KeptPart, parts_from, strip_all, ask_for_all, is_not_root, kept_by, kept_parts, cut_named, kept_list, content_cut, contents_cut, raw_cut, raws_cut}
use Rattle.vortex_scalar_value.specs.Parts.{raw_nth}

-- ---- after a name

abbrev keeps : Names → Names → Bool
keeps here path = begins path here || begins here path

one_path : (b : Bool) (path here : Names) (rest : Bool) (left : List Names) → rest ≡ is_kept left here →
    ((b && begins path here) || (b && begins here path)) || rest ≡ is_kept (cons_option (if b then Some path else None) left) here
one_path true path here rest left h = ap (λ r. keeps here path || r) h
one_path false path here rest left h = h

-- below a name, the paths keep what is left of them keeps
kept_beyond : (paths : List Names) (x : List ℕ) (here : Names) → is_kept paths (x ∷ here) ≡ is_kept (strip_all x paths) here
kept_beyond [] x here = refl
kept_beyond ([] ∷ paths) x here = refl
kept_beyond ((y ∷ path) ∷ paths) x here =
    ap (λ b. ((bytes_eq y x && begins path here) || (b && begins here path)) || is_kept paths (x ∷ here)) (nat_list_eq_equiv.symm x y)
    ∙ one_path (bytes_eq y x) path here (is_kept paths (x ∷ here)) (strip_all x paths) (kept_beyond paths x here)

kept_here : (paths : List Names) → is_kept paths [] ≡ is_not_root paths
kept_here [] = refl
kept_here (path ∷ paths) = ap (λ b. b || is_kept paths []) (or-true (begins path []))

-- a field is kept where paths lead through its name
pub kept_field : (paths : List Names) (x : List ℕ) → is_kept paths (x ∷ []) ≡ is_not_root (strip_all x paths)
kept_field paths x = kept_beyond paths x [] ∙ kept_here (strip_all x paths)

-- a path without a step keeps all
pub all_kept : (paths : List Names) → ask_for_all paths ≡ true → KeepAll paths
all_kept [] h here = absurd (cc (h))
all_kept ([] ∷ paths) h here = refl
all_kept ((x ∷ path) ∷ paths) h here = ap (λ b. keeps here (x ∷ path) || b) (all_kept paths h here) ∙ or-true (keeps here (x ∷ path))

mutual
  cut_beyond : (paths : List Names) (x : List ℕ) (here : Names) (k : LogicalType) → cut_kind paths (x ∷ here) k ≡ cut_kind (strip_all x paths) here k
  cut_beyond paths x here (struct fs n) = ap (λ gs. struct gs n) (cut_all_beyond paths x here fs)
  cut_beyond paths x here k = refl

  cut_all_beyond : (paths : List Names) (x : List ℕ) (here : Names) (fs : Fields) → cut_fields paths (x ∷ here) fs ≡ cut_fields (strip_all x paths) here fs
  cut_all_beyond paths x here no_fields = refl
  cut_all_beyond paths x here (field y k fs) = λ i.
      if kept_beyond paths x (here ++ y ∷ []) i then field y (cut_beyond paths x (here ++ y ∷ []) k i) (cut_all_beyond paths x here fs i) else cut_all_beyond paths x here fs i

mutual
  content_beyond : (paths : List Names) (x : List ℕ) (here : Names) (k : LogicalType) (c : Content) → cut_content paths (x ∷ here) k c ≡ cut_content (strip_all x paths) here k c
  content_beyond paths x here (struct fs n) (tuple cs) = ap (λ ds. tuple ds) (contents_beyond paths x here fs cs)
  content_beyond paths x here k c = refl

  contents_beyond : (paths : List Names) (x : List ℕ) (here : Names) (fs : Fields) (cs : Contents) → cut_contents paths (x ∷ here) fs cs ≡ cut_contents (strip_all x paths) here fs cs
  contents_beyond paths x here (field y k fs) (first c cs) = λ i.
      if kept_beyond paths x (here ++ y ∷ []) i then first (content_beyond paths x (here ++ y ∷ []) k c i) (contents_beyond paths x here fs cs i) else contents_beyond paths x here fs cs i
  contents_beyond paths x here fs cs = refl

-- ---- the type

named_one : (b : Bool) (x : List ℕ) (k : LogicalType) (fs : List NamedType) (gs : Fields) → gs ≡ fields_from fs → (if b then field x k gs else gs) ≡ fields_from (if b then (x, k) ∷ fs else fs)
named_one true x k fs gs h = ap (field x k) h
named_one false x k fs gs h = h

named : (paths : List Names) (fs : List NamedType) → cut_fields paths [] (fields_from fs) ≡ fields_from (cut_named paths fs)
named paths [] = refl
named paths (f ∷ fs) =
    (λ i. if kept_field paths f.0 i then field f.0 (cut_beyond paths f.0 [] f.1 i) (cut_fields paths [] (fields_from fs)) else cut_fields paths [] (fields_from fs))
    ∙ named_one (is_not_root (strip_all f.0 paths)) f.0 (cut_kind (strip_all f.0 paths) [] f.1) (cut_named paths fs) (cut_fields paths [] (fields_from fs)) (named paths fs)

-- the type of a record that is cut
pub cut_struct : (paths : List Names) (k : LogicalType) (fs : List NamedType) (n : Nullability) → k ≡ struct (fields_from fs) n → cut_kind paths [] k ≡ struct (fields_from (cut_named paths fs)) n
cut_struct paths k fs n is = ap (cut_kind paths []) is ∙ ap (λ gs. struct gs n) (named paths fs)

pub cut_whole : (paths : List Names) (k : LogicalType) → ask_for_all paths ≡ true → cut_kind paths [] k ≡ k
cut_whole paths k h = uncut_kind paths (all_kept paths h) [] k

-- ---- the positions

listed_one : (b : Bool) (i : ℕ) (t : Tree) (ps : List KeptPart) (qs : Parts) → qs ≡ parts_from ps → (if b then part i t qs else qs) ≡ parts_from (if b then (i, t) ∷ ps else ps)
listed_one true i t ps qs h = ap (part i t) h
listed_one false i t ps qs h = h

listed : (paths : List Names) (i : ℕ) (fs : List NamedType) → kept_parts paths i (fields_from fs) ≡ parts_from (kept_list paths i fs)
listed paths i [] = refl
listed paths i (f ∷ fs) = listed_one (is_not_root (strip_all f.0 paths)) i (kept_by (strip_all f.0 paths) f.1) (kept_list paths (suc i) fs) (kept_parts paths (suc i) (fields_from fs)) (listed paths (suc i) fs)

pub parts_struct : (paths : List Names) (k : LogicalType) (fs : List NamedType) (n : Nullability) → k ≡ struct (fields_from fs) n → ask_for_all paths ≡ false → kept_by paths k ≡ parts (parts_from (kept_list paths 0 fs))
parts_struct paths k fs n is h =
    ap (kept_by paths) is ∙ ap (λ b. if b then whole else parts (kept_parts paths 0 (fields_from fs))) h ∙ ap parts (listed paths 0 fs)

whole_by : (b : Bool) (ps : Parts) → b ≡ true → (if b then whole else parts ps) ≡ whole
whole_by true ps h = refl
whole_by false ps h = absurd (cc (h))

pub parts_whole : (paths : List Names) (k : LogicalType) → ask_for_all paths ≡ true → kept_by paths k ≡ whole
parts_whole paths (struct fs n) h = whole_by (ask_for_all paths) (kept_parts paths 0 fs) h
parts_whole paths k h = refl

-- ---- by the fields that a type has, if it is a record

pub record_of : (k : LogicalType) (fs : Fields) → Some fs ≡ fields_in_type k → k ≡ struct fs (nullability_of k)
record_of (struct gs n) fs h = ap (λ f. struct (fields_or f) n) (sym h)
  where
    fields_or : Option Fields → Fields
    fields_or None = no_fields
    fields_or (Some f) = f
record_of k fs h = absurd (cc (h))

pub cut_other : (paths : List Names) (k : LogicalType) → None ≡ fields_in_type k → cut_kind paths [] k ≡ k
cut_other paths (struct fs n) h = absurd (cc (h))
cut_other paths k h = refl

pub parts_other : (paths : List Names) (k : LogicalType) → None ≡ fields_in_type k → kept_by paths k ≡ whole
parts_other paths (struct fs n) h = absurd (cc (h))
parts_other paths k h = refl

-- ---- positions from one on

abbrev moved : Parts → Parts
moved no_parts = no_parts
moved (part i t ps) = part (suc i) t (moved ps)

move_one : (b : Bool) (i : ℕ) (t : Tree) (ps qs : Parts) → ps ≡ moved qs → (if b then part (suc i) t ps else ps) ≡ moved (if b then part i t qs else qs)
move_one true i t ps qs h = ap (part (suc i) t) h
move_one false i t ps qs h = h

move_all : (paths : List Names) (i : ℕ) (fs : Fields) → kept_parts paths (suc i) fs ≡ moved (kept_parts paths i fs)
move_all paths i no_fields = refl
move_all paths i (field x k fs) =
    move_one (is_not_root (strip_all x paths)) i (kept_by (strip_all x paths) k) (kept_parts paths (suc (suc i)) fs) (kept_parts paths (suc i) fs) (move_all paths (suc i) fs)

raws_moved : (r : Raw) (rs : Raws) (ps : Parts) → raws_cut (moved ps) (raw_first r rs) ≡ raws_cut ps rs
raws_moved r rs no_parts = refl
raws_moved r rs (part i t ps) = ap (raw_first (raw_cut t (raw_nth rs i))) (raws_moved r rs ps)

contents_moved : (c : Content) (cs : Contents) (ps : Parts) → contents_cut (moved ps) (first c cs) ≡ contents_cut ps cs
contents_moved c cs no_parts = refl
contents_moved c cs (part i t ps) = ap (first (content_cut t (nth cs i))) (contents_moved c cs ps)

raws_next : (paths : List Names) (fs : Fields) (r : Raw) (rs : Raws) → raws_cut (kept_parts paths 1 fs) (raw_first r rs) ≡ raws_cut (kept_parts paths 0 fs) rs
raws_next paths fs r rs = ap (λ ps. raws_cut ps (raw_first r rs)) (move_all paths 0 fs) ∙ raws_moved r rs (kept_parts paths 0 fs)

contents_next : (paths : List Names) (fs : Fields) (c : Content) (cs : Contents) → contents_cut (kept_parts paths 1 fs) (first c cs) ≡ contents_cut (kept_parts paths 0 fs) cs
contents_next paths fs c cs = ap (λ ps. contents_cut ps (first c cs)) (move_all paths 0 fs) ∙ contents_moved c cs (kept_parts paths 0 fs)

-- ---- a valid value that is cut is valid for the cut type

have_one : (b : Bool) (x : List ℕ) (k : LogicalType) (fs : Fields) (r : Raw) (rs ss : Raws) (i : ℕ) (t : Tree) (ps : Parts) → has (stored k) (raw_cut t (raw_nth rs i)) ≡ true → fields_have fs (raws_cut ps rs) ≡ true →
    fields_have (if b then field x k fs else fs) (raws_cut (if b then part i t ps else ps) rs) ≡ true
have_one true x k fs r rs ss i t ps h g = λ j. h j && g j
have_one false x k fs r rs ss i t ps h g = g

record_has : (paths : List Names) (fs : Fields) (n : Nullability) → ((rs : Raws) → fields_have fs rs ≡ true → fields_have (cut_fields paths [] fs) (raws_cut (kept_parts paths 0 fs) rs) ≡ true) →
    (b : Bool) → ask_for_all paths ≡ b → (r : Raw) → has (struct fs n) r ≡ true → has (struct (cut_fields paths [] fs) n) (raw_cut (if b then whole else parts (kept_parts paths 0 fs)) r) ≡ true
record_has paths fs n each true e r g = ap (λ k. has k r) (uncut_kind paths (all_kept paths e) [] (struct fs n)) ∙ g
record_has paths fs n each false e raw_null g = g
record_has paths fs n each false e (raw_tuple rs) g = each rs g
record_has paths fs n each false e r g = absurd (cc (g))

mutual
  cut_has : (paths : List Names) (k : LogicalType) (r : Raw) → has (stored k) r ≡ true → has (stored (cut_kind paths [] k)) (raw_cut (kept_by paths k) r) ≡ true
  cut_has paths (struct fs n) r h = record_has paths fs n (λ rs g. cut_have paths fs rs g) (ask_for_all paths) refl r h
  cut_has paths k r h = h

  cut_have : (paths : List Names) (fs : Fields) (rs : Raws) → fields_have fs rs ≡ true → fields_have (cut_fields paths [] fs) (raws_cut (kept_parts paths 0 fs) rs) ≡ true
  cut_have paths no_fields rs h = refl
  cut_have paths (field x k fs) no_raws h = absurd (cc (h))
  cut_have paths (field x k fs) (raw_first r rs) h =
      (λ i. fields_have (if kept_field paths x i then field x (cut_beyond paths x [] k i) (cut_fields paths [] fs) else cut_fields paths [] fs) (raws_cut (kept_parts paths 0 (field x k fs)) (raw_first r rs)))
      ∙ have_one (is_not_root (strip_all x paths)) x (cut_kind (strip_all x paths) [] k) (cut_fields paths [] fs) r (raw_first r rs) rs 0 (kept_by (strip_all x paths) k) (kept_parts paths 1 fs)
      (cut_has (strip_all x paths) k r (first_so (has (stored k) r) (fields_have fs rs) h))
      (ap (fields_have (cut_fields paths [] fs)) (raws_next paths fs r rs) ∙ cut_have paths fs rs (second_so (has (stored k) r) (fields_have fs rs) h))

pub cut_is_valid : (paths : List Names) (k : LogicalType) (row : Raw) → valid k row ≡ true → valid (cut_type paths k) (raw_cut (kept_by paths k) row) ≡ true
cut_is_valid paths k row h = cut_has paths k row h

-- ---- and says what the cut of its content does

first_one : (b : Bool) (d : Content) (ds : Contents) (cs : Contents) (i : ℕ) (t : Tree) (ps : Parts) → content_cut t (nth cs i) ≡ d → contents_cut ps cs ≡ ds →
    contents_cut (if b then part i t ps else ps) cs ≡ (if b then first d ds else ds)
first_one true d ds cs i t ps h g = λ j. first (h j) (g j)
first_one false d ds cs i t ps h g = g

record_says : (paths : List Names) (fs : Fields) (n : Nullability) → ((rs : Raws) → fields_have fs rs ≡ true → contents_cut (kept_parts paths 0 fs) (contents_of rs) ≡ cut_contents paths [] fs (contents_of rs)) →
    (b : Bool) → ask_for_all paths ≡ b → (r : Raw) → has (struct fs n) r ≡ true →
    content_cut (if b then whole else parts (kept_parts paths 0 fs)) (content_of r) ≡ cut_content paths [] (struct fs n) (content_of r)
record_says paths fs n each true e r g = sym (uncut paths (all_kept paths e) [] (struct fs n) (content_of r) (said (struct fs n) r (has_so (struct fs n) r g)))
record_says paths fs n each false e (raw_tuple rs) g = ap (λ cs. tuple cs) (each rs g)
record_says paths fs n each false e raw_null g = refl
record_says paths fs n each false e r g = absurd (cc (g))

mutual
  cut_says : (paths : List Names) (k : LogicalType) (r : Raw) → has (stored k) r ≡ true → content_cut (kept_by paths k) (content_of r) ≡ cut_content paths [] k (content_of r)
  cut_says paths (struct fs n) r h = record_says paths fs n (λ rs g. cut_say paths fs rs g) (ask_for_all paths) refl r h
  cut_says paths k r h = refl

  cut_say : (paths : List Names) (fs : Fields) (rs : Raws) → fields_have fs rs ≡ true → contents_cut (kept_parts paths 0 fs) (contents_of rs) ≡ cut_contents paths [] fs (contents_of rs)
  cut_say paths no_fields rs h = refl
  cut_say paths (field x k fs) no_raws h = absurd (cc (h))
  cut_say paths (field x k fs) (raw_first r rs) h =
      first_one (is_not_root (strip_all x paths)) (cut_content (strip_all x paths) [] k (content_of r)) (cut_contents paths [] fs (contents_of rs)) (first (content_of r) (contents_of rs)) 0
      (kept_by (strip_all x paths) k) (kept_parts paths 1 fs)
      (cut_says (strip_all x paths) k r (first_so (has (stored k) r) (fields_have fs rs) h))
      (contents_next paths fs (content_of r) (contents_of rs) ∙ cut_say paths fs rs (second_so (has (stored k) r) (fields_have fs rs) h))
      ∙ (λ i. if sym (kept_field paths x) i then first (sym (content_beyond paths x [] k (content_of r)) i) (cut_contents paths [] fs (contents_of rs)) else cut_contents paths [] fs (contents_of rs))

-- the cut of a valid row is what is kept of it
pub cut_is_kept : (paths : List Names) (k : LogicalType) (row : Raw) → valid k row ≡ true → content_cut (kept_by paths k) (content_of row) ≡ cut_row paths k (content_of row)
cut_is_kept paths k row h = cut_says paths k row h

-- ---- stored values and what they say

nth_content : (rs : Raws) (i : ℕ) → nth (contents_of rs) i ≡ content_of (raw_nth rs i)
nth_content no_raws i = refl
nth_content (raw_first r rs) zero = refl
nth_content (raw_first r rs) (suc i) = nth_content rs i

mutual
  pub cut_content_of : (t : Tree) (r : Raw) → content_of (raw_cut t r) ≡ content_cut t (content_of r)
  cut_content_of (parts ps) (raw_tuple rs) = ap (λ cs. tuple cs) (cut_contents_of ps rs)
  cut_content_of t r = refl

  cut_contents_of : (ps : Parts) (rs : Raws) → contents_of (raws_cut ps rs) ≡ contents_cut ps (contents_of rs)
  cut_contents_of no_parts rs = refl
  cut_contents_of (part i t ps) rs = λ j. first ((cut_content_of t (raw_nth rs i) ∙ ap (content_cut t) (sym (nth_content rs i))) j) (cut_contents_of ps rs j)
