-- Path lists that cover the same paths keep the same fields.
use Rattle.std.proofs.Common.{◌≡◌, refl, sym, ◌∙◌, ap, ℕ, List, [], ◌∷◌, ◌++◌, map, filter, Bool, true, false, ◌&&◌, ◌||◌, if◌then◌else◌, ◌⊎◌, inl, inr}
use Rattle.std.specs.List.{list_any}
use Rattle.std.specs.Str.{bytes_eq}
use Rattle.std.specs.Cmp.Lexicographic.{bytes_decides}
use Rattle.std.specs.Cmp.{first_so, second_so, both_ways}
use Rattle.std.proofs.lemmas.Bool.{or_cases, or_right, or_left}
use Rattle.vortex_model.specs.LogicalType.{LogicalType, struct, Fields, no_fields, field}
use Rattle.vortex_model.specs.Content.{Content, tuple, Contents, first}
use Rattle.vortex_model.specs.Path.{Names, begins}
use Rattle.vortex_model_table.specs.Cut.{is_kept, cut_kind, cut_fields, cut_type, cut_content, cut_contents, cut_row}
use Rattle.vortex_model_table.specs.Expression.{Expression}
use Rattle.vortex_model_table.specs.Truth.{selects}
use Rattle.vortex_model_table.specs.Table.{Table, rows_of, answer}
use Rattle.vortex_model_table.specs.Laws.{CoverTheSame}
use Rattle.vortex_model_laws.proofs.Honesty.{Among}

-- ---- some path of a list passes

record Passing (p : Names → Bool) (xss : List Names) : Type 0 where
  path : Names
  among : Among path xss
  passes : p path ≡ true

any_found : (p : Names → Bool) (xss : List Names) → list_any p xss ≡ true → Passing p xss
any_found p [] e = absurd (cc (e))
any_found p (xs ∷ xss) e = by_first (or_cases (p xs) (list_any p xss) e) (any_found p xss)
  where
    by_first : (p xs ≡ true) ⊎ (list_any p xss ≡ true) → (list_any p xss ≡ true → Passing p xss) → Passing p (xs ∷ xss)
    by_first (inl h) g = record { path = xs; among = inl refl; passes = h }
    by_first (inr h) g = let f = g h in record { path = f.path; among = inr f.among; passes = f.passes }

found_any : (p : Names → Bool) (xss : List Names) (xs : Names) → Among xs xss → p xs ≡ true → list_any p xss ≡ true
found_any p [] xs g e = absurd g
found_any p (ys ∷ xss) xs (inl h) e = or_left (p ys) (list_any p xss) (ap p h ∙ e)
found_any p (ys ∷ xss) xs (inr g) e = or_right (p ys) (list_any p xss) (found_any p xss xs g e)

-- ---- prefixes

begins_itself : (xs : Names) → begins xs xs ≡ true
begins_itself [] = refl
begins_itself (x ∷ xs) = ap (λ b. b && begins xs xs) ((bytes_decides x x).1 refl) ∙ begins_itself xs

eq_first : (x y z : List ℕ) → bytes_eq x z ≡ true → bytes_eq y z ≡ true → bytes_eq x y ≡ true
eq_first x y z e f = (bytes_decides x y).1 ((bytes_decides x z).0 e ∙ sym ((bytes_decides y z).0 f))

-- of two prefixes of one path, one is a prefix of the other
one_begins : (xs ys zs : Names) → begins xs zs ≡ true → begins ys zs ≡ true → begins xs ys || begins ys xs ≡ true
one_begins [] ys zs e f = refl
one_begins (x ∷ xs) [] zs e f = refl
one_begins (x ∷ xs) (y ∷ ys) [] e f = absurd (cc (e))
one_begins (x ∷ xs) (y ∷ ys) (z ∷ zs) e f =
    let p = first_so (bytes_eq x z) (begins xs zs) e in let q = first_so (bytes_eq y z) (begins ys zs) f in
    (λ i. (eq_first x y z p q i && begins xs ys) || (eq_first y x z q p i && begins ys xs))
    ∙ one_begins xs ys zs (second_so (bytes_eq x z) (begins xs zs) e) (second_so (bytes_eq y z) (begins ys zs) f)

swapped : (b c : Bool) → b || c ≡ true → c || b ≡ true
swapped true c e = or_right c true refl
swapped false c e = or_left c false e

-- ---- what is kept

abbrev is_kept_by : Names → Names → Bool
is_kept_by here path = begins path here || begins here path

kept_so : (ps qs : List Names) → CoverTheSame ps qs → (here : Names) → is_kept ps here ≡ true → is_kept qs here ≡ true
kept_so ps qs same here e = by_path (any_found (is_kept_by here) ps e)
  where
    by_case : (p : Names) → Among p ps → (begins p here ≡ true) ⊎ (begins here p ≡ true) → is_kept qs here ≡ true
    by_case p g (inl h) =
        let f = any_found (λ path. begins path here) qs (sym (same here) ∙ found_any (λ path. begins path here) ps p g h) in
        found_any (is_kept_by here) qs f.path f.among (or_left (begins f.path here) (begins here f.path) f.passes)
    by_case p g (inr h) =
        let f = any_found (λ path. begins path p) qs (sym (same p) ∙ found_any (λ path. begins path p) ps p g (begins_itself p)) in
        found_any (is_kept_by here) qs f.path f.among (one_begins f.path here p f.passes h)

    by_path : Passing (is_kept_by here) ps → is_kept qs here ≡ true
    by_path f = by_case f.path f.among (or_cases (begins f.path here) (begins here f.path) f.passes)

kept_same : (ps qs : List Names) → CoverTheSame ps qs → (here : Names) → is_kept ps here ≡ is_kept qs here
kept_same ps qs same here =
    both_ways (is_kept ps here) (is_kept qs here) (kept_so ps qs same here) (kept_so qs ps (λ xs. sym (same xs)) here)

-- ---- what is cut

module _ (ps qs : List Names) (kept : (here : Names) → is_kept ps here ≡ is_kept qs here) where
  mutual
    kind_alike : (here : Names) (k : LogicalType) → cut_kind ps here k ≡ cut_kind qs here k
    kind_alike here (struct fs n) = ap (λ gs. struct gs n) (fields_alike here fs)
    kind_alike here k = refl

    fields_alike : (here : Names) (fs : Fields) → cut_fields ps here fs ≡ cut_fields qs here fs
    fields_alike here no_fields = refl
    fields_alike here (field x k fs) =
        λ i. if kept (here ++ x ∷ []) i then field x (kind_alike (here ++ x ∷ []) k i) (fields_alike here fs i) else fields_alike here fs i

  mutual
    content_alike : (here : Names) (k : LogicalType) (c : Content) → cut_content ps here k c ≡ cut_content qs here k c
    content_alike here (struct fs n) (tuple cs) = ap (λ ds. tuple ds) (contents_alike here fs cs)
    content_alike here k c = refl

    contents_alike : (here : Names) (fs : Fields) (cs : Contents) → cut_contents ps here fs cs ≡ cut_contents qs here fs cs
    contents_alike here (field x k fs) (first c cs) =
        λ i. if kept (here ++ x ∷ []) i then first (content_alike (here ++ x ∷ []) k c i) (contents_alike here fs cs i) else contents_alike here fs cs i
    contents_alike here fs cs = refl

  rows_alike : (k : LogicalType) (rows : List Content) → map (cut_row ps k) rows ≡ map (cut_row qs k) rows
  rows_alike k [] = refl
  rows_alike k (row ∷ rows) = λ i. content_alike [] k row i ∷ rows_alike k rows i

pub answers_alike : (t : Table) (ps qs : List Names) (e : Expression) → CoverTheSame ps qs →
    (answer t ps e ≡ answer t qs e) × (cut_type ps t.kind ≡ cut_type qs t.kind)
answers_alike t ps qs e same =
    (rows_alike ps qs (kept_same ps qs same) t.kind (filter (selects t.kind e) (rows_of t)), kind_alike ps qs (kept_same ps qs same) [] t.kind)
