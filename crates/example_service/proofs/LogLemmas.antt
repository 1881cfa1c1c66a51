-- The whole lines of a log, and the state that they lead to.
use Rattle.std.proofs.Common.{◌≡◌, ◌≢◌, ℕ, ◌==◌, List, [], ◌∷◌, ◌++◌, refl, ap, ◌∙◌, sym, ap₂, arith, length, take, All, flat_map, append_assoc, append-nil, Bool, true, false, true≢false, if◌then◌else◌, Option}
use Rattle.std.proofs.lemmas.List.Elements.{recursion_from_All}
use Rattle.std.proofs.lemmas.Grind.{flat_map-append}
use Rattle.std.specs.List.{AllByRecursion}
use Rattle.std.proofs.lemmas.Bool.Decides.{nat_tests}
use Rattle.vortex_model_table.specs.Table.{Table}
use Rattle.vortex_table_io.specs.Lines.{IsOneLine, with_lf}
use Rattle.example_service.specs.Log.{State, state_of, start, onto_first, whole_lines, after_line, after_lines, with_line, with_lines, replayed}

-- a line of bytes without LF
abbrev pub Plain : List ℕ → Type 0
Plain bytes = AllByRecursion (λ b. b ≢ 10) bytes

step : (b : ℕ) (bs : List ℕ) → b ≢ 10 → whole_lines (b ∷ bs) ≡ onto_first b (whole_lines bs)
step b bs n = grind (arith, nat_tests, n)

line_plain : (line rest : List ℕ) → Plain line → whole_lines (line ++ 10 ∷ rest) ≡ line ∷ whole_lines rest
line_plain [] rest p = refl
line_plain (b ∷ bs) rest p = step b (bs ++ 10 ∷ rest) p.0 ∙ ap (onto_first b) (line_plain bs rest p.1)

none_plain : (line : List ℕ) → Plain line → whole_lines line ≡ []
none_plain [] p = refl
none_plain (b ∷ bs) p = step b bs p.0 ∙ ap (onto_first b) (none_plain bs p.1)

-- a first line that has its LF
pub whole_lines-line : (line rest : List ℕ) → IsOneLine line → whole_lines (line ++ 10 ∷ rest) ≡ line ∷ whole_lines rest
whole_lines-line line rest h = line_plain line rest (recursion_from_All (λ b. b ≢ 10) line h)

-- what has no LF
pub whole_lines-unended : (line : List ℕ) → IsOneLine line → whole_lines line ≡ []
whole_lines-unended line h = none_plain line (recursion_from_All (λ b. b ≢ 10) line h)

not_lf : (b : ℕ) → (b == 10) ≡ false → b ≢ 10
not_lf b e h = true≢false (sym (ap (λ (n : ℕ). n == 10) h) ∙ e)

onto_each : (b : ℕ) (ls : List (List ℕ)) → b ≢ 10 → AllByRecursion Plain ls → AllByRecursion Plain (onto_first b ls)
onto_each b [] n h = tt
onto_each b (l ∷ ls) n h = ((n, h.0), h.1)

each_step : (t : Bool) (b : ℕ) (ls : List (List ℕ)) → (t ≡ false → b ≢ 10) → AllByRecursion Plain ls → AllByRecursion Plain (if t then [] ∷ ls else onto_first b ls)
each_step true b ls n h = (tt, h)
each_step false b ls n h = onto_each b ls (n refl) h

-- no whole line has an LF in it
whole_each : (bs : List ℕ) → AllByRecursion Plain (whole_lines bs)
whole_each [] = tt
whole_each (b ∷ bs) = each_step (b == 10) b (whole_lines bs) (not_lf b) (whole_each bs)

-- lines with their LFs, and more
whole_ended : (ls : List (List ℕ)) (rest : List ℕ) → AllByRecursion Plain ls → whole_lines (flat_map with_lf ls ++ rest) ≡ ls ++ whole_lines rest
whole_ended [] rest h = refl
whole_ended (l ∷ ls) rest h =
    ap whole_lines (append_assoc (with_lf l) (flat_map with_lf ls) rest ∙ append_assoc l (10 ∷ []) (flat_map with_lf ls ++ rest))
    ∙ line_plain l (flat_map with_lf ls ++ rest) h.0 ∙ ap (λ (ks : List (List ℕ)). l ∷ ks) (whole_ended ls rest h.1)

-- ---- the whole lines of a front

front_onto : (b : ℕ) (ls more : List (List ℕ)) → (m : List (List ℕ)) × (onto_first b (ls ++ more) ≡ onto_first b ls ++ m)
front_onto b [] more = (onto_first b more, refl)
front_onto b (l ∷ ls) more = (more, refl)

front_step : (t : Bool) (b : ℕ) (ls all more : List (List ℕ)) → all ≡ ls ++ more
    → (m : List (List ℕ)) × ((if t then [] ∷ all else onto_first b all) ≡ (if t then [] ∷ ls else onto_first b ls) ++ m)
front_step true b ls all more e = (more, ap (λ (x : List (List ℕ)). [] ∷ x) e)
front_step false b ls all more e = let f = front_onto b ls more in (f.0, ap (onto_first b) e ∙ f.1)

-- they are the first of those of all
pub whole_lines-append : (front back : List ℕ) → (more : List (List ℕ)) × (whole_lines (front ++ back) ≡ whole_lines front ++ more)
whole_lines-append [] back = (whole_lines back, refl)
whole_lines-append (b ∷ bs) back =
    let rest = whole_lines-append bs back in front_step (b == 10) b (whole_lines bs) (whole_lines (bs ++ back)) rest.0 rest.1

-- ---- the state

pub state_is : {t u : Option Table} {l m : List ℕ} → t ≡ u → l ≡ m → state_of t l ≡ state_of u m
state_is p q = ap₂ state_of p q

after_lines-append : (t : Option Table) (xs ys : List (List ℕ)) → after_lines t (xs ++ ys) ≡ after_lines (after_lines t xs) ys
after_lines-append t [] ys = refl
after_lines-append t (x ∷ xs) ys = after_lines-append (after_line t x) xs ys

pub with_lines-none : (s : State) → with_lines s [] ≡ s
with_lines-none s = ap (state_of s.table) (append-nil s.log)

pub with_lines-more : (s : State) (line : List ℕ) (lines : List (List ℕ)) → with_lines s (line ∷ lines) ≡ with_lines (with_line s line) lines
with_lines-more s line lines =
    ap (state_of (after_lines (after_line s.table line) lines)) (sym (append_assoc s.log (with_lf line) (flat_map with_lf lines)))

-- the whole lines of lines with their LFs
pub whole_lines-ended : (ls : List (List ℕ)) → AllByRecursion Plain ls → whole_lines (flat_map with_lf ls) ≡ ls
whole_lines-ended ls h = ap whole_lines (sym (append-nil (flat_map with_lf ls))) ∙ whole_ended ls [] h ∙ append-nil ls

-- a log of whole lines, and more bytes
behind : (log more : List ℕ) → flat_map with_lf (whole_lines log) ≡ log → whole_lines (log ++ more) ≡ whole_lines log ++ whole_lines more
behind log more e = ap (λ (x : List ℕ). whole_lines (x ++ more)) (sym e) ∙ whole_ended (whole_lines log) more (whole_each log)

pub whole_lines-behind : (s : State) (more : List ℕ) → replayed s.log ≡ s → whole_lines (s.log ++ more) ≡ whole_lines s.log ++ whole_lines more
whole_lines-behind s more h = behind s.log more (ap (λ (z : State). z.log) h)

-- a log that leads to the state, and more bytes
pub replayed-behind : (s : State) (more : List ℕ) → replayed s.log ≡ s → replayed (s.log ++ more) ≡ with_lines s (whole_lines more)
replayed-behind s more h =
    ap (with_lines start) (whole_lines-behind s more h) ∙ state_is
    (after_lines-append start.table (whole_lines s.log) (whole_lines more) ∙ ap (λ (z : State). after_lines z.table (whole_lines more)) h)
    (flat_map-append with_lf (whole_lines s.log) (whole_lines more) ∙ ap (λ (z : State). z.log ++ flat_map with_lf (whole_lines more)) h)

-- and one line more
pub replayed-line : (s : State) (line : List ℕ) → replayed s.log ≡ s → IsOneLine line → replayed (s.log ++ with_lf line) ≡ with_line s line
replayed-line s line h i =
    replayed-behind s (with_lf line) h ∙ ap (with_lines s) (whole_lines-line line [] i) ∙ with_lines-more s line [] ∙ with_lines-none (with_line s line)

take_first : (xs ys : List ℕ) → take (length xs) (xs ++ ys) ≡ xs
take_first [] ys = refl
take_first (x ∷ xs) ys = ap (λ (l : List ℕ). x ∷ l) (take_first xs ys)

-- what was added is taken back
pub taken_back : (n : ℕ) (old more mid new : List ℕ) → n ≡ length old → mid ≡ old ++ more → new ≡ take n mid → new ≡ old
taken_back n old more mid new e m t = t ∙ ap₂ take e m ∙ take_first old more
