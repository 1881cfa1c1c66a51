-- Paths by their first name.
use Rattle.std.proofs.Common.{◌≡◌, refl, sym, ap, ◌∙◌, ℕ, ◌+◌, ◌<◌, List, [], ◌∷◌, ◌++◌, Bool, true, false, cond, if◌then◌else◌, ◌||◌, Option, Some, None, map, take, length, get_or, append-nil, Bor}
use Rattle.std.proofs.lemmas.List.{map-append, map_more}
use Rattle.std.proofs.lemmas.List.Folds.{list_any_at}
use Rattle.std.proofs.lemmas.List.Elements.{filter_map-append}
use Rattle.std.proofs.lemmas.Map.Text.{is_eq-slice_cmp}
use Rattle.std.proofs.lemmas.Slice.Eq.{bytes_eq-Decides}
use Rattle.std.specs.BTreeMap.{get, is_at, Updates, UpdatesBy}
use Rattle.std.specs.Global.{Vec}
use Rattle.std.specs.List.{cons_option, list_any}
use Rattle.vortex_dtype_path.specs.declared.field.Field.{Field}
use Rattle.vortex_model.specs.Path.{Names}
use Rattle.vortex_table_schema.specs.Cut.{PathIndex, IsIndex, group_of, text_cmp, names_at, first_step, strip_step, strip_all, is_root, ask_for_all}

-- ---- one more path, by whether a name is its first

-- the group under a name, where the one under the path's first name grows
grown : (b : Bool) (m : Option (Vec (Bor (List Field)))) (new : Vec (Bor (List Field))) (rest : Bor (List Field)) (before : List Names) → group_of m ≡ before →
    (b ≡ true → map names_at new.items ≡ before ++ names_at rest ∷ []) →
    group_of (cond b (Some new) (cond b None m)) ≡ before ++ cons_option (if b then Some (names_at rest) else None) []
grown true m new rest before same more = more refl
grown false m new rest before same more = same ∙ sym (append-nil before)

module _ (m r n : PathIndex) (x : Bor (List ℕ)) (rest : Bor (List Field)) (old new : Vec (Bor (List Field)))
    (taken : UpdatesBy text_cmp (text_cmp x) m r None) (put : Updates text_cmp r n x (Some new))
    (was : map names_at old.items ≡ group_of (get text_cmp m x)) (pushed : new.items ≡ old.items ++ rest ∷ []) where
  at_first : (paths : List Names) → IsIndex m paths → (q : Bor (List ℕ)) → is_at (text_cmp x) q ≡ true → map names_at new.items ≡ strip_all q.now paths ++ names_at rest ∷ []
  at_first paths is q e =
      let same : x.now ≡ q.now = (bytes_eq-Decides x.now q.now).0 (sym (is_eq-slice_cmp x.now q.now) ∙ e) in
      ap (map names_at) pushed ∙ map-append names_at old.items (rest ∷ [])
      ∙ ap (λ ps. ps ++ names_at rest ∷ []) (was ∙ is x ∙ ap (λ y. strip_all y paths) same)

  pub one_more : (paths : List Names) → IsIndex m paths → IsIndex n (paths ++ (x.now ∷ names_at rest) ∷ [])
  one_more paths is q =
      ap group_of (put.0 q ∙ ap (cond (is_at (text_cmp x) q) (Some new)) (taken.0 q))
      ∙ grown (is_at (text_cmp x) q) (get text_cmp m q) new rest (strip_all q.now paths) (is q) (at_first paths is q)
      ∙ ap (λ b. strip_all q.now paths ++ cons_option (if b then Some (names_at rest) else None) []) (is_eq-slice_cmp x.now q.now)
      ∙ sym (filter_map-append (strip_step q.now) paths ((x.now ∷ names_at rest) ∷ []))

-- ---- the first of the paths

-- the names of a path with a first name
stepped : (path : Names) (p : List ℕ × Names) → Some p ≡ first_step path → path ≡ p.0 ∷ p.1
stepped [] p e = absurd (cc e)
stepped (y ∷ path) p e = cc e

-- a path without one asks for all
unstepped : (path : Names) → None ≡ first_step path → is_root path ≡ true
unstepped [] e = refl
unstepped (y ∷ path) e = absurd (cc e)

any_root-map : (paths : List (Bor (List Field))) → list_any (λ p. is_root (names_at p)) paths ≡ ask_for_all (map names_at paths)
any_root-map [] = refl
any_root-map (p ∷ ps) = ap (λ b. is_root (names_at p) || b) (any_root-map ps)

module _ (paths : List (Bor (List Field))) (i : ℕ) (path : Bor (List Field)) (inside : i < length paths) (is : path ≡ get_or paths i path) where
  one_taken : map names_at (take (i + 1) paths) ≡ map names_at (take i paths) ++ names_at path ∷ []
  one_taken = map_more names_at paths i path inside ∙ ap (λ p. map names_at (take i paths) ++ names_at p ∷ []) (sym is)

  pub led : (m : PathIndex) (x : List ℕ) (rest : Names) → Some (x, rest) ≡ first_step (names_at path) →
      IsIndex m (map names_at (take i paths) ++ (x ∷ rest) ∷ []) → IsIndex m (map names_at (take (i + 1) paths))
  led m x rest e done q = done q ∙ ap (strip_all q.now) (ap (λ p. map names_at (take i paths) ++ p ∷ []) (sym (stepped (names_at path) (x, rest) e)) ∙ sym one_taken)

  pub no_root : None ≡ first_step (names_at path) → ask_for_all (map names_at paths) ≡ false → true ≡ false
  no_root e h =
      let root : is_root (names_at (get_or paths i path)) ≡ true = ap (λ p. is_root (names_at p)) (sym is) ∙ unstepped (names_at path) e in
      sym (list_any_at (λ p. is_root (names_at p)) paths i path inside root) ∙ any_root-map paths ∙ h
