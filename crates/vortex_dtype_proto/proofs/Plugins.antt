-- Plugins by index.
use Rattle.std.proofs.Common.{◌≡◌, ◌+◌, ◌<◌, arith, length, get_or, drop, ℕ, zero, suc, add-one, List, [], ◌∷◌, ◌++◌, set, Bool, true, false, if◌then◌else◌, Option, Some, None, option_map, refl, sym, ap, ◌∙◌}
use Rattle.std.specs.Str.{bytes_eq}
use Rattle.std.proofs.lemmas.Slice.Eq.{bytes_eq-Decides}
use Rattle.vortex_model.proofs.Lists.{opened}
use Rattle.vortex_dtype_proto.specs.Sessions.{Plugin, session_of, place_of, with_plugin}

-- the index of the first plugin that has the id, counted from n
abbrev pub place_from : {B : Type 0} → (B → List ℕ) → ℕ → List B → List ℕ → Option ℕ
place_from name n [] id = None
place_from name n (b ∷ bs) id = if bytes_eq (name b) id then Some n else place_from name (n + 1) bs id

place_from-moved : {B : Type 0} (name : B → List ℕ) (n : ℕ) (bs : List B) (id : List ℕ) → place_from name (n + 1) bs id ≡ option_map suc (place_from name n bs id)
place_from-moved name n [] id = refl
place_from-moved name n (b ∷ bs) id =
    elim (bytes_eq (name b) id) as (λ e. (if e then Some (n + 1) else place_from name (n + 1 + 1) bs id) ≡ option_map suc (if e then Some n else place_from name (n + 1) bs id)) [
      | true ↦ ap (λ m. Some m) (add-one n)
      | false ↦ place_from-moved name (n + 1) bs id
    ]

pub place_from-zero : {B : Type 0} (name : B → List ℕ) (bs : List B) (id : List ℕ) → place_from name 0 bs id ≡ place_of name bs id
place_from-zero name [] id = refl
place_from-zero name (b ∷ bs) id =
    elim (bytes_eq (name b) id) as (λ e. (if e then Some 0 else place_from name 1 bs id) ≡ (if e then Some 0 else option_map suc (place_of name bs id))) [
      | true ↦ refl
      | false ↦ place_from-moved name 0 bs id ∙ ap (λ o. option_map suc o) (place_from-zero name bs id)
    ]

eq_id : {A : Type 0} (e f : Bool) (p q r : A) → e ≡ f → (if e then p else r) ≡ (if e then p else (if f then q else r))
eq_id true f p q r h = refl
eq_id false true p q r h = absurd (cc (h))
eq_id false false p q r h = refl

other_id : {A : Type 0} (e f : Bool) (p q r : A) → (e ≡ true → f ≡ false) → (if f then q else (if e then p else r)) ≡ (if e then p else (if f then q else r))
other_id true true p q r h = absurd (cc (h refl))
other_id true false p q r h = refl
other_id false f p q r h = refl

equal_ids : (x y z : List ℕ) → bytes_eq x y ≡ true → bytes_eq y z ≡ bytes_eq x z
equal_ids x y z h = let e : x ≡ y = (bytes_eq-Decides x y).0 h in ap (λ w. bytes_eq w z) (sym e)

unequal_ids : (x y z : List ℕ) → bytes_eq x y ≡ false → bytes_eq y z ≡ true → bytes_eq x z ≡ false
unequal_ids x y z h k = let e : y ≡ z = (bytes_eq-Decides y z).0 k in ap (λ w. bytes_eq x w) (sym e) ∙ h

at_first : {B : Type 0} (name : B → List ℕ) (meaning : B → Plugin) (c : B) (cs : List B) (i : ℕ) (b : B) (x : List ℕ) → bytes_eq (name c) (name b) ≡ true → Some 0 ≡ Some i →
    session_of name meaning (set (c ∷ cs) i b) x ≡ with_plugin (name b) (meaning b) (session_of name meaning (c ∷ cs)) x
at_first name meaning c cs zero b x e h = eq_id _ _ _ _ _ (equal_ids (name c) (name b) x e)
at_first name meaning c cs (suc i) b x e h = absurd (cc (h))

at_later : {B : Type 0} (name : B → List ℕ) (meaning : B → Plugin) (c : B) (cs : List B) (o : Option ℕ) (i : ℕ) (b : B) (x : List ℕ) → bytes_eq (name c) (name b) ≡ false → option_map suc o ≡ Some i →
    ((j : ℕ) → o ≡ Some j → session_of name meaning (set cs j b) x ≡ with_plugin (name b) (meaning b) (session_of name meaning cs) x) →
    session_of name meaning (set (c ∷ cs) i b) x ≡ with_plugin (name b) (meaning b) (session_of name meaning (c ∷ cs)) x
at_later name meaning c cs None i b x e h rest = absurd (cc (h))
at_later name meaning c cs (Some j) zero b x e h rest = absurd (cc (h))
at_later name meaning c cs (Some j) (suc i) b x e h rest =
    let same : Some j ≡ Some i = cc in
    ap (λ (r : Option Plugin). if bytes_eq (name c) x then Some (meaning c) else r) (rest i same) ∙ other_id _ _ _ _ _ (unequal_ids (name c) (name b) x e)

pub replaced : {B : Type 0} (name : B → List ℕ) (meaning : B → Plugin) (bs : List B) (i : ℕ) (b : B) (x : List ℕ) → place_of name bs (name b) ≡ Some i →
    session_of name meaning (set bs i b) x ≡ with_plugin (name b) (meaning b) (session_of name meaning bs) x
replaced name meaning [] i b x h = absurd (cc (h))
replaced name meaning (c ∷ cs) i b x h =
    (elim (bytes_eq (name c) (name b)) as (λ v. bytes_eq (name c) (name b) ≡ v → (if v then Some 0 else option_map suc (place_of name cs (name b))) ≡ Some i →
    session_of name meaning (set (c ∷ cs) i b) x ≡ with_plugin (name b) (meaning b) (session_of name meaning (c ∷ cs)) x) [
      | true ↦ λ e k. at_first name meaning c cs i b x e k
      | false ↦ λ e k. at_later name meaning c cs (place_of name cs (name b)) i b x e k (λ j r. replaced name meaning cs j b x r)
    ]) refl h

none_later : (o : Option ℕ) → option_map suc o ≡ None → o ≡ None
none_later None h = refl
none_later (Some i) h = absurd (cc (h))

pub added : {B : Type 0} (name : B → List ℕ) (meaning : B → Plugin) (bs : List B) (b : B) (x : List ℕ) → place_of name bs (name b) ≡ None →
    session_of name meaning (bs ++ b ∷ []) x ≡ with_plugin (name b) (meaning b) (session_of name meaning bs) x
added name meaning [] b x h = refl
added name meaning (c ∷ cs) b x h =
    (elim (bytes_eq (name c) (name b)) as (λ v. bytes_eq (name c) (name b) ≡ v → (if v then Some 0 else option_map suc (place_of name cs (name b))) ≡ None →
    session_of name meaning (c ∷ cs ++ b ∷ []) x ≡ with_plugin (name b) (meaning b) (session_of name meaning (c ∷ cs)) x) [
      | true ↦ λ e k. absurd (cc (k))
      | false ↦ λ e k.
          ap (λ (r : Option Plugin). if bytes_eq (name c) x then Some (meaning c) else r) (added name meaning cs b x (none_later _ k)) ∙ other_id _ _ _ _ _ (unequal_ids (name c) (name b) x e)
    ]) refl h

tested : (x t id : List ℕ) (v : Bool) → t ≡ x → bytes_eq t id ≡ v → bytes_eq x id ≡ v
tested x t id v e is = ap (λ y. bytes_eq y id) (sym e) ∙ is

-- a plugin with the id is found, or one with another id is passed
pub found : {B : Type 0} (name : B → List ℕ) (meaning : B → Plugin) (bs ds : List B) (i : ℕ) (b : B) (t id : List ℕ) → ds ≡ bs → i < length ds → b ≡ get_or ds i b → t ≡ name b → bytes_eq t id ≡ true →
    session_of name meaning (drop i ds) id ≡ session_of name meaning ds id → Some (meaning b) ≡ session_of name meaning bs id
found name meaning bs ds i b t id same within at e is left =
    sym (ap (λ cs. session_of name meaning cs id) (opened ds i b within at) ∙ ap (λ v. if v then Some (meaning b) else session_of name meaning (drop (i + 1) ds) id) (tested (name b) t id true e is))
    ∙ left ∙ ap (λ cs. session_of name meaning cs id) same

pub passed : {B : Type 0} (name : B → List ℕ) (meaning : B → Plugin) (ds : List B) (i : ℕ) (b : B) (t id : List ℕ) → i < length ds → b ≡ get_or ds i b → t ≡ name b → bytes_eq t id ≡ false →
    session_of name meaning (drop i ds) id ≡ session_of name meaning ds id → session_of name meaning (drop (i + 1) ds) id ≡ session_of name meaning ds id
passed name meaning ds i b t id within at e is left =
    sym (ap (λ cs. session_of name meaning cs id) (opened ds i b within at) ∙ ap (λ v. if v then Some (meaning b) else session_of name meaning (drop (i + 1) ds) id) (tested (name b) t id false e is)) ∙ left

pub place_found : {B : Type 0} (name : B → List ℕ) (bs ds : List B) (i : ℕ) (b : B) (t id : List ℕ) → ds ≡ bs → i < length ds → b ≡ get_or ds i b → t ≡ name b → bytes_eq t id ≡ true →
    place_from name i (drop i bs) id ≡ place_of name bs id → Some i ≡ place_of name bs id
place_found name bs ds i b t id same within at e is left =
    sym (ap (λ cs. place_from name i (drop i cs) id) (sym same) ∙ ap (λ cs. place_from name i cs id) (opened ds i b within at) ∙ ap (λ v. if v then Some i else place_from name (i + 1) (drop (i + 1) ds) id) (tested (name b) t id true e is))
    ∙ left

pub place_passed : {B : Type 0} (name : B → List ℕ) (bs ds : List B) (i : ℕ) (b : B) (t id : List ℕ) → ds ≡ bs → i < length ds → b ≡ get_or ds i b → t ≡ name b → bytes_eq t id ≡ false →
    place_from name i (drop i bs) id ≡ place_of name bs id → place_from name (i + 1) (drop (i + 1) bs) id ≡ place_of name bs id
place_passed name bs ds i b t id same within at e is left =
    ap (λ cs. place_from name (i + 1) (drop (i + 1) cs) id) (sym same)
    ∙ sym (ap (λ cs. place_from name i (drop i cs) id) (sym same) ∙ ap (λ cs. place_from name i cs id) (opened ds i b within at) ∙ ap (λ v. if v then Some i else place_from name (i + 1) (drop (i + 1) ds) id) (tested (name b) t id false e is))
    ∙ left

pub replaced_by : {B : Type 0} (name : B → List ℕ) (meaning : B → Plugin) (bs : List B) (i : ℕ) (b : B) (t x : List ℕ) → t ≡ name b → place_of name bs t ≡ Some i →
    session_of name meaning (set bs i b) x ≡ with_plugin (name b) (meaning b) (session_of name meaning bs) x
replaced_by name meaning bs i b t x e h = replaced name meaning bs i b x (ap (λ y. place_of name bs y) (sym e) ∙ h)

pub added_to : {B : Type 0} (name : B → List ℕ) (meaning : B → Plugin) (bs all : List B) (b : B) (t x : List ℕ) → t ≡ name b → place_of name bs t ≡ None → all ≡ bs ++ b ∷ [] →
    session_of name meaning all x ≡ with_plugin (name b) (meaning b) (session_of name meaning bs) x
added_to name meaning bs all b t x e h is = ap (λ cs. session_of name meaning cs x) is ∙ added name meaning bs b x (ap (λ y. place_of name bs y) (sym e) ∙ h)

later_within : (o : Option ℕ) (n i : ℕ) → ((j : ℕ) → o ≡ Some j → j < n) → option_map suc o ≡ Some i → i < suc n
later_within None n i h e = absurd (cc (e))
later_within (Some j) n i h e = let k : j < n = h j refl in let s : suc j ≡ i = cc in omega (arith, k, s)

-- an index that was found is in range
pub place_within : {B : Type 0} (name : B → List ℕ) (bs : List B) (id : List ℕ) (i : ℕ) → place_of name bs id ≡ Some i → i < length bs
place_within name [] id i h = absurd (cc (h))
place_within name (b ∷ bs) id i h =
    (elim (bytes_eq (name b) id) as (λ v. (if v then Some 0 else option_map suc (place_of name bs id)) ≡ Some i → i < suc (length bs)) [
      | true ↦ λ k. let z : 0 ≡ i = cc in omega (arith, z)
      | false ↦ λ k. later_within (place_of name bs id) (length bs) i (λ j e. place_within name bs id j e) k
    ]) h

pub ruleset places = (place_from-zero)
