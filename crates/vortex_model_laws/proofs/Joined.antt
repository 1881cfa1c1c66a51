-- The sum and the constancy that joins make of the zone maps of chunks.
use Rattle.std.proofs.Common.{◌≡◌, refl, sym, ◌∙◌, ap, subst, ℕ, ℤ, pos, ◌+ℤ◌, ◌+◌, ◌<◌, arith, List, [], ◌∷◌, ◌++◌, append_assoc, length, map, flat_map, Bool, true, false, not, ◌&&◌, ◌||◌, if◌then◌else◌, nat_le, Some, None, Option, ◌⊎◌, inl, inr}
use Rattle.std.specs.List.{AllByRecursion, list_all, list_any}
use Rattle.std.proofs.Math.IntN.{+ℤ_assoc, +ℤ_idl, +ℤ_comm}
use Rattle.std.proofs.lemmas.Bool.Decides.{nat_tests}
use Rattle.std.proofs.lemmas.Grind.{flat_map-append}
use Rattle.std.proofs.lemmas.List.{append-nil, length-append, map-append}
use Rattle.std.specs.Cmp.{first_so, second_so}
use Rattle.std.proofs.lemmas.Bool.{or_right, false_from_ne_true}
use Rattle.vortex_model.specs.LogicalType.{LogicalType, IntKind}
use Rattle.vortex_model.specs.Content.{Content, equal_content}
use Rattle.vortex_model.specs.Valid.{IsContent, in_range}
use Rattle.vortex_model.specs.Kept.{is_leaf}
use Rattle.vortex_model.proofs.Lists.{all_append, front_of_all, back_of_all}
use Rattle.vortex_model_table.specs.Typing.{sum_kind}
use Rattle.vortex_model_table.specs.Statistics.{Precision, exact, inexact, absent, shown, non_null, sum_of, is_constant, is_at_most, IsHonestLeast}
use Rattle.vortex_model_table.specs.ZoneMap.{ZoneMap, bound_of, is_exactly, bound_among, zone_of, sum_in, total_of, EachRunFits, IsGroupTotal, is_known_constant, has_exact_low, constancy_shows, IsGroupConstancy, joined_total, joined_constant, Joins, alone, together, all_joined, made_by}
use Rattle.vortex_model_table.specs.Class.{is_there}
use Rattle.vortex_model_table.proofs.ContentOrder.{le}
use Rattle.vortex_model_table.proofs.Equality.{content_so, content_passes}
use Rattle.vortex_model_laws.proofs.Groups.{among_left, among_right, honest_bounds}
use Rattle.vortex_model_laws.proofs.Honesty.{Among, all_among}
use Rattle.vortex_model_laws.proofs.LeafOrder.{bounds_of_column}
use Rattle.vortex_model_laws.proofs.Leasts.{picked, end_picked, at_most_both, contains_among}
use Rattle.vortex_model_laws.proofs.Complete.{either_way}
use Rattle.vortex_model_laws.proofs.Members.{IsMember, member_itself, member_total, low_is_member}
use Rattle.vortex_model_laws.proofs.Values.{kept_among}

-- ---- lists of zone maps

split_mapped : {X Y : Type 0} (f : X → Y) (ys zs : List Y) (xs : List X) → ys ++ zs ≡ map f xs →
    (front : List X) × (back : List X) × (xs ≡ front ++ back) × (ys ≡ map f front) × (zs ≡ map f back)
split_mapped f [] zs xs e = ([], xs, refl, refl, e)
split_mapped f (y ∷ ys) zs [] e = absurd (cc (e))
split_mapped f (y ∷ ys) zs (x ∷ xs) e =
    let here : y ≡ f x = cc (e) in let more : ys ++ zs ≡ map f xs = cc (e) in
    let r = split_mapped f ys zs xs more in (x ∷ r.0, r.1, ap (λ l. x ∷ l) r.2, (λ i. here i ∷ r.3 i), r.4)

one_mapped : {X Y : Type 0} (f : X → Y) (y : Y) (xs : List X) → y ∷ [] ≡ map f xs → (x : X) × (xs ≡ x ∷ []) × (y ≡ f x)
one_mapped f y [] e = absurd (cc (e))
one_mapped f y (x ∷ []) e = (x, refl, (let here : y ≡ f x = cc (e) in here))
one_mapped f y (x ∷ z ∷ xs) e = absurd (cc (e))

-- ---- sums

total_append : (xs ys : List ℤ) → total_of (xs ++ ys) ≡ total_of xs +ℤ total_of ys
total_append [] ys = sym (+ℤ_idl (total_of ys))
total_append (x ∷ xs) ys = ap (λ z. x +ℤ z) (total_append xs ys) ∙ sym (+ℤ_assoc x (total_of xs) (total_of ys))

total_alone : (z : ℤ) → total_of (z ∷ []) ≡ z
total_alone z = +ℤ_comm z (pos 0) ∙ +ℤ_idl z

abbrev IsTotal : Option IntKind → Precision ℤ → List ℤ → Type 0
IsTotal o p sums = (p ≡ absent) ⊎ (p ≡ sum_in o (total_of sums))

exact_total : (o : Option IntKind) (a s : ℤ) → (exact a ≡ absent) ⊎ (exact a ≡ sum_in o s) → a ≡ s
exact_total o a s (inl e) = absurd (cc (e))
exact_total None a s (inr e) = absurd (cc (e))
exact_total (Some i) a s (inr e) = by_range (in_range i s) e
  where
    by_range : (b : Bool) → exact a ≡ (if b then exact s else absent) → a ≡ s
    by_range true e = cc (e)
    by_range false e = absurd (cc (e))

total_together : (o : Option IntKind) (p q : Precision ℤ) (xs ys : List ℤ) → IsTotal o p xs → IsTotal o q ys → IsTotal o (joined_total o p q) (xs ++ ys)
total_together (Some i) (exact a) (exact b) xs ys h g =
    let m = exact_total (Some i) a (total_of xs) h in let n = exact_total (Some i) b (total_of ys) g in
    inr (ap (sum_in (Some i)) ((λ j. m j +ℤ n j) ∙ sym (total_append xs ys)))
total_together o p q xs ys h g = inl refl

fits_so : (i : IntKind) (z : ℤ) → in_range i z ≡ true → sum_in (Some i) z ≡ exact z
fits_so i z h = ap (λ b. if b then exact z else absent) h

whole_fits : (i : IntKind) (sums : List ℤ) → EachRunFits i sums → in_range i (total_of sums) ≡ true
whole_fits i sums h = h [] sums [] (sym (append-nil sums))

front_fits : (i : IntKind) (xs ys : List ℤ) → EachRunFits i (xs ++ ys) → EachRunFits i xs
front_fits i xs ys h before run after e = h before run (after ++ ys) (ap (λ l. l ++ ys) e ∙ append_assoc (before ++ run) after ys)

back_fits : (i : IntKind) (xs ys : List ℤ) → EachRunFits i (xs ++ ys) → EachRunFits i ys
back_fits i xs ys h before run after e =
    h (xs ++ before) run after
    (ap (λ l. xs ++ l) e ∙ sym (append_assoc xs (before ++ run) after) ∙ ap (λ l. l ++ after) (sym (append_assoc xs before run)))

total_made : (k : LogicalType) (L : ℕ) (joins : Joins) (chunks : List (List Content)) → all_joined joins ≡ map (zone_of k L) chunks → IsGroupTotal k (map sum_of chunks) (made_by k joins).total
total_made k L (alone z) chunks e =
    let one = one_mapped (zone_of k L) z chunks e in let s = sum_of one.0 in
    subst (λ cs. IsGroupTotal k (map sum_of cs) z.total) (sym one.1)
    (subst (λ y. IsGroupTotal k (s ∷ []) y.total) (sym one.2) (record {
      honest = inr (ap (sum_in (sum_kind k)) (sym (total_alone s)));
      exact_where_each_run_fits = λ i is h.
          ap (λ o. sum_in o s) is ∙ ap (sum_in (Some i)) (sym (total_alone s)) ∙ fits_so i (total_of (s ∷ [])) (whole_fits i (s ∷ []) h);
    }))
total_made k L (together x y) chunks e =
    let r = split_mapped (zone_of k L) (all_joined x) (all_joined y) chunks e in
    let a = total_made k L x r.0 r.3 in let b = total_made k L y r.1 r.4 in
    let xs = map sum_of r.0 in let ys = map sum_of r.1 in let p = (made_by k x).total in let q = (made_by k y).total in
    subst (λ sums. IsGroupTotal k sums (joined_total (sum_kind k) p q)) (sym (ap (map sum_of) r.2 ∙ map-append sum_of r.0 r.1)) (record {
      honest = total_together (sum_kind k) p q xs ys a.honest b.honest;
      exact_where_each_run_fits = λ i is h.
          let m = a.exact_where_each_run_fits i is (front_fits i xs ys h) in let n = b.exact_where_each_run_fits i is (back_fits i xs ys h) in
          (λ j. joined_total (is j) (m j) (n j)) ∙ ap (sum_in (Some i)) (sym (total_append xs ys)) ∙ fits_so i (total_of (xs ++ ys)) (whole_fits i (xs ++ ys) h);
    })

pub joins_total : (k : LogicalType) (L : ℕ) (chunks : List (List Content)) (joins : Joins) → all_joined joins ≡ map (zone_of k L) chunks →
    IsGroupTotal k (map sum_of chunks) (made_by k joins).total
joins_total k L chunks joins e = total_made k L joins chunks e

-- ---- constant lists

abbrev AreAll : Content → List Content → Type 0
AreAll v xs = AllByRecursion (λ x. v ≡ x) xs

passed_all : (c v : Content) (xs : List Content) → list_all (equal_content c) xs ≡ true → c ≡ v → AreAll v xs
passed_all c v [] h e = tt
passed_all c v (x ∷ xs) h e =
    (sym e ∙ content_so c x (first_so (equal_content c x) (list_all (equal_content c) xs) h), passed_all c v xs (second_so (equal_content c x) (list_all (equal_content c) xs) h) e)

all_passed : (v : Content) (xs : List Content) → AreAll v xs → list_all (equal_content v) xs ≡ true
all_passed v [] h = refl
all_passed v (x ∷ xs) h = (λ i. content_passes v x h.0 i && all_passed v xs h.1 i)

are_all : (v : Content) (xs : List Content) → is_constant xs ≡ true → Among v xs → AreAll v xs
are_all v [] h a = tt
are_all v (c ∷ cs) h a = let first = first_is a in (sym first, passed_all c v cs h first)
  where
    first_is : Among v (c ∷ cs) → c ≡ v
    first_is (inl e) = e
    first_is (inr b) = content_so c v (all_among (λ x. equal_content c x ≡ true) v cs (tests cs h) b)
      where
        tests : (xs : List Content) → list_all (equal_content c) xs ≡ true → AllByRecursion (λ x. equal_content c x ≡ true) xs
        tests [] g = tt
        tests (x ∷ xs) g = (first_so (equal_content c x) (list_all (equal_content c) xs) g, tests xs (second_so (equal_content c x) (list_all (equal_content c) xs) g))

constant_made : (v : Content) (xs : List Content) → AreAll v xs → is_constant xs ≡ true
constant_made v [] h = refl
constant_made v (x ∷ xs) h = subst (λ y. list_all (equal_content y) xs ≡ true) h.0 (all_passed v xs h.1)

constant_left : (xs ys : List Content) → is_constant (xs ++ ys) ≡ true → is_constant xs ≡ true
constant_left [] ys h = refl
constant_left (x ∷ xs) ys h = constant_made x (x ∷ xs) (front_of_all (λ y. x ≡ y) (x ∷ xs) ys (are_all x (x ∷ (xs ++ ys)) h (inl refl)))

constant_right : (xs ys : List Content) → is_constant (xs ++ ys) ≡ true → is_constant ys ≡ true
constant_right [] ys h = h
constant_right (x ∷ xs) ys h = constant_made x ys (back_of_all (λ y. x ≡ y) (x ∷ xs) ys (are_all x (x ∷ (xs ++ ys)) h (inl refl)))

-- two constant lists together are constant where their values are equal
two_constant : (v w : Content) (xs ys : List Content) → is_constant xs ≡ true → is_constant ys ≡ true → Among v xs → Among w ys → equal_content v w ≡ is_constant (xs ++ ys)
two_constant v w xs ys h g a b = by_test (equal_content v w) refl
  where
    by_test : (t : Bool) → equal_content v w ≡ t → equal_content v w ≡ is_constant (xs ++ ys)
    by_test true e =
        e ∙ sym (constant_made v (xs ++ ys) (all_append (λ x. v ≡ x) xs ys (are_all v xs h a) (subst (λ u. AreAll u ys) (sym (content_so v w e)) (are_all w ys g b))))
    by_test false e =
        e ∙ sym (false_from_ne_true (is_constant (xs ++ ys)) (λ c.
        let same = all_among (λ x. v ≡ x) w (xs ++ ys) (are_all v (xs ++ ys) c (among_left v xs ys a)) (among_right w xs ys b) in
        let clash : true ≡ false = sym (content_passes v w same) ∙ e in cc (clash)))

-- ---- constancy

left_false : (xs ys : List Content) → is_constant xs ≡ false → is_constant (xs ++ ys) ≡ false
left_false xs ys e = false_from_ne_true (is_constant (xs ++ ys)) (λ c. let clash : true ≡ false = sym (constant_left xs ys c) ∙ e in cc (clash))

right_false : (xs ys : List Content) → is_constant ys ≡ false → is_constant (xs ++ ys) ≡ false
right_false xs ys e = false_from_ne_true (is_constant (xs ++ ys)) (λ c. let clash : true ≡ false = sym (constant_right xs ys c) ∙ e in cc (clash))

abbrev IsConstancy : Precision Bool → List Content → Type 0
IsConstancy p cs = (p ≡ absent) ⊎ (p ≡ exact (is_constant cs))

exact_so : (b : Bool) (cs : List Content) → IsConstancy (exact b) cs → is_constant cs ≡ b
exact_so b cs (inl e) = absurd (cc (e))
exact_so b cs (inr e) = let same : b ≡ is_constant cs = cc (e) in sym same

-- an exact low is one of the values
abbrev IsOneOf : Precision Content → List Content → Type 0
IsOneOf p cs = (v : Content) → p ≡ exact v → Among v cs

second_false : (p : Precision Bool) (l m : Precision Content) → joined_constant p (exact false) l m ≡ exact false
second_false (exact true) l m = refl
second_false (exact false) l m = refl
second_false (inexact b) l m = refl
second_false absent l m = refl

constancy_together : (p q : Precision Bool) (l m : Precision Content) (xs ys : List Content) → IsConstancy p xs → IsConstancy q ys → IsOneOf l xs → IsOneOf m ys →
    IsConstancy (joined_constant p q l m) (xs ++ ys)
constancy_together (exact false) q l m xs ys h g a b = inr (ap exact (sym (left_false xs ys (exact_so false xs h))))
constancy_together p (exact false) l m xs ys h g a b = inr (second_false p l m ∙ ap exact (sym (right_false xs ys (exact_so false ys g))))
constancy_together (exact true) (exact true) (exact v) (exact w) xs ys h g a b =
    inr (ap exact (two_constant v w xs ys (exact_so true xs h) (exact_so true ys g) (a v refl) (b w refl)))
constancy_together p q l m xs ys h g a b = inl refl

not_missing : (b c : Bool) (v w : Content) → joined_constant (exact b) (exact c) (exact v) (exact w) ≡ absent → ⊥
not_missing false c v w e = cc (e)
not_missing true false v w e = cc (e)
not_missing true true v w e = cc (e)

module _ (k : LogicalType) (L : ℕ) (leaf : is_leaf k ≡ true) where
  abbrev zones_of : List (List Content) → List ZoneMap
  zones_of chunks = map (zone_of k L) chunks

  abbrev rows_in : List (List Content) → List Content
  rows_in chunks = flat_map (λ chunk. chunk) chunks

  abbrev AreTyped : List (List Content) → Type 0
  AreTyped chunks = AllByRecursion (λ chunk. AllByRecursion (IsContent k) chunk) chunks

  each_constant : (chunks : List (List Content)) → is_constant (rows_in chunks) ≡ true → list_all is_known_constant (zones_of chunks) ≡ true
  each_constant [] h = refl
  each_constant (c ∷ chunks) h = (λ i. constant_left c (rows_in chunks) h i && each_constant chunks (constant_right c (rows_in chunks) h) i)

  some_differ : (chunks : List (List Content)) → list_all is_known_constant (zones_of chunks) ≡ false → is_constant (rows_in chunks) ≡ false
  some_differ chunks e = false_from_ne_true (is_constant (rows_in chunks)) (λ c. let clash : true ≡ false = sym (each_constant chunks c) ∙ e in cc (clash))

  -- ---- lows

  honest_one : (p : Precision Content) (cs : List Content) → IsHonestLeast p cs → IsOneOf p cs
  honest_one p cs h v e = let least = subst (λ q. IsHonestLeast q cs) e h in kept_among v cs (contains_among v (non_null cs) least.among)

  low_one : (joins : Joins) (chunks : List (List Content)) → AreTyped chunks → all_joined joins ≡ zones_of chunks → IsOneOf (made_by k joins).low (rows_in chunks)
  low_one joins chunks typed e =
      honest_one (made_by k joins).low (rows_in chunks)
      (subst (λ p. IsHonestLeast p (rows_in chunks)) (sym (bounds_of_column k L chunks joins leaf typed e).low) (honest_bounds k L chunks leaf typed).least)

  abbrev HasExact : Precision Content → Type 0
  HasExact p = (v : Content) × (p ≡ exact v) × IsMember k v

  low_alone : (p : Precision Content) → (is_there p ≡ true → IsMember k (shown p)) → (elim p [ exact v ↦ true | inexact v ↦ false | absent ↦ false ]) ≡ true → HasExact p
  low_alone (exact v) m h = (v, refl, m refl)
  low_alone (inexact v) m h = absurd (cc (h))
  low_alone absent m h = absurd (cc (h))

  low_of_two : (v w : Content) → IsMember k v → IsMember k w → HasExact (bound_among (picked is_at_most) (exact v ∷ exact w ∷ []))
  low_of_two v w m n =
      let own = member_itself k v m in let other = member_itself k w n in
      let bounds = exact v ∷ exact w ∷ [] in
      either_way (le v w)
      (λ e. (
        v,
        ap (λ o. elim o as (λ o. Precision Content) [ None ↦ absent | Some x ↦ bound_of (not (list_any (is_exactly x) bounds)) x ])
            (end_picked is_at_most at_most_both v (v ∷ w ∷ []) (inl refl, (own, (e, tt))))
            ∙ ap (λ b. bound_of (not (b || (equal_content w v || false))) v) (content_passes v v refl),
        m,
      ))
      (λ e. (
        w,
        ap (λ o. elim o as (λ o. Precision Content) [ None ↦ absent | Some x ↦ bound_of (not (list_any (is_exactly x) bounds)) x ])
            (end_picked is_at_most at_most_both w (v ∷ w ∷ []) (inr (inl refl), (member_total k v w m n e, (other, tt))))
            ∙ ap (λ b. bound_of (not b) w) (or_right (equal_content v w) (equal_content w w || false) (ap (λ b. b || false) (content_passes w w refl))),
        n,
      ))

  -- ---- both

  record IsMadeOf (joins : Joins) (chunks : List (List Content)) : Type 0 where
    honest : IsConstancy (made_by k joins).constant (rows_in chunks)
    shows : constancy_shows (zones_of chunks) ≡ true → (made_by k joins).constant ≡ exact (is_constant (rows_in chunks))
    exact_low : list_all has_exact_low (zones_of chunks) ≡ true → HasExact (made_by k joins).low
    some : 0 < length (zones_of chunks)

  one_in : (c : List Content) → rows_in (c ∷ []) ≡ c
  one_in c = append-nil c

  made_alone : (c : List Content) → AreTyped (c ∷ []) → IsMadeOf (alone (zone_of k L c)) (c ∷ [])
  made_alone c typed = record {
    honest = inr (ap (λ cs. exact (is_constant cs)) (sym (one_in c)));
    shows = λ h. ap (λ cs. exact (is_constant cs)) (sym (one_in c));
    exact_low = λ h. low_alone (zone_of k L c).low (low_is_member k L c leaf typed.0) (first_so (has_exact_low (zone_of k L c)) true h);
    some = omega arith;
  }

  not_one : (m n : ℕ) → 0 < m → 0 < n → nat_le (m + n) 1 ≡ true → ⊥
  not_one m n a b h = grind (arith, nat_tests, a, b, h)

  cases_of : (a b c : Bool) → a || b || c ≡ true → (a ≡ true) ⊎ ((b ≡ true) ⊎ (c ≡ true))
  cases_of true b c h = inl refl
  cases_of false true c h = inr (inl refl)
  cases_of false false true h = inr (inr refl)
  cases_of false false false h = absurd (cc (h))

  shown_by_difference : (zones : List ZoneMap) → list_all is_known_constant zones ≡ false → constancy_shows zones ≡ true
  shown_by_difference zones e = by_tests (nat_le (length zones) 1) (list_all is_known_constant zones) (list_all has_exact_low zones) e
    where
      by_tests : (a b c : Bool) → b ≡ false → a || not b || c ≡ true
      by_tests true b c e = refl
      by_tests false true c e = absurd (cc (e))
      by_tests false false c e = refl

  shown_by_lows : (zones : List ZoneMap) → list_all has_exact_low zones ≡ true → constancy_shows zones ≡ true
  shown_by_lows zones e = by_tests (nat_le (length zones) 1) (not (list_all is_known_constant zones)) (list_all has_exact_low zones) e
    where
      by_tests : (a b c : Bool) → c ≡ true → a || b || c ≡ true
      by_tests true b c e = refl
      by_tests false true c e = refl
      by_tests false false c e = e

  list_all_split : (p : ZoneMap → Bool) (xs ys : List ZoneMap) → list_all p (xs ++ ys) ≡ list_all p xs && list_all p ys
  list_all_split p [] ys = refl
  list_all_split p (x ∷ xs) ys = ap (λ b. p x && b) (list_all_split p xs ys) ∙ assoc (p x) (list_all p xs) (list_all p ys)
    where
      assoc : (a b c : Bool) → a && (b && c) ≡ (a && b) && c
      assoc true b c = refl
      assoc false b c = refl

  made_together : (x y : Joins) (front back : List (List Content)) → AreTyped front → AreTyped back → all_joined x ≡ zones_of front → all_joined y ≡ zones_of back →
      IsMadeOf x front → IsMadeOf y back → IsMadeOf (together x y) (front ++ back)
  made_together x y front back typed_x typed_y ex ey a b =
      let xs = rows_in front in let ys = rows_in back in let zx = zones_of front in let zy = zones_of back in
      let p = (made_by k x).constant in let q = (made_by k y).constant in let l = (made_by k x).low in let m = (made_by k y).low in
      let rows : rows_in (front ++ back) ≡ xs ++ ys = flat_map-append (λ c. c) front back in
      let zones : zones_of (front ++ back) ≡ zx ++ zy = map-append (zone_of k L) front back in
      let honest = constancy_together p q l m xs ys a.honest b.honest (low_one x front typed_x ex) (low_one y back typed_y ey) in
      let lows : list_all has_exact_low (zx ++ zy) ≡ true → (list_all has_exact_low zx ≡ true) × (list_all has_exact_low zy ≡ true) =
      λ h. (let both = sym (list_all_split has_exact_low zx zy) ∙ h in (first_so (list_all has_exact_low zx) (list_all has_exact_low zy) both, second_so (list_all has_exact_low zx) (list_all has_exact_low zy) both)) in
      let differ : list_all is_known_constant (zx ++ zy) ≡ false → joined_constant p q l m ≡ exact (is_constant (xs ++ ys)) =
      λ h. either_way (list_all is_known_constant zx)
      (λ e.
      let right : list_all is_known_constant zy ≡ false = ap (λ c. c && list_all is_known_constant zy) (sym e) ∙ sym (list_all_split is_known_constant zx zy) ∙ h in
      let none = some_differ back right in
      ap (λ c. joined_constant p c l m) (b.shows (shown_by_difference zy right) ∙ ap exact none) ∙ second_false p l m ∙ ap exact (sym (right_false xs ys none)))
      (λ e.
      let none = some_differ front e in
      ap (λ c. joined_constant c q l m) (a.shows (shown_by_difference zx e) ∙ ap exact none) ∙ ap exact (sym (left_false xs ys none))) in
      let alike : list_all has_exact_low (zx ++ zy) ≡ true → joined_constant p q l m ≡ exact (is_constant (xs ++ ys)) =
      λ h. (let s = lows h in let v = a.exact_low s.0 in let w = b.exact_low s.1 in
      let px = a.shows (shown_by_lows zx s.0) in let qy = b.shows (shown_by_lows zy s.1) in
      elim honest [
        | inl e ↦ absurd (not_missing (is_constant xs) (is_constant ys) v.0 w.0 ((λ i. joined_constant (sym px i) (sym qy i) (sym v.1 i) (sym w.1 i)) ∙ e))
        | inr e ↦ e
      ]) in record {
        honest = subst (IsConstancy (joined_constant p q l m)) (sym rows) honest;
        shows = λ h. (
            let here : constancy_shows (zx ++ zy) ≡ true = ap constancy_shows (sym zones) ∙ h in
            let answer : joined_constant p q l m ≡ exact (is_constant (xs ++ ys)) =
            elim (cases_of (nat_le (length (zx ++ zy)) 1) (not (list_all is_known_constant (zx ++ zy))) (list_all has_exact_low (zx ++ zy)) here) [
              | inl e ↦ absurd (not_one (length zx) (length zy) a.some b.some (ap (λ n. nat_le n 1) (sym (length-append zx zy)) ∙ e))
              | inr (inl e) ↦ differ (false_from_ne_true (list_all is_known_constant (zx ++ zy)) (λ t. let clash : false ≡ true = ap not (sym t) ∙ e in cc (clash)))
              | inr (inr e) ↦ alike e
            ] in answer ∙ ap (λ cs. exact (is_constant cs)) (sym rows));
        exact_low = λ h. (
            let s = lows (ap (list_all has_exact_low) (sym zones) ∙ h) in let v = a.exact_low s.0 in let w = b.exact_low s.1 in
            let r = low_of_two v.0 w.0 v.2 w.2 in
            (r.0, (λ i. bound_among (picked is_at_most) (v.1 i ∷ w.1 i ∷ [])) ∙ r.1, r.2));
        some = (let n : ℕ = length zx in let o : ℕ = length zy in let same : length (zones_of (front ++ back)) ≡ n + o = ap length zones ∙ length-append zx zy in let here = a.some in omega (arith, same, here));
      }

  constancy_made : (joins : Joins) (chunks : List (List Content)) → AreTyped chunks → all_joined joins ≡ zones_of chunks → IsMadeOf joins chunks
  constancy_made (alone z) chunks typed e =
      let one = one_mapped (zone_of k L) z chunks e in
      subst (λ cs. IsMadeOf (alone z) cs) (sym one.1) (subst (λ y. IsMadeOf (alone y) (one.0 ∷ [])) (sym one.2) (made_alone one.0 (subst AreTyped one.1 typed)))
  constancy_made (together x y) chunks typed e =
      let r = split_mapped (zone_of k L) (all_joined x) (all_joined y) chunks e in let both = subst AreTyped r.2 typed in
      let Is : List Content → Type 0 = λ chunk. AllByRecursion (IsContent k) chunk in
      let front = front_of_all Is r.0 r.1 both in let back = back_of_all Is r.0 r.1 both in
      subst (λ cs. IsMadeOf (together x y) cs) (sym r.2)
      (made_together x y r.0 r.1 front back r.3 r.4 (constancy_made x r.0 front r.3) (constancy_made y r.1 back r.4))

pub joins_constancy : (k : LogicalType) (L : ℕ) (chunks : List (List Content)) (joins : Joins) → is_leaf k ≡ true → AllByRecursion (λ chunk. AllByRecursion (IsContent k) chunk) chunks →
    all_joined joins ≡ map (zone_of k L) chunks → IsGroupConstancy (flat_map (λ chunk. chunk) chunks) (map (zone_of k L) chunks) (made_by k joins).constant
joins_constancy k L chunks joins leaf typed e =
    let made = constancy_made k L leaf joins chunks typed e in
    record { honest = made.honest; exact_where_the_chunks_show_it = made.shows }
