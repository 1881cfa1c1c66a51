-- Columns of columns.
use Rattle.std.proofs.Common.{◌≡◌, ℕ, zero, suc, List, [], ◌∷◌, map, Option, Some, None, option_map, option_and_then, refl, sym, ap, ◌∙◌}
use Rattle.vortex_model.specs.LogicalType.{Nullability, non_nullable, nullable, LogicalType, struct, nullability_of, with_nullability, nullable_inside}
use Rattle.vortex_model.specs.Content.{Content, null}
use Rattle.vortex_model.specs.Path.{Names, Positions, position_in, part_at, part_of, type_at, at, positions, type_of_column, column as column_value}
use Rattle.vortex_arrays_model.specs.Layout.{Layout, array_type_of, rows_of, IsSound}
use Rattle.vortex_arrays_model.specs.Column.{IsColumn}
use Rattle.vortex_arrays_model.proofs.ColumnLemmas.{column_root, type_at_within}
use Rattle.vortex_arrays_view.specs.declared.error.ArrayError.{ArrayError}
use Rattle.vortex_arrays_view.specs.declared.error.ArrayError.TheVariants.{Memory, NoSuchField}
use Rattle.vortex_arrays_core.specs.Flags.{ViewFlags, no_view, view_flag, field_flags, flags_of, flags_at, HasFlagsOfColumn}
use Rattle.vortex_arrays_struct.specs.ColumnFaults.{IsColumnFault}

-- Outer nullability doesn't change the positions of a path.
positions_nullable : (k : LogicalType) (xs : Names) → positions (with_nullability nullable k) xs ≡ positions k xs
positions_nullable k [] = refl
positions_nullable (struct fs n) (x ∷ xs) = refl
positions_nullable k (x ∷ xs) = refl

pub positions_within : (n : Nullability) (k : LogicalType) (xs : Names) → positions (nullable_inside n k) xs ≡ positions k xs
positions_within non_nullable k xs = refl
positions_within nullable k xs = positions_nullable k xs

types_within : (n : Nullability) (k : LogicalType) (o : Option Positions) → option_and_then (type_at (nullable_inside n k)) o ≡ option_map (nullable_inside n) (option_and_then (type_at k) o)
types_within n k None = refl
types_within n k (Some is) = type_at_within n k is

pub type_of_column-within : (n : Nullability) (k : LogicalType) (xs : Names) → type_of_column (nullable_inside n k) xs ≡ option_map (nullable_inside n) (type_of_column k xs)
type_of_column-within n k xs = ap (option_and_then (type_at (nullable_inside n k))) (positions_within n k xs) ∙ types_within n k (positions k xs)

abbrev read_by : Option Positions → Content → Content
read_by o c = elim o as (λ _. Content) [ None ↦ null | Some is ↦ at c is ]

map_twice : (cs : List Content) (f g h : Content → Content) → ((c : Content) → g (f c) ≡ h c) → map g (map f cs) ≡ map h cs
map_twice [] f g h e = refl
map_twice (c ∷ cs) f g h e = λ i. e c i ∷ map_twice cs f g h e i

column_within : (n : Nullability) (k : LogicalType) (xs : Names) (c : Content) → column_value (nullable_inside n k) xs c ≡ column_value k xs c
column_within n k xs c = ap (λ o. read_by o c) (positions_within n k xs)

-- One step, and the rest of the path from there.
abbrev stepped : Option ℕ → (ℕ → Option LogicalType) → Names → Option Positions
stepped o f xs = option_and_then (λ i. option_and_then (λ part. option_map (λ is. i ∷ is) (positions part xs)) (f i)) o

step_type : (k t : LogicalType) (i : ℕ) (o : Option Positions) → part_at k i ≡ Some t → option_and_then (type_at k) (option_map (λ is. i ∷ is) o) ≡ option_map (nullable_inside (nullability_of k)) (option_and_then (type_at t) o)
step_type k t i None e = refl
step_type k t i (Some is) e = ap (λ p. option_map (nullable_inside (nullability_of k)) (option_and_then (λ part. type_at part is) p)) e

step_read : (i : ℕ) (o : Option Positions) (c : Content) → read_by (option_map (λ is. i ∷ is) o) c ≡ read_by o (part_of c i)
step_read i None c = refl
step_read i (Some is) c = refl

-- the step goes to part i, of type t
record IsStep (k : LogicalType) (x : List ℕ) (i : ℕ) (t : LogicalType) : Type 0 where
  place : position_in k x ≡ Some i
  part : part_at k i ≡ Some t

positions_step : (k : LogicalType) (x : List ℕ) (i : ℕ) (t : LogicalType) (xs : Names) → IsStep k x i t → positions k (x ∷ xs) ≡ option_map (λ is. i ∷ is) (positions t xs)
positions_step k x i t xs s = ap (λ o. stepped o (part_at k) xs) s.place ∙ ap (option_and_then (λ part. option_map (λ is. i ∷ is) (positions part xs))) s.part

type_step : (k : LogicalType) (x : List ℕ) (i : ℕ) (t : LogicalType) (xs : Names) → IsStep k x i t → type_of_column k (x ∷ xs) ≡ option_map (nullable_inside (nullability_of k)) (type_of_column t xs)
type_step k x i t xs s = ap (option_and_then (type_at k)) (positions_step k x i t xs s) ∙ step_type k t i (positions t xs) s.part

read_step : (k : LogicalType) (x : List ℕ) (i : ℕ) (t : LogicalType) (xs : Names) (c : Content) → IsStep k x i t → column_value k (x ∷ xs) c ≡ column_value t xs (part_of c i)
read_step k x i t xs c s = ap (λ o. read_by o c) (positions_step k x i t xs s) ∙ step_read i (positions t xs) c

-- there is no such step
no_place : (k : LogicalType) (x : List ℕ) (xs : Names) → position_in k x ≡ None → type_of_column k (x ∷ xs) ≡ None
no_place k x xs e = ap (λ o. option_and_then (type_at k) (stepped o (part_at k) xs)) e

no_part : (k : LogicalType) (x : List ℕ) (i : ℕ) (xs : Names) → position_in k x ≡ Some i → part_at k i ≡ None → type_of_column k (x ∷ xs) ≡ None
no_part k x i xs e f = ap (λ o. option_and_then (type_at k) (stepped o (part_at k) xs)) e ∙ ap (λ o. option_and_then (type_at k) (option_and_then (λ part. option_map (λ is. i ∷ is) (positions part xs)) o)) f

none_some : (k : LogicalType) → None ≡ Some k → ⊥
none_some k e = cc

part_there : (k : LogicalType) (x : List ℕ) (i : ℕ) (b : LogicalType) (o : Option LogicalType) → position_in k x ≡ Some i → part_at k i ≡ o → type_of_column k (x ∷ []) ≡ Some b → (j : ℕ) × (t : LogicalType) × IsStep k x j t
part_there k x i b None e f h = absurd (none_some b (sym (no_part k x i [] e f) ∙ h))
part_there k x i b (Some t) e f h = (i, t, record { place = e; part = f })

step_there : (k : LogicalType) (x : List ℕ) (b : LogicalType) (o : Option ℕ) → position_in k x ≡ o → type_of_column k (x ∷ []) ≡ Some b → (j : ℕ) × (t : LogicalType) × IsStep k x j t
step_there k x b None e h = absurd (none_some b (sym (no_place k x [] e) ∙ h))
step_there k x b (Some i) e h = part_there k x i b (part_at k i) e refl h

eq_part : (k : LogicalType) (x : List ℕ) (i : ℕ) (t b : LogicalType) → IsStep k x i t → type_of_column k (x ∷ []) ≡ Some b → nullable_inside (nullability_of k) t ≡ b
eq_part k x i t b s h =
    let e : Some (nullable_inside (nullability_of k) t) ≡ Some b = sym (type_step k x i t [] s) ∙ h in
    cc (e)

type_then : (k : LogicalType) (x : List ℕ) (xs : Names) (b : LogicalType) → type_of_column k (x ∷ []) ≡ Some b → type_of_column k (x ∷ xs) ≡ type_of_column b xs
type_then k x xs b h =
    let s = step_there k x b (position_in k x) refl h in
    type_step k x s.0 s.1 xs s.2 ∙ sym (type_of_column-within (nullability_of k) s.1 xs) ∙ ap (λ l. type_of_column l xs) (eq_part k x s.0 s.1 b s.2 h)

read_then : (k : LogicalType) (x : List ℕ) (xs : Names) (b : LogicalType) (c : Content) → type_of_column k (x ∷ []) ≡ Some b → column_value b xs (column_value k (x ∷ []) c) ≡ column_value k (x ∷ xs) c
read_then k x xs b c h =
    let s = step_there k x b (position_in k x) refl h in
    ap (λ l. column_value l xs (column_value k (x ∷ []) c)) (sym (eq_part k x s.0 s.1 b s.2 h))
    ∙ column_within (nullability_of k) s.1 xs (column_value k (x ∷ []) c)
    ∙ ap (column_value s.1 xs) (read_step k x s.0 s.1 [] c s.2)
    ∙ sym (read_step k x s.0 s.1 xs c s.2)

part_missing : (k : LogicalType) (x : List ℕ) (i : ℕ) (xs : Names) (o : Option LogicalType) → position_in k x ≡ Some i → part_at k i ≡ o → type_of_column k (x ∷ []) ≡ None → type_of_column k (x ∷ xs) ≡ None
part_missing k x i xs None e f h = no_part k x i xs e f
part_missing k x i xs (Some t) e f h = absurd (none_some (nullable_inside (nullability_of k) t) (sym h ∙ type_step k x i t [] (record { place = e; part = f })))

step_missing : (k : LogicalType) (x : List ℕ) (xs : Names) (o : Option ℕ) → position_in k x ≡ o → type_of_column k (x ∷ []) ≡ None → type_of_column k (x ∷ xs) ≡ None
step_missing k x xs None e h = no_place k x xs e
step_missing k x xs (Some i) e h = part_missing k x i xs (part_at k i) e refl h

column_then : (a b r : Layout) (x : List ℕ) (xs : Names) → IsColumn a (x ∷ []) b → IsColumn b xs r → IsColumn a (x ∷ xs) r
column_then a b r x xs h g = record {
  sound = g.sound;
  kind = type_then (array_type_of a) x xs (array_type_of b) h.kind ∙ g.kind;
  rows =
      g.rows
      ∙ ap (map (column_value (array_type_of b) xs)) h.rows
      ∙ map_twice (rows_of a) (column_value (array_type_of a) (x ∷ [])) (column_value (array_type_of b) xs) (column_value (array_type_of a) (x ∷ xs)) (λ c. read_then (array_type_of a) x xs (array_type_of b) c h.kind);
}

-- flags at one step, and at the rest of the path from there
flags_on : (f : ViewFlags) (i : ℕ) (js : Positions) → flags_at (flags_at f (i ∷ [])) js ≡ flags_at f (i ∷ js)
flags_on (field_flags f rest) zero js = refl
flags_on (field_flags f rest) (suc i) js = flags_on rest i js
flags_on no_view i [] = refl
flags_on no_view i (j ∷ js) = refl
flags_on (view_flag f) i [] = refl
flags_on (view_flag f) i (j ∷ js) = refl

flags_by : (i : ℕ) (is : Positions) (o : Option Positions) (fa fb fr : ViewFlags) → option_map (λ js. i ∷ js) o ≡ Some is → fb ≡ flags_at fa (i ∷ []) → ((js : Positions) → o ≡ Some js → fr ≡ flags_at fb js) → fr ≡ flags_at fa is
flags_by i is None fa fb fr e f g = absurd (cc (e))
flags_by i is (Some js) fa fb fr e f g =
    let same : i ∷ js ≡ is = cc (e) in
    g js refl ∙ ap (λ t. flags_at t js) f ∙ flags_on fa i js ∙ ap (flags_at fa) same

flags_then : (a b r : Layout) (x : List ℕ) (xs : Names) → IsColumn a (x ∷ []) b → HasFlagsOfColumn a (x ∷ []) b → HasFlagsOfColumn b xs r → HasFlagsOfColumn a (x ∷ xs) r
flags_then a b r x xs h f g = λ is q.
    let k = array_type_of a in
    let s = step_there k x (array_type_of b) (position_in k x) refl h.kind in
    let here : positions k (x ∷ []) ≡ Some (s.0 ∷ []) = positions_step k x s.0 s.1 [] s.2 in
    let rest : positions k (x ∷ xs) ≡ option_map (λ js. s.0 ∷ js) (positions (array_type_of b) xs) = positions_step k x s.0 s.1 xs s.2 ∙ ap (option_map (λ js. s.0 ∷ js)) (sym (positions_within (nullability_of k) s.1 xs) ∙ ap (λ t. positions t xs) (eq_part k x s.0 s.1 (array_type_of b) s.2 h.kind)) in
    flags_by s.0 is (positions (array_type_of b) xs) (flags_of a) (flags_of b) (flags_of r) (sym rest ∙ q) (f (s.0 ∷ []) here) g

flags_here : (a : Layout) → HasFlagsOfColumn a [] a
flags_here a = λ is q. let same : [] ≡ is = cc (q) in ap (flags_at (flags_of a)) same

fault_then : (e : ArrayError) (a b : Layout) (x : List ℕ) (xs : Names) → IsColumn a (x ∷ []) b → IsColumnFault e b xs → IsColumnFault e a (x ∷ xs)
fault_then Memory a b x xs h f = tt
fault_then NoSuchField a b x xs h f = type_then (array_type_of a) x xs (array_type_of b) h.kind ∙ f
fault_then e a b x xs h f = absurd f

fault_first : (e : ArrayError) (a : Layout) (x : List ℕ) (xs : Names) → IsColumnFault e a (x ∷ []) → IsColumnFault e a (x ∷ xs)
fault_first Memory a x xs f = tt
fault_first NoSuchField a x xs f = step_missing (array_type_of a) x xs (position_in (array_type_of a) x) refl f
fault_first e a x xs f = absurd f

-- The rest of the path has the same column in b, or the same error, as the whole path in a.
pub record IsOnTheWay (a : Layout) (path : Names) (b : Layout) (rest : Names) : Type 0 where
  pub sound : IsSound b
  pub columns : (r : Layout) → IsColumn b rest r → IsColumn a path r
  pub flags : (r : Layout) → HasFlagsOfColumn b rest r → HasFlagsOfColumn a path r
  pub faults : (e : ArrayError) → IsColumnFault e b rest → IsColumnFault e a path

pub way_begins : (a : Layout) (path : Names) → IsSound a → IsOnTheWay a path a path
way_begins a path s = record { sound = s; columns = λ r h. h; flags = λ r h. h; faults = λ e f. f }

pub way_goes_on : (a b c : Layout) (path : Names) (x : List ℕ) (rest : Names) → IsOnTheWay a path b (x ∷ rest) → IsColumn b (x ∷ []) c → HasFlagsOfColumn b (x ∷ []) c → IsOnTheWay a path c rest
way_goes_on a b c path x rest w h f = record {
  sound = h.sound;
  columns = λ r g. w.columns r (column_then b c r x rest h g);
  flags = λ r g. w.flags r (flags_then b c r x rest h f g);
  faults = λ e g. w.faults e (fault_then e b c x rest h g);
}

pub way_ends : (a b : Layout) (path : Names) → IsOnTheWay a path b [] → IsColumn a path b
way_ends a b path w = w.columns b (column_root b w.sound)

pub way_keeps : (a b : Layout) (path : Names) → IsOnTheWay a path b [] → HasFlagsOfColumn a path b
way_keeps a b path w = w.flags b (flags_here b)

pub way_stops : (e : ArrayError) (a b : Layout) (path : Names) (x : List ℕ) (rest : Names) → IsOnTheWay a path b (x ∷ rest) → IsColumnFault e b (x ∷ []) → IsColumnFault e a path
way_stops e a b path x rest w f = w.faults e (fault_first e b x rest f)

pub ruleset walked = (way_begins)
