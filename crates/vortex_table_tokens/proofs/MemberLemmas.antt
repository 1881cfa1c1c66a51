-- Members of a line's object, of which some are read without a JSON value.
use Rattle.std.proofs.Common.{◌≡◌, ℕ, suc, ◌+◌, ◌==◌, List, Bool, true, false, Ordering, Less, Equal, Greater, is_eq, nat_cmp, is_some, IfSome, Option, Some, None, if◌then◌else◌, option_map, option_and_then, codes, refl, sym, ap, ◌∙◌, subst, arith, true≢false}
use Rattle.std.specs.Prelude.{unwrap_or}
use Rattle.std.proofs.lemmas.Map.Text.{is_eq-slice_cmp}
use Rattle.std.proofs.lemmas.Slice.Eq.{bytes_eq-Decides}
use Rattle.std.specs.Cmp.Lexicographic.{slice_cmp}
use Rattle.std.specs.Ordering.{match_ordering}
use Rattle.std.specs.Str.{bytes_eq}
use Rattle.serde_json.specs.Data.{Data, null, object, Members, no_members, member, put}
use Rattle.serde_json.specs.Events.{members_len}
use Rattle.serde_json.specs.Find.{as_array, as_str, get, get_member}
use Rattle.serde_json.proofs.Views.{get_member-put, get_member-put_other}
use Rattle.vortex_model.specs.LogicalType.{LogicalType}
use Rattle.vortex_model.specs.Content.{Raw}
use Rattle.vortex_model_table.specs.Command.{append}
use Rattle.vortex_arrays_model.specs.Layout.{Layout, array_type_of}
use Rattle.vortex_table_request.specs.Kinds.{type_in, one_if}
use Rattle.vortex_table_request.specs.Line.{LayoutName, layouts_in, rows_in, VerbName, appends, verb_named, command_with, command_in}
use Rattle.vortex_table_request.specs.Parsed.{size_of, keeps_whole}
use Rattle.vortex_table_request.specs.Rows.{rows_at}
use Rattle.vortex_table_request.specs.View.{raw_rows}
use Rattle.vortex_table_tokens.specs.Members.{kept, kept_members, IsType, HasRows, AreParts}
use Rattle.vortex_table_tokens.proofs.Wholes.{whole_put}

-- ---- what is kept of members

same_key : (k l : List ℕ) → slice_cmp nat_cmp k l ≡ Equal → k ≡ l
same_key k l is = (bytes_eq-Decides k l).0 (sym (is_eq-slice_cmp k l) ∙ ap is_eq is)

kept_put_at : (o : Ordering) (k l : List ℕ) (d e : Data) (ms : Members) → slice_cmp nat_cmp k l ≡ o → kept_members (put k d ms) ≡ put k (kept k d) (kept_members ms)
    → kept_members (match_ordering o (member k d (member l e ms)) (member l d ms) (member l e (put k d ms)))
    ≡ match_ordering o (member k (kept k d) (member l (kept l e) (kept_members ms))) (member l (kept k d) (kept_members ms)) (member l (kept l e) (put k (kept k d) (kept_members ms)))
kept_put_at Less k l d e ms is later = refl
kept_put_at Equal k l d e ms is later = ap (λ x. member l (kept x d) (kept_members ms)) (sym (same_key k l is))
kept_put_at Greater k l d e ms is later = ap (member l (kept l e)) later

kept_members-put : (k : List ℕ) (d : Data) (ms : Members) → kept_members (put k d ms) ≡ put k (kept k d) (kept_members ms)
kept_members-put k d no_members = refl
kept_members-put k d (member l e ms) = kept_put_at (slice_cmp nat_cmp k l) k l d e ms refl (kept_members-put k d ms)

get_kept_at : (o : Ordering) (q l : List ℕ) (e : Data) (ms : Members) → slice_cmp nat_cmp q l ≡ o → ((d : Data) → kept q d ≡ d) → get_member q (kept_members ms) ≡ get_member q ms
    → match_ordering o (get_member q (kept_members ms)) (Some (kept l e)) (get_member q (kept_members ms)) ≡ match_ordering o (get_member q ms) (Some e) (get_member q ms)
get_kept_at Less q l e ms is plain later = later
get_kept_at Equal q l e ms is plain later = ap (λ x. Some (kept x e)) (sym (same_key q l is)) ∙ ap Some (plain e)
get_kept_at Greater q l e ms is plain later = later

pub get_member-kept : (q : List ℕ) → ((d : Data) → kept q d ≡ d) → (ms : Members) → get_member q (kept_members ms) ≡ get_member q ms
get_member-kept q plain no_members = refl
get_member-kept q plain (member l e ms) = get_kept_at (slice_cmp nat_cmp q l) q l e ms refl plain (get_member-kept q plain ms)

members_len-kept : (ms : Members) → members_len (kept_members ms) ≡ members_len ms
members_len-kept no_members = refl
members_len-kept (member k d ms) = ap suc (members_len-kept ms)

apart : (xs ys : List ℕ) (b : Bool) → bytes_eq xs ys ≡ b → ¬ (xs ≡ ys) → b ≡ false
apart xs ys true e other = absurd (other ((bytes_eq-Decides xs ys).0 e))
apart xs ys false e other = refl

kept-plain : (k : List ℕ) → ¬ (k ≡ codes "rows") → (d : Data) → kept k d ≡ d
kept-plain k other d = ap (λ (b : Bool). if b then null else d) (apart k (codes "rows") _ refl other)

-- ---- one more member

differ : (xs ys : List ℕ) → bytes_eq xs ys ≡ false → ¬ (xs ≡ ys)
differ xs ys e same = true≢false (sym ((bytes_eq-Decides xs ys).1 same) ∙ e)

kind_stays : (b : Bool) (k : List ℕ) (d : Data) (ms : Members) (t : LogicalType) → bytes_eq k (codes "dtype") ≡ b → (k ≡ codes "dtype" → IsType t d) → IfSome (get_member (codes "dtype") ms) (IsType t)
    → IfSome (get_member (codes "dtype") (put k d ms)) (IsType t)
kind_stays true k d ms t e new h =
    let same : k ≡ codes "dtype" = (bytes_eq-Decides k (codes "dtype")).0 e in
    subst (λ o. IfSome o (IsType t)) (sym (subst (λ l. get_member l (put k d ms) ≡ Some d) same (get_member-put k d ms))) (new same)
kind_stays false k d ms t e new h = subst (λ o. IfSome o (IsType t)) (sym (get_member-put_other (codes "dtype") k d ms (λ is. differ k (codes "dtype") e (sym is)))) h

rows_stay : (rows : Option Layout) (k : List ℕ) (d : Data) (ms : Members) → ¬ (k ≡ codes "rows") → (k ≡ codes "dtype" → IfSome rows (λ a. IsType (array_type_of a) d)) → IfSome rows (HasRows ms) → IfSome rows (HasRows (put k d ms))
rows_stay None k d ms other new h = h
rows_stay (Some a) k d ms other new h = (
  kind_stays (bytes_eq k (codes "dtype")) k d ms (array_type_of a) refl new h.0,
  ap (λ (o : Option Data). option_map (rows_at (array_type_of a)) (option_and_then as_array o)) (get_member-put_other (codes "rows") k d ms (λ e. other (sym e))) ∙ h.1,
)

-- the value of a member is kept
pub value_taken : (ms vs new : Members) (rows : Option Layout) (k : List ℕ) (d : Data) → ¬ (k ≡ codes "rows") → (k ≡ codes "dtype" → IfSome rows (λ a. IsType (array_type_of a) d))
    → keeps_whole d ≡ true → new ≡ put k d vs → AreParts ms vs rows → AreParts (put k d ms) new rows
value_taken ms vs new rows k d other late first is h = record {
  values = is ∙ ap (put k d) h.values ∙ ap (λ e. put k e (kept_members ms)) (sym (kept-plain k other d)) ∙ sym (kept_members-put k d ms);
  whole = whole_put k d ms first h.whole;
  rows = rows_stay rows k d ms other late h.rows;
  all = λ none. is ∙ ap (put k d) (h.all none);
}

some_is_not_none : {A : Type 0} (a : A) → Some a ≡ None → ⊥
some_is_not_none a e = absurd (cc (e))

-- rows are read
pub rows_taken : (ms vs new : Members) (rows : Option Layout) (a : Layout) (d : Data) → keeps_whole d ≡ true → new ≡ put (codes "rows") null vs → IfSome (get_member (codes "dtype") vs) (IsType (array_type_of a))
    → option_map (rows_at (array_type_of a)) (as_array d) ≡ Some (raw_rows a) → AreParts ms vs rows → AreParts (put (codes "rows") d ms) new (Some a)
rows_taken ms vs new rows a d first is kind read h =
    let same = sym (get_member-kept (codes "dtype") (λ d. refl) ms) ∙ ap (get_member (codes "dtype")) (sym h.values) in
    let known : IfSome (get_member (codes "dtype") ms) (IsType (array_type_of a)) = subst (λ o. IfSome o (IsType (array_type_of a))) (sym same) kind in
    record {
      values = is ∙ ap (put (codes "rows") null) h.values ∙ sym (kept_members-put (codes "rows") d ms);
      whole = whole_put (codes "rows") d ms first h.whole;
      rows = (
        subst (λ o. IfSome o (IsType (array_type_of a))) (sym (get_member-put_other (codes "dtype") (codes "rows") d ms (differ (codes "dtype") (codes "rows") refl))) known,
        ap (λ (o : Option Data). option_map (rows_at (array_type_of a)) (option_and_then as_array o)) (get_member-put (codes "rows") d ms) ∙ read,
      );
      all = λ none. absurd (some_is_not_none a none);
    }

-- an object without members
pub no_parts : (vs : Members) → vs ≡ no_members → AreParts no_members vs None
no_parts vs is = record { values = is; whole = refl; rows = tt; all = λ none. is }

-- ---- commands by their parts

-- of an object with this verb, and this number of members
named : (ms : Members) (name : List ℕ) (verb : VerbName) → option_and_then as_str (get_member (codes "cmd") (kept_members ms)) ≡ Some name → verb_named name ≡ Some verb
    → command_in (object ms) ≡ command_with verb (members_len ms) (object ms)
named ms name verb is so =
    ap (λ (o : Option (List ℕ)). option_and_then (λ v. command_with v (members_len ms) (object ms)) (option_and_then verb_named o))
    (ap (option_and_then as_str) (sym (get_member-kept (codes "cmd") (λ d. refl) ms)) ∙ is)
    ∙ ap (λ (o : Option VerbName). option_and_then (λ v. command_with v (members_len ms) (object ms)) o) so

counted : (ms : Members) (n : ℕ) → size_of (object (kept_members ms)) ≡ Some n → members_len ms ≡ n
counted ms n is = sym (members_len-kept ms) ∙ ap (λ (o : Option ℕ). unwrap_or o 0) is

known_type : (o : Option Data) (k : LogicalType) → is_some o ≡ true → IfSome o (IsType k) → option_and_then type_in o ≡ Some k
known_type None k there h = absurd (true≢false (sym there))
known_type (Some d) k there h = h

pub append_of : (ms : Members) (n : ℕ) (names : List LayoutName) (a : Layout) → size_of (object (kept_members ms)) ≡ Some n → n ≡ 3 + one_if (is_some (get (codes "layouts") (object (kept_members ms))))
    → option_and_then as_str (get (codes "cmd") (object (kept_members ms))) ≡ Some (codes "append") → layouts_in (get (codes "layouts") (object (kept_members ms))) ≡ Some names
    → is_some (get (codes "dtype") (object (kept_members ms))) ≡ true → HasRows ms a
    → (command_in (object ms) ≡ Some (append (array_type_of a) (raw_rows a))) × (layouts_in (get (codes "layouts") (object ms)) ≡ Some names)
append_of ms n names a size is verb hints there h =
    let same = get_member-kept (codes "layouts") (λ d. refl) ms in
    let hinted : layouts_in (get_member (codes "layouts") ms) ≡ Some names = ap layouts_in (sym same) ∙ hints in
    let many : members_len ms ≡ 3 + one_if (is_some (get_member (codes "layouts") ms)) = counted ms n size ∙ is ∙ ap (λ (o : Option Data). 3 + one_if (is_some o)) same in
    let typed = known_type (get_member (codes "dtype") ms) (array_type_of a) (ap is_some (sym (get_member-kept (codes "dtype") (λ d. refl) ms)) ∙ there) h.0 in
    let fits : (members_len ms == 3 + one_if (is_some (get_member (codes "layouts") ms))) ≡ true = grind (arith, many) in (
      named ms (codes "append") appends verb refl
          ∙ ap (λ (b : Bool). if b
          then option_and_then (λ ls. option_and_then (λ k. option_map (append k) (rows_in k (object ms))) (option_and_then type_in (get_member (codes "dtype") ms))) (layouts_in (get_member (codes "layouts") ms))
          else None) fits
          ∙ ap (λ (o : Option (List LayoutName)). option_and_then (λ ls. option_and_then (λ k. option_map (append k) (rows_in k (object ms))) (option_and_then type_in (get_member (codes "dtype") ms))) o) hinted
          ∙ ap (λ (o : Option LogicalType). option_and_then (λ k. option_map (append k) (rows_in k (object ms))) o) typed
          ∙ ap (λ (o : Option (List Raw)). option_map (append (array_type_of a)) o) h.1,
      hinted,
    )
