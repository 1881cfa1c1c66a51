-- Values whose numbers are integers of 64 bits.
use Rattle.std.proofs.Common.{◌≡◌, ℕ, ℤ, pos, negsuc, List, [], ◌∷◌, ◌++◌, Bool, true, false, Ordering, Less, Equal, Greater, nat_cmp, if◌then◌else◌, refl, sym, ap, ◌∙◌, true≢false}
use Rattle.std.specs.Cmp.Lexicographic.{slice_cmp}
use Rattle.std.specs.Ordering.{match_ordering}
use Rattle.serde_json.specs.Data.{Data, number, Members, no_members, member, put}
use Rattle.serde_json.specs.Find.{of_integer}
use Rattle.serde_json.specs.View.{view, items_view}
use Rattle.serde_json.specs.declared.value.Value.{Value}
use Rattle.vortex_table_request.specs.Parsed.{keeps_whole, items_keep_whole, members_keep_whole}

pub whole-of_integer : (z : ℤ) → keeps_whole (number (of_integer z)) ≡ true
whole-of_integer (pos n) = refl
whole-of_integer (negsuc n) = refl

both : (b c : Bool) → b ≡ true → c ≡ true → (if b then c else false) ≡ true
both b c e f = ap (λ (x : Bool). if x then c else false) e ∙ f

parts : (b c : Bool) → (if b then c else false) ≡ true → (b ≡ true) × (c ≡ true)
parts true c e = (refl, e)
parts false c e = absurd (true≢false (sym e))

whole_last : (vs : List Value) (v : Value) → items_keep_whole (items_view vs) ≡ true → keeps_whole (view v) ≡ true → items_keep_whole (items_view (vs ++ v ∷ [])) ≡ true
whole_last [] v all one = both (keeps_whole (view v)) true one refl
whole_last (w ∷ vs) v all one =
    let p = parts (keeps_whole (view w)) (items_keep_whole (items_view vs)) all in
    both (keeps_whole (view w)) (items_keep_whole (items_view (vs ++ v ∷ []))) p.0 (whole_last vs v p.1 one)

-- one more item
pub whole_push : (vs new : List Value) (v : Value) → new ≡ vs ++ v ∷ [] → items_keep_whole (items_view vs) ≡ true → keeps_whole (view v) ≡ true → items_keep_whole (items_view new) ≡ true
whole_push vs new v is all one = ap (λ (es : List Value). items_keep_whole (items_view es)) is ∙ whole_last vs v all one

whole_put_at : (o : Ordering) (k l : List ℕ) (d e : Data) (ms : Members) → keeps_whole d ≡ true → keeps_whole e ≡ true → members_keep_whole ms ≡ true → members_keep_whole (put k d ms) ≡ true
    → members_keep_whole (match_ordering o (member k d (member l e ms)) (member l d ms) (member l e (put k d ms))) ≡ true
whole_put_at Less k l d e ms first here rest later = both (keeps_whole d) (members_keep_whole (member l e ms)) first (both (keeps_whole e) (members_keep_whole ms) here rest)
whole_put_at Equal k l d e ms first here rest later = both (keeps_whole d) (members_keep_whole ms) first rest
whole_put_at Greater k l d e ms first here rest later = both (keeps_whole e) (members_keep_whole (put k d ms)) here later

-- one more member
pub whole_put : (k : List ℕ) (d : Data) (ms : Members) → keeps_whole d ≡ true → members_keep_whole ms ≡ true → members_keep_whole (put k d ms) ≡ true
whole_put k d no_members first rest = both (keeps_whole d) true first refl
whole_put k d (member l e ms) first rest =
    let p = parts (keeps_whole e) (members_keep_whole ms) rest in
    whole_put_at (slice_cmp nat_cmp k l) k l d e ms first p.0 p.1 (whole_put k d ms first p.1)
