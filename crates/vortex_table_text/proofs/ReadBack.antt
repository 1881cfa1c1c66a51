-- What was written is read back.
use Rattle.std.proofs.Common.{◌≡◌, refl, sym, ap, ◌∙◌, subst, ◌≤◌, ℕ, List, Bool, true, false, cond, Option, Some, None, option_and_then}
use Rattle.std.specs.Prelude.{IsUtf8}
use Rattle.std.proofs.lemmas.Str.{is_utf8-from_IsUtf8}
use Rattle.serde_json.specs.Data.{Data, depth}
use Rattle.serde_json.specs.Read.{max_depth, read}
use Rattle.serde_json.specs.Written.{compact_text}
use Rattle.vortex_model.specs.Valid.{Holds}
use Rattle.vortex_table_request.specs.Kinds.{type_in}
use Rattle.vortex_table_request.specs.Parsed.{data_of}
use Rattle.vortex_table_request.specs.Where.{literal_at, predicate_in}
use Rattle.vortex_table_response.specs.Text.{content_text}
use Rattle.vortex_table_response.specs.type_texts.Text.{type_text}
use Rattle.vortex_table_text.specs.Data.{type_data, content_data, predicate_data}
use Rattle.vortex_table_text.specs.Laws.{TypesAreReadBack, ValuesAreReadBack, PredicatesAreReadBack}
use Rattle.vortex_table_text.specs.Predicates.{predicate_text, is_writable}
use Rattle.vortex_table_text.specs.Types.{has_text}
use Rattle.vortex_table_text.specs.Writing.{text_if}
use Rattle.vortex_table_text.proofs.CompactText.{type_same, content_same, predicate_same}
use Rattle.vortex_table_text.proofs.ContentsAgain.{stored_same, literal_again}
use Rattle.vortex_table_text.proofs.JsonAgain.{IsPlain, whole_again, type_plain, content_plain, predicate_plain}
use Rattle.vortex_table_text.proofs.PredicatesAgain.{predicate_again}
use Rattle.vortex_table_text.proofs.TypesAgain.{type_again}

abbrev or_that : List ℕ → Option (List ℕ) → List ℕ
or_that s None = s
or_that s (Some t) = t

-- it is there, and is this one
has_it : (b : Bool) (s text : List ℕ) → text_if b s ≡ Some text → (b ≡ true) × (s ≡ text)
has_it true s text e = (refl, ap (or_that s) e)
has_it false s text e = absurd (cc e)

pub data_again : (d : Data) (s text : List ℕ) → IsPlain d → compact_text d ≡ s → s ≡ text → IsUtf8 text → depth d ≤ max_depth → data_of text ≡ Some d
data_again d s text plain same is u shallow =
    ap (λ b. cond b (read text) None) (is_utf8-from_IsUtf8 text u) ∙ ap read (sym (same ∙ is)) ∙ whole_again d plain shallow

pub types_back : TypesAreReadBack
types_back k text e u shallow =
    let has = has_it (has_text k) (type_text k) text e in
    ap (λ o. option_and_then type_in o) (data_again (type_data k) (type_text k) text (type_plain k has.0) (type_same k has.0) has.1 u shallow)
    ∙ type_again k has.0

pub values_back : ValuesAreReadBack
values_back k c text e h u shallow =
    let has = has_it (has_text k) (content_text c) text e in
    let held : Holds k c = subst (λ l. Holds l c) (stored_same k has.0) h in
    ap (λ o. option_and_then (literal_at k) o)
    (data_again (content_data c) (content_text c) text (content_plain k c has.0 held) (content_same k c has.0 held) has.1 u shallow)
    ∙ literal_again k c has.0 h

pub predicates_back : PredicatesAreReadBack
predicates_back e text is h u shallow =
    let has = has_it (is_writable e) (predicate_text e) text is in
    ap (λ o. option_and_then predicate_in o)
    (data_again (predicate_data e) (predicate_text e) text (predicate_plain e has.0 h) (predicate_same e has.0 h) has.1 u shallow)
    ∙ predicate_again e has.0 h
