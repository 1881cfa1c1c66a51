-- Answers to the lines of an input, and how much of them was written.
use Rattle.std.specs.Prelude.{◌≡◌, ℕ, List, [], ◌∷◌, ◌++◌, flat_map, All, codes}
use Rattle.vortex_model_table.specs.Reply.{Answers, Replies, lines}
use Rattle.vortex_table_io.specs.Lines.{IsOneLine, with_lf}

-- error 1
abbrev pub memory_text : List ℕ
memory_text = codes "{\"error\":1,\"name\":\"Memory\"}"

abbrev pub ok_text : List ℕ
ok_text = codes "{\"ok\":true}"

-- Each line that was read was answered, in order, by a line.
pub record AnswersAll {S : Type 0} (answers : Answers S (List ℕ)) (old : S)
    (read_old read_new written_old written_new : List ℕ) (new : S) : Type 0 where
  pub input : List ℕ
  pub read : read_new ≡ read_old ++ input
  pub texts : List (List ℕ)
  pub replies : Replies answers old (lines input) texts new
  pub written : written_new ≡ written_old ++ flat_map with_lf texts

-- What was written is a prefix of answers to the lines that were read.
pub record AnswersPart {S : Type 0} (answers : Answers S (List ℕ)) (old : S)
    (read_old read_new written_old written_new : List ℕ) : Type 0 where
  pub input : List ℕ
  pub read : read_new ≡ read_old ++ input
  pub texts : List (List ℕ)
  pub final : S
  pub replies : Replies answers old (lines input) texts final
  pub rest : List ℕ
  pub begins : written_new ++ rest ≡ written_old ++ flat_map with_lf texts

-- Each line that was read up to its LF was answered, in order, and all of the answers were written.
pub record AnswersWhole {S : Type 0} (answers : Answers S (List ℕ)) (old : S)
    (read_old read_new written_old written_new : List ℕ) : Type 0 where
  pub done : List (List ℕ)
  pub held : List ℕ
  pub lines : All IsOneLine done × IsOneLine held
  pub read : read_new ≡ read_old ++ (flat_map with_lf done ++ held)
  pub texts : List (List ℕ)
  pub final : S
  pub replies : Replies answers old done texts final
  pub written : written_new ≡ written_old ++ flat_map with_lf texts

-- For private clauses. After `held` a piece was read; its whole lines were answered, and `left` is
-- held now.
pub record FeedOk {S : Type 0} (answers : Answers S (List ℕ)) (old : S)
    (held piece left written_old written_new : List ℕ) (new : S) : Type 0 where
  pub done : List (List ℕ)
  pub texts : List (List ℕ)
  pub each : All IsOneLine done
  pub parts : held ++ piece ≡ flat_map with_lf done ++ left
  pub replies : Replies answers old done texts new
  pub written : written_new ≡ written_old ++ flat_map with_lf texts

-- For private clauses. After `held` a piece was read, some of its whole lines were answered, and a
-- write failed.
pub record FeedErr {S : Type 0} (answers : Answers S (List ℕ)) (old : S)
    (held piece written_old written_new : List ℕ) : Type 0 where
  pub done : List (List ℕ)
  pub texts : List (List ℕ)
  pub final : S
  pub later : List ℕ
  pub each : All IsOneLine done
  pub parts : held ++ piece ≡ flat_map with_lf done ++ later
  pub replies : Replies answers old done texts final
  pub rest : List ℕ
  pub begins : written_new ++ rest ≡ written_old ++ flat_map with_lf texts

-- The input has ended while this line was held: it is the last line, unless it is empty.
abbrev pub FinishOk : {S : Type 0} → Answers S (List ℕ) → S → List ℕ → List ℕ → List ℕ → S → Type 0
FinishOk answers old [] written_old written_new new = (written_new ≡ written_old) × (new ≡ old)
FinishOk answers old (b ∷ bs) written_old written_new new =
    (text : List ℕ) × answers old (b ∷ bs) text new × (written_new ≡ written_old ++ with_lf text)

-- The input has ended while this line was held, and the write of its answer failed.
abbrev pub FinishErr : {S : Type 0} → Answers S (List ℕ) → S → List ℕ → List ℕ → List ℕ → Type 0
FinishErr answers old [] written_old written_new = written_new ≡ written_old
FinishErr {S} answers old (b ∷ bs) written_old written_new = (text rest : List ℕ) × (new : S) ×
    answers old (b ∷ bs) text new × (written_new ++ rest ≡ written_old ++ with_lf text)
