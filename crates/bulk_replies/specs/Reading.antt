-- What is read of the body of a reply.
use Rattle.std.specs.Prelude.{◌≡◌, ℕ, nat_le, List, length, take, if◌then◌else◌, map, Option, Some, None, IsUtf8}
use Rattle.bulk_replies.specs.Answers.{Answer, answers_of, said_of}
use Rattle.bulk_replies.specs.Bodies.{IsBody}
use Rattle.bulk_replies.specs.declared.framing.Framing.{Framing}
use Rattle.bulk_replies.specs.declared.item_result.ItemResult.{ItemResult}

-- a body is text and says this of so many events, or it says nothing of them
pub record Answers (count : ℕ) (body : List ℕ) (answers : List Answer) : Type 0 where
  pub is_text : IsUtf8 body
  pub says : answers_of count body ≡ Some answers

abbrev pub SaysOf : ℕ → List ℕ → Option (List ItemResult) → Type 0
SaysOf count body (Some said) = (answers : List Answer) × Answers count body answers × (said ≡ map said_of answers)
SaysOf count body None = (answers : List Answer) → Answers count body answers → ⊥

-- the same of the body that stands behind a head
pub record AnswersBehind (count : ℕ) (framing : Framing) (bytes : List ℕ) (answers : List Answer) : Type 0 where
  pub body : List ℕ
  pub is_body : IsBody framing bytes body
  pub says : Answers count body answers

abbrev pub SaysBehind : ℕ → Framing → List ℕ → Option (List ItemResult) → Type 0
SaysBehind count framing bytes (Some said) = (answers : List Answer) × AnswersBehind count framing bytes answers × (said ≡ map said_of answers)
SaysBehind count framing bytes None = (answers : List Answer) → AnswersBehind count framing bytes answers → ⊥

-- the first so many bytes, where so many stand there
abbrev pub front_of : ℕ → List ℕ → Option (List ℕ)
front_of n bytes = if nat_le n (length bytes) then Some (take n bytes) else None
