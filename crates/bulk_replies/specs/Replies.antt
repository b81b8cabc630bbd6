-- What a reply to a bulk request says.
use Rattle.std.specs.Prelude.{◌≡◌, ◌≢◌, ℕ, List, map, Some, IsUtf8}
use Rattle.httparse.specs.Grammar.{ResponseHead, status_code}
use Rattle.httparse.specs.Spans.{name_and_value}
use Rattle.bulk_replies.specs.Answers.{Answer, answers_of, said_of}
use Rattle.bulk_replies.specs.Bodies.{EndsWithin, IsBody, framing_of}
use Rattle.bulk_replies.specs.Heads.{HasHead}
use Rattle.bulk_replies.specs.declared.reply.Reply.{Reply}
use Rattle.bulk_replies.specs.declared.reply.Reply.TheVariants.{Good, Other, Bad}

-- it has a head with this status
pub record HasStatus (reply : List ℕ) (status : ℕ) : Type 0 where
  pub head : ResponseHead
  pub rest : List ℕ
  pub has_head : HasHead reply head rest
  pub is_status : status_code head ≡ status

-- it is a good reply to so many events, and says this of each: its status is 200, its body is whole and JSON, and has an item for each event
pub record IsGood (count : ℕ) (reply : List ℕ) (answers : List Answer) : Type 0 where
  pub head : ResponseHead
  pub rest : List ℕ
  pub body : List ℕ
  pub has_head : HasHead reply head rest
  pub is_status : status_code head ≡ 200
  pub has_body : IsBody (framing_of (map name_and_value head.fields)) rest body
  pub is_text : IsUtf8 body
  pub says : answers_of count body ≡ Some answers

-- it is neither good, nor has it a head with another status than 200
pub record IsBad (count : ℕ) (reply : List ℕ) : Type 0 where
  pub no_other : (status : ℕ) → HasStatus reply status → status ≡ 200
  pub not_good : (answers : List Answer) → IsGood count reply answers → ⊥

abbrev pub Says : ℕ → List ℕ → Reply → Type 0
Says count reply (Good said) = (answers : List Answer) × IsGood count reply answers × (said ≡ map said_of answers)
Says count reply (Other status) = HasStatus reply status × (status ≢ 200)
Says count reply Bad = IsBad count reply

-- its body is whole by what its head says, so that no byte behind these is part of it
pub record IsWhole (reply : List ℕ) : Type 0 where
  pub head : ResponseHead
  pub rest : List ℕ
  pub has_head : HasHead reply head rest
  pub ends : EndsWithin (framing_of (map name_and_value head.fields)) rest
