-- The head of a reply.
use Rattle.std.specs.Prelude.{◌≡◌, ◌≤◌, ℕ, List, length, drop, map}
use Rattle.httparse.specs.Grammar.{ResponseHead, ReadsResponse, status_code}
use Rattle.httparse.specs.Spans.{name_and_value}
use Rattle.bulk_replies.specs.Bodies.{framing_of}
use Rattle.bulk_replies.specs.declared.head.Head.{Head}

-- a reply begins with this head, which has at most 64 fields, and these bytes stand behind it
pub record HasHead (reply : List ℕ) (head : ResponseHead) (rest : List ℕ) : Type 0 where
  pub reads : ReadsResponse reply head rest
  pub room : length head.fields ≤ 64

-- what was found of it
pub record IsHead (reply : List ℕ) (found : Head) : Type 0 where
  pub head : ResponseHead
  pub within : found.len ≤ length reply
  pub has_head : HasHead reply head (drop found.len reply)
  pub status : found.status ≡ status_code head
  pub framing : found.framing ≡ framing_of (map name_and_value head.fields)

abbrev pub HasNoHead : List ℕ → Type 0
HasNoHead reply = (head : ResponseHead) (rest : List ℕ) → HasHead reply head rest → ⊥
