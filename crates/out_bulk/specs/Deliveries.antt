-- What the bulk output answers to events, and what it keeps.
use Rattle.std.specs.Prelude.{◌≡◌, ◌≢◌, ◌⊎◌, ℕ, List, [], ◌∷◌, length, map, Option, Some, None, Result, Ok, Err}
use Rattle.io_traits.specs.Counts.{one_more}
use Rattle.io_traits.specs.Telling.{Grows, GrowsInPart}
use Rattle.bulk_replies.specs.Answers.{Answer}
use Rattle.bulk_replies.specs.Replies.{HasStatus, IsGood, IsBad}
use Rattle.event_tree.specs.Events.{Ev}
use Rattle.foreign_parts.specs.declared.output.Delivery.{Delivery}
use Rattle.foreign_parts.specs.declared.output.Delivery.TheVariants as d
use Rattle.foreign_parts.specs.declared.output.DeliverFault.{DeliverFault}
use Rattle.foreign_parts.specs.declared.output.DeliverFault.TheVariants as fault
use Rattle.foreign_parts.specs.declared.output.Fate.{Fate}
use Rattle.out_bulk.specs.Batches.{Kept, nothing_kept, Witnessed}
use Rattle.out_bulk.specs.Exchanges.{Exchange, exchange}
use Rattle.out_bulk.specs.Fates.{fate_of, open_in, filled, all_settled}
use Rattle.out_bulk.specs.Requests.{request_of}
use Rattle.out_bulk.specs.Settings.{Target}

-- what a bulk output stands at: its peer, what its settings aim at, what is kept of a batch that was put off, the events that it holds where it tells them,
-- how many replies were neither good nor of another status than 200, the last of these, and how often it put a batch off and was closed
pub record Standing (Q : Type 0) : Type 0 where
  pub peer : Q
  pub target : Target
  pub kept : Kept
  pub held : Option (List Ev)
  pub bad : ℕ
  pub last_bad : List ℕ
  pub laters : ℕ
  pub closes : ℕ

module _ {Q : Type 0} (asked : Q → Option (List Exchange)) (events : List Ev) (old new : Standing Q) (start : Kept) where
  -- the events that are sent: those that weren't settled when the batch was handed in
  abbrev pub sent : List Ev
  sent = open_in events start.settled

  -- one request with these went to the peer, and this reply came
  abbrev pub Replied : List ℕ → Type 0
  Replied reply = Grows (asked old.peer) (asked new.peer) (exchange old.target.host (request_of old.target sent) (Some reply) ∷ [])

  -- the same where none came, and it may not have gone out
  abbrev pub Unreplied : Type 0
  Unreplied = GrowsInPart (asked old.peer) (asked new.peer) (exchange old.target.host (request_of old.target sent) None ∷ [])

  -- a good reply says this of the events that were sent
  pub record GoodReply (answers : List Answer) : Type 0 where
    pub reply : List ℕ
    pub replied : Replied reply
    pub good : IsGood (length sent) reply answers

  -- with it each event is settled, and these are their fates
  pub record Finishes (fates : List Fate) : Type 0 where
    pub answers : List Answer
    pub good : GoodReply answers
    pub fates_are : all_settled (filled start.settled (map fate_of answers)) ≡ Some fates
    pub kept : new.kept ≡ nothing_kept

  -- with it some event isn't settled, and what is settled is kept
  pub record Waits : Type 0 where
    pub answers : List Answer
    pub good : GoodReply answers
    pub unsettled : all_settled (filled start.settled (map fate_of answers)) ≡ None
    pub kept : new.kept ≡ record { events = events; settled = filled start.settled (map fate_of answers) }

  -- a reply came whose head has another status than 200
  pub record Elsewhere : Type 0 where
    pub reply : List ℕ
    pub status : ℕ
    pub replied : Replied reply
    pub has_status : HasStatus reply status
    pub other : status ≢ 200
    pub kept : new.kept ≡ start

  -- a reply came that is neither good nor of another status than 200
  pub record BadReply : Type 0 where
    pub reply : List ℕ
    pub replied : Replied reply
    pub bad : IsBad (length sent) reply
    pub counted : new.bad ≡ one_more old.bad
    pub last : new.last_bad ≡ reply
    pub kept : new.kept ≡ start

  -- no reply came
  pub record NoReply : Type 0 where
    pub unreplied : Unreplied
    pub same : new.bad ≡ old.bad
    pub kept : new.kept ≡ start

  -- memory ran out, before or behind the request
  pub record Spent : Type 0 where
    pub reply : Option (List ℕ)
    pub part : GrowsInPart (asked old.peer) (asked new.peer) (exchange old.target.host (request_of old.target sent) reply ∷ [])
    pub kept : new.kept ≡ start

  abbrev pub Answers : Result Delivery DeliverFault → Type 0
  Answers (Ok (d.Took fates)) = Finishes fates
  Answers (Ok d.Later) = Waits ⊎ Elsewhere
  Answers (Err fault.Failed) = BadReply ⊎ NoReply
  Answers (Err fault.Memory) = Spent

-- each event that it took or rejected stood in a request whose good reply says so of it
abbrev pub AllWitnessed : Result Delivery DeliverFault → Target → Option (List Exchange) → List Ev → Type 0
AllWitnessed (Ok (d.Took fates)) target told events = Witnessed target told events (map Some fates)
AllWitnessed (Ok d.Later) target told events = Unit {0}
AllWitnessed (Err fault) target told events = Unit {0}
