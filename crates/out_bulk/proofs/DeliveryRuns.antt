-- A delivery, from the events that are handed in to what is answered.
use Rattle.std.proofs.Common.{◌≡◌, ℕ, List, [], ◌∷◌, ◌++◌, length, map, refl, sym, ap, subst, ◌∙◌, Option, Some, None, Result, Ok, Err, Vec, inl}
use Rattle.std.specs.Prelude.{Contains, IsErrAnd, option_map}
use Rattle.std.proofs.lemmas.Result.{err_from_is_err_and}
use Rattle.std.specs.declared.alloc.Global.{Global}
use Rattle.std.proofs.lemmas.List.{append-nil}
use Rattle.std.proofs.lemmas.Option.{none-some}
use Rattle.std.proofs.lemmas.List.Elements.{Contains-push}
use Rattle.io_traits.specs.Telling.{Grows, GrowsInPart}
use Rattle.bulk_replies.specs.Answers.{Answer, said_of}
use Rattle.bulk_replies.specs.Replies.{IsGood, Says}
use Rattle.bulk_replies.specs.declared.reply.Reply.{Reply}
use Rattle.bulk_replies.specs.declared.reply.Reply.TheVariants as r
use Rattle.bulk_replies.specs.declared.item_result.ItemResult.{ItemResult}
use Rattle.event_tree.specs.Events.{Ev}
use Rattle.foreign_parts.specs.Delivering.{Delivers, taken}
use Rattle.foreign_parts.specs.declared.output.Delivery.{Delivery}
use Rattle.foreign_parts.specs.declared.output.Delivery.TheVariants as d
use Rattle.foreign_parts.specs.declared.output.DeliverFault.{DeliverFault}
use Rattle.foreign_parts.specs.declared.output.DeliverFault.TheVariants as fault
use Rattle.out_bulk.specs.Batches.{IsKept, Witnessed}
use Rattle.out_bulk.specs.Deliveries.{Standing, Replied, GoodReply, Answers, AllWitnessed}
use Rattle.out_bulk.specs.Exchanges.{Exchange, exchange, Sends}
use Rattle.out_bulk.specs.Written.{IsRequest}
use Rattle.out_bulk.specs.declared.request.Request.{Request}
use Rattle.out_bulk.specs.Fates.{Settled, all_settled, fate_of, filled, open_in, settled_by}
use Rattle.out_bulk.specs.Requests.{request_of}
use Rattle.out_bulk.specs.Settings.{Target}
use Rattle.out_bulk.specs.Steps.{Settling, WasAnswered}
use Rattle.out_bulk.proofs.Keeping.{kept_later, now_witnessed, now_for, said_fates, settled_are, are_fates}

-- nothing is told where a peer is the same
nothing_told : {Q : Type 0} (asked : Q → Option (List Exchange)) (old new : Q) (all : List Exchange) → new ≡ old → GrowsInPart (asked old) (asked new) all
nothing_told asked old new all same = record { part = []; rest = all; whole = refl; grows = record { each = λ now is. (now, ap asked (sym same) ∙ is, sym (append-nil now)) } }

-- memory ran out
pub memory : (r : Result Delivery DeliverFault) → IsErrAnd r (λ e. e ≡ fault.Memory) → r ≡ Err fault.Memory
memory r is = let p = err_from_is_err_and r is in p.1 ∙ ap Err p.2

-- what is held grows by what was taken
more_held : {X : Type 0} (old : Option (List X)) (more : List X) → Grows old (option_map (λ held. held ++ more) old) more
more_held (Some held) more = record { each = λ now is. let same : held ++ more ≡ now = cc in (held, refl, sym same) }
more_held None more = record { each = λ now is. absurd (none-some now is) }

grows_by : {X : Type 0} (old new : Option (List X)) (more : List X) → new ≡ option_map (λ held. held ++ more) old → Grows old new more
grows_by old new more is = subst (λ x. Grows old x more) (sym is) (more_held old more)

grows_none : {X : Type 0} (old new : Option (List X)) → new ≡ old → Grows old new []
grows_none old new same = record { each = λ now is. (now, sym same ∙ is, sym (append-nil now)) }

-- the request was sent and a reply came
pub record Heard {Q : Type 0} (asked : Q → Option (List Exchange)) (events : List Ev) (old begun heard : Standing Q) (count : ℕ) (bytes reply : List ℕ) : Type 0 where
  pub begins : begun ≡ record old { kept = begun.kept }
  pub of_these : IsKept begun.target (asked begun.peer) (record { events = events; settled = begun.kept.settled })
  pub is_request : bytes ≡ request_of begun.target (open_in events begun.kept.settled)
  pub is_count : count ≡ length (open_in events begun.kept.settled)
  pub hears : heard ≡ record begun { peer = heard.peer }
  pub sends : Grows (asked begun.peer) (asked heard.peer) (exchange begun.target.host bytes (Some reply) ∷ [])

pub heard_from : {Q : Type 0} (asked : Q → Option (List Exchange)) (events : List Ev) (old begun heard : Standing Q) (request : Request) (bytes : List ℕ) (reply : Vec ℕ Global) → begun ≡ record old { kept = begun.kept } → IsKept begun.target (asked begun.peer) (record { events = events; settled = begun.kept.settled })
    → IsRequest begun.target (open_in events begun.kept.settled) request → heard ≡ record begun { peer = heard.peer } → bytes ≡ request.bytes.items → Sends (Ok reply) begun.target.host bytes (asked begun.peer) (asked heard.peer) → Heard asked events old begun heard request.count request.bytes.items reply.items
heard_from asked events old begun heard request bytes reply begins of_these is hears same sends = record {
  begins = begins;
  of_these = of_these;
  is_request = is.bytes;
  is_count = is.count;
  hears = hears;
  sends = subst (λ b. Grows (asked begun.peer) (asked heard.peer) (exchange begun.target.host b (Some reply.items) ∷ [])) same sends;
}

pub says_good : (count : ℕ) (bytes reply : List ℕ) (found : Reply) (said : List ItemResult) → bytes ≡ reply → found ≡ r.Good said → Says count bytes found → Says count reply (r.Good said)
says_good count bytes reply found said same is says = subst (Says count reply) is (subst (λ b. Says count b found) same says)

-- memory ran out before the request was written
pub unsent : {Q : Type 0} (asked : Q → Option (List Exchange)) (events : List Ev) (old begun : Standing Q) → begun ≡ record old { kept = begun.kept } → (r : Result Delivery DeliverFault) → r ≡ Err fault.Memory → Answers asked events old begun begun.kept r
unsent asked events old begun begins r is = subst (Answers asked events old begun begun.kept) (sym is) (record { reply = None; part = nothing_told asked old.peer begun.peer _ (ap (λ s. s.peer) begins); kept = refl })

module _ {Q : Type 0} (asked : Q → Option (List Exchange)) (events : List Ev) (old begun heard : Standing Q) (count : ℕ) (bytes reply : List ℕ) (h : Heard asked events old begun heard count bytes reply) where
  abbrev sent : List Ev
  sent = open_in events begun.kept.settled

  target_same : begun.target ≡ old.target
  target_same = ap (λ s. s.target) h.begins

  -- the one exchange of the call, as it is told of the beginning and the end
  pub replied : (new : Standing Q) → new.peer ≡ heard.peer → Replied asked events old new begun.kept reply
  replied new same =
      let ends : Grows (asked begun.peer) (asked new.peer) (exchange begun.target.host bytes (Some reply) ∷ []) = subst (λ p. Grows (asked begun.peer) (asked p) (exchange begun.target.host bytes (Some reply) ∷ [])) (sym same) h.sends in
      let begins : Grows (asked old.peer) (asked new.peer) (exchange begun.target.host bytes (Some reply) ∷ []) = subst (λ p. Grows (asked p) (asked new.peer) (exchange begun.target.host bytes (Some reply) ∷ [])) (ap (λ s. s.peer) h.begins) ends in
      let asks : Grows (asked old.peer) (asked new.peer) (exchange begun.target.host (request_of begun.target sent) (Some reply) ∷ []) = subst (λ b. Grows (asked old.peer) (asked new.peer) (exchange begun.target.host b (Some reply) ∷ [])) h.is_request begins in
      subst (λ (t : Target). Grows (asked old.peer) (asked new.peer) (exchange t.host (request_of t sent) (Some reply) ∷ [])) target_same asks

  -- memory ran out behind it
  pub spent : (new : Standing Q) → new ≡ heard → (r : Result Delivery DeliverFault) → r ≡ Err fault.Memory → Answers asked events old new begun.kept r
  spent new same r is = subst (Answers asked events old new begun.kept) (sym is) (record {
    reply = Some reply;
    part = record { part = exchange old.target.host (request_of old.target sent) (Some reply) ∷ []; rest = []; whole = refl; grows = replied new (ap (λ s. s.peer) same) };
    kept = ap (λ s. s.kept) (same ∙ h.hears);
  })

  made : (told : List Exchange) → asked heard.peer ≡ Some told → Contains told (exchange begun.target.host (request_of begun.target sent) (Some reply))
  made told is =
      let g = h.sends.each told is in
      subst (λ b. Contains told (exchange begun.target.host b (Some reply))) h.is_request (subst (λ xs. Contains xs (exchange begun.target.host bytes (Some reply))) (sym g.2) (Contains-push g.0 (exchange begun.target.host bytes (Some reply))))

  kept_now : IsKept begun.target (asked heard.peer) (record { events = events; settled = begun.kept.settled })
  kept_now = kept_later begun.target (asked begun.peer) (asked heard.peer) _ (record { events = events; settled = begun.kept.settled }) h.sends h.of_these

  -- what is said of the events that were sent
  pub was_answered : (said : List ItemResult) (answers : List Answer) → IsGood count reply answers → said ≡ map said_of answers → WasAnswered asked events heard said
  was_answered said answers good is =
      let good_reply : IsGood (length sent) reply answers = subst (λ n. IsGood n reply answers) h.is_count good in
      let one : WasAnswered asked events (record begun { peer = heard.peer }) said = record { of_these = kept_now; reply = reply; answers = answers; made = made; good = good_reply; said_is = is } in
      subst (λ (s : Standing Q). WasAnswered asked events s said) (sym h.hears) one

  -- and what is made of that
  module _ (new : Standing Q) (said : List ItemResult) (answers : List Answer) (good : IsGood count reply answers) (is : said ≡ map said_of answers) where
    abbrev all : Settled
    all = filled begun.kept.settled (map fate_of answers)

    good_reply : IsGood (length sent) reply answers
    good_reply = subst (λ n. IsGood n reply answers) h.is_count good

    all_is : filled heard.kept.settled (map settled_by said) ≡ all
    all_is = ap (λ (s : Standing Q). filled s.kept.settled (map settled_by said)) h.hears ∙ ap (filled begun.kept.settled) (said_fates answers said is)

    replies : new.peer ≡ heard.peer → GoodReply asked events old new begun.kept answers
    replies same = record { reply = reply; replied = replied new same; good = good_reply }

    pub settles : (x : Delivery) → Settling events (filled heard.kept.settled (map settled_by said)) heard new (Ok x) → Answers asked events old new begun.kept (Ok x)
    settles (d.Took fates) s = record { answers = answers; good = replies (ap (λ n. n.peer) s.1); fates_are = ap all_settled (sym all_is) ∙ s.0; kept = ap (λ n. n.kept) s.1 }
    settles d.Later s = inl (record { answers = answers; good = replies (ap (λ n. n.peer) s.1); unsettled = ap all_settled (sym all_is) ∙ s.0; kept = ap (λ n. n.kept) s.1 ∙ ap (λ fs. record { events = events; settled = fs }) all_is })

    pub witnesses : (x : Delivery) → Settling events (filled heard.kept.settled (map settled_by said)) heard new (Ok x) → AllWitnessed (Ok x) old.target (asked new.peer) events
    witnesses (d.Took fates) s =
        let now : Witnessed begun.target (asked heard.peer) events all = now_witnessed begun.target (asked heard.peer) events begun.kept.settled kept_now reply answers made good_reply in
        let here : Witnessed old.target (asked heard.peer) events all = subst (λ t. Witnessed t (asked heard.peer) events all) target_same now in
        let there : Witnessed old.target (asked new.peer) events all = subst (λ p. Witnessed old.target (asked p) events all) (sym (ap (λ n. n.peer) s.1)) here in
        subst (Witnessed old.target (asked new.peer) events) (settled_are all fates (ap all_settled (sym all_is) ∙ s.0)) there
    witnesses d.Later s = tt

    held_same : heard.held ≡ old.held
    held_same = ap (λ s. s.held) h.hears ∙ ap (λ s. s.held) h.begins

    pub holds : (x : Delivery) → Settling events (filled heard.kept.settled (map settled_by said)) heard new (Ok x) → Delivers (Ok x) events old.held new.held
    holds (d.Took fates) s = (
      are_fates events all fates (ap all_settled (sym all_is) ∙ s.0) (now_for begun.target (asked heard.peer) events begun.kept.settled kept_now reply answers made good_reply),
      grows_by old.held new.held (taken fates events) (ap (λ n. n.held) s.1 ∙ ap (option_map (λ held. held ++ taken fates events)) held_same),
    )
    holds d.Later s = grows_none old.held new.held (ap (λ n. n.held) s.1 ∙ held_same)
