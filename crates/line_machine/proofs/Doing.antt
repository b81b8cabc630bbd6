-- What a line does is legal, behind each step.
use Rattle.std.proofs.Common.{◌≡◌, ◌≢◌, ◌⊎◌, inl, inr, ⊎_elim, ℕ, zero, suc, ◌+◌, ◌≤◌, ◌<◌, ◌==◌, Bool, true, false, List, [], ◌∷◌, ◌++◌, length, Option, Some, None, if◌then◌else◌, refl, sym, ap, ◌∙◌, subst, arith}
use Rattle.std.specs.Prelude.{⊤}
use Rattle.std.proofs.lemmas.Bool.{eqb-true, eq-eqb}
use Rattle.std.proofs.lemmas.Option.{same_Some}
use Rattle.event_tree.specs.Events.{Ev}
use Rattle.event_tree.specs.declared.lists.DeadPart.{DeadPart}
use Rattle.foreign_parts.specs.declared.place.Place.{Place}
use Rattle.foreign_parts.specs.declared.place.Place.TheVariants as place
use Rattle.pipeline_bus.specs.Parcels.{is_last, filled, with_events, HasNextNumber, IsInTurn}
use Rattle.pipeline_bus.specs.declared.parcel.Answer.{Answer}
use Rattle.pipeline_bus.specs.declared.parcel.Heard.TheVariants.{Assured, NotListening}
use Rattle.pipeline_bus.specs.declared.parcel.Parcel.{Parcel}
use Rattle.pipeline_bus.proofs.Numbers.{counted_more}
use Rattle.event_flow.specs.Meaning.{Makes, Due}
use Rattle.event_flow.specs.Meaning as due
use Rattle.dead_letters.specs.Appends.{kept_from}
use Rattle.history_book.specs.Contents.{Bytes}
use Rattle.history_book.specs.Deeds.{Deed, Tell, Send, Hear, told_of, tell_all, Mail, no_mail, mail_next, mail_after, sent_on, heard_on, Assurance, assured_by, IsNextFor, Leaves}
use Rattle.history_book.specs.Entries.{Entry, Deliver, Letters, Opened}
use Rattle.history_book.specs.Legal.{rejections, Legal_at, Legal}
use Rattle.history_book.specs.Links.{Listening}
use Rattle.history_book.specs.Lists.{IsIn}
use Rattle.history_book.specs.Sound.{Places}
use Rattle.history_book.specs.States.{State, start, next, after}
use Rattle.history_book.specs.Steps.{NoOpening}
use Rattle.history_book.proofs.Histories.{legal_rest}
use Rattle.history_book.proofs.Lists.{in_front, in_behind, in_either}
use Rattle.history_book.proofs.Mailing.{mail_both, did_more}
use Rattle.history_book.proofs.Outs.{out_in}
use Rattle.line_machine.specs.Doing.{WasSent, IsAssured, AllDiffer, IsSent, IsOnItsWay, IsHeardOf, IsMail, DoesLegally, deeds_of, OpenedDoesLegally, DoesLegallyStill}
use Rattle.line_machine.specs.Effects.{shed_told, one_less, in_parcel, without_kit, back_with, new_batch}
use Rattle.line_machine.specs.Ends.{SenderView, MaySend, sender_at, change_sender, with_sent, with_heard}
use Rattle.line_machine.specs.Finds.{IsPlain, IsHome, AreUnused}
use Rattle.line_machine.specs.Openings.{opening}
use Rattle.line_machine.specs.Stands.{Stands}
use Rattle.line_machine.specs.Steps as m
use Rattle.line_machine.specs.Steps.{Step, effect, GoesOn}
use Rattle.line_machine.specs.Views.{Batch, LineView, batch_of, change_batch, without_batch}
use Rattle.line_machine.proofs.Batches.{beside}
use Rattle.line_machine.proofs.Boxes.{without_has}
use Rattle.line_machine.proofs.Openings.{opened_line_stands}
use Rattle.line_machine.proofs.Since.{unopened}
use Rattle.line_machine.proofs.Steps.{steps_follow}
use Rattle.line_machine.proofs.BatchLists.{differs, none_some, differ_end, numbers_of, of_number, found_in, numbers_kept, batch_changed, batch_behind, changed_there, without_differ, without_other, same_batch}
use Rattle.line_machine.proofs.Senders.{sender_changed, sender_behind, none_before, address_of, sender_in, sender_front, sender_either, Grows, sent_grows, heard_grows, sent_still, as_sent, is_to_address, plain_is, same_events, same_place, IsSplit, split_at, left_other, assured_in, mail_told_all, on_same, on_other, from_same, from_other}

-- ---- entries that deliver nothing to an address

abbrev NoAddress : List Entry → Type 0
NoAddress [] = ⊤
NoAddress (Deliver batch (place.Address address) events fates ∷ told) = ⊥
NoAddress (e ∷ told) = NoAddress told

module _ (makes : Makes) where
  leaves_told : (s : State) (m : Mail) (unused : List Assurance) (told : List Entry) → Legal makes s told → NoOpening told → NoAddress told → Leaves makes s m unused (tell_all told) unused
  leaves_told s m unused [] legal none no_address = refl
  leaves_told s m unused (Opened rows limit policy ∷ told) legal none no_address = absurd none
  leaves_told s m unused (Deliver batch (place.Address address) events fates ∷ told) legal none no_address = absurd no_address
  leaves_told s m unused (Deliver batch place.Stdout events fates ∷ told) legal none no_address = (legal.0, (unused, refl, leaves_told _ m unused told legal.1 none no_address))
  leaves_told s m unused (Deliver batch (place.File path) events fates ∷ told) legal none no_address = (legal.0, (unused, refl, leaves_told _ m unused told legal.1 none no_address))
  leaves_told s m unused (Deliver batch (place.Foreign number) events fates ∷ told) legal none no_address = (legal.0, (unused, refl, leaves_told _ m unused told legal.1 none no_address))
  leaves_told s m unused (Deliver batch place.Discard events fates ∷ told) legal none no_address = (legal.0, (unused, refl, leaves_told _ m unused told legal.1 none no_address))
  leaves_told s m unused (Deliver batch place.Dead events fates ∷ told) legal none no_address = (legal.0, (unused, refl, leaves_told _ m unused told legal.1 none no_address))
  leaves_told s m unused (e ∷ told) legal none no_address = (legal.0, (unused, refl, leaves_told (next makes s e) m unused told legal.1 none no_address))

letters_no_address : (n older : ℕ) (newer : List ℕ) (letters : List DeadPart) (rest : List Entry) → NoAddress rest → NoAddress ((shed_told n older newer ++ Letters n letters ∷ []) ++ rest)
letters_no_address n zero [] letters rest none = none
letters_no_address n zero (x ∷ newer) letters rest none = none
letters_no_address n (suc older) newer letters rest none = none

shed_no_address : (n older : ℕ) (newer : List ℕ) (rest : List Entry) → NoAddress rest → NoAddress (shed_told n older newer ++ rest)
shed_no_address n zero [] rest none = none
shed_no_address n zero (x ∷ newer) rest none = none
shed_no_address n (suc older) newer rest none = none

-- ---- batches

module _ (makes : Makes) (earlier : List Entry) (deeds : List Deed) (batches : List Batch) (senders : List SenderView) (is : DoesLegally makes earlier deeds batches senders) where
  abbrev WasHeardOf : List ℕ → ℕ → Type 0
  WasHeardOf address number = (s : SenderView) → sender_at address senders ≡ Some s → (a : Answer) × IsIn a s.sends.heard × (a.number ≡ number)

  abbrev IsAsBefore : Batch → Batch → Type 0
  IsAsBefore u b = (u.number ≡ b.number) × (u.parcel ≡ b.parcel) × (u.left ≡ b.left) × (u.verdicts ≡ b.verdicts)

  -- batches that wait for a parcel are those that did, but for some whose parcel was heard of
  pub record WaitAsBefore (now : List Batch) : Type 0 where
    pub differ : AllDiffer (numbers_of now)
    pub from : (u : Batch) → IsIn u now → (u.parcel ≡ None) ⊎ ((b : Batch) × IsIn b batches × IsAsBefore u b)
    pub to : (b : Batch) → IsIn b batches → (address : List ℕ) (number : ℕ) → IsSent b address number → ((u : Batch) × IsIn u now × IsSent u address number) ⊎ WasHeardOf address number

  abbrev mail_now : Mail
  mail_now = mail_after no_mail deeds

  abbrev s : State
  s = after makes start (told_of deeds)

  module _ (now : List Batch) (waits : WaitAsBefore now) where
    abbrev Before : Batch → List ℕ → ℕ → List Ev → Type 0
    Before u address number events = (b : Batch) × IsIn b batches × (u.number ≡ b.number) × (sent : IsSent b address number) × (sent.events ≡ events)

    before : (u : Batch) → IsIn u now → (address : List ℕ) (number : ℕ) (sent : IsSent u address number) → Before u address number sent.events
    before u has address number sent = ⊎_elim (λ (none : u.parcel ≡ None). absurd (none_some number (sym none ∙ sent.parcel)))
        (λ (c : (b : Batch) × IsIn b batches × IsAsBefore u b). (c.0, c.1, c.2.0, as_sent u c.0 address number (sym c.2.1) (sym c.2.2) sent, refl)) (waits.from u has)

    way_still : (u : Batch) → IsIn u now → IsOnItsWay senders u
    way_still u has = ⊎_elim (λ (none : u.parcel ≡ None). λ number is_it. absurd (none_some number (sym none ∙ is_it)))
        (λ (c : (b : Batch) × IsIn b batches × IsAsBefore u b).
        λ number is_it. let way = is.on_the_way c.0 c.1 number (sym c.2.1 ∙ is_it) in (way.0, as_sent c.0 u way.0 number c.2.1 c.2.2 way.1, way.2, way.3, way.4)) (waits.from u has)

    away_still : (u : Batch) → IsIn u now → u.verdicts ≡ None → u.parcel ≡ None
    away_still u has none = ⊎_elim (λ (no : u.parcel ≡ None). no)
        (λ (c : (b : Batch) × IsIn b batches × IsAsBefore u b). c.2.1 ∙ is.away c.0 c.1 (sym c.2.3 ∙ none)) (waits.from u has)

    apart_still : (u v : Batch) → IsIn u now → IsIn v now → u.number ≢ v.number → (address : List ℕ) (number : ℕ) → IsSent u address number → IsSent v address number → ⊥
    apart_still u v i j other address number sent_u sent_v =
        let b = before u i address number sent_u in
        let c = before v j address number sent_v in
        is.apart b.0 c.0 b.1 c.1 (λ same. other (b.2 ∙ same ∙ sym c.2)) address number b.3 c.3

    heard_still : (address : List ℕ) (x : SenderView) → sender_at address senders ≡ Some x → (p : Parcel) → IsHeardOf batches address x.sends p → IsHeardOf now address x.sends p
    heard_still address x at p (inl a) = inl a
    heard_still address x at p (inr b) = ⊎_elim (λ (u : (u : Batch) × IsIn u now × IsSent u address p.number). inr u) (λ (heard : WasHeardOf address p.number). inl (heard x at)) (waits.to b.0 b.1 address p.number b.2)

    -- where no delivery to an address is told, and nothing goes through an end
    frame : (more : List Deed) → Leaves makes s mail_now is.left more is.left → mail_after mail_now more ≡ mail_now → DoesLegally makes earlier (deeds ++ more) now senders
    frame more leaves same =
        let mail_is = mail_both no_mail deeds more ∙ same in
        record {
          left = is.left;
          legal = did_more makes earlier deeds more is.left is.left is.legal leaves;
          mail = λ address x at.
              let old = is.mail address x at in
              record { sent = old.sent ∙ ap (λ (m : Mail). sent_on address m.sent) (sym mail_is); heard = old.heard ∙ ap (λ (m : Mail). heard_on address m.heard) (sym mail_is) };
          none = λ address at. let old = is.none address at in (ap (λ (m : Mail). sent_on address m.sent) mail_is ∙ old.0, ap (λ (m : Mail). heard_on address m.heard) mail_is ∙ old.1);
          differ = waits.differ;
          away = away_still;
          on_the_way = way_still;
          apart = apart_still;
          numbered = is.numbered;
          answered = is.answered;
          heard = λ address x at p has some. heard_still address x at p (is.heard address x at p has some);
          unused = λ u has address number sent x at assured.
              let b = before u has address number sent in
              subst (λ es. IsIn (record { address = address; number = number; events = es }) is.left) b.4 (is.unused b.0 b.1 address number b.3 x at assured);
        }

    -- entries alone
    tells : (told : List Entry) → Legal makes s told → NoOpening told → NoAddress told → DoesLegally makes earlier (deeds ++ tell_all told) now senders
    tells told legal none no_address = frame (tell_all told) (leaves_told makes s mail_now is.left told legal none no_address) (mail_told_all mail_now told none)

  as_before : WaitAsBefore batches
  as_before = record {
    differ = is.differ;
    from = λ u has. inr (u, has, (refl, refl, refl, refl));
    to = λ b has address number sent. inl (b, has, sent);
  }

  -- one batch is changed: its parcel stays, or it waits for none any more, and if it waited for one that was heard of
  one_waits : (f : Batch → Batch) → ((b : Batch) → (f b).number ≡ b.number) → (n : ℕ) (b : Batch) → batch_of n batches ≡ Some b → ((f b).parcel ≡ None) ⊎ IsAsBefore (f b) b
      → ((address : List ℕ) (number : ℕ) → IsSent b address number → IsSent (f b) address number ⊎ WasHeardOf address number) → WaitAsBefore (change_batch f n batches)
  one_waits f keeps n b found now to = record {
    differ = subst AllDiffer (sym (numbers_kept f keeps n batches)) is.differ;
    from = λ u has. ⊎_elim (λ (o : IsIn u batches × (u.number ≡ n → ⊥)). inr (u, o.0, (refl, refl, refl, refl)))
        (λ (c : (x : Batch) × (batch_of n batches ≡ Some x) × IsIn x batches × (u ≡ f x)).
        let its = c.3 ∙ ap f (sym (same_Some b c.0 (sym found ∙ c.1))) in
        ⊎_elim (λ (none : (f b).parcel ≡ None). inl (ap (λ (y : Batch). y.parcel) its ∙ none))
        (λ (same : IsAsBefore (f b) b). inr (b, (found_in n b batches found).0, subst (λ y. IsAsBefore y b) (sym its) same)) now)
        (batch_changed f keeps n batches is.differ u has);
    to = λ c has address number sent. by_same c has address number sent (c.number == n) refl;
  }
    where
      by_same : (c : Batch) → IsIn c batches → (address : List ℕ) (number : ℕ) → IsSent c address number → (t : Bool) → (c.number == n) ≡ t
          → ((u : Batch) × IsIn u (change_batch f n batches) × IsSent u address number) ⊎ WasHeardOf address number
      by_same c has address number sent true test =
          let its = found_in n b batches found in
          let one = same_batch batches is.differ c b has its.0 (eqb-true c.number n test ∙ sym its.1) in
          ⊎_elim (λ (still : IsSent (f b) address number). inl (f b, changed_there f keeps n batches b found, still)) (λ (heard : WasHeardOf address number). inr heard)
          (to address number (subst (λ x. IsSent x address number) one sent))
      by_same c has address number sent false test = inl (c, batch_behind f keeps n batches c has (λ same. differs (sym (eq-eqb c.number n same) ∙ test)), sent)

  -- one that waits for none is changed, or leaves
  none_waits : (f : Batch → Batch) → ((b : Batch) → (f b).number ≡ b.number) → (n : ℕ) (b : Batch) → batch_of n batches ≡ Some b → b.parcel ≡ None → (f b).parcel ≡ None → WaitAsBefore (change_batch f n batches)
  none_waits f keeps n b found none now = one_waits f keeps n b found (inl now) (λ address number sent. absurd (none_some number (sym none ∙ sent.parcel)))

  none_left : (n : ℕ) (b : Batch) → batch_of n batches ≡ Some b → b.parcel ≡ None → WaitAsBefore (without_batch n batches)
  none_left n b found none = record {
    differ = without_differ n batches is.differ;
    from = λ u has. inr (u, without_has n batches u has, (refl, refl, refl, refl));
    to = λ c has address number sent. by_same c has address number sent (c.number == n) refl;
  }
    where
      by_same : (c : Batch) → IsIn c batches → (address : List ℕ) (number : ℕ) → IsSent c address number → (t : Bool) → (c.number == n) ≡ t
          → ((u : Batch) × IsIn u (without_batch n batches) × IsSent u address number) ⊎ WasHeardOf address number
      by_same c has address number sent true test =
          let its = found_in n b batches found in
          let one = same_batch batches is.differ c b has its.0 (eqb-true c.number n test ∙ sym its.1) in
          absurd (none_some number (sym none ∙ sym (ap (λ (y : Batch). y.parcel) one) ∙ sent.parcel))
      by_same c has address number sent false test = inl (c, without_other n batches c has (λ same. differs (sym (eq-eqb c.number n same) ∙ test)), sent)

  one_more_waits : (new : Batch) → (IsIn new.number (numbers_of batches) → ⊥) → new.parcel ≡ None → WaitAsBefore (batches ++ new ∷ [])
  one_more_waits new other none = record {
    differ = subst AllDiffer (sym (numbers_end batches)) (differ_end (numbers_of batches) new.number is.differ other);
    from = λ u has. ⊎_elim (λ (j : IsIn u batches). inr (u, j, (refl, refl, refl, refl)))
        (λ (j : IsIn u (new ∷ [])). ⊎_elim (λ (e : u ≡ new). inl (ap (λ (y : Batch). y.parcel) e ∙ none)) (λ (never : ⊥). absurd never) j) (in_either u batches (new ∷ []) has);
    to = λ b has address number sent. inl (b, in_front b batches (new ∷ []) has, sent);
  }
    where
      numbers_end : (bs : List Batch) → numbers_of (bs ++ new ∷ []) ≡ numbers_of bs ++ new.number ∷ []
      numbers_end [] = refl
      numbers_end (b ∷ bs) = ap (λ l. b.number ∷ l) (numbers_end bs)

  -- one whose next delivery is to no address waits for none
  no_parcel : (b : Batch) → IsIn b batches → (left : List Due) → b.left ≡ left → is_to_address left ≡ false → b.parcel ≡ None
  no_parcel b has left left_is none = by_parcel b.parcel refl
    where
      by_parcel : (o : Option ℕ) → b.parcel ≡ o → b.parcel ≡ None
      by_parcel None e = e
      by_parcel (Some number) e = let way = is.on_the_way b has number e in absurd (differs (sym (ap is_to_address (sym left_is ∙ way.1.next)) ∙ none))

  -- ---- further ends

  with_ends : (more : List SenderView) → AreUnused more → (told : List Entry) → Legal makes s told → NoOpening told → NoAddress told → DoesLegally makes earlier (deeds ++ tell_all told) batches (senders ++ more)
  with_ends more unused told legal none_opened no_address =
      let old = tells batches as_before told legal none_opened no_address in
      record {
        left = old.left;
        legal = old.legal;
        mail = λ address x at. ⊎_elim (λ (was : sender_at address senders ≡ Some x). old.mail address x was)
            (λ (new : (sender_at address senders ≡ None) × IsIn x more).
            let none = old.none address new.0 in let clean = unused x new.1 in record { sent = clean.0 ∙ sym none.0; heard = clean.1 ∙ sym none.1 }) (sender_either address senders more x at);
        none = λ address at. old.none address (none_there address at);
        differ = old.differ;
        away = old.away;
        on_the_way = λ b has number is_it. let way = old.on_the_way b has number is_it in (way.0, way.1, way.2, sender_front way.0 senders more way.2 way.3, way.4);
        apart = old.apart;
        numbered = λ address x at p has some. ⊎_elim (λ (was : sender_at address senders ≡ Some x). old.numbered address x was p has some)
            (λ (new : (sender_at address senders ≡ None) × IsIn x more). absurd (subst (IsIn p) (unused x new.1).0 has)) (sender_either address senders more x at);
        answered = λ address x at a has. ⊎_elim (λ (was : sender_at address senders ≡ Some x). old.answered address x was a has)
            (λ (new : (sender_at address senders ≡ None) × IsIn x more). absurd (subst (IsIn a) (unused x new.1).1 has)) (sender_either address senders more x at);
        heard = λ address x at p has some. ⊎_elim (λ (was : sender_at address senders ≡ Some x). old.heard address x was p has some)
            (λ (new : (sender_at address senders ≡ None) × IsIn x more). absurd (subst (IsIn p) (unused x new.1).0 has)) (sender_either address senders more x at);
        unused = λ b has address number sent x at assured. ⊎_elim (λ (was : sender_at address senders ≡ Some x). old.unused b has address number sent x was assured)
            (λ (new : (sender_at address senders ≡ None) × IsIn x more). absurd (subst (IsIn (record { number = number; answer = Assured })) (unused x new.1).1 assured)) (sender_either address senders more x at);
      }
    where
      none_there : (address : List ℕ) → sender_at address (senders ++ more) ≡ None → sender_at address senders ≡ None
      none_there address none = by_was (sender_at address senders) refl
        where
          by_was : (o : Option SenderView) → sender_at address senders ≡ o → sender_at address senders ≡ None
          by_was None at = at
          by_was (Some x) at = absurd (none_some x (sym none ∙ sender_front address senders more x at))

  -- ---- a parcel is sent

  -- an end of now, and what it was, where the end of an address is changed
  module _ (address : List ℕ) (f : SenderView → SenderView) (keeps : (x : SenderView) → (f x).address ≡ x.address) where
    abbrev now_senders : List SenderView
    now_senders = change_sender f address senders

    abbrev Was : List ℕ → SenderView → Type 0
    Was other u = ((sender_at other senders ≡ Some u) × (other ≡ address → ⊥)) ⊎ ((other ≡ address) × (x : SenderView) × (sender_at address senders ≡ Some x) × (u ≡ f x))

    was : (other : List ℕ) (u : SenderView) → sender_at other now_senders ≡ Some u → Was other u
    was other u at = sender_changed f keeps address other senders u at

    -- none was, and it isn't the one that is there
    no_end : (x : SenderView) → sender_at address senders ≡ Some x → (other : List ℕ) → sender_at other now_senders ≡ None → (sender_at other senders ≡ None) × (other ≡ address → ⊥)
    no_end x at other none =
        let before_it = none_before f keeps address other senders none in
        (before_it, λ same. none_some x (sym before_it ∙ ap (λ a. sender_at a senders) same ∙ at))

    -- what a batch waits for was sent there still
    way_grows : ((x : SenderView) → Grows x.sends (f x).sends) → (b : Batch) → IsOnItsWay senders b → IsOnItsWay now_senders b
    way_grows grows b old number is_it =
        let way = old number is_it in
        let u = sender_behind f keeps address way.0 senders way.2 way.3 in (
          way.0,
          way.1,
          u.0,
          u.1,
          ⊎_elim (λ (e : u.0 ≡ way.2). subst (λ (y : SenderView). WasSent y.sends number way.1.events) (sym e) way.4)
              (λ (e : u.0 ≡ f way.2). subst (λ (y : SenderView). WasSent y.sends number way.1.events) (sym e) (sent_still way.2.sends (f way.2).sends number way.1.events (grows way.2) way.4)) u.2,
        )

  module _ (address : List ℕ) (p : Parcel) (may : MaySend address p senders) (due_now : is_last p ≡ false → IsNextFor s address p.events) where
    abbrev deed : Deed
    deed = Send address p

    abbrev sent_now : List SenderView
    sent_now = change_sender (with_sent p) address senders

    abbrev its : IsMail deeds address may.sender.sends
    its = is.mail address may.sender may.has

    sender_is : address ≡ may.sender.address
    sender_is = address_of address may.sender senders may.has

    leaves : Leaves makes s mail_now is.left (deed ∷ []) is.left
    leaves = (record { address_is = may.address_is ∙ sym sender_is; in_turn = subst (λ ps. HasNextNumber ps p) its.sent may.next; due = due_now }, refl)

    mail_is : mail_after no_mail (deeds ++ deed ∷ []) ≡ mail_next mail_now deed
    mail_is = mail_both no_mail deeds (deed ∷ [])

    sent_mail : (other : List ℕ) (u : SenderView) → sender_at other sent_now ≡ Some u → IsMail (deeds ++ deed ∷ []) other u.sends
    sent_mail other u at = ⊎_elim
        (λ (o : (sender_at other senders ≡ Some u) × (other ≡ address → ⊥)).
        let old = is.mail other u o.0 in record {
          sent = old.sent ∙ sym (on_other address other mail_now.sent p o.1) ∙ ap (λ (m : Mail). sent_on other m.sent) (sym mail_is);
          heard = old.heard ∙ ap (λ (m : Mail). heard_on other m.heard) (sym mail_is);
        })
        (λ (c : (other ≡ address) × (x : SenderView) × (sender_at address senders ≡ Some x) × (u ≡ with_sent p x)).
        let old = is.mail address c.1 c.2 in
        subst (λ a. IsMail (deeds ++ deed ∷ []) a u.sends) (sym c.0) (subst (λ (y : SenderView). IsMail (deeds ++ deed ∷ []) address y.sends) (sym c.3) (record {
          sent = ap (λ l. l ++ p ∷ []) old.sent ∙ sym (on_same address mail_now.sent p) ∙ ap (λ (m : Mail). sent_on address m.sent) (sym mail_is);
          heard = old.heard ∙ ap (λ (m : Mail). heard_on address m.heard) (sym mail_is);
        }))) (was address (with_sent p) (λ x. refl) other u at)

    sent_none : (other : List ℕ) → sender_at other sent_now ≡ None → (sent_on other (mail_after no_mail (deeds ++ deed ∷ [])).sent ≡ []) × (heard_on other (mail_after no_mail (deeds ++ deed ∷ [])).heard ≡ [])
    sent_none other at =
        let no = no_end address (with_sent p) (λ x. refl) may.sender may.has other at in
        let old = is.none other no.0 in (
          ap (λ (m : Mail). sent_on other m.sent) mail_is ∙ on_other address other mail_now.sent p no.1 ∙ old.0,
          ap (λ (m : Mail). heard_on other m.heard) mail_is ∙ old.1,
        )

    -- the numbers of parcels, and how many have events
    counted : (x : SenderView) → with_events (with_sent p x).sends.sent ≡ with_events x.sends.sent + filled p
    counted x = counted_more x.sends.sent p

    one_sender : (x : SenderView) → sender_at address senders ≡ Some x → x ≡ may.sender
    one_sender x at = same_Some x may.sender (sym at ∙ may.has)

    -- the last of them is the new one
    sent_or_new : (other : List ℕ) (u : SenderView) → sender_at other sent_now ≡ Some u → (q : Parcel) → IsIn q u.sends.sent
        → ((x : SenderView) × (sender_at other senders ≡ Some x) × IsIn q x.sends.sent × Grows x.sends u.sends) ⊎ ((q ≡ p) × (other ≡ address) × (u ≡ with_sent p may.sender))
    sent_or_new other u at q has = ⊎_elim
        (λ (o : (sender_at other senders ≡ Some u) × (other ≡ address → ⊥)). inl (u, o.0, has, record { sent = λ r i. i; heard = λ a i. i; more = omega arith }))
        (λ (c : (other ≡ address) × (x : SenderView) × (sender_at address senders ≡ Some x) × (u ≡ with_sent p x)). ⊎_elim
        (λ (i : IsIn q c.1.sends.sent). inl (c.1, ap (λ a. sender_at a senders) c.0 ∙ c.2, i, subst (λ (y : SenderView). Grows c.1.sends y.sends) (sym c.3) (sent_grows p c.1)))
        (λ (i : IsIn q (p ∷ [])). ⊎_elim (λ (e : q ≡ p). inr (e, c.0, c.3 ∙ ap (with_sent p) (one_sender c.1 c.2))) (λ (never : ⊥). absurd never) i)
        (in_either q c.1.sends.sent (p ∷ []) (subst (λ (y : SenderView). IsIn q y.sends.sent) c.3 has))) (was address (with_sent p) (λ x. refl) other u at)

    heard_before : (other : List ℕ) (u : SenderView) → sender_at other sent_now ≡ Some u → (x : SenderView) × (sender_at other senders ≡ Some x) × (u.sends.heard ≡ x.sends.heard) × Grows x.sends u.sends
    heard_before other u at = ⊎_elim
        (λ (o : (sender_at other senders ≡ Some u) × (other ≡ address → ⊥)). (u, o.0, refl, record { sent = λ r i. i; heard = λ a i. i; more = omega arith }))
        (λ (c : (other ≡ address) × (x : SenderView) × (sender_at address senders ≡ Some x) × (u ≡ with_sent p x)).
        (c.1, ap (λ a. sender_at a senders) c.0 ∙ c.2, ap (λ (y : SenderView). y.sends.heard) c.3, subst (λ (y : SenderView). Grows c.1.sends y.sends) (sym c.3) (sent_grows p c.1)))
        (was address (with_sent p) (λ x. refl) other u at)

    sent_answered : (other : List ℕ) (u : SenderView) → sender_at other sent_now ≡ Some u → (a : Answer) → IsIn a u.sends.heard → a.number ≤ with_events u.sends.sent
    sent_answered other u at a has =
        let x = heard_before other u at in
        let few = is.answered other x.0 x.1 a (subst (IsIn a) x.2 has) in let more = x.3.more in omega (arith, few, more)

    -- a last parcel: no batch waits for it
    last_sent : is_last p ≡ true → DoesLegally makes earlier (deeds ++ deed ∷ []) batches sent_now
    last_sent last = record {
      left = is.left;
      legal = did_more makes earlier deeds (deed ∷ []) is.left is.left is.legal leaves;
      mail = sent_mail;
      none = sent_none;
      differ = is.differ;
      away = is.away;
      on_the_way = λ b has. way_grows address (with_sent p) (λ x. refl) (sent_grows p) b (is.on_the_way b has);
      apart = is.apart;
      numbered = λ other u at q has some. ⊎_elim
          (λ (x : (x : SenderView) × (sender_at other senders ≡ Some x) × IsIn q x.sends.sent × Grows x.sends u.sends). let less = is.numbered other x.0 x.1 q x.2 some in let more = x.3.more in omega (arith, less, more))
          (λ (new : (q ≡ p) × (other ≡ address) × (u ≡ with_sent p may.sender)). absurd (differs (sym last ∙ sym (ap is_last new.0) ∙ some))) (sent_or_new other u at q has);
      answered = sent_answered;
      heard = λ other u at q has some. ⊎_elim
          (λ (x : (x : SenderView) × (sender_at other senders ≡ Some x) × IsIn q x.sends.sent × Grows x.sends u.sends). heard_there other x.0 u q x.3 (is.heard other x.0 x.1 q x.2 some))
          (λ (new : (q ≡ p) × (other ≡ address) × (u ≡ with_sent p may.sender)). absurd (differs (sym last ∙ sym (ap is_last new.0) ∙ some))) (sent_or_new other u at q has);
      unused = λ b has other number sent u at assured.
          let x = heard_before other u at in is.unused b has other number sent x.0 x.1 (subst (IsIn (record { number = number; answer = Assured })) x.2 assured);
    }
      where
        heard_there : (other : List ℕ) (x u : SenderView) (q : Parcel) → Grows x.sends u.sends → IsHeardOf batches other x.sends q → IsHeardOf batches other u.sends q
        heard_there other x u q grows (inl a) = inl (a.0, grows.heard a.0 a.1, a.2)
        heard_there other x u q grows (inr b) = inr b

    -- one with events: a batch waits for it, which waited for none
    module _ (n : ℕ) (b : Batch) (found : batch_of n batches ≡ Some b) (back : b.verdicts ≡ None → ⊥) (none_yet : b.parcel ≡ None) (id : List ℕ) (rest : List Due)
        (next : b.left ≡ due.Events id (place.Address address) p.events ∷ rest) (some : is_last p ≡ false) where
      abbrev f : Batch → Batch
      f = in_parcel (Some p.number)

      abbrev now : List Batch
      now = change_batch f n batches

      its_in : IsIn b batches × (b.number ≡ n)
      its_in = found_in n b batches found

      abbrev is_sent : IsSent (f b) address p.number
      is_sent = record { parcel = refl; id = id; events = p.events; rest = rest; next = next }

      -- a batch of now is an old one with another number, or the one that waits
      old_or_it : (u : Batch) → IsIn u now → (IsIn u batches × (u.number ≡ n → ⊥)) ⊎ (u ≡ f b)
      old_or_it u has = ⊎_elim (λ (o : IsIn u batches × (u.number ≡ n → ⊥)). inl o)
          (λ (c : (x : Batch) × (batch_of n batches ≡ Some x) × IsIn x batches × (u ≡ f x)). inr (c.3 ∙ ap f (same_Some c.0 b (sym c.1 ∙ found)))) (batch_changed f (λ x. refl) n batches is.differ u has)

      new_number : p.number ≡ with_events may.sender.sends.sent + 1
      new_number = may.next ∙ ap (λ (t : Bool). if t then 0 else with_events may.sender.sends.sent + 1) some

      counted_now : with_events (with_sent p may.sender).sends.sent ≡ with_events may.sender.sends.sent + 1
      counted_now = counted may.sender ∙ ap (λ (t : Bool). with_events may.sender.sends.sent + (if t then 0 else 1)) some

      -- no other batch waits for a parcel of this number
      none_other : (u : Batch) → IsIn u batches → (number : ℕ) → IsSent u address number → number ≡ p.number → ⊥
      none_other u has number sent same =
          let way = is.on_the_way u has number sent.parcel in
          let here = same_place u way.0 address number number way.1 sent in
          let at : sender_at address senders ≡ Some way.2 = ap (λ a. sender_at a senders) (sym here) ∙ way.3 in
          let was_it = way.4 in
          let few = is.numbered address way.2 at was_it.parcel was_it.sent was_it.some in
          let counts = ap (λ (y : SenderView). with_events y.sends.sent) (one_sender way.2 at) in
          let number_is = was_it.number_is in
          omega (arith, few, counts, number_is, same, new_number)

      sent_apart : (u v : Batch) → IsIn u now → IsIn v now → u.number ≢ v.number → (other : List ℕ) (number : ℕ) → IsSent u other number → IsSent v other number → ⊥
      sent_apart u v i j differ other number sent_u sent_v = by_both (old_or_it u i) (old_or_it v j)
        where
          its_number : (w : Batch) → w ≡ f b → IsSent w other number → (other ≡ address) × (number ≡ p.number)
          its_number w e sent =
              let sent_it = subst (λ y. IsSent y other number) e sent in
              (same_place (f b) other address number p.number sent_it is_sent, same_Some number p.number (sym sent_it.parcel))

          by_both : (IsIn u batches × (u.number ≡ n → ⊥)) ⊎ (u ≡ f b) → (IsIn v batches × (v.number ≡ n → ⊥)) ⊎ (v ≡ f b) → ⊥
          by_both (inl o) (inl q) = is.apart u v o.0 q.0 differ other number sent_u sent_v
          by_both (inl o) (inr e) = let it = its_number v e sent_v in none_other u o.0 number (subst (λ a. IsSent u a number) it.0 sent_u) it.1
          by_both (inr e) (inl q) = let it = its_number u e sent_u in none_other v q.0 number (subst (λ a. IsSent v a number) it.0 sent_v) it.1
          by_both (inr e) (inr g) = differ (ap (λ (y : Batch). y.number) (e ∙ sym g))

      sent_way : (u : Batch) → IsIn u now → IsOnItsWay sent_now u
      sent_way u has = by_which (old_or_it u has)
        where
          by_which : (IsIn u batches × (u.number ≡ n → ⊥)) ⊎ (u ≡ f b) → IsOnItsWay sent_now u
          by_which (inl o) = way_grows address (with_sent p) (λ x. refl) (sent_grows p) u (is.on_the_way u o.0)
          by_which (inr e) = subst (IsOnItsWay sent_now) (sym e) (λ number is_it.
              let same : p.number ≡ number = same_Some p.number number is_it in
              let there = sender_behind (with_sent p) (λ x. refl) address address senders may.sender may.has in
              let changed : there.0 ≡ with_sent p may.sender = is_changed there.0 there.1 in (
                address,
                record { parcel = is_it; id = id; events = p.events; rest = rest; next = next },
                there.0,
                there.1,
                subst (λ (y : SenderView). WasSent y.sends number p.events) (sym changed)
                    (record { parcel = p; sent = in_behind p may.sender.sends.sent (p ∷ []) (inl refl); some = some; number_is = same; events_are = refl }),
              ))
            where
              is_changed : (u : SenderView) → sender_at address sent_now ≡ Some u → u ≡ with_sent p may.sender
              is_changed u at = ⊎_elim (λ (o : (sender_at address senders ≡ Some u) × (address ≡ address → ⊥)). absurd (o.1 refl))
                  (λ (c : (address ≡ address) × (x : SenderView) × (sender_at address senders ≡ Some x) × (u ≡ with_sent p x)). c.3 ∙ ap (with_sent p) (one_sender c.1 c.2)) (was address (with_sent p) (λ x. refl) address u at)

      some_sent : DoesLegally makes earlier (deeds ++ deed ∷ []) now sent_now
      some_sent = record {
        left = is.left;
        legal = did_more makes earlier deeds (deed ∷ []) is.left is.left is.legal leaves;
        mail = sent_mail;
        none = sent_none;
        differ = subst AllDiffer (sym (numbers_kept f (λ x. refl) n batches)) is.differ;
        away = λ u has none. ⊎_elim (λ (o : IsIn u batches × (u.number ≡ n → ⊥)). is.away u o.0 none)
            (λ (e : u ≡ f b). absurd (back (sym (ap (λ (y : Batch). y.verdicts) e) ∙ none))) (old_or_it u has);
        on_the_way = sent_way;
        apart = sent_apart;
        numbered = λ other u at q has q_some. ⊎_elim
            (λ (x : (x : SenderView) × (sender_at other senders ≡ Some x) × IsIn q x.sends.sent × Grows x.sends u.sends). let less = is.numbered other x.0 x.1 q x.2 q_some in let more = x.3.more in omega (arith, less, more))
            (λ (new : (q ≡ p) × (other ≡ address) × (u ≡ with_sent p may.sender)).
            let number = ap (λ (y : Parcel). y.number) new.0 in let counts = ap (λ (y : SenderView). with_events y.sends.sent) new.2 in omega (arith, number, counts, new_number, counted_now)) (sent_or_new other u at q has);
        answered = sent_answered;
        heard = λ other u at q has q_some. ⊎_elim
            (λ (x : (x : SenderView) × (sender_at other senders ≡ Some x) × IsIn q x.sends.sent × Grows x.sends u.sends). heard_there other x.0 u q x.3 (is.heard other x.0 x.1 q x.2 q_some))
            (λ (new : (q ≡ p) × (other ≡ address) × (u ≡ with_sent p may.sender)).
            inr (f b, changed_there f (λ x. refl) n batches b found, subst (λ a. IsSent (f b) a q.number) (sym new.1) (subst (λ (y : Parcel). IsSent (f b) address y.number) (sym new.0) is_sent))) (sent_or_new other u at q has);
        unused = λ u has other number sent v at assured. by_which u other number sent v at assured (old_or_it u has);
      }
        where
          -- a batch that waited for a parcel waits for it still
          still_there : (u : Batch) → IsIn u batches → (other : List ℕ) (number : ℕ) → IsSent u other number → IsIn u now
          still_there u has other number sent =
              batch_behind f (λ x. refl) n batches u has
              (λ same. let one = same_batch batches is.differ u b has its_in.0 (same ∙ sym its_in.1) in none_some number (sym none_yet ∙ ap (λ (y : Batch). y.parcel) (sym one) ∙ sent.parcel))

          heard_there : (other : List ℕ) (x u : SenderView) (q : Parcel) → Grows x.sends u.sends → IsHeardOf batches other x.sends q → IsHeardOf now other u.sends q
          heard_there other x u q grows (inl a) = inl (a.0, grows.heard a.0 a.1, a.2)
          heard_there other x u q grows (inr w) = inr (w.0, still_there w.0 w.1 other q.number w.2, w.2)

          by_which : (u : Batch) (other : List ℕ) (number : ℕ) (sent : IsSent u other number) (v : SenderView) → sender_at other sent_now ≡ Some v → IsAssured v.sends number
              → (IsIn u batches × (u.number ≡ n → ⊥)) ⊎ (u ≡ f b) → IsIn (record { address = other; number = number; events = sent.events }) is.left
          by_which u other number sent v at assured (inl o) =
              let x = heard_before other v at in is.unused u o.0 other number sent x.0 x.1 (subst (IsIn (record { number = number; answer = Assured })) x.2 assured)
          by_which u other number sent v at assured (inr e) =
              let sent_it = subst (λ y. IsSent y other number) e sent in
              let here = same_place (f b) other address number p.number sent_it is_sent in
              let same : p.number ≡ number = same_Some p.number number sent_it.parcel in
              let x = heard_before other v at in
              let few = is.answered other x.0 x.1 (record { number = number; answer = Assured }) (subst (IsIn (record { number = number; answer = Assured })) x.2 assured) in
              let one = one_sender x.0 (ap (λ a. sender_at a senders) (sym here) ∙ x.1) in
              let counts = ap (λ (y : SenderView). with_events y.sends.sent) one in
              absurd (omega (arith, few, same, counts, new_number))

  -- ---- an answer is heard

  module _ (address : List ℕ) (a : Answer) (x : SenderView) (at_it : sender_at address senders ≡ Some x) (turn : IsInTurn x.sends.heard a) (waits_for : length x.sends.heard < with_events x.sends.sent) where
    abbrev hears : Deed
    hears = Hear address a

    abbrev heard_now : List SenderView
    heard_now = change_sender (with_heard a) address senders

    abbrev new_left : List Assurance
    new_left = is.left ++ assured_by address a (sent_on address mail_now.sent)

    abbrev its_mail : IsMail deeds address x.sends
    its_mail = is.mail address x at_it

    hear_leaves : Leaves makes s mail_now is.left (hears ∷ []) new_left
    hear_leaves = (
      record {
        in_turn = subst (λ l. IsInTurn l a) its_mail.heard turn;
        waits = subst (λ l. length l < with_events (sent_on address mail_now.sent)) its_mail.heard (subst (λ l. length x.sends.heard < with_events l) its_mail.sent waits_for);
      },
      refl,
    )

    hear_mail : mail_after no_mail (deeds ++ hears ∷ []) ≡ mail_next mail_now hears
    hear_mail = mail_both no_mail deeds (hears ∷ [])

    -- the ends of now
    heard_end : (other : List ℕ) (u : SenderView) → sender_at other heard_now ≡ Some u
        → ((sender_at other senders ≡ Some u) × (other ≡ address → ⊥)) ⊎ ((other ≡ address) × (u ≡ with_heard a x))
    heard_end other u at = ⊎_elim (λ (o : (sender_at other senders ≡ Some u) × (other ≡ address → ⊥)). inl o)
        (λ (c : (other ≡ address) × (y : SenderView) × (sender_at address senders ≡ Some y) × (u ≡ with_heard a y)). inr (c.0, c.3 ∙ ap (with_heard a) (same_Some c.1 x (sym c.2 ∙ at_it))))
        (was address (with_heard a) (λ y. refl) other u at)

    old_end : (other : List ℕ) (u : SenderView) → sender_at other heard_now ≡ Some u → (y : SenderView) × (sender_at other senders ≡ Some y) × (u.sends.sent ≡ y.sends.sent) × Grows y.sends u.sends
    old_end other u at = ⊎_elim
        (λ (o : (sender_at other senders ≡ Some u) × (other ≡ address → ⊥)). (u, o.0, refl, record { sent = λ r i. i; heard = λ b i. i; more = omega arith }))
        (λ (c : (other ≡ address) × (u ≡ with_heard a x)).
        (x, ap (λ b. sender_at b senders) c.0 ∙ at_it, ap (λ (y : SenderView). y.sends.sent) c.1, subst (λ (y : SenderView). Grows x.sends y.sends) (sym c.1) (heard_grows a x))) (heard_end other u at)

    hears_legally : DoesLegally makes earlier (deeds ++ hears ∷ []) batches heard_now
    hears_legally = record {
      left = new_left;
      legal = did_more makes earlier deeds (hears ∷ []) is.left new_left is.legal hear_leaves;
      mail = λ other u at. ⊎_elim
          (λ (o : (sender_at other senders ≡ Some u) × (other ≡ address → ⊥)).
          let old = is.mail other u o.0 in record {
            sent = old.sent ∙ ap (λ (m : Mail). sent_on other m.sent) (sym hear_mail);
            heard = old.heard ∙ sym (from_other address other mail_now.heard a o.1) ∙ ap (λ (m : Mail). heard_on other m.heard) (sym hear_mail);
          })
          (λ (c : (other ≡ address) × (u ≡ with_heard a x)).
          subst (λ b. IsMail (deeds ++ hears ∷ []) b u.sends) (sym c.0) (subst (λ (y : SenderView). IsMail (deeds ++ hears ∷ []) address y.sends) (sym c.1) (record {
            sent = its_mail.sent ∙ ap (λ (m : Mail). sent_on address m.sent) (sym hear_mail);
            heard = ap (λ l. l ++ a ∷ []) its_mail.heard ∙ sym (from_same address mail_now.heard a) ∙ ap (λ (m : Mail). heard_on address m.heard) (sym hear_mail);
          }))) (heard_end other u at);
      none = λ other none.
          let no = no_end address (with_heard a) (λ y. refl) x at_it other none in
          let old = is.none other no.0 in (
            ap (λ (m : Mail). sent_on other m.sent) hear_mail ∙ old.0,
            ap (λ (m : Mail). heard_on other m.heard) hear_mail ∙ from_other address other mail_now.heard a no.1 ∙ old.1,
          );
      differ = is.differ;
      away = is.away;
      on_the_way = λ b has. way_grows address (with_heard a) (λ y. refl) (heard_grows a) b (is.on_the_way b has);
      apart = is.apart;
      numbered = λ other u at p has some. let y = old_end other u at in let less = is.numbered other y.0 y.1 p (subst (IsIn p) y.2 has) some in let more = y.3.more in omega (arith, less, more);
      answered = λ other u at b has. ⊎_elim
          (λ (o : (sender_at other senders ≡ Some u) × (other ≡ address → ⊥)). is.answered other u o.0 b has)
          (λ (c : (other ≡ address) × (u ≡ with_heard a x)).
          let counts = ap (λ (y : SenderView). with_events y.sends.sent) c.1 in
          ⊎_elim (λ (i : IsIn b x.sends.heard). let few = is.answered address x at_it b i in omega (arith, few, counts))
          (λ (i : IsIn b (a ∷ [])). ⊎_elim (λ (e : b ≡ a). let number = ap (λ (y : Answer). y.number) e in omega (arith, number, turn, waits_for, counts)) (λ (never : ⊥). absurd never) i)
          (in_either b x.sends.heard (a ∷ []) (subst (λ (y : SenderView). IsIn b y.sends.heard) c.1 has))) (heard_end other u at);
      heard = λ other u at p has some. let y = old_end other u at in heard_there other y.0 u p y.3 (is.heard other y.0 y.1 p (subst (IsIn p) y.2 has) some);
      unused = λ b has other number sent u at assured. ⊎_elim
          (λ (o : (sender_at other senders ≡ Some u) × (other ≡ address → ⊥)). in_front _ is.left (assured_by address a (sent_on address mail_now.sent)) (is.unused b has other number sent u o.0 assured))
          (λ (c : (other ≡ address) × (u ≡ with_heard a x)).
          ⊎_elim (λ (i : IsAssured x.sends number). in_front _ is.left (assured_by address a (sent_on address mail_now.sent)) (is.unused b has other number sent x (ap (λ d. sender_at d senders) c.0 ∙ at_it) i))
          (λ (i : IsIn (record { number = number; answer = Assured }) (a ∷ [])). in_behind _ is.left (assured_by address a (sent_on address mail_now.sent))
          (⊎_elim (λ (e : record { number = number; answer = Assured } ≡ a). new_one b has other number sent c.0 e) (λ (never : ⊥). absurd never) i))
          (in_either (record { number = number; answer = Assured }) x.sends.heard (a ∷ []) (subst (λ (y : SenderView). IsAssured y.sends number) c.1 assured))) (heard_end other u at);
    }
      where
        heard_there : (other : List ℕ) (y u : SenderView) (p : Parcel) → Grows y.sends u.sends → IsHeardOf batches other y.sends p → IsHeardOf batches other u.sends p
        heard_there other y u p grows (inl b) = inl (b.0, grows.heard b.0 b.1, b.2)
        heard_there other y u p grows (inr b) = inr b

        -- the answer is to the parcel for which the batch waits
        new_one : (b : Batch) → IsIn b batches → (other : List ℕ) (number : ℕ) (sent : IsSent b other number) → other ≡ address → record { number = number; answer = Assured } ≡ a
            → IsIn (record { address = other; number = number; events = sent.events }) (assured_by address a (sent_on address mail_now.sent))
        new_one b has other number sent here e =
            let way = is.on_the_way b has number sent.parcel in
            let there = same_place b way.0 other number number way.1 sent in
            let at : sender_at address senders ≡ Some way.2 = ap (λ d. sender_at d senders) (sym here ∙ sym there) ∙ way.3 in
            let it = way.4 in
            let in_mail : IsIn it.parcel (sent_on address mail_now.sent) = subst (IsIn it.parcel) (is.mail address way.2 at).sent it.sent in
            let events = it.events_are ∙ same_events b way.0 other number number way.1 sent in
            subst (λ (c : Answer). IsIn (record { address = other; number = number; events = sent.events }) (assured_by address c (sent_on address mail_now.sent))) e
            (subst (λ d. IsIn (record { address = d; number = number; events = sent.events }) (assured_by address (record { number = number; answer = Assured }) (sent_on address mail_now.sent))) (sym here)
            (subst (λ es. IsIn (record { address = address; number = number; events = es }) (assured_by address (record { number = number; answer = Assured }) (sent_on address mail_now.sent))) events
            (assured_in address number (sent_on address mail_now.sent) it.parcel in_mail it.some it.number_is)))

  -- ---- a delivery to an address is told

  module _ (n : ℕ) (b : Batch) (found : batch_of n batches ≡ Some b) (address : List ℕ) (events : List Ev) (rest : List Due) (number : ℕ) (sent : IsSent b address number) (events_are : sent.events ≡ events)
      (x : SenderView) (at_it : sender_at address senders ≡ Some x) (assured : IsAssured x.sends number) (legal : Legal_at makes s (Deliver n (place.Address address) events [])) where
    abbrev told_now : Deed
    told_now = Tell (Deliver n (place.Address address) events [])

    abbrev served : Assurance
    served = record { address = address; number = number; events = events }

    split : IsSplit served is.left
    split = split_at served is.left
        (subst (λ es. IsIn (record { address = address; number = number; events = es }) is.left) events_are (is.unused b (found_in n b batches found).0 address number sent x at_it assured))

    abbrev left_now : List Assurance
    left_now = split.front ++ split.back

    waits_now : WaitAsBefore (change_batch (one_less rest) n batches)
    waits_now = one_waits (one_less rest) (λ y. refl) n b found (inl refl)
        (λ other m was_sent. inr (λ y at.
        let here = same_place b other address m number was_sent sent in
        let same = same_Some m number (sym was_sent.parcel ∙ sent.parcel) in
        let one = same_Some y x (sym at ∙ ap (λ d. sender_at d senders) here ∙ at_it) in
        (record { number = number; answer = Assured }, subst (λ (z : SenderView). IsIn (record { number = number; answer = Assured }) z.sends.heard) (sym one) assured, sym same)))

    tells_it : DoesLegally makes earlier (deeds ++ told_now ∷ []) (change_batch (one_less rest) n batches) senders
    tells_it =
        let quiet = frame (change_batch (one_less rest) n batches) waits_now [] refl refl in
        let mail_is = mail_both no_mail deeds (told_now ∷ []) in
        record {
          left = left_now;
          legal = did_more makes earlier deeds (told_now ∷ []) is.left left_now is.legal
              (legal, (left_now, record { front = split.front; assurance = served; back = split.back; parts = split.parts; address_is = refl; events_are = refl; left_is = refl }, refl));
          mail = λ other y at.
              let old = is.mail other y at in
              record { sent = old.sent ∙ ap (λ (m : Mail). sent_on other m.sent) (sym mail_is); heard = old.heard ∙ ap (λ (m : Mail). heard_on other m.heard) (sym mail_is) };
          none = λ other at. let old = is.none other at in (ap (λ (m : Mail). sent_on other m.sent) mail_is ∙ old.0, ap (λ (m : Mail). heard_on other m.heard) mail_is ∙ old.1);
          differ = quiet.differ;
          away = quiet.away;
          on_the_way = quiet.on_the_way;
          apart = quiet.apart;
          numbered = is.numbered;
          answered = is.answered;
          heard = quiet.heard;
          unused = λ u has other m sent_u y at assured_u.
              let old = before (change_batch (one_less rest) n batches) waits_now u has other m sent_u in
              subst (λ es. IsIn (record { address = other; number = m; events = es }) left_now) old.4
              (left_other served (record { address = other; number = m; events = old.3.events }) is.left split (is.unused old.0 old.1 other m old.3 y at assured_u)
              (λ same. other_batch u has old.0 old.1 old.2 other m sent_u old.3 (ap (λ (z : Assurance). z.address) same) (ap (λ (z : Assurance). z.number) same)));
        }
      where
        -- another batch waits for another parcel
        other_batch : (u : Batch) → IsIn u (change_batch (one_less rest) n batches) → (c : Batch) → IsIn c batches → u.number ≡ c.number → (other : List ℕ) (m : ℕ) → IsSent u other m → IsSent c other m → other ≡ address → m ≡ number → ⊥
        other_batch u has c has_c same other m sent_u sent_c here number_is = by_which (batch_changed (one_less rest) (λ y. refl) n batches is.differ u has)
          where
            its : IsIn b batches × (b.number ≡ n)
            its = found_in n b batches found

            by_which : (IsIn u batches × (u.number ≡ n → ⊥)) ⊎ ((y : Batch) × (batch_of n batches ≡ Some y) × IsIn y batches × (u ≡ one_less rest y)) → ⊥
            by_which (inl o) =
                is.apart c b has_c its.0 (λ e. o.1 (same ∙ e ∙ its.1)) address number (subst (λ k. IsSent c address k) number_is (subst (λ d. IsSent c d m) here sent_c)) sent
            by_which (inr e) = none_some m (sym (ap (λ (y : Batch). y.parcel) e.3) ∙ sent_u.parcel)

-- ---- the steps

plain_no_address : (n : ℕ) (at : Place) (events : List Ev) → IsPlain at → NoAddress (Deliver n at events [] ∷ [])
plain_no_address n place.Stdout events plain = tt
plain_no_address n (place.File path) events plain = tt
plain_no_address n place.Discard events plain = tt
plain_no_address n (place.Address address) events plain = absurd plain
plain_no_address n (place.Foreign number) events plain = absurd plain
plain_no_address n place.Dead events plain = absurd plain

module _ (makes : Makes) (listening : Listening) (bytes : Bytes) (places : Places) (earlier : List Entry) (deeds : List Deed) (i : LineView places) (stands : Stands makes bytes places (told_of deeds) i) (is : DoesLegally makes earlier deeds i.batches i.senders) where
  abbrev told : List Entry
  told = told_of deeds

  legal_then : (x : Step makes listening bytes i) → Legal makes (after makes start told) (effect makes listening bytes i x).told
  legal_then x = legal_rest makes start told (effect makes listening bytes i x).told (steps_follow makes listening bytes places told i x stands).legal

  -- a step that tells entries, where batches wait as they did
  tells_so : (x : Step makes listening bytes i) (now : List Batch) → WaitAsBefore makes earlier deeds i.batches i.senders is now → NoAddress (effect makes listening bytes i x).told
      → DoesLegally makes earlier (deeds ++ tell_all (effect makes listening bytes i x).told) now i.senders
  tells_so x now waits no_address = tells makes earlier deeds i.batches i.senders is now waits (effect makes listening bytes i x).told (legal_then x) (unopened makes listening bytes i x) no_address

  its_place : (n : ℕ) (b : Batch) → batch_of n i.batches ≡ Some b → IsIn b i.batches
  its_place n b found = (found_in n b i.batches found).0

  -- one delivery less is left of a batch, to no address
  one_less_so : (n : ℕ) (left : List Due) (h : IsHome i n left) (rest : List Due) → is_to_address left ≡ false → WaitAsBefore makes earlier deeds i.batches i.senders is (change_batch (one_less rest) n i.batches)
  one_less_so n left h rest none =
      none_waits makes earlier deeds i.batches i.senders is (one_less rest) (λ b. refl) n h.batch h.has (no_parcel makes earlier deeds i.batches i.senders is h.batch (its_place n h.batch h.has) left h.left_is none) refl

  new_batch_number : IsIn i.next_batch (numbers_of i.batches) → ⊥
  new_batch_number has = let b = of_number i.next_batch i.batches has in let less = stands.knows.below b.0 b.1 in let same = b.2 in omega (arith, less, same)

  -- what is sent for a batch is due now
  next_due : (n : ℕ) (id address : List ℕ) (events : List Ev) (rest : List Due) → IsHome i n (due.Events id (place.Address address) events ∷ rest) → IsNextFor (after makes start told) address events
  next_due n id address events rest h =
      let o = beside n h.batch i.batches (after makes start told).out stands.knows.batches h.has in
      record { out = o.out; is_out = out_in n o.out (after makes start told).out o.has; id = id; left = rest; next = o.is.left ∙ h.left_is }

  does : (x : Step makes listening bytes i) → GoesOn makes listening bytes i x
      → DoesLegally makes earlier (deeds ++ deeds_of makes listening bytes places i x) (effect makes listening bytes i x).line.batches (effect makes listening bytes i x).line.senders
  does (m.Accepts n c r true) on = absurd on
  does (m.Accepts_parcel n a r true) on = absurd on
  does (m.Reads t k) on = tells_so (m.Reads t k) _ (one_more_waits makes earlier deeds i.batches i.senders is (new_batch i t.rows (Some k.kit)) new_batch_number refl) tt
  does (m.Works t k verdicts uses) on =
      tells_so (m.Works t k verdicts uses) _ (one_more_waits makes earlier deeds i.batches i.senders is (back_with makes verdicts (new_batch i t.rows None)) new_batch_number refl) tt
  does (m.Collects n a verdicts uses) on =
      let none = is.away a.batch (its_place n a.batch a.has) a.away in
      tells_so (m.Collects n a verdicts uses) _ (none_waits makes earlier deeds i.batches i.senders is (back_with makes verdicts) (λ b. refl) n a.batch a.has none none) tt
  does (m.Loses_a_result n a) on =
      let none = is.away a.batch (its_place n a.batch a.has) a.away in
      tells_so (m.Loses_a_result n a) _ (none_waits makes earlier deeds i.batches i.senders is without_kit (λ b. refl) n a.batch a.has none none) tt
  does (m.Tells n parts rest h a) on =
      tells_so (m.Tells n parts rest h a) _ (one_less_so n (due.Letters parts ∷ rest) h rest refl)
      (shed_no_address n a.shed.older a.shed.newer (Letters n (kept_from a.shed.newer 0 parts) ∷ []) tt)
  does (m.Gives n id at events rest h plain) on =
      tells_so (m.Gives n id at events rest h plain) _ (one_less_so n (due.Events id at events ∷ rest) h rest (plain_is id at events rest plain)) (plain_no_address n at events plain)
  does (m.Is_taken n id number events rest h fates fit none) on =
      tells_so (m.Is_taken n id number events rest h fates fit none) _ (one_less_so n (due.Events id (place.Foreign number) events ∷ rest) h rest refl) tt
  does (m.Is_rejected n id number events rest h fates fit some a) on =
      tells_so (m.Is_rejected n id number events rest h fates fit some a) _ (one_less_so n (due.Events id (place.Foreign number) events ∷ rest) h rest refl)
      (letters_no_address n a.shed.older a.shed.newer (kept_from a.shed.newer 0 (rejections h.batch.plan.config id fates events)) (Deliver n (place.Foreign number) events fates ∷ []) tt)
  does (m.Sends n id address events rest h none p same some may) on =
      some_sent makes earlier deeds i.batches i.senders is address p may (λ has. subst (IsNextFor (after makes start told) address) (sym same) (next_due n id address events rest h)) n h.batch h.has
      (λ away. none_some h.verdicts (sym away ∙ h.back)) none id rest (h.left_is ∙ ap (λ es. due.Events id (place.Address address) es ∷ rest) (sym same)) some
  does (m.Hears address a s has turn waits) on = hears_legally makes earlier deeds i.batches i.senders is address a s has turn waits
  does (m.Is_heard n id address events rest h number sent was) on =
      tells_it makes earlier deeds i.batches i.senders is n h.batch h.has address events rest number (record { parcel = sent; id = id; events = events; rest = rest; next = h.left_is }) refl was.sender was.has was.heard
      (legal_then (m.Is_heard n id address events rest h number sent was)).0
  does (m.Is_not_heard n id address events rest h number sent was) on =
      tells_so (m.Is_not_heard n id address events rest h number sent was) _
      (one_waits makes earlier deeds i.batches i.senders is (in_parcel None) (λ b. refl) n h.batch h.has (inl refl) (λ other k was_sent. inr (λ y at.
      let here = same_place h.batch other address k number was_sent (record { parcel = sent; id = id; events = events; rest = rest; next = h.left_is }) in
      let one = same_Some y was.sender (sym at ∙ ap (λ d. sender_at d i.senders) here ∙ was.has) in (
        record { number = number; answer = NotListening },
        subst (λ (z : SenderView). IsIn (record { number = number; answer = NotListening }) z.sends.heard) (sym one) was.heard,
        same_Some number k (sym sent ∙ was_sent.parcel),
      )))) tt
  does (m.Fails_to_deliver n left h f why printed out given took) on = absurd on
  does (m.Acknowledges_it n h queue a) on =
      tells_so (m.Acknowledges_it n h queue a) _
      (none_left makes earlier deeds i.batches i.senders is n h.batch h.has (no_parcel makes earlier deeds i.batches i.senders is h.batch (its_place n h.batch h.has) [] h.left_is refl)) tt
  does (m.Fails_to_assure n front h marks) on = absurd on
  does (m.Sends_last address p last may ends) on =
      last_sent makes earlier deeds i.batches i.senders is address p may (λ some. absurd (differs (sym last ∙ some))) last
  does (m.Adopts c) on = with_ends makes earlier deeds i.batches i.senders is c.new_senders c.unused (effect makes listening bytes i (m.Adopts c)).told (legal_then (m.Adopts c)) tt tt
  does (m.Connects takers next_place new listen senders unused) on = with_ends makes earlier deeds i.batches i.senders is senders unused [] tt tt tt
  does (m.Only_fails x fails) on = absurd on
  does x on = tells_so x i.batches (as_before makes earlier deeds i.batches i.senders is) tt

pub does_legally_still : (makes : Makes) (listening : Listening) (bytes : Bytes) (places : Places) → DoesLegallyStill makes listening bytes places
does_legally_still makes listening bytes places earlier deeds i x stands is on = does makes listening bytes places earlier deeds i stands is x on

pub opened_does_legally : (makes : Makes) (listening : Listening) (bytes : Bytes) (places : Places) → OpenedDoesLegally makes listening bytes places
opened_does_legally makes listening bytes places told image sound i is = record {
  left = [];
  legal = record { since = tell_all (opening makes listening bytes places told image sound i); parts = refl; legal = (entries.0, ([], refl, (entries.1.0, ([], refl, refl)))) };
  mail = λ address s at. let clean = is.unused s (sender_in address s i.senders at) in record { sent = clean.0 ∙ ap (λ (m : Mail). sent_on address m.sent) (sym mail_is); heard = clean.1 ∙ ap (λ (m : Mail). heard_on address m.heard) (sym mail_is) };
  none = λ address none. (ap (λ (m : Mail). sent_on address m.sent) mail_is, ap (λ (m : Mail). heard_on address m.heard) mail_is);
  differ = subst (λ bs. AllDiffer (numbers_of bs)) (sym is.batches) tt;
  away = λ b has. absurd (nowhere b has);
  on_the_way = λ b has. absurd (nowhere b has);
  apart = λ b c has. absurd (nowhere b has);
  numbered = λ address s at p has. absurd (subst (IsIn p) (is.unused s (sender_in address s i.senders at)).0 has);
  answered = λ address s at a has. absurd (subst (IsIn a) (is.unused s (sender_in address s i.senders at)).1 has);
  heard = λ address s at p has. absurd (subst (IsIn p) (is.unused s (sender_in address s i.senders at)).0 has);
  unused = λ b has. absurd (nowhere b has);
}
  where
    entries : Legal makes (after makes start told) (opening makes listening bytes places told image sound i)
    entries = legal_rest makes start told (opening makes listening bytes places told image sound i)
        (opened_line_stands makes listening bytes places told image sound i is).holds.legal

    mail_is : mail_after no_mail (tell_all told ++ tell_all (opening makes listening bytes places told image sound i)) ≡ no_mail
    mail_is = mail_both no_mail (tell_all told) (tell_all (opening makes listening bytes places told image sound i))

    nowhere : (b : Batch) → IsIn b i.batches → ⊥
    nowhere b has = subst (IsIn b) is.batches has
