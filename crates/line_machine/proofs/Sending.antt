-- What a line sent to addresses was due, behind each step.
use Rattle.std.proofs.Common.{◌≡◌, ◌⊎◌, inl, inr, ⊎_elim, ℕ, Bool, true, false, List, [], ◌∷◌, ◌++◌, Some, if◌then◌else◌, refl, sym, ap, ◌∙◌, subst, append-nil, append_assoc}
use Rattle.std.specs.Prelude.{bytes_eq}
use Rattle.std.proofs.lemmas.Option.{same_Some}
use Rattle.std.proofs.lemmas.Slice.Eq.{bytes_eq-Decides}
use Rattle.event_tree.specs.Events.{Ev}
use Rattle.pipeline_bus.specs.Parcels.{is_last, numbered, HasNextNumber}
use Rattle.pipeline_bus.specs.declared.parcel.Answer.{Answer}
use Rattle.pipeline_bus.specs.declared.parcel.Parcel.{Parcel}
use Rattle.pipeline_bus.proofs.Numbers.{numbered_more}
use Rattle.foreign_parts.specs.declared.place.Place.TheVariants as place
use Rattle.event_flow.specs.Meaning.{Makes, Due}
use Rattle.event_flow.specs.Meaning as due
use Rattle.history_book.specs.Contents.{Bytes}
use Rattle.history_book.specs.Entries.{Entry, Deliver}
use Rattle.history_book.specs.Legal.{rejections}
use Rattle.history_book.specs.Links.{Listening, WasNext}
use Rattle.history_book.specs.Lists.{IsIn}
use Rattle.history_book.specs.Sound.{Places}
use Rattle.history_book.specs.States.{start, after}
use Rattle.history_book.specs.Steps.{NoOpening}
use Rattle.history_book.proofs.Lists.{in_either}
use Rattle.history_book.proofs.Outs.{out_in}
use Rattle.line_machine.specs.Effects.{letters_told}
use Rattle.line_machine.specs.Ends.{SenderView, MaySend, sender_at, change_sender, with_sent, with_heard}
use Rattle.line_machine.specs.Finds.{AreUnused, IsHome}
use Rattle.line_machine.specs.Sending.{SenderStands, SendersStand, ParcelsWereDue, OpenedParcelsWereDue}
use Rattle.line_machine.specs.Openings.{opening}
use Rattle.line_machine.specs.Stands.{Stands}
use Rattle.line_machine.specs.Steps as m
use Rattle.line_machine.specs.Steps.{Step, effect, GoesOn}
use Rattle.line_machine.specs.Views.{LineView}
use Rattle.line_machine.proofs.Batches.{beside}
use Rattle.line_machine.proofs.Since.{both_unopened, unopened}

-- ---- ends that send

module _ (f : SenderView → SenderView) (address : List ℕ) where
  sender_changed : (ss : List SenderView) (u : SenderView) → IsIn u (change_sender f address ss) → IsIn u ss ⊎ ((s : SenderView) × (sender_at address ss ≡ Some s) × IsIn s ss × (u ≡ f s))
  sender_changed [] u has = absurd has
  sender_changed (s ∷ ss) u has = by_test (sender_changed ss u) (bytes_eq address s.address) refl has
    where
      by_test : (IsIn u (change_sender f address ss) → IsIn u ss ⊎ ((x : SenderView) × (sender_at address ss ≡ Some x) × IsIn x ss × (u ≡ f x))) → (b : Bool) → bytes_eq address s.address ≡ b
          → IsIn u (if b then f s ∷ ss else s ∷ change_sender f address ss) → IsIn u (s ∷ ss) ⊎ ((x : SenderView) × (sender_at address (s ∷ ss) ≡ Some x) × IsIn x (s ∷ ss) × (u ≡ f x))
      by_test rest true test (inl e) = inr (s, ap (λ (b : Bool). if b then Some s else sender_at address ss) test, inl refl, e)
      by_test rest true test (inr i) = inl (inr i)
      by_test rest false test (inl e) = inl (inl e)
      by_test rest false test (inr i) = ⊎_elim (λ (j : IsIn u ss). inl (inr j))
          (λ (c : (x : SenderView) × (sender_at address ss ≡ Some x) × IsIn x ss × (u ≡ f x)). inr (c.0, ap (λ (b : Bool). if b then Some s else sender_at address ss) test ∙ c.1, inr c.2, c.3)) (rest i)

sender_address : (address : List ℕ) (s : SenderView) (ss : List SenderView) → sender_at address ss ≡ Some s → address ≡ s.address
sender_address address s [] has = absurd (cc)
sender_address address s (x ∷ ss) has = by_test (sender_address address s ss) (bytes_eq address x.address) refl has
  where
    by_test : (sender_at address ss ≡ Some s → address ≡ s.address) → (b : Bool) → bytes_eq address x.address ≡ b → (if b then Some x else sender_at address ss) ≡ Some s → address ≡ s.address
    by_test rest true test is = (bytes_eq-Decides address x.address).0 test ∙ ap (λ (y : SenderView). y.address) (same_Some x s is)
    by_test rest false test is = rest is

start_numbered : numbered 0 [] ≡ true
unfolding numbered
start_numbered = refl

module _ (makes : Makes) where
  next_more : (address : List ℕ) (told more : List Entry) (es : List Ev) → NoOpening more → WasNext makes address told es → WasNext makes address (told ++ more) es
  next_more address told more es none w = record {
    before = w.before;
    rest = w.rest ++ more;
    parts = ap (λ l. l ++ more) w.parts ∙ append_assoc w.before w.rest more;
    unopened = both_unopened w.rest more w.unopened none;
    out = w.out;
    is_out = w.is_out;
    id = w.id;
    left = w.left;
    next = w.next;
  }

  still : (told more : List Entry) (ss : List SenderView) → NoOpening more → SendersStand makes told ss → SendersStand makes (told ++ more) ss
  still told more ss none are s has =
      let is = are s has in
      record { in_turn = is.in_turn; due = λ p sent some. let d = is.due p sent some in (d.0, next_more s.address told more p.events none d.1) }

  quiet_still : (told : List Entry) (ss : List SenderView) → SendersStand makes told ss → SendersStand makes (told ++ []) ss
  quiet_still told ss are = still told [] ss tt are

  with_none : (told : List Entry) (old new : List SenderView) → SendersStand makes told old → AreUnused new → SendersStand makes told (old ++ new)
  with_none told old new are none s has = ⊎_elim (λ (i : IsIn s old). are s i)
      (λ (i : IsIn s new). record { in_turn = subst (λ ps. numbered 0 ps ≡ true) (sym (none s i).0) start_numbered; due = λ p sent some. absurd (subst (IsIn p) (none s i).0 sent) }) (in_either s old new has)

module _ (makes : Makes) (listening : Listening) (bytes : Bytes) (places : Places) (told : List Entry) (i : LineView places) (stands : Stands makes bytes places told i) (are : SendersStand makes told i.senders) where
  -- a parcel is sent whose events, if it has any, are due now
  sent_more : (address : List ℕ) (p : Parcel) (may : MaySend address p i.senders) → (is_last p ≡ false → WasNext makes address told p.events) → SendersStand makes told (change_sender (with_sent p) address i.senders)
  sent_more address p may next u has = ⊎_elim (λ (j : IsIn u i.senders). are u j)
      (λ (c : (s : SenderView) × (sender_at address i.senders ≡ Some s) × IsIn s i.senders × (u ≡ with_sent p s)). subst (SenderStands makes told) (sym c.3) (with_it c.0 c.1 (are c.0 c.2)))
      (sender_changed (with_sent p) address i.senders u has)
    where
      with_it : (s : SenderView) → sender_at address i.senders ≡ Some s → SenderStands makes told s → SenderStands makes told (with_sent p s)
      with_it s found is =
          let one = same_Some may.sender s (sym may.has ∙ found) in
          let here = sender_address address s i.senders found in
          record {
            in_turn = numbered_more s.sends.sent p is.in_turn (subst (λ (x : SenderView). HasNextNumber x.sends.sent p) one may.next);
            due = λ q sent some. ⊎_elim (λ (j : IsIn q s.sends.sent). is.due q j some)
                (λ (j : IsIn q (p ∷ [])). ⊎_elim
                (λ (e : q ≡ p). (
                  ap (λ (x : Parcel). x.address) e ∙ may.address_is ∙ ap (λ (x : SenderView). x.address) one,
                  subst (λ (x : Parcel). WasNext makes s.address told x.events) (sym e) (subst (λ a. WasNext makes a told p.events) here (next (ap is_last (sym e) ∙ some))),
                )) (λ (never : ⊥). absurd never) j) (in_either q s.sends.sent (p ∷ []) sent);
          }

  heard_more : (address : List ℕ) (a : Answer) → SendersStand makes told (change_sender (with_heard a) address i.senders)
  heard_more address a u has = ⊎_elim (λ (j : IsIn u i.senders). are u j)
      (λ (c : (s : SenderView) × (sender_at address i.senders ≡ Some s) × IsIn s i.senders × (u ≡ with_heard a s)).
      let is = are c.0 c.2 in
      subst (SenderStands makes told) (sym c.3) (record { in_turn = is.in_turn; due = is.due }))
      (sender_changed (with_heard a) address i.senders u has)

  -- the next delivery of a batch is due now
  due_now : (n : ℕ) (id address : List ℕ) (events : List Ev) (rest : List Due) → IsHome i n (due.Events id (place.Address address) events ∷ rest) → WasNext makes address told events
  due_now n id address events rest h =
      let o = beside n h.batch i.batches (after makes start told).out stands.knows.batches h.has in
      record {
        before = told;
        rest = [];
        parts = sym (append-nil told);
        unopened = tt;
        out = o.out;
        is_out = out_in n o.out (after makes start told).out o.has;
        id = id;
        left = rest;
        next = o.is.left ∙ h.left_is;
      }

  last_none : (p : Parcel) (es : List Ev) (address : List ℕ) → is_last p ≡ true → is_last p ≡ false → WasNext makes address told es
  last_none p es address last some = absurd (differs (sym last ∙ some))
    where
      differs : true ≡ false → ⊥
      differs e = cc

  pub parcels_due : (x : Step makes listening bytes i) → GoesOn makes listening bytes i x → SendersStand makes (told ++ (effect makes listening bytes i x).told) (effect makes listening bytes i x).line.senders
  parcels_due (m.Accepts n c r true) on = absurd on
  parcels_due (m.Accepts_parcel n a r true) on = absurd on
  parcels_due (m.Tells n parts rest h a) on =
      still makes told (letters_told n a.shed parts) i.senders (unopened makes listening bytes i (m.Tells n parts rest h a)) are
  parcels_due (m.Is_rejected n id number events rest h fates fit some a) on =
      still makes told (letters_told n a.shed (rejections h.batch.plan.config id fates events) ++ Deliver n (place.Foreign number) events fates ∷ []) i.senders
      (unopened makes listening bytes i (m.Is_rejected n id number events rest h fates fit some a)) are
  parcels_due (m.Sends n id address events rest h none p is some may) on =
      quiet_still makes told (change_sender (with_sent p) address i.senders)
      (sent_more address p may (λ some. subst (WasNext makes address told) (sym is) (due_now n id address events rest h)))
  parcels_due (m.Hears address a s has turn waits) on = quiet_still makes told (change_sender (with_heard a) address i.senders) (heard_more address a)
  parcels_due (m.Sends_last address p last may ends) on =
      quiet_still makes told (change_sender (with_sent p) address i.senders) (sent_more address p may (λ some. last_none p p.events address last some))
  parcels_due (m.Fails_to_deliver n left h f why printed out given took) on = absurd on
  parcels_due (m.Fails_to_assure n front h marks) on = absurd on
  parcels_due (m.Adopts c) on = still makes told _ (i.senders ++ c.new_senders) tt (with_none makes told i.senders c.new_senders are c.unused)
  parcels_due (m.Connects takers next_place new listen senders unused) on = quiet_still makes told (i.senders ++ senders) (with_none makes told i.senders senders are unused)
  parcels_due (m.Only_fails x fails) on = absurd on
  parcels_due x on = still makes told _ i.senders (unopened makes listening bytes i x) are

pub parcels_were_due : (makes : Makes) (listening : Listening) (bytes : Bytes) (places : Places) → ParcelsWereDue makes listening bytes places
parcels_were_due makes listening bytes places told i x stands are on = parcels_due makes listening bytes places told i stands are x on

pub opened_parcels_were_due : (makes : Makes) (listening : Listening) (bytes : Bytes) (places : Places) → OpenedParcelsWereDue makes listening bytes places
opened_parcels_were_due makes listening bytes places told image sound i is =
    with_none makes (told ++ opening makes listening bytes places told image sound i) [] i.senders (λ s has. absurd has) is.unused
