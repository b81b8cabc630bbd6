-- What a pipeline sent and heard while its deeds were legal.
use Rattle.std.proofs.Common.{◌≡◌, ◌⊎◌, inl, inr, ⊎_elim, ℕ, ◌==◌, not, Bool, true, false, List, [], ◌∷◌, ◌++◌, if◌then◌else◌, refl, sym, ap, ap₂, ◌∙◌, subst, append_assoc, append-nil}
use Rattle.std.specs.Prelude.{bytes_eq}
use Rattle.std.proofs.lemmas.Bool.{eqb-true}
use Rattle.std.proofs.lemmas.Slice.Eq.{bytes_eq-Decides}
use Rattle.event_tree.specs.Events.{Ev}
use Rattle.foreign_parts.specs.declared.output.Fate.{Fate}
use Rattle.foreign_parts.specs.declared.place.Place.{Place}
use Rattle.foreign_parts.specs.declared.place.Place.TheVariants as place
use Rattle.pipeline_bus.specs.Parcels.{is_last, numbered, HasNextNumber}
use Rattle.pipeline_bus.specs.declared.parcel.Answer.{Answer}
use Rattle.pipeline_bus.specs.declared.parcel.Heard.{Heard}
use Rattle.pipeline_bus.specs.declared.parcel.Heard.TheVariants.{Assured, NotListening}
use Rattle.pipeline_bus.specs.declared.parcel.Parcel.{Parcel}
use Rattle.pipeline_bus.proofs.Numbers.{numbered_more}
use Rattle.event_flow.specs.Meaning.{Makes}
use Rattle.history_book.specs.Deeds.{Deed, Tell, Send, Hear, SentTo, HeardFrom, Mail, Assurance, DeedOf, no_mail, told_of, tell_all, deeds_by, told_by, mail_of, AreTold, mail_told, mail_next, mail_after, sent_on, heard_on, says_assured, assures, assured_by, Serves, ServesAt, LeavesUnused, IsNextFor, MaySend, Leaves, LegalBehind, DidLegally, LegalDeedsTell, FrontsOfDeedsAreLegal, IsAnswered, DeliveriesAreAnswered}
use Rattle.history_book.specs.Entries.{Entry, Accept, Mark, Assure, Read, Back, Shed, Deliver, Letters, Ack, Purge, Adopt, Opened}
use Rattle.history_book.specs.Legal.{Legal}
use Rattle.history_book.specs.Lists.{IsIn}
use Rattle.history_book.specs.States.{State, start, next, after}
use Rattle.history_book.specs.Steps.{NoOpening}
use Rattle.history_book.proofs.Histories.{after_both}
use Rattle.history_book.proofs.Lists.{in_front, in_behind, in_either}
use Rattle.history_book.proofs.Numbers.{and_first, and_second}
use Rattle.history_book.proofs.Steps.{rest_unopened}

-- ---- lists of deeds

pub told_both : (xs ys : List Deed) → told_of (xs ++ ys) ≡ told_of xs ++ told_of ys
told_both [] ys = refl
told_both (Tell e ∷ xs) ys = ap (λ l. e ∷ l) (told_both xs ys)
told_both (Send address p ∷ xs) ys = told_both xs ys
told_both (Hear address a ∷ xs) ys = told_both xs ys

pub sent_both : (address : List ℕ) (xs ys : List SentTo) → sent_on address (xs ++ ys) ≡ sent_on address xs ++ sent_on address ys
sent_both address [] ys = refl
sent_both address (s ∷ xs) ys = by_test (sent_both address xs ys) (bytes_eq address s.address)
  where
    by_test : sent_on address (xs ++ ys) ≡ sent_on address xs ++ sent_on address ys → (b : Bool)
        → (if b then s.parcel ∷ sent_on address (xs ++ ys) else sent_on address (xs ++ ys)) ≡ (if b then s.parcel ∷ sent_on address xs else sent_on address xs) ++ sent_on address ys
    by_test rest true = ap (λ l. s.parcel ∷ l) rest
    by_test rest false = rest

pub heard_both : (address : List ℕ) (xs ys : List HeardFrom) → heard_on address (xs ++ ys) ≡ heard_on address xs ++ heard_on address ys
heard_both address [] ys = refl
heard_both address (h ∷ xs) ys = by_test (heard_both address xs ys) (bytes_eq address h.address)
  where
    by_test : heard_on address (xs ++ ys) ≡ heard_on address xs ++ heard_on address ys → (b : Bool)
        → (if b then h.answer ∷ heard_on address (xs ++ ys) else heard_on address (xs ++ ys)) ≡ (if b then h.answer ∷ heard_on address xs else heard_on address xs) ++ heard_on address ys
    by_test rest true = ap (λ l. h.answer ∷ l) rest
    by_test rest false = rest

-- ---- mail

-- an entry that is no opening leaves it
pub mail_kept : (m : Mail) (e : Entry) (told : List Entry) → NoOpening (e ∷ told) → mail_told m e ≡ m
mail_kept m (Accept input parcel number event) told none = refl
mail_kept m (Mark front) told none = refl
mail_kept m (Assure input front) told none = refl
mail_kept m (Read batch generation numbers) told none = refl
mail_kept m (Back batch verdicts) told none = refl
mail_kept m (Shed batch older newer) told none = refl
mail_kept m (Deliver batch at events fates) told none = refl
mail_kept m (Letters batch letters) told none = refl
mail_kept m (Ack batch) told none = refl
mail_kept m (Purge page) told none = refl
mail_kept m (Adopt generation config draws) told none = refl
mail_kept m (Opened rows limit policy) told none = absurd none

-- an entry is an opening, or leaves the mail
pub record LeavesMail (e : Entry) : Type 0 where
  pub same : (m : Mail) → mail_told m e ≡ m
  pub unopened : (told : List Entry) → NoOpening told → NoOpening (e ∷ told)

pub opens_or_not : (e : Entry) → ((m : Mail) → mail_told m e ≡ no_mail) ⊎ LeavesMail e
opens_or_not (Opened rows limit policy) = inl (λ m. refl)
opens_or_not (Accept input parcel number event) = inr (record { same = λ m. refl; unopened = λ told none. none })
opens_or_not (Mark front) = inr (record { same = λ m. refl; unopened = λ told none. none })
opens_or_not (Assure input front) = inr (record { same = λ m. refl; unopened = λ told none. none })
opens_or_not (Read batch generation numbers) = inr (record { same = λ m. refl; unopened = λ told none. none })
opens_or_not (Back batch verdicts) = inr (record { same = λ m. refl; unopened = λ told none. none })
opens_or_not (Shed batch older newer) = inr (record { same = λ m. refl; unopened = λ told none. none })
opens_or_not (Deliver batch at events fates) = inr (record { same = λ m. refl; unopened = λ told none. none })
opens_or_not (Letters batch letters) = inr (record { same = λ m. refl; unopened = λ told none. none })
opens_or_not (Ack batch) = inr (record { same = λ m. refl; unopened = λ told none. none })
opens_or_not (Purge page) = inr (record { same = λ m. refl; unopened = λ told none. none })
opens_or_not (Adopt generation config draws) = inr (record { same = λ m. refl; unopened = λ told none. none })

-- mail that has more answers as before
more_answers : (m : Mail) (address : List ℕ) (events : List Ev) (a : IsAnswered m address events) (more : List SentTo) (more_heard : List HeardFrom)
    → IsAnswered (record { sent = m.sent ++ more; heard = m.heard ++ more_heard }) address events
more_answers m address events a more more_heard = record {
  parcel = a.parcel;
  sent = subst (IsIn a.parcel) (sym (sent_both address m.sent more)) (in_front a.parcel (sent_on address m.sent) (sent_on address more) a.sent);
  some = a.some;
  events_are = a.events_are;
  heard = subst (IsIn (record { number = a.parcel.number; answer = Assured })) (sym (heard_both address m.heard more_heard)) (in_front _ (heard_on address m.heard) (heard_on address more_heard) a.heard);
}

-- what is answered stays so until the pipeline is opened
pub answered_still : (m : Mail) (deeds : List Deed) → NoOpening (told_of deeds) → (address : List ℕ) (events : List Ev) → IsAnswered m address events → IsAnswered (mail_after m deeds) address events
answered_still m [] none address events a = a
answered_still m (Tell e ∷ deeds) none address events a =
    answered_still (mail_told m e) deeds (rest_unopened e (told_of deeds) none) address events (subst (λ (x : Mail). IsAnswered x address events) (sym (mail_kept m e (told_of deeds) none)) a)
answered_still m (Send to p ∷ deeds) none address events a =
    answered_still (mail_next m (Send to p)) deeds none address events
    (subst (λ (l : List HeardFrom). IsAnswered (record { sent = m.sent ++ record { address = to; parcel = p } ∷ []; heard = l }) address events) (append-nil m.heard) (more_answers m address events a _ []))
answered_still m (Hear from x ∷ deeds) none address events a =
    answered_still (mail_next m (Hear from x)) deeds none address events
    (subst (λ (l : List SentTo). IsAnswered (record { sent = l; heard = m.heard ++ record { address = from; answer = x } ∷ [] }) address events) (append-nil m.sent) (more_answers m address events a [] _))

-- ---- answers that served no delivery yet

abbrev AllAnswered : Mail → List Assurance → Type 0
AllAnswered m unused = (x : Assurance) → IsIn x unused → IsAnswered m x.address x.events

is_assured : (h : Heard) → says_assured h ≡ true → h ≡ Assured
is_assured Assured says = refl
is_assured NotListening says = absurd (differ says)
  where
    differ : false ≡ true → ⊥
    differ e = cc

not_true : (b : Bool) → not b ≡ true → b ≡ false
not_true true e = sym e
not_true false e = refl

-- an answer of a parcel that was sent
record IsOf (address : List ℕ) (a : Answer) (ps : List Parcel) (x : Assurance) : Type 0 where
  pub parcel : Parcel
  pub has : IsIn parcel ps
  pub some : is_last parcel ≡ false
  pub is : a ≡ record { number = parcel.number; answer = Assured }
  pub address_is : x.address ≡ address
  pub events_are : x.events ≡ parcel.events

assured_has : (address : List ℕ) (a : Answer) (ps : List Parcel) (x : Assurance) → IsIn x (assured_by address a ps) → IsOf address a ps x
assured_has address a [] x i = absurd i
assured_has address a (p ∷ ps) x i = by_test (assured_has address a ps x) (assures a p) refl i
  where
    behind : IsOf address a ps x → IsOf address a (p ∷ ps) x
    behind o = record { parcel = o.parcel; has = inr o.has; some = o.some; is = o.is; address_is = o.address_is; events_are = o.events_are }

    by_test : (IsIn x (assured_by address a ps) → IsOf address a ps x) → (b : Bool) → assures a p ≡ b
        → IsIn x (if b then record { address = address; number = p.number; events = p.events } ∷ assured_by address a ps else assured_by address a ps) → IsOf address a (p ∷ ps) x
    by_test rest true test (inl e) =
        let both = and_second (says_assured a.answer) _ test in
        record {
          parcel = p;
          has = inl refl;
          some = not_true (is_last p) (and_first (not (is_last p)) _ both);
          is = ap₂ (λ (n : ℕ) (h : Heard). record { number = n; answer = h }) (sym (eqb-true p.number a.number (and_second (not (is_last p)) _ both))) (is_assured a.answer (and_first (says_assured a.answer) _ test));
          address_is = ap (λ (y : Assurance). y.address) e;
          events_are = ap (λ (y : Assurance). y.events) e;
        }
    by_test rest true test (inr j) = behind (rest j)
    by_test rest false test j = behind (rest j)

-- those of an answer that is heard now are
heard_answered : (m : Mail) (from : List ℕ) (a : Answer) (unused : List Assurance) → AllAnswered m unused → AllAnswered (mail_next m (Hear from a)) (unused ++ assured_by from a (sent_on from m.sent))
heard_answered m from a unused all x i = ⊎_elim
    (λ (j : IsIn x unused). answered_still m (Hear from a ∷ []) tt x.address x.events (all x j))
    (λ (j : IsIn x (assured_by from a (sent_on from m.sent))).
    let o = assured_has from a (sent_on from m.sent) x j in
    subst (λ (address : List ℕ). IsAnswered (mail_next m (Hear from a)) address x.events) (sym o.address_is) (record {
      parcel = o.parcel;
      sent = o.has;
      some = o.some;
      events_are = sym o.events_are;
      heard = subst (λ (y : Answer). IsIn y (heard_on from (m.heard ++ record { address = from; answer = a } ∷ []))) o.is
          (subst (IsIn a) (sym (heard_both from m.heard (record { address = from; answer = a } ∷ []) ∙ ap (λ (b : Bool). heard_on from m.heard ++ (if b then a ∷ [] else [])) ((bytes_eq-Decides from from).1 refl)))
          (in_behind a (heard_on from m.heard) (a ∷ []) (inl refl)));
    })) (in_either x unused (assured_by from a (sent_on from m.sent)) i)

-- one that served is one of them, and so are those that are left
served_in : (address : List ℕ) (events : List Ev) (unused left : List Assurance) → (s : Serves address events unused left) → IsIn s.assurance unused
served_in address events unused left s = subst (IsIn s.assurance) (sym s.parts) (in_behind s.assurance s.front (s.assurance ∷ s.back) (inl refl))

left_in : (address : List ℕ) (events : List Ev) (unused left : List Assurance) → Serves address events unused left → (x : Assurance) → IsIn x left → IsIn x unused
left_in address events unused left s x i =
    subst (IsIn x) (sym s.parts) (⊎_elim (λ (j : IsIn x s.front). in_front x s.front (s.assurance ∷ s.back) j) (λ (j : IsIn x s.back). in_behind x s.front (s.assurance ∷ s.back) (inr j))
    (in_either x s.front s.back (subst (IsIn x) s.left_is i)))

same_answered : (m : Mail) (unused left : List Assurance) → left ≡ unused → AllAnswered m unused → AllAnswered m left
same_answered m unused left same all = subst (AllAnswered m) (sym same) all

left_at : (m : Mail) (at : Place) (events : List Ev) (unused left : List Assurance) → ServesAt at events unused left → AllAnswered m unused → AllAnswered m left
left_at m (place.Address address) events unused left s all = λ x i. all x (left_in address events unused left s x i)
left_at m place.Stdout events unused left same all = same_answered m unused left same all
left_at m (place.File path) events unused left same all = same_answered m unused left same all
left_at m (place.Foreign number) events unused left same all = same_answered m unused left same all
left_at m place.Discard events unused left same all = same_answered m unused left same all
left_at m place.Dead events unused left same all = same_answered m unused left same all

told_answered : (m : Mail) (e : Entry) (unused left : List Assurance) → LeavesUnused e unused left → AllAnswered m unused → AllAnswered (mail_told m e) left
told_answered m (Deliver batch at events fates) unused left leaves all = left_at m at events unused left leaves all
told_answered m (Opened rows limit policy) unused left leaves all = λ x i. absurd (subst (IsIn x) leaves i)
told_answered m (Accept input parcel number event) unused left leaves all = same_answered m unused left leaves all
told_answered m (Mark front) unused left leaves all = same_answered m unused left leaves all
told_answered m (Assure input front) unused left leaves all = same_answered m unused left leaves all
told_answered m (Read batch generation numbers) unused left leaves all = same_answered m unused left leaves all
told_answered m (Back batch verdicts) unused left leaves all = same_answered m unused left leaves all
told_answered m (Shed batch older newer) unused left leaves all = same_answered m unused left leaves all
told_answered m (Letters batch letters) unused left leaves all = same_answered m unused left leaves all
told_answered m (Ack batch) unused left leaves all = same_answered m unused left leaves all
told_answered m (Purge page) unused left leaves all = same_answered m unused left leaves all
told_answered m (Adopt generation config draws) unused left leaves all = same_answered m unused left leaves all

-- ---- legal deeds

module _ (makes : Makes) where
  legal_tell : (s : State) (m : Mail) (unused left : List Assurance) (deeds : List Deed) → Leaves makes s m unused deeds left → Legal makes s (told_of deeds)
  legal_tell s m unused left [] legal = tt
  legal_tell s m unused left (Tell e ∷ deeds) legal = (legal.0, legal_tell (next makes s e) (mail_told m e) legal.1.0 left deeds legal.1.2)
  legal_tell s m unused left (Send address p ∷ deeds) legal = legal_tell s (mail_next m (Send address p)) unused left deeds legal.1
  legal_tell s m unused left (Hear address a ∷ deeds) legal = legal_tell s (mail_next m (Hear address a)) _ left deeds legal.1

  -- what several deeds leave, by what the first of them do
  pub leaves_front : (s : State) (m : Mail) (unused left : List Assurance) (deeds more : List Deed) → Leaves makes s m unused (deeds ++ more) left
      → (now : List Assurance) × Leaves makes s m unused deeds now × Leaves makes (after makes s (told_of deeds)) (mail_after m deeds) now more left
  leaves_front s m unused left [] more legal = (unused, refl, legal)
  leaves_front s m unused left (Tell e ∷ deeds) more legal =
      let rest = leaves_front (next makes s e) (mail_told m e) legal.1.0 left deeds more legal.1.2 in
      (rest.0, (legal.0, (legal.1.0, legal.1.1, rest.1)), rest.2)
  leaves_front s m unused left (Send address p ∷ deeds) more legal =
      let rest = leaves_front s (mail_next m (Send address p)) unused left deeds more legal.1 in (rest.0, (legal.0, rest.1), rest.2)
  leaves_front s m unused left (Hear address a ∷ deeds) more legal =
      let rest = leaves_front s (mail_next m (Hear address a)) _ left deeds more legal.1 in (rest.0, (legal.0, rest.1), rest.2)

  pub leaves_both : (s : State) (m : Mail) (unused now left : List Assurance) (deeds more : List Deed) → Leaves makes s m unused deeds now
      → Leaves makes (after makes s (told_of deeds)) (mail_after m deeds) now more left → Leaves makes s m unused (deeds ++ more) left
  leaves_both s m unused now left [] more legal rest = subst (λ (u : List Assurance). Leaves makes s m u more left) legal rest
  leaves_both s m unused now left (Tell e ∷ deeds) more legal rest =
      (legal.0, (legal.1.0, legal.1.1, leaves_both (next makes s e) (mail_told m e) legal.1.0 now left deeds more legal.1.2 rest))
  leaves_both s m unused now left (Send address p ∷ deeds) more legal rest = (legal.0, leaves_both s (mail_next m (Send address p)) unused now left deeds more legal.1 rest)
  leaves_both s m unused now left (Hear address a ∷ deeds) more legal rest = (legal.0, leaves_both s (mail_next m (Hear address a)) _ now left deeds more legal.1 rest)

  -- parcels on the way to each address are numbered
  abbrev AreNumbered : Mail → Type 0
  AreNumbered m = (address : List ℕ) → numbered 0 (sent_on address m.sent) ≡ true

  none_numbered : numbered 0 [] ≡ true
  unfolding numbered
  none_numbered = refl

  told_numbered : (m : Mail) (e : Entry) → AreNumbered m → AreNumbered (mail_told m e)
  told_numbered m (Opened rows limit policy) are = λ address. none_numbered
  told_numbered m (Accept input parcel number event) are = are
  told_numbered m (Mark front) are = are
  told_numbered m (Assure input front) are = are
  told_numbered m (Read batch generation numbers) are = are
  told_numbered m (Back batch verdicts) are = are
  told_numbered m (Shed batch older newer) are = are
  told_numbered m (Deliver batch at events fates) are = are
  told_numbered m (Letters batch letters) are = are
  told_numbered m (Ack batch) are = are
  told_numbered m (Purge page) are = are
  told_numbered m (Adopt generation config draws) are = are

  sent_numbered : (s : State) (m : Mail) (to : List ℕ) (p : Parcel) → MaySend s (sent_on to m.sent) to p → AreNumbered m → AreNumbered (mail_next m (Send to p))
  sent_numbered s m to p may are address =
      subst (λ (ps : List Parcel). numbered 0 ps ≡ true) (sym (sent_both address m.sent (record { address = to; parcel = p } ∷ []))) (by_test (bytes_eq address to) refl)
    where
      by_test : (b : Bool) → bytes_eq address to ≡ b → numbered 0 (sent_on address m.sent ++ (if b then p ∷ [] else [])) ≡ true
      by_test true test = numbered_more (sent_on address m.sent) p (are address)
          (subst (λ (a : List ℕ). HasNextNumber (sent_on a m.sent) p) (sym ((bytes_eq-Decides address to).0 test)) may.in_turn)
      by_test false test = subst (λ (ps : List Parcel). numbered 0 ps ≡ true) (sym (append-nil (sent_on address m.sent))) (are address)

  all_numbered : (s : State) (m : Mail) (unused left : List Assurance) (deeds : List Deed) → Leaves makes s m unused deeds left → AreNumbered m → AreNumbered (mail_after m deeds)
  all_numbered s m unused left [] legal are = are
  all_numbered s m unused left (Tell e ∷ deeds) legal are = all_numbered (next makes s e) (mail_told m e) legal.1.0 left deeds legal.1.2 (told_numbered m e are)
  all_numbered s m unused left (Send address p ∷ deeds) legal are = all_numbered s (mail_next m (Send address p)) unused left deeds legal.1 (sent_numbered s m address p legal.0 are)
  all_numbered s m unused left (Hear address a ∷ deeds) legal are = all_numbered s (mail_next m (Hear address a)) _ left deeds legal.1 are

  pub mail_numbered : (told : List Entry) (deeds : List Deed) → LegalBehind makes told deeds → (address : List ℕ) → numbered 0 (sent_on address (mail_after no_mail deeds).sent) ≡ true
  mail_numbered told deeds legal = all_numbered (after makes start told) no_mail [] legal.0 deeds legal.1 (λ address. none_numbered)

  -- a delivery to an address that was told has its answer
  module _ (batch : ℕ) (address : List ℕ) (events : List Ev) (fates : List Fate) where
    abbrev here : Entry
    here = Deliver batch (place.Address address) events fates

    served_answered : (m : Mail) (e : Entry) (unused left : List Assurance) → e ≡ here → LeavesUnused e unused left → AllAnswered m unused → IsAnswered (mail_told m e) address events
    served_answered m e unused left is leaves all =
        subst (λ (x : Entry). IsAnswered (mail_told m x) address events) (sym is) (by_service (subst (λ (x : Entry). LeavesUnused x unused left) is leaves))
      where
        by_service : Serves address events unused left → IsAnswered m address events
        by_service s =
            subst (λ (a : List ℕ). IsAnswered m a events) s.address_is
            (subst (λ (es : List Ev). IsAnswered m s.assurance.address es) s.events_are (all s.assurance (served_in address events unused left s)))

    answered_in : (s : State) (m : Mail) (unused left : List Assurance) (deeds : List Deed) → Leaves makes s m unused deeds left → AllAnswered m unused → (before rest : List Entry)
        → told_of deeds ≡ before ++ here ∷ rest → NoOpening rest → IsAnswered (mail_after m deeds) address events
    answered_in s m unused left [] legal all [] rest is none = absurd (cc)
    answered_in s m unused left [] legal all (x ∷ before) rest is none = absurd (cc)
    answered_in s m unused left (Tell e ∷ deeds) legal all [] rest is none =
        answered_still (mail_told m e) deeds (subst NoOpening (sym (tail_is is)) none) address events (served_answered m e unused legal.1.0 (head_is is) legal.1.1 all)
      where
        head_is : e ∷ told_of deeds ≡ here ∷ rest → e ≡ here
        head_is same = cc

        tail_is : e ∷ told_of deeds ≡ here ∷ rest → told_of deeds ≡ rest
        tail_is same = cc
    answered_in s m unused left (Tell e ∷ deeds) legal all (x ∷ before) rest is none =
        answered_in (next makes s e) (mail_told m e) legal.1.0 left deeds legal.1.2 (told_answered m e unused legal.1.0 legal.1.1 all) before rest (tail_is is) none
      where
        tail_is : e ∷ told_of deeds ≡ x ∷ (before ++ here ∷ rest) → told_of deeds ≡ before ++ here ∷ rest
        tail_is same = cc
    answered_in s m unused left (Send to p ∷ deeds) legal all before rest is none =
        answered_in s (mail_next m (Send to p)) unused left deeds legal.1 (λ x i. answered_still m (Send to p ∷ []) tt x.address x.events (all x i)) before rest is none
    answered_in s m unused left (Hear from a ∷ deeds) legal all before rest is none =
        answered_in s (mail_next m (Hear from a)) _ left deeds legal.1 (heard_answered m from a unused all) before rest is none

pub legal_deeds_tell : LegalDeedsTell
legal_deeds_tell makes told deeds legal = legal_tell makes (after makes start told) no_mail [] legal.0 deeds legal.1

pub fronts_are_legal : FrontsOfDeedsAreLegal
fronts_are_legal makes told deeds more legal = let front = leaves_front makes (after makes start told) no_mail [] legal.0 deeds more legal.1 in (front.0, front.1)

pub deliveries_are_answered : DeliveriesAreAnswered
deliveries_are_answered makes told deeds legal before batch address events fates rest is none =
    answered_in makes batch address events fates (after makes start told) no_mail [] legal.0 deeds legal.1 (λ x i. absurd i) before rest is none

-- ---- a parcel that was sent

module _ (makes : Makes) (address : List ℕ) (p : Parcel) (some : is_last p ≡ false) where
  -- it was sent by one of these deeds, behind which the pipeline isn't opened, and what events it has were due then
  pub record SentIn (s : State) (deeds : List Deed) : Type 0 where
    pub before : List Deed
    pub rest : List Deed
    pub parts : deeds ≡ before ++ Send address p ∷ rest
    pub unopened : NoOpening (told_of rest)
    pub next : IsNextFor (after makes s (told_of before)) address p.events

  -- so it was, or before them
  abbrev SentFrom : State → Mail → List Deed → Type 0
  SentFrom s m deeds = (IsIn p (sent_on address m.sent) × NoOpening (told_of deeds)) ⊎ SentIn s deeds

  behind_tell : (s : State) (e : Entry) (deeds : List Deed) → SentIn (next makes s e) deeds → SentIn s (Tell e ∷ deeds)
  behind_tell s e deeds i = record { before = Tell e ∷ i.before; rest = i.rest; parts = ap (λ l. Tell e ∷ l) i.parts; unopened = i.unopened; next = i.next }

  by_entry : (s : State) (m : Mail) (e : Entry) (deeds : List Deed) → SentFrom (next makes s e) (mail_told m e) deeds → SentFrom s m (Tell e ∷ deeds)
  by_entry s m e deeds (inr i) = inr (behind_tell s e deeds i)
  by_entry s m e deeds (inl i) = ⊎_elim
      (λ (opens : (x : Mail) → mail_told x e ≡ no_mail). absurd (subst (λ (x : Mail). IsIn p (sent_on address x.sent)) (opens m) i.0))
      (λ (leaves : LeavesMail e). inl (subst (λ (x : Mail). IsIn p (sent_on address x.sent)) (leaves.same m) i.0, leaves.unopened (told_of deeds) i.1)) (opens_or_not e)

  by_parcel : (s : State) (m : Mail) (to : List ℕ) (q : Parcel) (deeds : List Deed) → MaySend s (sent_on to m.sent) to q → SentFrom s (mail_next m (Send to q)) deeds → SentFrom s m (Send to q ∷ deeds)
  by_parcel s m to q deeds may (inr i) =
      inr (record { before = Send to q ∷ i.before; rest = i.rest; parts = ap (λ l. Send to q ∷ l) i.parts; unopened = i.unopened; next = i.next })
  by_parcel s m to q deeds may (inl i) =
      ⊎_elim (λ (j : IsIn p (sent_on address m.sent)). inl (j, i.1)) (λ (j : IsIn p (if bytes_eq address to then q ∷ [] else [])). by_test (bytes_eq address to) refl j)
      (in_either p (sent_on address m.sent) (if bytes_eq address to then q ∷ [] else []) (subst (IsIn p) (sent_both address m.sent (record { address = to; parcel = q } ∷ [])) i.0))
    where
      is_it : address ≡ to → p ≡ q → SentIn s (Send to q ∷ deeds)
      is_it here same = record {
        before = [];
        rest = deeds;
        parts = ap₂ (λ (a : List ℕ) (x : Parcel). Send a x ∷ deeds) (sym here) (sym same);
        unopened = i.1;
        next = subst (λ (a : List ℕ). IsNextFor s a p.events) (sym here) (subst (λ (x : Parcel). IsNextFor s to x.events) (sym same) (may.due (ap is_last (sym same) ∙ some)));
      }

      by_test : (b : Bool) → bytes_eq address to ≡ b → IsIn p (if b then q ∷ [] else []) → SentFrom s m (Send to q ∷ deeds)
      by_test true test (inl same) = inr (is_it ((bytes_eq-Decides address to).0 test) same)
      by_test true test (inr never) = absurd never
      by_test false test never = absurd never

  sent_among : (s : State) (m : Mail) (unused left : List Assurance) (deeds : List Deed) → Leaves makes s m unused deeds left → IsIn p (sent_on address (mail_after m deeds).sent) → SentFrom s m deeds
  sent_among s m unused left [] legal i = inl (i, tt)
  sent_among s m unused left (Tell e ∷ deeds) legal i = by_entry s m e deeds (sent_among (next makes s e) (mail_told m e) legal.1.0 left deeds legal.1.2 i)
  sent_among s m unused left (Send to q ∷ deeds) legal i = by_parcel s m to q deeds legal.0 (sent_among s (mail_next m (Send to q)) unused left deeds legal.1 i)
  sent_among s m unused left (Hear from a ∷ deeds) legal i = by_answer (sent_among s (mail_next m (Hear from a)) _ left deeds legal.1 i)
    where
      by_answer : SentFrom s (mail_next m (Hear from a)) deeds → SentFrom s m (Hear from a ∷ deeds)
      by_answer (inl j) = inl j
      by_answer (inr j) = inr (record { before = Hear from a ∷ j.before; rest = j.rest; parts = ap (λ l. Hear from a ∷ l) j.parts; unopened = j.unopened; next = j.next })

  pub was_sent : (told : List Entry) (deeds : List Deed) → LegalBehind makes told deeds → IsIn p (sent_on address (mail_after no_mail deeds).sent) → SentIn (after makes start told) deeds
  was_sent told deeds legal i =
      ⊎_elim (λ (j : IsIn p [] × NoOpening (told_of deeds)). absurd j.0) (λ (j : SentIn (after makes start told) deeds). j)
      (sent_among (after makes start told) no_mail [] legal.0 deeds legal.1 i)

-- ---- several pipelines

pub deeds_both : (k : ℕ) (xs ys : List DeedOf) → deeds_by k (xs ++ ys) ≡ deeds_by k xs ++ deeds_by k ys
deeds_both k [] ys = refl
deeds_both k (d ∷ xs) ys = by_test (deeds_both k xs ys) (k == d.line)
  where
    by_test : deeds_by k (xs ++ ys) ≡ deeds_by k xs ++ deeds_by k ys → (b : Bool)
        → (if b then d.deed ∷ deeds_by k (xs ++ ys) else deeds_by k (xs ++ ys)) ≡ (if b then d.deed ∷ deeds_by k xs else deeds_by k xs) ++ deeds_by k ys
    by_test rest true = ap (λ l. d.deed ∷ l) rest
    by_test rest false = rest

pub told_by_both : (k : ℕ) (xs ys : List DeedOf) → told_by k (xs ++ ys) ≡ told_by k xs ++ told_by k ys
told_by_both k xs ys = ap told_of (deeds_both k xs ys) ∙ told_both (deeds_by k xs) (deeds_by k ys)

pub mail_both : (m : Mail) (xs ys : List Deed) → mail_after m (xs ++ ys) ≡ mail_after (mail_after m xs) ys
mail_both m [] ys = refl
mail_both m (d ∷ xs) ys = mail_both (mail_next m d) xs ys

-- entries alone leave no mail
none_told : (e : Entry) → mail_told no_mail e ≡ no_mail
none_told e = ⊎_elim (λ (opens : (m : Mail) → mail_told m e ≡ no_mail). opens no_mail) (λ (l : LeavesMail e). l.same no_mail) (opens_or_not e)

none_by : (k : ℕ) (first : List DeedOf) → AreTold first → mail_after no_mail (deeds_by k first) ≡ no_mail
none_by k [] told = refl
none_by k (d ∷ first) told = by_test (none_by k first told.1) (k == d.line)
  where
    by_test : mail_after no_mail (deeds_by k first) ≡ no_mail → (b : Bool) → mail_after no_mail (if b then d.deed ∷ deeds_by k first else deeds_by k first) ≡ no_mail
    by_test rest true =
        ap (λ (x : Deed). mail_after (mail_next no_mail x) (deeds_by k first)) told.0.1 ∙ ap (λ (m : Mail). mail_after m (deeds_by k first)) (none_told told.0.0) ∙ rest
    by_test rest false = rest

-- what a pipeline sent and heard is that of this run
pub mail_since : (k : ℕ) (first since : List DeedOf) → AreTold first → mail_of k (first ++ since) ≡ mail_of k since
mail_since k first since told =
    ap (mail_after no_mail) (deeds_both k first since) ∙ mail_both no_mail (deeds_by k first) (deeds_by k since) ∙ ap (λ (m : Mail). mail_after m (deeds_by k since)) (none_by k first told)

pub told_all : (told : List Entry) → told_of (tell_all told) ≡ told
told_all [] = refl
told_all (e ∷ told) = ap (λ l. e ∷ l) (told_all told)

none_left : (told : List Entry) → mail_after no_mail (tell_all told) ≡ no_mail
none_left [] = refl
none_left (e ∷ told) = ap (λ (m : Mail). mail_after m (tell_all told)) (none_told e) ∙ none_left told

-- what was done legally, and more
pub did_more : (makes : Makes) (earlier : List Entry) (deeds more : List Deed) (left now : List Assurance) → DidLegally makes earlier deeds left
    → Leaves makes (after makes start (told_of deeds)) (mail_after no_mail deeds) left more now → DidLegally makes earlier (deeds ++ more) now
did_more makes earlier deeds more left now did leaves =
    let s = after makes start earlier in
    let stood : after makes start (told_of deeds) ≡ after makes s (told_of did.since) =
    ap (λ d. after makes start (told_of d)) did.parts ∙ ap (after makes start) (told_both (tell_all earlier) did.since ∙ ap (λ l. l ++ told_of did.since) (told_all earlier))
    ∙ after_both makes start earlier (told_of did.since) in
    let mail : mail_after no_mail deeds ≡ mail_after no_mail did.since =
    ap (mail_after no_mail) did.parts ∙ mail_both no_mail (tell_all earlier) did.since ∙ ap (λ (m : Mail). mail_after m did.since) (none_left earlier) in
    record {
      since = did.since ++ more;
      parts = ap (λ l. l ++ more) did.parts ∙ append_assoc (tell_all earlier) did.since more;
      legal = leaves_both makes s no_mail [] left now did.since more did.legal
          (subst (λ (x : State). Leaves makes x (mail_after no_mail did.since) left more now) stood (subst (λ (m : Mail). Leaves makes (after makes start (told_of deeds)) m left more now) mail leaves));
    }
