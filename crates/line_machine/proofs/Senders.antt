-- The ends by which a line sends, what went through them, and the answers that served no delivery yet.
use Rattle.std.proofs.Common.{◌≡◌, ◌⊎◌, inl, inr, ⊎_elim, ℕ, ◌≤◌, ◌==◌, ◌&&◌, not, Bool, true, false, List, [], ◌∷◌, ◌++◌, Option, Some, None, if◌then◌else◌, refl, sym, ap, ap₂, ◌∙◌, subst, arith, append-nil}
use Rattle.std.specs.Prelude.{bytes_eq}
use Rattle.std.proofs.lemmas.Bool.{eq-eqb}
use Rattle.std.proofs.lemmas.Option.{same_Some}
use Rattle.std.proofs.lemmas.Slice.Eq.{bytes_eq-Decides}
use Rattle.event_tree.specs.Events.{Ev}
use Rattle.foreign_parts.specs.declared.place.Place.{Place}
use Rattle.foreign_parts.specs.declared.place.Place.TheVariants as place
use Rattle.pipeline_bus.specs.Ends.{Sending}
use Rattle.pipeline_bus.specs.Parcels.{is_last, with_events}
use Rattle.pipeline_bus.specs.declared.parcel.Answer.{Answer}
use Rattle.pipeline_bus.specs.declared.parcel.Heard.TheVariants.{Assured}
use Rattle.pipeline_bus.specs.declared.parcel.Parcel.{Parcel}
use Rattle.pipeline_bus.proofs.Numbers.{counted_more}
use Rattle.event_flow.specs.Meaning.{Due}
use Rattle.event_flow.specs.Meaning as due
use Rattle.history_book.specs.Deeds.{Deed, tell_all, SentTo, HeardFrom, Mail, mail_next, mail_after, sent_on, heard_on, Assurance, assured_by}
use Rattle.history_book.specs.Entries.{Entry, Opened}
use Rattle.history_book.specs.Lists.{IsIn}
use Rattle.history_book.specs.Steps.{NoOpening}
use Rattle.history_book.proofs.Lists.{in_front, in_behind, in_either}
use Rattle.history_book.proofs.Mailing.{sent_both, heard_both}
use Rattle.line_machine.specs.Doing.{WasSent, IsSent}
use Rattle.line_machine.specs.Ends.{SenderView, sender_at, change_sender, with_sent, with_heard}
use Rattle.line_machine.specs.Finds.{IsPlain}
use Rattle.line_machine.specs.Views.{Batch}
use Rattle.line_machine.proofs.BatchLists.{differs, none_some}

-- ---- ends that send

pub same_address : (a b : List ℕ) → bytes_eq a b ≡ true → a ≡ b
same_address a b test = (bytes_eq-Decides a b).0 test

pub eq_address : (a b : List ℕ) → a ≡ b → bytes_eq a b ≡ true
eq_address a b same = (bytes_eq-Decides a b).1 same

abbrev pub found_by : List ℕ → SenderView → List SenderView → Bool → Option SenderView
found_by other s ss b = if b then Some s else sender_at other ss

module _ (f : SenderView → SenderView) (keeps : (s : SenderView) → (f s).address ≡ s.address) (address other : List ℕ) where
  abbrev pub WasThere : List SenderView → SenderView → Type 0
  WasThere ss u = ((sender_at other ss ≡ Some u) × (other ≡ address → ⊥)) ⊎ ((other ≡ address) × (s : SenderView) × (sender_at address ss ≡ Some s) × (u ≡ f s))

  -- behind a change of the end of an address, another address has the end that it had
  pub sender_changed : (ss : List SenderView) (u : SenderView) → sender_at other (change_sender f address ss) ≡ Some u → WasThere ss u
  sender_changed [] u has = absurd (none_some u has)
  sender_changed (s ∷ ss) u has = by_test (bytes_eq address s.address) refl (sender_changed ss u) has
    where
      here : (b : Bool) → bytes_eq other (f s).address ≡ b → address ≡ s.address → found_by other (f s) ss b ≡ Some u → WasThere (s ∷ ss) u
      here true test same is =
          let one = same_address other (f s).address test ∙ keeps s in
          inr (one ∙ sym same, s, ap (found_by address s ss) (eq_address address s.address same), sym (same_Some (f s) u is))
      here false test same is =
          let apart : other ≡ s.address → ⊥ = λ e. differs (sym (eq_address other (f s).address (e ∙ sym (keeps s))) ∙ test) in
          inl (ap (found_by other s ss) (not_true (bytes_eq other s.address) (λ e. apart (same_address other s.address e))) ∙ is, λ e. apart (e ∙ same))
        where
          not_true : (b : Bool) → (b ≡ true → ⊥) → b ≡ false
          not_true true none = absurd (none refl)
          not_true false none = refl

      there : (b : Bool) → bytes_eq other s.address ≡ b → bytes_eq address s.address ≡ false → (sender_at other (change_sender f address ss) ≡ Some u → WasThere ss u)
          → found_by other s (change_sender f address ss) b ≡ Some u → WasThere (s ∷ ss) u
      there true test apart rest is =
          inl (ap (found_by other s ss) test ∙ is, λ e. differs (sym (eq_address address s.address (sym e ∙ same_address other s.address test)) ∙ apart))
      there false test apart rest is = ⊎_elim
          (λ (o : (sender_at other ss ≡ Some u) × (other ≡ address → ⊥)). inl (ap (found_by other s ss) test ∙ o.0, o.1))
          (λ (c : (other ≡ address) × (x : SenderView) × (sender_at address ss ≡ Some x) × (u ≡ f x)). inr (c.0, c.1, ap (found_by address s ss) apart ∙ c.2, c.3)) (rest is)

      by_test : (b : Bool) → bytes_eq address s.address ≡ b → (sender_at other (change_sender f address ss) ≡ Some u → WasThere ss u)
          → sender_at other (if b then f s ∷ ss else s ∷ change_sender f address ss) ≡ Some u → WasThere (s ∷ ss) u
      by_test true test rest is = here (bytes_eq other (f s).address) refl (same_address address s.address test) is
      by_test false test rest is = there (bytes_eq other s.address) refl test rest is

  -- one that was there is there, as it was or changed
  pub sender_behind : (ss : List SenderView) (s : SenderView) → sender_at other ss ≡ Some s → (u : SenderView) × (sender_at other (change_sender f address ss) ≡ Some u) × ((u ≡ s) ⊎ (u ≡ f s))
  sender_behind [] s has = absurd (none_some s has)
  sender_behind (x ∷ ss) s has = by_test (bytes_eq address x.address) (bytes_eq other x.address) refl (sender_behind ss s) has
    where
      by_test : (b c : Bool) → bytes_eq other x.address ≡ c → (sender_at other ss ≡ Some s → (u : SenderView) × (sender_at other (change_sender f address ss) ≡ Some u) × ((u ≡ s) ⊎ (u ≡ f s)))
          → found_by other x ss c ≡ Some s → (u : SenderView) × (sender_at other (if b then f x ∷ ss else x ∷ change_sender f address ss) ≡ Some u) × ((u ≡ s) ⊎ (u ≡ f s))
      by_test true true test rest is =
          (f x, ap (found_by other (f x) ss) (ap (bytes_eq other) (keeps x) ∙ test), inr (ap f (same_Some x s is)))
      by_test true false test rest is = (s, ap (found_by other (f x) ss) (ap (bytes_eq other) (keeps x) ∙ test) ∙ is, inl refl)
      by_test false true test rest is = (x, ap (found_by other x (change_sender f address ss)) test, inl (same_Some x s is))
      by_test false false test rest is = let r = rest is in (r.0, ap (found_by other x (change_sender f address ss)) test ∙ r.1, r.2)

  -- where none is, none was
  pub none_before : (ss : List SenderView) → sender_at other (change_sender f address ss) ≡ None → sender_at other ss ≡ None
  none_before ss none = by_was (sender_at other ss) refl
    where
      by_was : (o : Option SenderView) → sender_at other ss ≡ o → sender_at other ss ≡ None
      by_was None is = is
      by_was (Some s) is = let u = sender_behind ss s is in absurd (none_some u.0 (sym none ∙ u.1))

pub address_of : (address : List ℕ) (s : SenderView) (ss : List SenderView) → sender_at address ss ≡ Some s → address ≡ s.address
address_of address s [] has = absurd (none_some s has)
address_of address s (x ∷ ss) has = by_test (bytes_eq address x.address) refl (address_of address s ss) has
  where
    by_test : (b : Bool) → bytes_eq address x.address ≡ b → (sender_at address ss ≡ Some s → address ≡ s.address) → found_by address x ss b ≡ Some s → address ≡ s.address
    by_test true test rest is = same_address address x.address test ∙ ap (λ (y : SenderView). y.address) (same_Some x s is)
    by_test false test rest is = rest is

pub sender_in : (address : List ℕ) (s : SenderView) (ss : List SenderView) → sender_at address ss ≡ Some s → IsIn s ss
sender_in address s [] has = absurd (none_some s has)
sender_in address s (x ∷ ss) has = by_test (bytes_eq address x.address) (sender_in address s ss) has
  where
    by_test : (b : Bool) → (sender_at address ss ≡ Some s → IsIn s ss) → found_by address x ss b ≡ Some s → IsIn s (x ∷ ss)
    by_test true rest is = inl (sym (same_Some x s is))
    by_test false rest is = inr (rest is)

pub not_address : (b : Bool) → (b ≡ true → ⊥) → b ≡ false
not_address true none = absurd (none refl)
not_address false none = refl

-- further ends
pub sender_front : (address : List ℕ) (ss more : List SenderView) (s : SenderView) → sender_at address ss ≡ Some s → sender_at address (ss ++ more) ≡ Some s
sender_front address [] more s has = absurd (none_some s has)
sender_front address (x ∷ ss) more s has = by_test (bytes_eq address x.address) (sender_front address ss more s) has
  where
    by_test : (b : Bool) → (sender_at address ss ≡ Some s → sender_at address (ss ++ more) ≡ Some s) → found_by address x ss b ≡ Some s → found_by address x (ss ++ more) b ≡ Some s
    by_test true rest is = is
    by_test false rest is = rest is

pub sender_either : (address : List ℕ) (ss more : List SenderView) (s : SenderView) → sender_at address (ss ++ more) ≡ Some s → (sender_at address ss ≡ Some s) ⊎ ((sender_at address ss ≡ None) × IsIn s more)
sender_either address [] more s has = inr (refl, sender_in address s more has)
sender_either address (x ∷ ss) more s has = by_test (bytes_eq address x.address) (sender_either address ss more s) has
  where
    by_test : (b : Bool) → (sender_at address (ss ++ more) ≡ Some s → (sender_at address ss ≡ Some s) ⊎ ((sender_at address ss ≡ None) × IsIn s more)) → found_by address x (ss ++ more) b ≡ Some s
        → (found_by address x ss b ≡ Some s) ⊎ ((found_by address x ss b ≡ None) × IsIn s more)
    by_test true rest is = inl is
    by_test false rest is = rest is

-- ---- what went through an end, and more

-- an end through which more went
pub record Grows (old new : Sending) : Type 0 where
  pub sent : (p : Parcel) → IsIn p old.sent → IsIn p new.sent
  pub heard : (a : Answer) → IsIn a old.heard → IsIn a new.heard
  pub more : with_events old.sent ≤ with_events new.sent

pub sent_grows : (p : Parcel) (s : SenderView) → Grows s.sends (with_sent p s).sends
sent_grows p s = record { sent = λ q has. in_front q s.sends.sent (p ∷ []) has; heard = λ a has. has; more = let more = counted_more s.sends.sent p in omega (arith, more) }

pub heard_grows : (a : Answer) (s : SenderView) → Grows s.sends (with_heard a s).sends
heard_grows a s = record { sent = λ q has. has; heard = λ b has. in_front b s.sends.heard (a ∷ []) has; more = omega arith }

pub sent_still : (old new : Sending) (number : ℕ) (es : List Ev) → Grows old new → WasSent old number es → WasSent new number es
sent_still old new number es grows was = record { parcel = was.parcel; sent = grows.sent was.parcel was.sent; some = was.some; number_is = was.number_is; events_are = was.events_are }

-- a batch that waits for a parcel, seen as another one that does
abbrev pub as_sent : (b c : Batch) (address : List ℕ) (number : ℕ) → c.parcel ≡ b.parcel → c.left ≡ b.left → IsSent b address number → IsSent c address number
as_sent b c address number parcel left is = record { parcel = parcel ∙ is.parcel; id = is.id; events = is.events; rest = is.rest; next = left ∙ is.next }

-- of one batch there is one next delivery
abbrev pub events_of_first : List Due → List Ev
events_of_first [] = []
events_of_first (due.Letters parts ∷ left) = []
events_of_first (due.Events id at events ∷ left) = events

abbrev pub address_of_first : List Due → List ℕ
address_of_first (due.Events id (place.Address address) events ∷ left) = address
address_of_first left = []

abbrev pub is_to_address : List Due → Bool
is_to_address (due.Events id (place.Address address) events ∷ left) = true
is_to_address left = false

pub plain_is : (id : List ℕ) (at : Place) (events : List Ev) (rest : List Due) → IsPlain at → is_to_address (due.Events id at events ∷ rest) ≡ false
plain_is id place.Stdout events rest plain = refl
plain_is id (place.File path) events rest plain = refl
plain_is id place.Discard events rest plain = refl
plain_is id (place.Address address) events rest plain = absurd plain
plain_is id (place.Foreign number) events rest plain = absurd plain
plain_is id place.Dead events rest plain = absurd plain

pub same_events : (b : Batch) (address other : List ℕ) (n m : ℕ) (x : IsSent b address n) (y : IsSent b other m) → x.events ≡ y.events
same_events b address other n m x y = ap events_of_first (sym x.next ∙ y.next)

pub same_place : (b : Batch) (address other : List ℕ) (n m : ℕ) → IsSent b address n → IsSent b other m → address ≡ other
same_place b address other n m x y = ap address_of_first (sym x.next ∙ y.next)

-- ---- answers that served no delivery yet

-- one of them is taken out
pub record IsSplit (x : Assurance) (xs : List Assurance) : Type 0 where
  pub front : List Assurance
  pub back : List Assurance
  pub parts : xs ≡ front ++ x ∷ back

pub split_at : (x : Assurance) (xs : List Assurance) → IsIn x xs → IsSplit x xs
split_at x [] has = absurd has
split_at x (y ∷ xs) (inl e) = record { front = []; back = xs; parts = ap (λ z. z ∷ xs) (sym e) }
split_at x (y ∷ xs) (inr i) = let rest = split_at x xs i in record { front = y ∷ rest.front; back = rest.back; parts = ap (λ l. y ∷ l) rest.parts }

-- another one is left
pub left_other : (x y : Assurance) (xs : List Assurance) (s : IsSplit x xs) → IsIn y xs → (y ≡ x → ⊥) → IsIn y (s.front ++ s.back)
left_other x y xs s has other =
    ⊎_elim (λ (i : IsIn y s.front). in_front y s.front s.back i)
    (λ (i : IsIn y (x ∷ s.back)). ⊎_elim (λ (e : y ≡ x). absurd (other e)) (λ (j : IsIn y s.back). in_behind y s.front s.back j) i)
    (in_either y s.front (x ∷ s.back) (subst (IsIn y) s.parts has))

abbrev pub says : List ℕ → ℕ → Parcel → Assurance
says address n p = record { address = address; number = n; events = p.events }

-- an answer that a parcel is assured, which was sent, is one of those that it adds
pub assured_in : (address : List ℕ) (number : ℕ) (ps : List Parcel) (p : Parcel) → IsIn p ps → is_last p ≡ false → p.number ≡ number
    → IsIn (record { address = address; number = number; events = p.events }) (assured_by address (record { number = number; answer = Assured }) ps)
assured_in address number [] p has some is = absurd has
assured_in address number (q ∷ ps) p has some is = by_test (is_last q) (q.number == number) refl refl (assured_in address number ps p) has
  where
    of_q : p ≡ q → says address number p ≡ says address q.number q
    of_q e = ap₂ (λ (n : ℕ) (es : List Ev). record { address = address; number = n; events = es }) (sym is ∙ ap (λ (x : Parcel). x.number) e) (ap (λ (x : Parcel). x.events) e)

    by_test : (last same : Bool) → is_last q ≡ last → (q.number == number) ≡ same
        → (IsIn p ps → is_last p ≡ false → p.number ≡ number → IsIn (record { address = address; number = number; events = p.events }) (assured_by address (record { number = number; answer = Assured }) ps))
        → IsIn p (q ∷ ps) → IsIn (record { address = address; number = number; events = p.events })
        (if true && (not last && same) then record { address = address; number = q.number; events = q.events } ∷ assured_by address (record { number = number; answer = Assured }) ps
        else assured_by address (record { number = number; answer = Assured }) ps)
    by_test true same last_is same_is rest (inl e) = absurd (differs (sym last_is ∙ sym (ap is_last e) ∙ some))
    by_test true same last_is same_is rest (inr i) = rest i some is
    by_test false true last_is same_is rest (inl e) = inl (of_q e)
    by_test false true last_is same_is rest (inr i) = inr (rest i some is)
    by_test false false last_is same_is rest (inl e) = absurd (differs (sym (eq-eqb q.number number (sym (ap (λ (x : Parcel). x.number) e) ∙ is)) ∙ same_is))
    by_test false false last_is same_is rest (inr i) = rest i some is

-- ---- mail

pub mail_told_all : (m : Mail) (told : List Entry) → NoOpening told → mail_after m (tell_all told) ≡ m
mail_told_all m [] none = refl
mail_told_all m (Opened rows limit policy ∷ told) none = absurd none
mail_told_all m (e ∷ told) none = mail_told_all m told none

pub on_same : (address : List ℕ) (sent : List SentTo) (p : Parcel) → sent_on address (sent ++ record { address = address; parcel = p } ∷ []) ≡ sent_on address sent ++ p ∷ []
on_same address sent p =
    sent_both address sent (record { address = address; parcel = p } ∷ []) ∙ ap (λ (b : Bool). sent_on address sent ++ (if b then p ∷ [] else [])) (eq_address address address refl)

pub on_other : (address other : List ℕ) (sent : List SentTo) (p : Parcel) → (other ≡ address → ⊥) → sent_on other (sent ++ record { address = address; parcel = p } ∷ []) ≡ sent_on other sent
on_other address other sent p apart =
    sent_both other sent (record { address = address; parcel = p } ∷ [])
    ∙ ap (λ (b : Bool). sent_on other sent ++ (if b then p ∷ [] else [])) (not_address (bytes_eq other address) (λ e. apart (same_address other address e))) ∙ append-nil (sent_on other sent)

pub from_same : (address : List ℕ) (heard : List HeardFrom) (a : Answer) → heard_on address (heard ++ record { address = address; answer = a } ∷ []) ≡ heard_on address heard ++ a ∷ []
from_same address heard a =
    heard_both address heard (record { address = address; answer = a } ∷ []) ∙ ap (λ (b : Bool). heard_on address heard ++ (if b then a ∷ [] else [])) (eq_address address address refl)

pub from_other : (address other : List ℕ) (heard : List HeardFrom) (a : Answer) → (other ≡ address → ⊥) → heard_on other (heard ++ record { address = address; answer = a } ∷ []) ≡ heard_on other heard
from_other address other heard a apart =
    heard_both other heard (record { address = address; answer = a } ∷ [])
    ∙ ap (λ (b : Bool). heard_on other heard ++ (if b then a ∷ [] else [])) (not_address (bytes_eq other address) (λ e. apart (same_address other address e))) ∙ append-nil (heard_on other heard)
