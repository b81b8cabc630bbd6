-- What the dead letter queue holds of events that a place rejected.
use Rattle.std.proofs.Common.{◌≡◌, ◌⊎◌, inl, inr, ℕ, List, [], ◌∷◌, ◌++◌, Option, Some, None, refl, sym, ap, ◌∙◌, subst, append_assoc}
use Rattle.std.proofs.lemmas.Option.{same_Some}
use Rattle.event_tree.specs.Events.{Ev}
use Rattle.event_tree.specs.declared.lists.DeadPart.{DeadPart}
use Rattle.foreign_parts.specs.declared.output.Fate.{Fate}
use Rattle.foreign_parts.specs.declared.place.Place.{Place}
use Rattle.event_flow.specs.Meaning.{Makes, Due}
use Rattle.event_flow.specs.Meaning as due
use Rattle.dead_letters.specs.Found.{Held}
use Rattle.dead_letters.specs.declared.shedding.Shedding.{Shedding}
use Rattle.history_book.specs.Contents.{Clock, Appends, AppendsTold, AppendsOf, DeadHolds}
use Rattle.history_book.specs.Entries.{Entry, Accept, Mark, Assure, Read, Back, Shed, Deliver, Letters, Ack, Purge, Adopt, Opened}
use Rattle.history_book.specs.Laws.{Tells, fates_of, limits_in, WereAppended, RejectionsWereAppended}
use Rattle.history_book.specs.Legal.{rejections, WereTold, AreNextLetters, MayDeliver, MayTellLetters, Legal_at, Legal}
use Rattle.history_book.specs.States.{Plan, Between, Nothing, Shed_of, Rejecting, Limits, Out, State, start, newest, out_of, left_of, shed_in, reads, tells_letters, next, after}
use Rattle.history_book.proofs.Histories.{after_both, legal_first, legal_rest}
use Rattle.history_book.proofs.DeadLetters.{AreKnown, start_known, at, appended}

-- ---- what stands just before a delivery whose place rejected events

-- letters of rejected events were told by this entry where the pipeline stood so: of this batch, of which events are due next
pub record TellsRejected (s : State) (e : Entry) (batch : ℕ) (shed : Shedding) (letters : List DeadPart) : Type 0 where
  pub is : e ≡ Letters batch letters
  pub shed_is : shed ≡ shed_in s.between
  pub id : List ℕ
  pub at : Place
  pub events : List Ev
  pub rest : List Due
  pub next : left_of (out_of batch s.out) ≡ due.Events id at events ∷ rest

module _ (batch : ℕ) (shed : Shedding) (letters : List DeadPart) where
  abbrev Is : Between → Type 0
  Is b = b ≡ Rejecting batch shed letters

  nothing_differs : Is Nothing → ⊥
  nothing_differs e = cc

  shed_differs : (b : ℕ) (s : Shedding) → Is (Shed_of b s) → ⊥
  shed_differs b s e = cc

  still : (b : Between) → b ≡ Nothing → Is b → ⊥
  still b none is = nothing_differs (sym none ∙ is)

  read_between : (s : State) (b : ℕ) (numbers : List ℕ) (plan : Option Plan) → s.between ≡ Nothing → Is (reads s b numbers plan).between → ⊥
  read_between s b numbers None none is = still s.between none is
  read_between s b numbers (Some plan) none is = still s.between none is

  same_batch : (b : ℕ) (h : Shedding) (ls : List DeadPart) → Is (Rejecting b h ls) → b ≡ batch
  same_batch b h ls e = cc

  same_shed : (b : ℕ) (h : Shedding) (ls : List DeadPart) → Is (Rejecting b h ls) → h ≡ shed
  same_shed b h ls e = cc

  same_letters : (b : ℕ) (h : Shedding) (ls : List DeadPart) → Is (Rejecting b h ls) → ls ≡ letters
  same_letters b h ls e = cc

  letters_between : (s : State) (b : ℕ) (ls : List DeadPart) (left : List Due) → left_of (out_of b s.out) ≡ left → (left ≡ [] → ⊥) → Is (tells_letters s b ls left).between
      → TellsRejected s (Letters b ls) batch shed letters
  letters_between s b ls [] left_is some is = absurd (some refl)
  letters_between s b ls (due.Letters ds ∷ rest) left_is some is = absurd (nothing_differs is)
  letters_between s b ls (due.Events id at es ∷ rest) left_is some is = record {
    is = ap (λ (n : ℕ). Letters n ls) (same_batch b (shed_in s.between) ls is) ∙ ap (Letters batch) (same_letters b (shed_in s.between) ls is);
    shed_is = sym (same_shed b (shed_in s.between) ls is);
    id = id;
    at = at;
    events = es;
    rest = rest;
    next = ap (λ (n : ℕ). left_of (out_of n s.out)) (sym (same_batch b (shed_in s.between) ls is)) ∙ left_is;
  }

  -- letters are told where something is left
  some_left : (s : State) (b : ℕ) (ls : List DeadPart) → MayTellLetters s b ls → left_of (out_of b s.out) ≡ [] → ⊥
  some_left s b ls may none =
      let left_is = sym may.is_back.left_is ∙ ap left_of (sym may.is_back.has) ∙ none in
      subst (AreNextLetters may.is_back.out.plan.config may.newer ls) left_is may.next

  module _ (makes : Makes) where
    last_step : (s : State) (e : Entry) → Legal_at makes s e → Is (next makes s e).between → TellsRejected s e batch shed letters
    last_step s (Accept input parcel number event) legal is = absurd (still s.between legal.0.between is)
    last_step s (Mark front) legal is = absurd (still s.between legal.0.between is)
    last_step s (Assure input front) legal is = absurd (still s.between legal.0.between is)
    last_step s (Read b generation numbers) legal is = absurd (read_between s b numbers (newest s.plans) legal.running.between is)
    last_step s (Back b verdicts) legal is = absurd (still s.between legal.0.between is)
    last_step s (Shed b older newer) legal is = absurd (shed_differs b _ is)
    last_step s (Deliver b at events fates) legal is = absurd (nothing_differs is)
    last_step s (Letters b ls) legal is = letters_between s b ls (left_of (out_of b s.out)) refl (some_left s b ls legal) is
    last_step s (Ack b) legal is = absurd (still s.between legal.0.between is)
    last_step s (Purge page) legal is = absurd (still s.between legal.between is)
    last_step s (Adopt generation config draws) legal is = absurd (still s.between legal.1 is)
    last_step s (Opened rows limit policy) legal is = absurd (nothing_differs is)

    -- the last entry told them
    pub record IsLast (s : State) (told : List Entry) : Type 0 where
      pub before : List Entry
      pub entry : Entry
      pub parts : told ≡ before ++ entry ∷ []
      pub tells : TellsRejected (after makes s before) entry batch shed letters

    last_of : (s : State) (e : Entry) (told : List Entry) → Legal makes s (e ∷ told) → Is (after makes s (e ∷ told)).between → IsLast s (e ∷ told)
    last_of s e [] legal is = record { before = []; entry = e; parts = refl; tells = last_step s e legal.0 is }
    last_of s e (x ∷ told) legal is =
        let last = last_of (next makes s e) x told legal.1 is in
        record { before = e ∷ last.before; entry = last.entry; parts = ap (λ (l : List Entry). e ∷ l) last.parts; tells = last.tells }

    last_told : (told : List Entry) → Legal makes start told → Is (after makes start told).between → IsLast start told
    last_told [] legal is = absurd (nothing_differs is)
    last_told (e ∷ told) legal is = last_of start e told legal is

-- ---- an entry that tells letters of rejected events appends them

-- the batches stay where letters of rejected events are told
outs_stay : (s : State) (batch : ℕ) (ls : List DeadPart) (left : List Due) (id : List ℕ) (at : Place) (es : List Ev) (rest : List Due) → left ≡ due.Events id at es ∷ rest
    → (tells_letters s batch ls left).out ≡ s.out
outs_stay s batch ls left id at es rest is = ap (λ (l : List Due). (tells_letters s batch ls l).out) is

module _ (known : List Limits) (makes : Makes) (clock : Clock) (base content : Held) (s : State) (rest : List Entry) (b batch : ℕ) (place : Place) (es : List Ev) (fates : List Fate) where
  -- what was appended where the letters were told, with the delivery behind them
  parts_of : (o : Out) (shed : Shedding) (ls : List DeadPart) (id : List ℕ) (at_place : Place) (events : List Ev) (left : List Due) (old new : Held) → o.left ≡ due.Events id at_place events ∷ left
      → AppendsOf s.limits clock shed ls (Deliver b place es fates ∷ rest) (Some o) old new → Appends s.limits clock shed (rejections o.plan.config id fates es) old new
  parts_of o shed ls id at_place events left old new is made =
      let told = subst (λ (l : List Due). AppendsTold s.limits clock shed ls (Deliver b place es fates ∷ rest) o.plan.config l old new) is made in
      subst (λ (parts : List DeadPart). Appends s.limits clock shed parts old new) told.1 told.3

module _ (makes : Makes) (clock : Clock) (base content : Held) (told : List Entry) (plan : Plan) (id : List ℕ) (at_place : Place) (events : List Ev) (legal : Legal makes start told)
    (holds : DeadHolds makes clock start base told content) (before : List Entry) (rest : List Entry) (batch : ℕ) (o : Out) (left : List Due)
    (was_out : out_of batch (after makes start before).out ≡ Some o) (next_is : o.left ≡ due.Events id at_place events ∷ left) where
  abbrev known : List Limits
  known = limits_in told

  module _ (b : ℕ) (place : Place) (es : List Ev) (fates : List Fate) (parts : told ≡ before ++ Deliver b place es fates ∷ rest) (same_events : es ≡ events) where
    abbrev Result : Type 0
    Result = (rejections o.plan.config id fates es ≡ []) ⊎ WereAppended known clock base content (rejections o.plan.config id fates es)

    by_last : (shed : Shedding) (ls : List DeadPart) → IsLast batch shed ls makes start before → Result
    by_last shed ls last =
        let s = after makes start last.before in
        let entry_is = last.tells.is in
        let whole : told ≡ last.before ++ Letters batch ls ∷ Deliver b place es fates ∷ rest
        = parts ∙ ap (λ (l : List Entry). l ++ Deliver b place es fates ∷ rest) last.parts ∙ append_assoc last.before (last.entry ∷ []) (Deliver b place es fates ∷ rest)
        ∙ ap (λ (e : Entry). last.before ++ e ∷ Deliver b place es fates ∷ rest) entry_is in
        let there = at known clock makes start last.before (Letters batch ls) (Deliver b place es fates ∷ rest) base content
        (subst (AreKnown known) whole (λ l i. i)) (start_known known) (subst (λ (l : List Entry). DeadHolds makes clock start base l content) whole holds) in
        let after_is : after makes start before ≡ next makes s (Letters batch ls)
        = ap (after makes start) last.parts ∙ after_both makes start last.before (last.entry ∷ []) ∙ ap (next makes s) entry_is in
        let outs : (after makes start before).out ≡ s.out
        = ap (λ (x : State). x.out) after_is ∙ outs_stay s batch ls (left_of (out_of batch s.out)) last.tells.id last.tells.at last.tells.events last.tells.rest last.tells.next in
        let out_there : out_of batch s.out ≡ Some o = ap (out_of batch) (sym outs) ∙ was_out in
        let made = subst (λ (x : Option Out). AppendsOf s.limits clock (shed_in s.between) ls (Deliver b place es fates ∷ rest) x there.old there.new) out_there there.made in
        let appends = parts_of known makes clock base content s rest b batch place es fates o (shed_in s.between) ls id at_place events left there.old there.new next_is made in
        inr (appended known clock base there.old there.new content s.limits there.are (shed_in s.between) (rejections o.plan.config id fates es) there.first appends there.since)

    by_between : (between : Between) → (after makes start before).between ≡ between → b ≡ batch → WereTold between b (rejections o.plan.config id fates es) → Result
    by_between Nothing is same none = inl none
    by_between (Shed_of n shed) is same never = absurd never
    by_between (Rejecting n shed ls) is same told_before =
        by_last shed ls (subst (λ (k : ℕ). IsLast k shed ls makes start before) (told_before.0 ∙ same) (last_told n shed ls makes before (legal_first makes start before _ (subst (Legal makes start) parts legal)) is))

    same_place : (x y : List ℕ) (p q : Place) (u v : List Ev) (l m : List Due) → due.Events x p u ∷ l ≡ due.Events y q v ∷ m → x ≡ y
    same_place x y p q u v l m e = cc

    of_delivery : b ≡ batch → MayDeliver (after makes start before) b place es fates → Result
    of_delivery same may =
        let one = same_Some may.is_back.out o (sym may.is_back.has ∙ ap (λ (n : ℕ). out_of n (after makes start before).out) same ∙ was_out) in
        let ids = same_place may.id id place at_place es events may.rest left (sym may.is_back.left_is ∙ ap (λ (x : Out). x.left) one ∙ next_is) in
        by_between (after makes start before).between refl same
        (subst (λ (i : List ℕ). WereTold (after makes start before).between b (rejections o.plan.config i fates es)) ids
        (subst (λ (x : Out). WereTold (after makes start before).between b (rejections x.plan.config may.id fates es)) one may.told))

  abbrev Whole : Entry → Type 0
  Whole e = (rejections plan.config id (fates_of e) events ≡ []) ⊎ WereAppended known clock base content (rejections plan.config id (fates_of e) events)

  same_list : (x y : List ℕ) (p q : Place) (u v : List Ev) → due.Events x p u ≡ due.Events y q v → v ≡ u
  same_list x y p q u v e = cc

  no_letters : (ds : List DeadPart) → due.Events id at_place events ≡ due.Letters ds → ⊥
  no_letters ds e = cc

  of_entry : (e : Entry) → told ≡ before ++ e ∷ rest → o.plan ≡ plan → Tells e batch (due.Events id at_place events) → Legal_at makes (after makes start before) e → Whole e
  of_entry (Deliver b place es fates) parts plan_is tells may =
      let es_is = same_list id tells.1 at_place place events es tells.2 in
      subst (λ (p : Plan). (rejections p.config id fates events ≡ []) ⊎ WereAppended known clock base content (rejections p.config id fates events)) plan_is
      (subst (λ (v : List Ev). (rejections o.plan.config id fates v ≡ []) ⊎ WereAppended known clock base content (rejections o.plan.config id fates v)) es_is
      (of_delivery b place es fates parts es_is tells.0 may))
  of_entry (Letters b ds) parts plan_is tells may = absurd (no_letters tells.1 tells.2)
  of_entry (Accept input parcel number event) parts plan_is tells may = absurd tells
  of_entry (Mark front) parts plan_is tells may = absurd tells
  of_entry (Assure input front) parts plan_is tells may = absurd tells
  of_entry (Read b generation numbers) parts plan_is tells may = absurd tells
  of_entry (Back b verdicts) parts plan_is tells may = absurd tells
  of_entry (Shed b older newer) parts plan_is tells may = absurd tells
  of_entry (Ack b) parts plan_is tells may = absurd tells
  of_entry (Purge page) parts plan_is tells may = absurd tells
  of_entry (Adopt generation config draws) parts plan_is tells may = absurd tells
  of_entry (Opened rows limit policy) parts plan_is tells may = absurd tells

pub rejections_were_appended : RejectionsWereAppended
rejections_were_appended makes clock base content told plan id at_place events legal holds w =
    let legal_there = legal_rest makes start w.before (w.entry ∷ w.rest) (subst (Legal makes start) w.parts legal) in
    of_entry makes clock base content told plan id at_place events legal holds w.before w.rest w.batch w.out w.left w.was_out w.next w.entry w.parts w.plan_is w.tells legal_there.0
