-- What a pipeline's places hold goes on as it is told, and whatever a stop leaves of it is sound.
use Rattle.std.proofs.Common.{◌≡◌, ◌⊎◌, inr, ⊎_elim, ℕ, List, [], ◌∷◌, ◌++◌, Option, Some, None, refl, sym, subst}
use Rattle.event_tree.specs.declared.lists.DeadPart.{DeadPart}
use Rattle.config_tree.specs.declared.tree.Config.{Config}
use Rattle.event_flow.specs.Meaning.{Makes, Due}
use Rattle.event_flow.specs.Meaning as due
use Rattle.dead_letters.specs.Found.{Held}
use Rattle.queue_files.specs.Folders.{folder_in}
use Rattle.dead_letters.specs.declared.shedding.Shedding.{Shedding}
use Rattle.history_book.specs.Contents.{Bytes, Clock, AreRejected, AppendsTold, AppendsOf, DeadAfter, FileHolds, DeadHolds, next_fates}
use Rattle.history_book.specs.Entries.{Entry, Accept, Mark, Assure, Read, Back, Shed, Deliver, Letters, Ack, Purge, Adopt, Opened}
use Rattle.history_book.specs.Holdings.{LeftIsSound, FollowingStands, OpeningStands}
use Rattle.history_book.specs.Legal.{Legal}
use Rattle.history_book.specs.Queues.{IsQueueAt}
use Rattle.history_book.specs.Sound.{Places}
use Rattle.history_book.specs.States.{Out, Limits, Nothing, Rejecting, State, start, out_of, left_of, shed_in, tells_letters, next, after}
use Rattle.history_book.proofs.Following.{opened_is_of}
use Rattle.history_book.proofs.Histories.{after_both}
use Rattle.history_book.proofs.Holding.{kept_fits}
use Rattle.history_book.proofs.Opening.{openings_fit}

module _ (makes : Makes) (bytes : Bytes) where
  legal_both : (s : State) (told more : List Entry) → Legal makes s told → Legal makes (after makes s told) more → Legal makes s (told ++ more)
  legal_both s [] more legal then_more = then_more
  legal_both s (e ∷ told) more legal then_more = (legal.0, legal_both (next makes s e) told more legal.1 then_more)

  file_both : (path : List ℕ) (s : State) (told more : List Entry) (base mid content : List ℕ) → FileHolds makes bytes path s base told mid → FileHolds makes bytes path (after makes s told) mid more content
      → FileHolds makes bytes path s base (told ++ more) content
  file_both path s [] more base mid content holds then_more = subst (λ b. FileHolds makes bytes path s b more content) holds then_more
  file_both path s (e ∷ told) more base mid content holds then_more = (holds.0, holds.1, file_both path (next makes s e) told more holds.0 mid content holds.2 then_more)

module _ (makes : Makes) (clock : Clock) where
  -- ---- dead letters

  -- letters that are told append by the fates of the delivery behind them alone
  told_same : (limits : Option Limits) (shed : Shedding) (letters : List DeadPart) (config : Config) (left : List Due) (told more : List Entry) (old new : Held) → next_fates told ≡ next_fates more
      → AppendsTold limits clock shed letters told config left old new → AppendsTold limits clock shed letters more config left old new
  told_same limits shed letters config [] told more old new same appends = appends
  told_same limits shed letters config (due.Letters ds ∷ rest) told more old new same appends = appends
  told_same limits shed letters config (due.Events id at es ∷ rest) told more old new same appends =
      (appends.0, subst (AreRejected config id es appends.0) same appends.1, appends.2, appends.3)

  of_same : (limits : Option Limits) (shed : Shedding) (letters : List DeadPart) (o : Option Out) (told more : List Entry) (old new : Held) → next_fates told ≡ next_fates more
      → AppendsOf limits clock shed letters told o old new → AppendsOf limits clock shed letters more o old new
  of_same limits shed letters None told more old new same appends = appends
  of_same limits shed letters (Some o) told more old new same appends = told_same limits shed letters o.plan.config o.left told more old new same appends

  dead_same : (s : State) (e : Entry) (told more : List Entry) (old new : Held) → next_fates told ≡ next_fates more → DeadAfter makes clock s e told old new → DeadAfter makes clock s e more old new
  dead_same s (Letters batch letters) told more old new same is = of_same s.limits (shed_in s.between) letters (out_of batch s.out) told more old new same is
  dead_same s (Accept input parcel number event) told more old new same is = is
  dead_same s (Mark front) told more old new same is = is
  dead_same s (Assure input front) told more old new same is = is
  dead_same s (Read batch generation numbers) told more old new same is = is
  dead_same s (Back batch verdicts) told more old new same is = is
  dead_same s (Shed batch older newer) told more old new same is = is
  dead_same s (Deliver batch at events fates) told more old new same is = is
  dead_same s (Ack batch) told more old new same is = is
  dead_same s (Purge page) told more old new same is = is
  dead_same s (Adopt generation config draws) told more old new same is = is
  dead_same s (Opened rows limit policy) told more old new same is = is

  -- where no letters of rejected events were told last, those that were go by no entry behind them
  due_alone : (limits : Option Limits) (shed : Shedding) (s : State) (batch : ℕ) (letters : List DeadPart) (o : Option Out) (more : List Entry) (old new : Held)
      → (tells_letters s batch letters (left_of o)).between ≡ Nothing → AppendsOf limits clock shed letters [] o old new → AppendsOf limits clock shed letters more o old new
  due_alone limits shed s batch letters None more old new whole appends = appends
  due_alone limits shed s batch letters (Some o) more old new whole appends = by_left o.left whole appends
    where
      by_left : (left : List Due) → (tells_letters s batch letters left).between ≡ Nothing → AppendsTold limits clock shed letters [] o.plan.config left old new
          → AppendsTold limits clock shed letters more o.plan.config left old new
      by_left [] none a = a
      by_left (due.Letters ds ∷ rest) none a = a
      by_left (due.Events id at es ∷ rest) none a = absurd (differ none)
        where
          differ : Rejecting batch (shed_in s.between) letters ≡ Nothing → ⊥
          differ e = cc

  whole_dead : (s : State) (e : Entry) (more : List Entry) (old new : Held) → (next makes s e).between ≡ Nothing → DeadAfter makes clock s e [] old new → DeadAfter makes clock s e more old new
  whole_dead s (Letters batch letters) more old new whole is = due_alone s.limits (shed_in s.between) s batch letters (out_of batch s.out) more old new whole is
  whole_dead s (Accept input parcel number event) more old new whole is = is
  whole_dead s (Mark front) more old new whole is = is
  whole_dead s (Assure input front) more old new whole is = is
  whole_dead s (Read batch generation numbers) more old new whole is = is
  whole_dead s (Back batch verdicts) more old new whole is = is
  whole_dead s (Shed batch older newer) more old new whole is = is
  whole_dead s (Deliver batch at events fates) more old new whole is = is
  whole_dead s (Ack batch) more old new whole is = is
  whole_dead s (Purge page) more old new whole is = is
  whole_dead s (Adopt generation config draws) more old new whole is = is
  whole_dead s (Opened rows limit policy) more old new whole is = is

  fates_alone : (e : Entry) (told more : List Entry) → next_fates (e ∷ told) ≡ next_fates (e ∷ (told ++ more))
  fates_alone (Deliver batch at events fates) told more = refl
  fates_alone (Accept input parcel number event) told more = refl
  fates_alone (Mark front) told more = refl
  fates_alone (Assure input front) told more = refl
  fates_alone (Read batch generation numbers) told more = refl
  fates_alone (Back batch verdicts) told more = refl
  fates_alone (Shed batch older newer) told more = refl
  fates_alone (Letters batch letters) told more = refl
  fates_alone (Ack batch) told more = refl
  fates_alone (Purge page) told more = refl
  fates_alone (Adopt generation config draws) told more = refl
  fates_alone (Opened rows limit policy) told more = refl

  dead_both : (s : State) (told more : List Entry) (base mid content : Held) → ((after makes s told).between ≡ Nothing) ⊎ (next_fates more ≡ None) → DeadHolds makes clock s base told mid
      → DeadHolds makes clock (after makes s told) mid more content → DeadHolds makes clock s base (told ++ more) content
  dead_both s [] more base mid content whole holds then_more = subst (λ b. DeadHolds makes clock s b more content) holds then_more
  dead_both s (e ∷ []) more base mid content whole holds then_more = (
    holds.0,
    ⊎_elim (λ (none : (next makes s e).between ≡ Nothing). whole_dead s e more base holds.0 none holds.1)
        (λ (none : next_fates more ≡ None). dead_same s e [] more base holds.0 (sym none) holds.1) whole,
    subst (λ b. DeadHolds makes clock (next makes s e) b more content) holds.2 then_more,
  )
  dead_both s (e ∷ x ∷ told) more base mid content whole holds then_more =
      (holds.0, dead_same s e (x ∷ told) (x ∷ (told ++ more)) base holds.0 (fates_alone x told more) holds.1, dead_both (next makes s e) (x ∷ told) more holds.0 mid content whole holds.2 then_more)

module _ (makes : Makes) (bytes : Bytes) (places : Places) where
  pub left_is_sound : LeftIsSound makes bytes places
  left_is_sound told h i stands left = record {
    legal = stands.legal;
    rows = left.queue.held;
    is_found = left.queue.is_found;
    fits = kept_fits (after makes start told) h.queue (folder_in places.queue i) stands.queue left.queue;
    files = λ file j.
        let l = left.files file j in
        record { content = l.0; holds = l.1; whole = h.content file j; allowed = stands.files file j; or_more = l.2 };
    dead = record { held = left.dead.0; is_found = left.dead.1; whole = h.dead; allowed = stands.dead; or_more = left.dead.2 };
  }

  pub following_stands : FollowingStands makes bytes places
  following_stands told more old new stands follows = record {
    legal = legal_both makes bytes start told more stands.legal follows.legal;
    queue = subst (λ s. IsQueueAt s new.queue) (sym (after_both makes start told more)) follows.queue;
    files = λ file i. file_both makes bytes file.path start told more file.base (old.content file i) (new.content file i) (stands.files file i) (follows.files file i);
    dead = dead_both makes places.clock start told more places.dead_base old.dead new.dead follows.whole stands.dead follows.dead;
  }

  pub opening_stands : OpeningStands makes bytes places
  opening_stands told i sound h limit policy opened =
      let e = Opened sound.rows.rows limit policy in
      let may = openings_fit makes told sound.rows limit policy sound.legal sound.fits in
      record {
        legal = legal_both makes bytes start told (e ∷ []) sound.legal (may.0, tt);
        queue = subst (λ s. IsQueueAt s h.queue) (sym (after_both makes start told (e ∷ []))) (opened_is_of makes told h.queue sound.rows limit policy sound.legal sound.fits opened.queue);
        files = λ file j.
            let f = sound.files file j in
            file_both makes bytes file.path start told (e ∷ []) file.base f.whole (h.content file j) f.allowed
            (f.content, f.or_more, opened.files file j);
        dead = dead_both makes places.clock start told (e ∷ []) places.dead_base sound.dead.whole h.dead (inr refl) sound.dead.allowed (sound.dead.held, sound.dead.or_more, opened.dead);
      }
