-- A line stands where its history does behind each delivery.
use Rattle.std.proofs.Common.{◌≡◌, ◌≢◌, ◌⊎◌, inl, inr, ℕ, zero, suc, List, [], ◌∷◌, ◌++◌, length, Some, refl, sym, ap, ap₂, ◌∙◌, subst, append-nil}
use Rattle.std.proofs.lemmas.Option.{same_Some}
use Rattle.event_tree.specs.Events.{Ev}
use Rattle.event_tree.specs.declared.lists.DeadPart.{DeadPart}
use Rattle.foreign_parts.specs.declared.output.Fate.{Fate}
use Rattle.foreign_parts.specs.declared.place.Place.{Place}
use Rattle.foreign_parts.specs.declared.place.Place.TheVariants as place
use Rattle.event_flow.specs.Meaning.{Makes, Due}
use Rattle.event_flow.specs.Meaning as due
use Rattle.dead_letters.specs.Appends.{kept_from}
use Rattle.dead_letters.specs.Found.{Held}
use Rattle.dead_letters.specs.Shedding.{shedding}
use Rattle.dead_letters.specs.declared.shedding.Shedding.{Shedding}
use Rattle.history_book.specs.Contents.{Bytes, Appended, AppendsTold, AppendsOf, FileHolds, next_bytes, bytes_at, is_file}
use Rattle.history_book.specs.Entries.{Entry, Shed, Deliver, Letters}
use Rattle.history_book.specs.Legal.{rejections, FatesFit, WereTold, IsBack, IsShed, AreNextLetters, ArePlaces, Legal_at, Legal}
use Rattle.history_book.specs.Links.{Listening}
use Rattle.history_book.specs.Lists.{IsIn, AreBelow}
use Rattle.history_book.specs.Queues.{IsQueueAt, AreRowsOf}
use Rattle.history_book.specs.Sound.{FilePlace, Places}
use Rattle.history_book.specs.States.{Plan, Out, State, Between, Nothing, Shed_of, Rejecting, start, change, told_from, told_next, out_of, left_of, shed_in, tells_letters, next, after}
use Rattle.history_book.proofs.Following.{others_leave_it}
use Rattle.history_book.proofs.Unread.{others_leave_unread}
use Rattle.line_machine.specs.Effects.{one_less, delivered, with_dead, letters_told}
use Rattle.line_machine.specs.Stands.{IsBatchOf, AreBatchesOf, Knows, Stands}
use Rattle.line_machine.specs.Finds.{IsHome}
use Rattle.line_machine.specs.Views.{Batch, LineView, batch_of, change_batch}
use Rattle.line_machine.proofs.Arrives.{entries, one_entry}
use Rattle.line_machine.proofs.Batches.{Beside, beside, changed_both, changed_below}
use Rattle.line_machine.proofs.Shed.{appended_is, allowed, rejections_are, rejections_few, below_more}
use Rattle.line_machine.proofs.Telling.{running, is_back}

module _ (makes : Makes) (listening : Listening) (bytes : Bytes) (places : Places) (told : List Entry) (i : LineView places) (stands : Stands makes bytes places told i) where
  abbrev s : State
  s = after makes start told

  -- a state that is the history's but for batches whose next delivery was told, and for what stands between two entries
  told_less : (n : ℕ) (d : Due) (rest : List Due) → IsHome i n (d ∷ rest) → AreBatchesOf (change_batch (one_less rest) n i.batches) (change told_next n s.out)
  told_less n d rest h = changed_both n (one_less rest) told_next i.batches s.out stands.knows.batches each
    where
      each : (b : Batch) (o : Out) → batch_of n i.batches ≡ Some b → out_of n s.out ≡ Some o → IsBatchOf b o → IsBatchOf (one_less rest b) (told_next o)
      each b o b_is o_is is =
          let same = same_Some b h.batch (sym b_is ∙ h.has) in
          subst (λ left. IsBatchOf (one_less rest b) (told_from o left)) (sym (is.left ∙ ap (λ (x : Batch). x.left) same ∙ h.left_is))
          (record { number = is.number; plan = is.plan; rows = is.rows; verdicts = is.verdicts; left = refl })

  -- what the next delivery adds to a file
  adds : (n : ℕ) (left : List Due) (h : IsHome i n left) (file : FilePlace) → next_bytes bytes (is_file file.path) (out_of n s.out) ≡ bytes_at bytes (is_file file.path) h.batch.plan.config left
  adds n left h file =
      let o = beside n h.batch i.batches s.out stands.knows.batches h.has in
      ap (next_bytes bytes (is_file file.path)) o.has
      ∙ ap₂ (λ (p : Plan) (l : List Due). bytes_at bytes (is_file file.path) p.config l) o.is.plan (o.is.left ∙ h.left_is)

  module _ (n : ℕ) (id : List ℕ) (at : Place) (events : List Ev) (fates : List Fate) (rest : List Due) (h : IsHome i n (due.Events id at events ∷ rest)) (fit : FatesFit at fates events)
      (none : rejections h.batch.plan.config id fates events ≡ []) where
    abbrev out : Beside n h.batch s.out
    out = beside n h.batch i.batches s.out stands.knows.batches h.has

    legal_delivery : Legal_at makes s (Deliver n at events fates)
    legal_delivery = record {
      id = id;
      rest = rest;
      is_back = is_back makes listening bytes places told i stands n (due.Events id at events ∷ rest) h;
      fates_fit = fit;
      told = subst (λ b. WereTold b n (rejections out.out.plan.config id fates events)) (sym stands.knows.between)
          (ap (λ (p : Plan). rejections p.config id fates events) out.is.plan ∙ none);
    }

    -- where its bytes join each file, the line has told it
    module _ (content : (file : FilePlace) → IsIn file places.files → List ℕ)
        (are : (file : FilePlace) (m : IsIn file places.files) → content file m ≡ i.holds.content file m ++ bytes_at bytes (is_file file.path) h.batch.plan.config (due.Events id at events ∷ rest)) where
      abbrev without_it : LineView places
      without_it = record (delivered n rest i) { holds = record i.holds { content = content } }

      pub gives : Stands makes bytes places (told ++ Deliver n at events fates ∷ []) without_it
      gives = one_entry makes bytes places told (Deliver n at events fates) i without_it stands legal_delivery
          (record {
            queue = others_leave_it makes s i.holds.queue (Deliver n at events fates) tt stands.holds.queue;
            files = λ file m. are file m ∙ ap (λ l. i.holds.content file m ++ l) (sym (adds n (due.Events id at events ∷ rest) h file));
            dead = refl;
          }) (record {
            running = stands.knows.running;
            between = refl;
            limits = stands.knows.limits;
            unread = subst (AreRowsOf (i.kept ++ i.unread)) (sym (others_leave_unread makes told (Deliver n at events fates) stands.holds.legal legal_delivery tt)) stands.knows.unread;
            batches = told_less n (due.Events id at events) rest h;
            below = changed_below (one_less rest) (λ b. refl) n i.next_batch i.batches stands.knows.below;
            used = stands.knows.used;
            inputs = stands.knows.inputs;
            mark = stands.knows.mark;
          })

  -- ---- letters

  -- the history's state, but for what stands between two entries
  abbrev between_with : Between → State
  between_with b = record s { between = b }

  -- letters were appended in that state
  appends_of : (b : Between) (shed : Shedding) (n : ℕ) (letters : List DeadPart) (more : List Entry) (left : List Due) (h : IsHome i n left) (old new : Held) → shed_in b ≡ shed
      → AppendsTold (Some i.limits) places.clock shed letters more h.batch.plan.config left old new → AppendsOf s.limits places.clock (shed_in b) letters more (out_of n s.out) old new
  appends_of b shed n letters more left h old new same appends =
      let o = beside n h.batch i.batches s.out stands.knows.batches h.has in
      subst (λ l. AppendsOf l places.clock (shed_in b) letters more (out_of n s.out) old new) (sym stands.knows.limits)
      (subst (λ x. AppendsOf (Some i.limits) places.clock (shed_in b) letters more x old new) (sym o.has)
      (subst (λ x. AppendsTold (Some i.limits) places.clock x letters more o.out.plan.config o.out.left old new) (sym same)
      (subst (λ (p : Plan). AppendsTold (Some i.limits) places.clock shed letters more p.config o.out.left old new) (sym o.is.plan)
      (subst (λ l. AppendsTold (Some i.limits) places.clock shed letters more h.batch.plan.config l old new) (sym (o.is.left ∙ h.left_is)) appends))))

  -- what is left of the batch in the history
  left_there : (n : ℕ) (left : List Due) (h : IsHome i n left) → left_of (out_of n s.out) ≡ left
  left_there n left h =
      let o = beside n h.batch i.batches s.out stands.knows.batches h.has in
      ap left_of o.has ∙ o.is.left ∙ h.left_is

  abbrev back_in : (b : Between) (n : ℕ) (left : List Due) → IsHome i n left → IsBack (between_with b) n left
  back_in b n left h =
      let k = is_back makes listening bytes places told i stands n left h in
      record { out = k.out; has = k.has; verdicts = k.verdicts; back = k.back; left_is = k.left_is }

  -- the letters that come next, in the words of the history's own configuration of the batch
  next_letters : (b : Between) (n : ℕ) (left : List Due) (h : IsHome i n left) (newer : List ℕ) (letters : List DeadPart) → IsShed b n newer → AreNextLetters h.batch.plan.config newer letters left
      → Legal_at makes (between_with b) (Letters n letters)
  next_letters b n left h newer letters shed are =
      let o = beside n h.batch i.batches s.out stands.knows.batches h.has in
      record {
        left = left;
        is_back = back_in b n left h;
        newer = newer;
        shed = shed;
        next = subst (λ (p : Plan). AreNextLetters p.config newer letters left) (sym o.is.plan) are;
      }

  legal_shed : (n : ℕ) (left : List Due) (h : IsHome i n left) (shed : Shedding) (parts : List DeadPart) (new : Held) → Appended i.limits places.clock shed parts i.holds.dead new → (shed ≡ shedding 0 [] → ⊥)
      → (shed.older ≢ 0) ⊎ (shed.newer ≢ []) → ArePlaces shed.newer left → Legal_at makes s (Shed n shed.older shed.newer)
  legal_shed n left h shed parts new appends some which places_are = (
    running makes listening bytes places told i stands,
    record {
      limits = i.limits;
      has = stands.knows.limits;
      policy = allowed i.limits places.clock shed parts i.holds.dead new appends some;
      some = which;
      left = left;
      is_back = back_in s.between n left h;
      rise = (appended_is i.limits places.clock shed parts i.holds.dead new appends).rise;
      places = places_are;
    },
  )

  -- the queue is that of such a state, too
  queue_between : (b : Between) → IsQueueAt (between_with b) i.holds.queue
  queue_between b =
      let q = stands.holds.queue in
      record { is = q.is; known = q.known; kept = q.kept; acknowledged = q.acknowledged; recorded = q.recorded; settled = q.settled; low = q.low; high = q.high }

  some_older : (older : ℕ) (newer : List ℕ) → shedding (suc older) newer ≡ shedding 0 [] → ⊥
  some_older older newer e = differ (ap (λ (x : Shedding). x.older) e)
    where
      differ : suc older ≡ 0 → ⊥
      differ same = cc

  some_newer : (x : ℕ) (newer : List ℕ) → shedding 0 (x ∷ newer) ≡ shedding 0 [] → ⊥
  some_newer x newer e = differ (ap (λ (y : Shedding). y.newer) e)
    where
      differ : x ∷ newer ≡ [] → ⊥
      differ same = cc

  not_zero : (older : ℕ) → suc older ≢ 0
  not_zero older e = cc

  not_empty : (x : ℕ) (newer : List ℕ) → x ∷ newer ≢ []
  not_empty x newer e = cc

  module _ (n : ℕ) (parts : List DeadPart) (rest : List Due) (h : IsHome i n (due.Letters parts ∷ rest)) (new : Held) where
    abbrev with_letters : LineView places
    with_letters = record (delivered n rest i) { holds = with_dead new i.holds }

    abbrev told_state : State
    told_state = record s { out = change told_next n s.out; between = Nothing }

    letters_state : (b : Between) (letters : List DeadPart) → tells_letters (between_with b) n letters (left_of (out_of n s.out)) ≡ told_state
    letters_state b letters = ap (tells_letters (between_with b) n letters) (left_there n (due.Letters parts ∷ rest) h)

    knows_then : Knows told_state with_letters
    knows_then = record {
      running = stands.knows.running;
      between = refl;
      limits = stands.knows.limits;
      unread = stands.knows.unread;
      batches = told_less n (due.Letters parts) rest h;
      below = changed_below (one_less rest) (λ b. refl) n i.next_batch i.batches stands.knows.below;
      used = stands.knows.used;
      inputs = stands.knows.inputs;
      mark = stands.knows.mark;
    }

    queue_then : (b : Between) (letters : List DeadPart) → IsQueueAt (tells_letters (between_with b) n letters (left_of (out_of n s.out))) i.holds.queue
    queue_then b letters = others_leave_it makes (between_with b) i.holds.queue (Letters n letters) tt (queue_between b)

    with_shed : (older : ℕ) (newer : List ℕ) → Appended i.limits places.clock (shedding older newer) parts i.holds.dead new → (shedding older newer ≡ shedding 0 [] → ⊥) → (older ≢ 0) ⊎ (newer ≢ [])
        → Stands makes bytes places (told ++ (Shed n older newer ∷ Letters n (kept_from newer 0 parts) ∷ [])) with_letters
    with_shed older newer appends some which =
        let shed = shedding older newer in
        let b = Shed_of n shed in
        let below = (appended_is i.limits places.clock shed parts i.holds.dead new appends).below in
        let letters = kept_from newer 0 parts in
        entries makes bytes places told (Shed n older newer ∷ Letters n letters ∷ []) i with_letters stands
        (legal_shed n (due.Letters parts ∷ rest) h shed parts new appends some which below, (next_letters b n (due.Letters parts ∷ rest) h newer letters (refl, refl) (below, refl), tt))
        (queue_then b letters) (λ file m. (i.holds.content file m, refl, (i.holds.content file m, refl, refl)))
        (i.holds.dead, refl, (new, appends_of b shed n letters [] (due.Letters parts ∷ rest) h i.holds.dead new refl appends, refl))
        (subst (λ x. Knows x with_letters) (sym (letters_state b letters)) knows_then)

    pub tells : (older : ℕ) (newer : List ℕ) → Appended i.limits places.clock (shedding older newer) parts i.holds.dead new → Stands makes bytes places (told ++ letters_told n (shedding older newer) parts) with_letters
    tells zero [] appends =
        entries makes bytes places told (Letters n parts ∷ []) i with_letters stands
        (next_letters s.between n (due.Letters parts ∷ rest) h [] parts (subst (λ b. IsShed b n []) (sym stands.knows.between) refl) (tt, refl), tt)
        (queue_then s.between parts) (λ file m. (i.holds.content file m, refl, refl))
        (new, appends_of s.between (shedding 0 []) n parts [] (due.Letters parts ∷ rest) h i.holds.dead new (ap shed_in stands.knows.between) appends, refl)
        (subst (λ x. Knows x with_letters) (sym (letters_state s.between parts)) knows_then)
    tells zero (x ∷ newer) appends = with_shed zero (x ∷ newer) appends (some_newer x newer) (inr (not_empty x newer))
    tells (suc older) newer appends = with_shed (suc older) newer appends (some_older older newer) (inl (not_zero older))

  -- ---- a box rejects events

  module _ (n : ℕ) (id : List ℕ) (number : ℕ) (events : List Ev) (rest : List Due) (h : IsHome i n (due.Events id (place.Foreign number) events ∷ rest)) (fates : List Fate) (fit : FatesFit (place.Foreign number) fates events)
      (some_rejected : rejections h.batch.plan.config id fates events ≢ []) (new : Held) where
    abbrev left : List Due
    left = due.Events id (place.Foreign number) events ∷ rest

    abbrev parts : List DeadPart
    parts = rejections h.batch.plan.config id fates events

    abbrev without_them : LineView places
    without_them = record (delivered n rest i) { holds = with_dead new i.holds }

    abbrev delivery : Entry
    delivery = Deliver n (place.Foreign number) events fates

    module _ (b : Between) (shed : Shedding) (b_shed : shed_in b ≡ shed) (is_shed : IsShed b n shed.newer) (appends : Appended i.limits places.clock shed parts i.holds.dead new) where
      abbrev letters : List DeadPart
      letters = kept_from shed.newer 0 parts

      below : AreBelow (length parts) shed.newer
      below = (appended_is i.limits places.clock shed parts i.holds.dead new appends).below

      -- what stands behind the letters, and behind the delivery
      abbrev rejecting_with : Shedding → State
      rejecting_with x = record s { between = Rejecting n x letters }

      letters_then : tells_letters (between_with b) n letters (left_of (out_of n s.out)) ≡ rejecting_with shed
      letters_then = ap (tells_letters (between_with b) n letters) (left_there n left h) ∙ ap rejecting_with b_shed

      legal_letters : Legal_at makes (between_with b) (Letters n letters)
      legal_letters = next_letters b n left h shed.newer letters is_shed (parts, rejections_are h.batch.plan.config id fates events fit.0 fit.1, some_rejected, below, refl)

      legal_then : Legal_at makes (rejecting_with shed) delivery
      legal_then =
          let o = beside n h.batch i.batches s.out stands.knows.batches h.has in
          record {
            id = id;
            rest = rest;
            is_back = back_in (Rejecting n shed letters) n left h;
            fates_fit = fit;
            told = subst (λ (p : Plan). WereTold (Rejecting n shed letters) n (rejections p.config id fates events)) (sym o.is.plan) (refl, some_rejected, below, refl);
          }

      abbrev end_state : State
      end_state = record s { out = change told_next n s.out; between = Nothing }

      knows_end : Knows end_state without_them
      knows_end = record {
        running = stands.knows.running;
        between = refl;
        limits = stands.knows.limits;
        unread = stands.knows.unread;
        batches = told_less n (due.Events id (place.Foreign number) events) rest h;
        below = changed_below (one_less rest) (λ b. refl) n i.next_batch i.batches stands.knows.below;
        used = stands.knows.used;
        inputs = stands.knows.inputs;
        mark = stands.knows.mark;
      }

      -- behind the state with the letters
      legal_rest : Legal makes (next makes (between_with b) (Letters n letters)) (delivery ∷ [])
      legal_rest = (subst (λ x. Legal_at makes x delivery) (sym letters_then) legal_then, tt)

      queue_rest : IsQueueAt (next makes (next makes (between_with b) (Letters n letters)) delivery) i.holds.queue
      queue_rest = others_leave_it makes (next makes (between_with b) (Letters n letters)) i.holds.queue delivery tt (others_leave_it makes (between_with b) i.holds.queue (Letters n letters) tt (queue_between b))

      knows_rest : Knows (next makes (next makes (between_with b) (Letters n letters)) delivery) without_them
      knows_rest = subst (λ x. Knows (next makes x delivery) without_them) (sym letters_then) knows_end

      file_rest : (file : FilePlace) (m : IsIn file places.files) → FileHolds makes bytes file.path (next makes (between_with b) (Letters n letters)) (i.holds.content file m) (delivery ∷ []) (i.holds.content file m)
      file_rest file m = subst (λ x. FileHolds makes bytes file.path x (i.holds.content file m) (delivery ∷ []) (i.holds.content file m)) (sym letters_then)
          (i.holds.content file m, sym (ap (λ l. i.holds.content file m ++ l) (adds n left h file) ∙ append-nil (i.holds.content file m)), refl)

      dead_rest : AppendsOf s.limits places.clock (shed_in b) letters (delivery ∷ []) (out_of n s.out) i.holds.dead new
      dead_rest = appends_of b shed n letters (delivery ∷ []) left h i.holds.dead new b_shed (parts, refl, refl, appends)

    with_shed_then : (older : ℕ) (newer : List ℕ) → Appended i.limits places.clock (shedding older newer) parts i.holds.dead new → (shedding older newer ≡ shedding 0 [] → ⊥) → (older ≢ 0) ⊎ (newer ≢ [])
        → Stands makes bytes places (told ++ (Shed n older newer ∷ Letters n (kept_from newer 0 parts) ∷ delivery ∷ [])) without_them
    with_shed_then older newer appends some which =
        let shed = shedding older newer in
        let b = Shed_of n shed in
        let is_shed : IsShed b n newer = (refl, refl) in
        let places_are = below_more (length parts) (length events) (rejections_few h.batch.plan.config id fates events) newer (below b shed refl is_shed appends) in
        entries makes bytes places told (Shed n older newer ∷ Letters n (kept_from newer 0 parts) ∷ delivery ∷ []) i without_them stands
        (legal_shed n left h shed parts new appends some which places_are, (legal_letters b shed refl is_shed appends, legal_rest b shed refl is_shed appends))
        (queue_rest b shed refl is_shed appends)
        (λ file m. (i.holds.content file m, refl, (i.holds.content file m, refl, file_rest b shed refl is_shed appends file m)))
        (i.holds.dead, refl, (new, dead_rest b shed refl is_shed appends, (new, refl, refl)))
        (knows_rest b shed refl is_shed appends)

    pub rejects : (older : ℕ) (newer : List ℕ) → Appended i.limits places.clock (shedding older newer) parts i.holds.dead new
        → Stands makes bytes places (told ++ (letters_told n (shedding older newer) parts ++ delivery ∷ [])) without_them
    rejects zero [] appends =
        let shed = shedding 0 [] in
        let none = ap shed_in stands.knows.between in
        let is_shed : IsShed s.between n [] = subst (λ b. IsShed b n []) (sym stands.knows.between) refl in
        entries makes bytes places told (Letters n parts ∷ delivery ∷ []) i without_them stands
        (legal_letters s.between shed none is_shed appends, legal_rest s.between shed none is_shed appends)
        (queue_rest s.between shed none is_shed appends)
        (λ file m. (i.holds.content file m, refl, file_rest s.between shed none is_shed appends file m))
        (new, dead_rest s.between shed none is_shed appends, (new, refl, refl))
        (knows_rest s.between shed none is_shed appends)
    rejects zero (x ∷ newer) appends = with_shed_then zero (x ∷ newer) appends (some_newer x newer) (inr (not_empty x newer))
    rejects (suc older) newer appends = with_shed_then (suc older) newer appends (some_older older newer) (inl (not_zero older))
