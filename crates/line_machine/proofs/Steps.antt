-- Each step of the machine leaves the line where its history does.
use Rattle.std.proofs.Common.{◌≡◌, ◌∙◌, inl, inr, Bool, true, false, ℕ, List, [], ◌∷◌, ◌++◌, length, Some, None, refl, sym, ap, subst, append-nil, append_assoc}
use Rattle.std.specs.Prelude.{⊤}
use Rattle.event_tree.specs.Events.{Ev}
use Rattle.io_traits.specs.Images.{Image}
use Rattle.foreign_parts.specs.declared.filter.Verdict.{Verdict}
use Rattle.foreign_parts.specs.declared.place.Place.{Place}
use Rattle.foreign_parts.specs.declared.place.Place.TheVariants as place
use Rattle.event_flow.specs.Meaning.{Makes, Due}
use Rattle.event_flow.specs.Meaning as due
use Rattle.history_book.specs.Contents.{Bytes, bytes_at, is_file}
use Rattle.history_book.specs.Entries.{Entry, ParcelAt, Read, Back}
use Rattle.history_book.specs.Holdings.{HoldsTold, StopLeaves}
use Rattle.history_book.specs.Inputs.{AreInputs}
use Rattle.history_book.specs.Legal.{rejections, FatesFit}
use Rattle.history_book.specs.Links.{Listening}
use Rattle.history_book.specs.Queues.{AreRowsOf}
use Rattle.history_book.specs.Sound.{Places}
use Rattle.history_book.specs.States.{Out, State, numbers_found, start, unread, after}
use Rattle.line_machine.specs.Effects.{Effect, MayLeave, Before, Behind, quiet, nothing, in_doubt, holds_more, held_now, accepted_now, ended_now, without_kit, in_parcel, new_batch, with_batch, back_with, home_with, reading, working, collecting, losing, telling, giving, boxing, rejecting, hearing, failing, acknowledging, marking, assuring, failing_to_assure, purging, adopting, accepting_line, accepting_parcel}
use Rattle.line_machine.specs.Finds.{IsPlain, HasInput, TakesRows, Uses}
use Rattle.line_machine.specs.Ends.{TakerView, SenderView, without_taker, change_sender, with_sent, with_heard, change_taker, row_made, assured, refused}
use Rattle.line_machine.specs.declared.calls.Call.{Call}
use Rattle.line_machine.specs.Answers.{IsPart, Parts, None_before, First}
use Rattle.line_machine.specs.Laws.{FollowsAs, StepsFollow, CallsFollow}
use Rattle.line_machine.specs.Stands.{IsBatchOf, Knows, Stands}
use Rattle.line_machine.specs.Steps as m
use Rattle.line_machine.specs.Steps.{Step, effect, GoesOn}
use Rattle.line_machine.specs.Views.{Kit, Incoming, InputView, Batch, LineView, input_of, change_input, change_batch}
use Rattle.line_machine.proofs.Arrives.{arrives, arrives_quietly}
use Rattle.line_machine.proofs.Batches.{changed_one, changed_below, last_found, last_changed}
use Rattle.line_machine.proofs.Deliveries.{gives, tells, rejects}
use Rattle.line_machine.proofs.Inputs.{inputs_same}
use Rattle.line_machine.proofs.Telling as t

module _ (makes : Makes) (listening : Listening) (bytes : Bytes) (places : Places) (told : List Entry) (i : LineView places) (stands : Stands makes bytes places told i) where
  abbrev s : State
  s = after makes start told

  -- an input holds or knows something else
  with_input : (f : InputView → InputView) → ((v : InputView) → input_of (f v) ≡ input_of v) → (n : ℕ) → Knows s (record i { inputs = change_input f n i.inputs })
  with_input f keeps n = record {
    running = stands.knows.running;
    between = stands.knows.between;
    limits = stands.knows.limits;
    unread = stands.knows.unread;
    batches = stands.knows.batches;
    below = stands.knows.below;
    used = stands.knows.used;
    inputs = subst (AreInputs s.plans) (sym (inputs_same f keeps n i.inputs)) stands.knows.inputs;
    mark = stands.knows.mark;
  }

  -- more is held there
  with_more : (n : ℕ) (h : HasInput i n) (came : List Incoming) (well : Type 0) → FollowsAs makes bytes places told i (holds_more i n h came) well
  with_more n h came well =
      arrives_quietly makes bytes places told i (holds_more i n h came) well stands refl refl (λ w. (refl, with_input (held_now (h.input.held ++ came)) (λ v. refl) n))

  -- nothing is made of the line, and its places hold what they held, or another queue that is its own
  as_it_was : (e : Effect places) (well : Type 0) → e.told ≡ [] → e.behind ≡ i.holds → e.line ≡ i → FollowsAs makes bytes places told i e well
  as_it_was e well none same line =
      arrives_quietly makes bytes places told i e well stands none same
      (λ w. (ap (λ (l : LineView places). l.holds) line, subst (Knows s) (sym line) stands.knows))

  kept_batch : (t : TakesRows i) → Knows s (record i { kept = t.rows; unread = t.rest })
  kept_batch t = record {
    running = stands.knows.running;
    between = stands.knows.between;
    limits = stands.knows.limits;
    unread = subst (λ l. AreRowsOf l (unread s)) t.parts stands.knows.unread;
    batches = stands.knows.batches;
    below = stands.knows.below;
    used = stands.knows.used;
    inputs = stands.knows.inputs;
    mark = stands.knows.mark;
  }

  kit_lost : (n : ℕ) (kits : List Kit) → Knows s (record i { batches = change_batch without_kit n i.batches; kits = kits })
  kit_lost n kits = record {
    running = stands.knows.running;
    between = stands.knows.between;
    limits = stands.knows.limits;
    unread = stands.knows.unread;
    batches = changed_one n without_kit i.batches s.out stands.knows.batches
        (λ b o is. record { number = is.number; plan = is.plan; rows = is.rows; verdicts = is.verdicts; left = is.left });
    below = changed_below without_kit (λ b. refl) n i.next_batch i.batches stands.knows.below;
    used = stands.knows.used;
    inputs = stands.knows.inputs;
    mark = stands.knows.mark;
  }

  -- what one call tells, where the line stands behind it
  told_well : (e : Effect places) (well : Type 0) → Stands makes bytes places (told ++ e.told) e.line → e.line.holds ≡ e.behind → FollowsAs makes bytes places told i e well
  told_well e well now same = arrives makes bytes places told i e well stands.holds (subst (HoldsTold makes bytes places (told ++ e.told)) same now.holds) (λ w. now)

  -- the line itself does the work of a batch
  module _ (r : TakesRows i) (verdicts : List Verdict) (uses : Uses makes (new_batch i r.rows None) verdicts) where
    abbrev read_entry : Entry
    read_entry = Read i.next_batch i.plan.generation (numbers_found r.rows)

    abbrev reader : LineView places
    reader = with_batch (i.batches ++ new_batch i r.rows None ∷ []) r.rest i.kits i

    has_read : Stands makes bytes places (told ++ read_entry ∷ []) reader
    has_read = t.reads_it makes listening bytes places told i stands r None i.kits

    has_worked : Stands makes bytes places ((told ++ read_entry ∷ []) ++ Back i.next_batch verdicts ∷ []) (record reader { batches = change_batch (back_with makes verdicts) i.next_batch reader.batches })
    has_worked = t.comes_back makes listening bytes places (told ++ read_entry ∷ []) reader has_read i.next_batch (new_batch i r.rows None)
        (last_found i.next_batch (new_batch i r.rows None) refl i.batches stands.knows.below) refl verdicts uses i.kits

    works : Stands makes bytes places (told ++ (read_entry ∷ Back i.next_batch verdicts ∷ [])) (working makes i r verdicts).line
    works = subst (λ l. Stands makes bytes places l (working makes i r verdicts).line) (append_assoc told (read_entry ∷ []) (Back i.next_batch verdicts ∷ []))
        (subst (λ bs. Stands makes bytes places ((told ++ read_entry ∷ []) ++ Back i.next_batch verdicts ∷ []) (record reader { batches = bs }))
        (last_changed i.next_batch (new_batch i r.rows None) refl (back_with makes verdicts) i.batches stands.knows.below) has_worked)

  -- the ends of links alone are others
  same_but_ends : (takers : List TakerView) → FollowsAs makes bytes places told i (quiet i (record i { takers = takers })) ⊤
  same_but_ends takers = arrives_quietly makes bytes places told i (quiet i (record i { takers = takers })) ⊤ stands refl refl (λ w. (
    refl,
    record {
      running = stands.knows.running;
      between = stands.knows.between;
      limits = stands.knows.limits;
      unread = stands.knows.unread;
      batches = stands.knows.batches;
      below = stands.knows.below;
      used = stands.knows.used;
      inputs = stands.knows.inputs;
      mark = stands.knows.mark;
    },
  ))

  both_ends : (takers : List TakerView) (next_place : ℕ) (senders : List SenderView) → FollowsAs makes bytes places told i (quiet i (record i { takers = takers; next_place = next_place; senders = senders })) ⊤
  both_ends takers next_place senders = arrives_quietly makes bytes places told i (quiet i (record i { takers = takers; next_place = next_place; senders = senders })) ⊤ stands refl refl (λ w. (
    refl,
    record {
      running = stands.knows.running;
      between = stands.knows.between;
      limits = stands.knows.limits;
      unread = stands.knows.unread;
      batches = stands.knows.batches;
      below = stands.knows.below;
      used = stands.knows.used;
      inputs = stands.knows.inputs;
      mark = stands.knows.mark;
    },
  ))

  parcel_changed_none : (senders : List SenderView) → FollowsAs makes bytes places told i (quiet i (record i { senders = senders })) ⊤
  parcel_changed_none senders = both_ends i.takers i.next_place senders

  -- the history says nothing of the parcel in which a batch was sent
  parcel_changed : (n : ℕ) (f : Batch → Batch) → ((b : Batch) (o : Out) → IsBatchOf b o → IsBatchOf (f b) o) → ((b : Batch) → (f b).number ≡ b.number) → (senders : List SenderView)
      → FollowsAs makes bytes places told i (quiet i (record i { senders = senders; batches = change_batch f n i.batches })) ⊤
  parcel_changed n f keeps numbers senders = arrives_quietly makes bytes places told i (quiet i (record i { senders = senders; batches = change_batch f n i.batches })) ⊤ stands refl refl (λ w. (
    refl,
    record {
      running = stands.knows.running;
      between = stands.knows.between;
      limits = stands.knows.limits;
      unread = stands.knows.unread;
      batches = changed_one n f i.batches s.out stands.knows.batches keeps;
      below = changed_below f numbers n i.next_batch i.batches stands.knows.below;
      used = stands.knows.used;
      inputs = stands.knows.inputs;
      mark = stands.knows.mark;
    },
  ))

  stopped_knows : (stopped drains : Bool) (going : List ℕ) → Knows s (record i { stopped = stopped; drains = drains; going = going })
  stopped_knows stopped drains going = record {
    running = stands.knows.running;
    between = stands.knows.between;
    limits = stands.knows.limits;
    unread = stands.knows.unread;
    batches = stands.knows.batches;
    below = stands.knows.below;
    used = stands.knows.used;
    inputs = stands.knows.inputs;
    mark = stands.knows.mark;
  }

  plain_fits : (at : Place) (events : List Ev) → IsPlain at → FatesFit at [] events
  plain_fits place.Stdout events plain = refl
  plain_fits (place.File path) events plain = refl
  plain_fits place.Discard events plain = refl
  plain_fits (place.Address address) events plain = absurd plain
  plain_fits (place.Foreign number) events plain = absurd plain
  plain_fits place.Dead events plain = absurd plain

  some_none : (at : ParcelAt) → Some at ≡ None → ⊥
  some_none at e = cc

  follow : (x : Step makes listening bytes i) → FollowsAs makes bytes places told i (effect makes listening bytes i x) (GoesOn makes listening bytes i x)
  follow (m.Accepts n c r false) =
      told_well (accepting_line listening i n c r) _
      (t.accepts makes listening bytes places told i stands c.by.input c.first.event r n c.by.has None (inl c.reads.is_open) (change_input (accepted_now c.rest (record { number = r.row.number; at = c.first.at })) n i.inputs)
      (inputs_same (accepted_now c.rest (record { number = r.row.number; at = c.first.at })) (λ v. refl) n i.inputs) i.takers) refl
  follow (m.Accepts n c r true) =
      arrives makes bytes places told i (in_doubt true i (accepting_line listening i n c r)) ⊥ stands.holds
      (t.accepts makes listening bytes places told i stands c.by.input c.first.event r n c.by.has None (inl c.reads.is_open) (change_input (accepted_now c.rest (record { number = r.row.number; at = c.first.at })) n i.inputs)
      (inputs_same (accepted_now c.rest (record { number = r.row.number; at = c.first.at })) (λ v. refl) n i.inputs) i.takers).holds (λ never. absurd never)
  follow (m.Accepts_parcel n a r false) =
      told_well (accepting_parcel listening i n a r) _
      (t.accepts makes listening bytes places told i stands a.by.input a.event r n a.by.has (Some a.at) (inr (some_none a.at)) i.inputs refl (change_taker (row_made a.at.number r.row.number) a.at.place a.takers)) refl
  follow (m.Accepts_parcel n a r true) =
      arrives makes bytes places told i (in_doubt true i (accepting_parcel listening i n a r)) ⊥ stands.holds
      (t.accepts makes listening bytes places told i stands a.by.input a.event r n a.by.has (Some a.at) (inr (some_none a.at)) i.inputs refl (change_taker (row_made a.at.number r.row.number) a.at.place a.takers)).holds (λ never. absurd never)
  follow (m.Takes_alone n h address listens taken takers takes) = same_but_ends takers
  follow (m.Is_at_its_end n h opens lines none) =
      arrives_quietly makes bytes places told i (quiet i (record i { inputs = change_input ended_now n i.inputs })) _ stands refl refl (λ w. (refl, with_input ended_now (λ v. refl) n))
  follow (m.Holds_more n h reads came answer none) = with_more n h came _
  follow (m.Reads r k) = told_well (reading i r k) _ (t.reads_it makes listening bytes places told i stands r (Some k.kit) (k.front ++ k.back)) refl
  follow (m.Works r k verdicts uses) = told_well (working makes i r verdicts) _ (works r verdicts uses) refl
  follow (m.Keeps_a_batch r) =
      arrives_quietly makes bytes places told i (quiet i (record i { kept = r.rows; unread = r.rest })) _ stands refl refl (λ w. (refl, kept_batch r))
  follow (m.Collects n a verdicts uses) =
      told_well (collecting makes i n a verdicts) _ (t.comes_back makes listening bytes places told i stands n a.batch a.has a.away verdicts uses (home_with i.plan.generation a.kit i.kits)) refl
  follow (m.Loses_a_result n a) =
      arrives_quietly makes bytes places told i (losing i n a) _ stands refl refl (λ w. (refl, kit_lost n (home_with i.plan.generation a.kit i.kits)))
  follow (m.Tells n parts rest h a) =
      told_well (telling i n parts rest a) _ (tells makes listening bytes places told i stands n parts rest h a.new a.shed.older a.shed.newer a.appends) refl
  follow (m.Gives n id at events rest h plain) =
      told_well (giving bytes i n h.batch at events (due.Events id at events ∷ rest) rest) _
      (gives makes listening bytes places told i stands n id at events [] rest h (plain_fits at events plain) refl
      (λ file m. i.holds.content file m ++ bytes_at bytes (is_file file.path) h.batch.plan.config (due.Events id at events ∷ rest)) (λ file m. refl)) refl
  follow (m.Is_taken n id number events rest h fates are none) =
      told_well (boxing i n number events fates rest) _
      (gives makes listening bytes places told i stands n id (place.Foreign number) events fates rest h are none i.holds.content (λ file m. sym (append-nil (i.holds.content file m)))) refl
  follow (m.Is_rejected n id number events rest h fates are some a) =
      told_well (rejecting i n number events fates rest (rejections h.batch.plan.config id fates events) a) _
      (rejects makes listening bytes places told i stands n id number events rest h fates are some a.new a.shed.older a.shed.newer a.appends) refl
  follow (m.Sends n id address events rest h none p is some may) = parcel_changed n (in_parcel (Some p.number)) (λ b o is. record { number = is.number; plan = is.plan; rows = is.rows; verdicts = is.verdicts; left = is.left }) (λ b. refl) (change_sender (with_sent p) address i.senders)
  follow (m.Hears address a s has turn waits) = parcel_changed_none (change_sender (with_heard a) address i.senders)
  follow (m.Is_not_heard n id address events rest h number is was) = parcel_changed n (in_parcel None) (λ b o is. record { number = is.number; plan = is.plan; rows = is.rows; verdicts = is.verdicts; left = is.left }) (λ b. refl) i.senders
  follow (m.Sends_last address p last may ends) = parcel_changed_none (change_sender (with_sent p) address i.senders)
  follow (m.Is_heard n id address events rest h number is was) =
      told_well (hearing i n address events rest) _
      (gives makes listening bytes places told i stands n id (place.Address address) events [] rest h refl refl i.holds.content (λ file m. sym (append-nil (i.holds.content file m)))) refl
  follow (m.Fails_to_deliver n left h f why printed out given took) = as_it_was (failing i printed given) _ refl refl refl
  follow (m.Acknowledges_it n h queue a) =
      told_well (acknowledging i n queue (length h.batch.rows)) _ (t.acknowledges makes listening bytes places told i stands n h queue a) refl
  follow (m.Marks front last is) =
      told_well (marking i front) _ (t.marks makes listening bytes places told i stands front last is) refl
  follow (m.Assures n front h is) = told_well (assuring i n h front) _ (t.assures makes listening bytes places told i stands n front is) refl
  follow (m.Fails_to_assure n front h marks) = as_it_was (failing_to_assure i n h front) _ refl refl refl
  follow (m.Purges h) =
      told_well (purging i h) _ (t.purges makes listening bytes places told i stands h) refl
  follow (m.Answers place t has may) = same_but_ends (change_taker (assured may.oldest.number may.rest) place i.takers)
  follow (m.Refuses place t has may) = same_but_ends (change_taker (refused may.rest) place i.takers)
  follow (m.Connects takers next_place are listen senders unused) = both_ends (i.takers ++ takers) next_place (i.senders ++ senders)
  follow (m.Releases place t has free) = same_but_ends (without_taker place i.takers)
  follow (m.Stops drains) = arrives_quietly makes bytes places told i (quiet i (record i { stopped = true; drains = drains })) _ stands refl refl (λ w. (refl, stopped_knows true drains i.going))
  follow (m.Goes_on_with place t has) = arrives_quietly makes bytes places told i (quiet i (record i { going = place ∷ i.going })) _ stands refl refl (λ w. (refl, stopped_knows i.stopped i.drains (place ∷ i.going)))
  follow (m.Adopts c) = told_well (adopting listening i c) _ (t.adopts makes listening bytes places told i stands c) refl
  follow (m.Leaves_all x leaves) = as_it_was (nothing i) _ refl refl refl
  follow (m.Only_fails x fails) = as_it_was (nothing i) _ refl refl refl

pub steps_follow : (makes : Makes) (listening : Listening) (bytes : Bytes) (places : Places) → StepsFollow makes bytes places listening
steps_follow makes listening bytes places told i x stands = follow makes listening bytes places told i stands x

-- ---- calls of several steps

module _ (makes : Makes) (listening : Listening) (bytes : Bytes) (places : Places) (told : List Entry) where
  -- a step before the last leaves the line where its history is, and its places as they are
  part_stands : (x : Call) (i : LineView places) (s : Step makes listening bytes i) → IsPart makes listening bytes i s x → Stands makes bytes places told i
      → Stands makes bytes places (told ++ []) (effect makes listening bytes i s).line × ((effect makes listening bytes i s).line.holds ≡ i.holds)
  part_stands x i (m.Sends n id address events rest h none p is some may) part stands =
      ((follow makes listening bytes places told i stands (m.Sends n id address events rest h none p is some may)).stands tt, refl)
  part_stands x i (m.Hears address a s has turn waits) part stands = ((follow makes listening bytes places told i stands (m.Hears address a s has turn waits)).stands tt, refl)
  part_stands x i (m.Sends_last address p last may ends) part stands = ((follow makes listening bytes places told i stands (m.Sends_last address p last may ends)).stands tt, refl)
  part_stands x i s part stands = absurd part

  parts_stand : (x : Call) (i j : LineView places) → Parts makes listening bytes x i j → Stands makes bytes places told i → Stands makes bytes places told j × (j.holds ≡ i.holds)
  parts_stand x i j (None_before _) stands = (stands, refl)
  parts_stand x i j (First _ _ s part parts) stands =
      let first = part_stands x i s part stands in
      let rest = parts_stand x (effect makes listening bytes i s).line j parts (subst (λ l. Stands makes bytes places l (effect makes listening bytes i s).line) (append-nil told) first.0) in
      (rest.0, rest.1 ∙ first.1)

  may_leave : (i j : LineView places) (e : Effect places) (image : Image) → j.holds ≡ i.holds → MayLeave makes bytes places told i e image → MayLeave makes bytes places told j e image
  may_leave i j e image same (Before left) = Before (subst (λ h. StopLeaves makes bytes places told h image) (sym same) left)
  may_leave i j e image same (Behind left) = Behind left

pub calls_follow : (makes : Makes) (listening : Listening) (bytes : Bytes) (places : Places) → CallsFollow makes bytes places listening
calls_follow makes listening bytes places told i x e stands did =
    let parts = parts_stand makes listening bytes places told x i did.line did.before stands in
    let last = subst (λ y. FollowsAs makes bytes places told did.line y (GoesOn makes listening bytes did.line did.step)) (sym did.effect_is) (follow makes listening bytes places told did.line parts.0 did.step) in
    record { legal = last.legal; holds = last.holds; images = λ image left. last.images image (may_leave makes listening bytes places told i did.line e image parts.1 left); stands = last.stands }
