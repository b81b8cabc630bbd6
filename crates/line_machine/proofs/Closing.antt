-- The end of a line closes each kit at home and each box, so that each was closed once.
use Rattle.std.proofs.Common.{◌≡◌, inl, inr, ℕ, ◌+◌, true, List, [], ◌∷◌, ◌++◌, Option, Some, None, refl, sym, ap, ◌∙◌, subst, arith}
use Rattle.std.specs.Prelude.{⊤}
use Rattle.event_flow.specs.Meaning.{Makes}
use Rattle.history_book.specs.Contents.{Bytes}
use Rattle.history_book.specs.Links.{Listening}
use Rattle.history_book.specs.Lists.{IsIn}
use Rattle.history_book.specs.Sound.{Places}
use Rattle.line_machine.specs.Boxes.{new_boxes}
use Rattle.line_machine.specs.Closing.{closing, Lived, Begins_so, Makes_step, kits_closed, boxes_closed, kits_came, boxes_came, EndsCloseOnce, NoneIsOut, FaultsCloseNone, EndsFollow}
use Rattle.line_machine.specs.Kits.{weigh, kit_out, kits_out, kits_of, new_kits}
use Rattle.line_machine.specs.Laws.{FollowsAs}
use Rattle.line_machine.specs.Steps as m
use Rattle.line_machine.specs.Steps.{Step, effect, GoesOn}
use Rattle.line_machine.specs.Views.{Kit, Box, Batch, LineView}
use Rattle.line_machine.proofs.Arrives.{arrives_quietly}
use Rattle.line_machine.proofs.BatchLists.{batch_found}
use Rattle.line_machine.proofs.Boxes.{boxes_stay}
use Rattle.line_machine.proofs.Kits.{weigh_both, kits_stay}

-- ---- each once

module _ (makes : Makes) (listening : Listening) (bytes : Bytes) (places : Places) where
  abbrev after_step : (i : LineView places) → Step makes listening bytes i → LineView places
  after_step i x = (effect makes listening bytes i x).line

  kits_counted : (i j : LineView places) (lived : Lived makes listening bytes places i j) (w : Kit → ℕ)
      → weigh w (kits_closed makes listening bytes places i j lived) + weigh w (kits_of j) ≡ weigh w (kits_of i) + weigh w (kits_came makes listening bytes places i j lived)
  kits_counted i _ (Begins_so _) w = omega arith
  kits_counted i j (Makes_step _ _ x rest) w =
      let step = kits_stay makes listening bytes places i x w in
      let more = kits_counted (after_step i x) j rest w in
      omega (
        arith,
        step,
        more,
        weigh_both w (effect makes listening bytes i x).closed (kits_closed makes listening bytes places (after_step i x) j rest),
        weigh_both w (new_kits makes listening bytes places i x) (kits_came makes listening bytes places (after_step i x) j rest),
      )

  boxes_counted : (i j : LineView places) (lived : Lived makes listening bytes places i j) (w : Box → ℕ)
      → weigh w (boxes_closed makes listening bytes places i j lived) + weigh w j.boxes ≡ weigh w i.boxes + weigh w (boxes_came makes listening bytes places i j lived)
  boxes_counted i _ (Begins_so _) w = omega arith
  boxes_counted i j (Makes_step _ _ x rest) w =
      let step = boxes_stay makes listening bytes places i x w in
      let more = boxes_counted (after_step i x) j rest w in
      omega (
        arith,
        step,
        more,
        weigh_both w (effect makes listening bytes i x).closed_boxes (boxes_closed makes listening bytes places (after_step i x) j rest),
        weigh_both w (new_boxes makes listening bytes places i x) (boxes_came makes listening bytes places (after_step i x) j rest),
      )

  pub ends_close_once : EndsCloseOnce makes listening bytes places
  ends_close_once i j lived e closes = (
    λ w.
        let counted = kits_counted i j lived w in
        let home = closes.kits w in
        omega (arith, counted, home, weigh_both w j.kits (kits_out j.batches), weigh_both w (kits_closed makes listening bytes places i j lived) e.closed),
    λ w.
        let counted = boxes_counted i j lived w in
        let there = closes.boxes w in
        omega (arith, counted, there, weigh_both w (boxes_closed makes listening bytes places i j lived) e.closed_boxes),
  )

-- ---- none is out

no_kits : (bs : List Batch) → ((b : Batch) → IsIn b bs → b.kit ≡ None) → kits_out bs ≡ []
no_kits [] none = refl
no_kits (b ∷ bs) none = ap (λ k. kit_out k ++ kits_out bs) (none b (inl refl)) ∙ no_kits bs (λ c i. none c (inr i))

pub none_is_out : (makes : Makes) (listening : Listening) (bytes : Bytes) (places : Places) → NoneIsOut makes listening bytes places
none_is_out makes listening bytes places earlier deeds came i line (inl rest) = ap kits_out rest.ended.batches
none_is_out makes listening bytes places earlier deeds came i line (inr stop) = no_kits i.batches (λ b has. by_kit b has b.kit refl)
  where
    by_kit : (b : Batch) → IsIn b i.batches → (k : Option Kit) → b.kit ≡ k → b.kit ≡ None
    by_kit b has None e = e
    by_kit b has (Some kit) e =
        absurd (stop.no_jobs b.number (record { batch = b; has = batch_found b i.batches line.senders.differ has; away = (line.kits.out b has kit e).1; kit = kit; kit_is = e }))

-- ---- a fault closes none

pub faults_close_none : (makes : Makes) (listening : Listening) (bytes : Bytes) (places : Places) → FaultsCloseNone makes listening bytes places
faults_close_none makes listening bytes places i (m.Accepts n c r true) never = (refl, refl, refl)
faults_close_none makes listening bytes places i (m.Accepts_parcel n a r true) never = (refl, refl, refl)
faults_close_none makes listening bytes places i (m.Fails_to_deliver n left h f why printed out given took) never = (refl, refl, refl)
faults_close_none makes listening bytes places i (m.Fails_to_assure n front h marks) never = (refl, refl, refl)
faults_close_none makes listening bytes places i (m.Only_fails x fails) never = (refl, refl, refl)
faults_close_none makes listening bytes places i x never = absurd (never tt)

-- ---- the history

pub ends_follow : (makes : Makes) (listening : Listening) (bytes : Bytes) (places : Places) → EndsFollow makes listening bytes places
ends_follow makes listening bytes places told i e stands closes =
    subst (λ y. FollowsAs makes bytes places told i y ⊤) (sym closes.effect_is)
    (arrives_quietly makes bytes places told i (closing i e.closed e.closed_boxes) ⊤ stands refl refl (λ w. (
      refl,
      record {
        running = stands.knows.running;
        between = stands.knows.between;
        limits = stands.knows.limits;
        unread = stands.knows.unread;
        batches = stands.knows.batches;
        below = stands.knows.below;
        used = stands.knows.used;
        inputs = stands.knows.inputs;
        mark = stands.knows.mark;
      },
    )))
