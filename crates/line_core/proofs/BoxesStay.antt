-- A box that answers to events keeps its number, so what could be delivered can be still.
use Rattle.std.specs.Prelude.{◌==◌, if◌then◌else◌, slice_index_or}
use Rattle.std.proofs.Common.{◌≡◌, ℕ, suc, List, [], ◌∷◌, length, Option, Result, Ok, Err, refl, sym, ap, ◌∙◌, subst, arith}
use Rattle.std.specs.List.{AllByRecursion}
use Rattle.std.proofs.Math.Seq.{map-set_same}
use Rattle.std.proofs.lemmas.List.{length-map, get_or-set_same}
use Rattle.io_traits.specs.Counts.{Rose}
use Rattle.event_tree.specs.Events.{Ev}
use Rattle.foreign_parts.specs.Delivering.{AreFates, Delivers, HadFault, WasLater}
use Rattle.foreign_parts.specs.declared.output.Delivery.{Delivery}
use Rattle.foreign_parts.specs.declared.output.Delivery.TheVariants as answer
use Rattle.foreign_parts.specs.declared.output.DeliverFault.{DeliverFault}
use Rattle.foreign_parts.specs.declared.output.DeliverFault.TheVariants as fault
use Rattle.foreign_parts.specs.declared.output.Fate.{Fate}
use Rattle.foreign_parts.specs.declared.place.Place.{Place}
use Rattle.foreign_parts.specs.declared.place.Place.TheVariants as place
use Rattle.built_plugins.specs.declared.output.Target.{Target}
use Rattle.line_outputs.specs.BoxTables.{DeliversTo, IsKnown, box_place}
use Rattle.line_outputs.specs.declared.boxes.BoxedOutput.{BoxedOutput}
use Rattle.line_jobs.specs.declared.batch_result.DueDelivery.{DueDelivery}
use Rattle.line_core.specs.Causes.{BoxRose}
use Rattle.line_core.specs.Deliveries.{numbers_of}
use Rattle.line_core.specs.Readiness.{BatchFits, DueFits, PlaceFits, StageFits, TargetFits}
use Rattle.line_core.specs.declared.batches.BatchStage.{BatchStage}
use Rattle.line_core.specs.declared.batches.BatchStage.TheVariants as stage
use Rattle.line_core.specs.declared.batches.LineBatch.{LineBatch}
use Rattle.line_core.proofs.EachOf.{each_then}

-- ---- by the numbers alone

-- the place of a number among numbers, or how many there are
abbrev place_among : ℕ → List ℕ → ℕ
place_among n [] = 0
place_among n (m ∷ ms) = if m == n then 0 else suc (place_among n ms)

module _ {O : Type 0} (number : O → ℕ) where
  by_numbers : (n : ℕ) (bs : List (BoxedOutput O)) → box_place number n bs ≡ place_among n (numbers_of number bs)
  by_numbers n [] = refl
  by_numbers n (b ∷ bs) = ap (λ p. if number b.output == n then 0 else suc p) (by_numbers n bs)

  module _ (old new : List (BoxedOutput O)) (same : numbers_of number new ≡ numbers_of number old) where
    pub as_many : length new ≡ length old
    as_many = sym (length-map new (λ b. number b.output)) ∙ ap length same ∙ length-map old (λ b. number b.output)

    same_place : (n : ℕ) → box_place number n new ≡ box_place number n old
    same_place n = by_numbers n new ∙ ap (place_among n) same ∙ sym (by_numbers n old)

    pub known_still : (n : ℕ) → IsKnown number n old → IsKnown number n new
    known_still n known = omega (arith, known, as_many, same_place n)

    module _ (folder : List ℕ) where
      pub place_still : (p : Place) → PlaceFits number folder old p → PlaceFits number folder new p
      place_still place.Stdout fits = tt
      place_still (place.File path) fits = fits
      place_still (place.Address address) fits = tt
      place_still (place.Foreign n) fits = known_still n fits
      place_still place.Discard fits = tt
      place_still place.Dead fits = tt

      pub targets_still : (ts : List Target) → AllByRecursion (TargetFits number folder old) ts → AllByRecursion (TargetFits number folder new) ts
      targets_still ts all = each_then (TargetFits number folder old) (TargetFits number folder new) (λ t fits. place_still t.place fits) ts all

      pub dues_still : (ds : List DueDelivery) → AllByRecursion (DueFits number folder old) ds → AllByRecursion (DueFits number folder new) ds
      dues_still ds all = each_then (DueFits number folder old) (DueFits number folder new) (λ d fits. (fits.0, place_still d.target.place fits.1)) ds all

      stage_still : (s : BatchStage) → StageFits number folder old s → StageFits number folder new s
      stage_still stage.Away fits = tt
      stage_still (stage.Home left) fits = dues_still left.due fits
      stage_still stage.Lost fits = tt

      pub batches_still : (bs : List LineBatch) → AllByRecursion (BatchFits number folder old) bs → AllByRecursion (BatchFits number folder new) bs
      batches_still bs all = each_then (BatchFits number folder old) (BatchFits number folder new) (λ b fits. stage_still b.stage fits) bs all

-- ---- behind a delivery

module _ {O : Type 0} {number : O → ℕ} {held : O → Option (List Ev)} {faults laters closes : O → ℕ} {n : ℕ} {events : List Ev}
    {result : Result Delivery DeliverFault} {old new : List (BoxedOutput O)}
    (d : DeliversTo number held faults laters closes n events result old new) where
  pub numbers_stay : numbers_of number new ≡ numbers_of number old
  numbers_stay =
      ap (numbers_of number) d.now
      ∙ map-set_same (λ (b : BoxedOutput O). number b.output) old (box_place number n old) d.after d.before
      (d.same ∙ ap (λ (b : BoxedOutput O). number b.output) d.was)

  -- a count of the box rose
  pub box_rose : (count : O → ℕ) → IsKnown number n old → Rose (count d.before.output) (count d.after.output) → BoxRose count old new
  box_rose count known rose = record {
    place = box_place number n old;
    there = known;
    before = d.before;
    after = d.after;
    was = d.was;
    is = sym (ap (λ bs. slice_index_or bs (box_place number n old) d.after) d.now ∙ get_or-set_same old (box_place number n old) d.after d.after known);
    rose = rose;
  }

  pub later_rose : IsKnown number n old → (x : Delivery) → result ≡ Ok x → x ≡ answer.Later → BoxRose laters old new
  later_rose known x is at = box_rose laters known (d.waits.rose (subst WasLater (sym is) (subst (λ y. WasLater (Ok y)) (sym at) tt)))

  pub failed_rose : IsKnown number n old → (x : DeliverFault) → result ≡ Err x → x ≡ fault.Failed → BoxRose faults old new
  failed_rose known x is at = box_rose faults known (d.fails.rose (subst HadFault (sym is) (subst (λ y. HadFault (Err y)) (sym at) tt)))

  pub fates_of : (fates : List Fate) (x : Delivery) → result ≡ Ok x → x ≡ answer.Took fates → AreFates fates events
  fates_of fates x is at =
      (subst (λ y. Delivers (Ok y) events (held d.before.output) (held d.after.output)) at
      (subst (λ r. Delivers r events (held d.before.output) (held d.after.output)) is d.holds)).0
