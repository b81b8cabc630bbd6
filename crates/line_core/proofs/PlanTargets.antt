-- The targets of a plan: each number that stands in one was drawn for a boxed output, so that a box has it.
use Rattle.std.specs.Prelude.{codes, bytes_eq}
use Rattle.std.proofs.Common.{◌≡◌, ◌⊎◌, inl, inr, ⊎_elim, ◌<◌, ◌+◌, ◌==◌, ℕ, suc, Bool, true, false, Option, Some, None, List, [], ◌∷◌, length, map, if◌then◌else◌, refl, sym, ap, ◌∙◌, subst, arith}
use Rattle.std.proofs.lemmas.Bool.{cases_Bool, cond-true, cond-false, eq-eqb, false≢true}
use Rattle.std.specs.List.{AllByRecursion}
use Rattle.config_tree.specs.declared.tree.Plugin.{Plugin}
use Rattle.event_flow.specs.Places.{Draws, drawn_for, once, places_of}
use Rattle.event_tree.specs.Paths.{over}
use Rattle.foreign_parts.specs.declared.place.Place.{Place}
use Rattle.foreign_parts.specs.declared.place.Place.TheVariants as place
use Rattle.built_plugins.specs.Numbering.{output_id, output_places, targets_from, targets_of}
use Rattle.built_plugins.specs.declared.output.Target.{Target}
use Rattle.event_flow.specs.Parts.{parts_of}
use Rattle.graph_checks.specs.declared.drawn.Drawn.{Drawn}
use Rattle.graph_checks.specs.declared.planned.PlannedOutputs.{PlannedOutputs}
use Rattle.line_folder.specs.declared.folder.LineFolder.{LineFolder}
use Rattle.line_outputs.specs.declared.box_table.BoxedOutputs.{BoxedOutputs}
use Rattle.line_outputs.specs.BoxTables.{IsKnown, box_place}
use Rattle.line_outputs.specs.declared.boxes.BoxedOutput.{BoxedOutput}
use Rattle.line_core.specs.Jobs.{AreOut}
use Rattle.line_core.specs.Openings.{AreOutside, HasBoxes, IsPlaceOutside}
use Rattle.line_core.specs.Readiness.{BatchFits, CanDeliver, PlaceFits, TargetFits}
use Rattle.line_core.specs.declared.generation.Generation.{Generation}
use Rattle.line_core.specs.declared.line.Line.{Line}
use Rattle.line_core.proofs.EachOf.{each_joined, each_then, both_of}

-- a number is one of some
abbrev IsOne : ℕ → List ℕ → Type 0
IsOne n [] = ⊥
IsOne n (m ∷ ms) = (m ≡ n) ⊎ IsOne n ms

abbrev numbers_of : Draws → List ℕ
numbers_of draws = map (λ d. d.1) draws

-- the number of a place is one of these
abbrev IsOf : List ℕ → Place → Type 0
IsOf numbers place.Stdout = Unit {0}
IsOf numbers (place.File path) = Unit {0}
IsOf numbers (place.Address address) = Unit {0}
IsOf numbers (place.Foreign n) = IsOne n numbers
IsOf numbers place.Discard = Unit {0}
IsOf numbers place.Dead = Unit {0}

-- ---- a number that is found was drawn

some_same : (n m : ℕ) → Some n ≡ Some m → n ≡ m
some_same n m is = cc

drawn : (id : List ℕ) (draws : Draws) (n : ℕ) → drawn_for id draws ≡ Some n → IsOne n (numbers_of draws)
drawn id [] n is = absurd (none_some n is)
  where
    none_some : (n : ℕ) → None ≡ Some n → ⊥
    none_some n e = cc
drawn id (d ∷ draws) n is = elim (cases_Bool (bytes_eq d.0 id)) [
  | inl here ↦ inl (some_same d.1 n (sym (cond-true (bytes_eq d.0 id) (Some d.1) (drawn_for id draws) here) ∙ is))
  | inr other ↦ inr (drawn id draws n (sym (cond-false (bytes_eq d.0 id) (Some d.1) (drawn_for id draws) other) ∙ is))
]

-- ---- places

module _ (numbers : List ℕ) where
  abbrev AreOf : List Place → Type 0
  AreOf places = AllByRecursion (IsOf numbers) places

  by_test : (b : Bool) (one other : List Place) → AreOf one → AreOf other → AreOf (if b then one else other)
  by_test true one other is are = is
  by_test false one other is are = are

  addresses : (texts : List (List ℕ)) → AreOf (map place.Address texts)
  addresses [] = tt
  addresses (t ∷ texts) = (tt, addresses texts)

  of_address : (found : Option (List (List ℕ))) → AreOf (over (λ texts. map place.Address (once texts)) [] found)
  of_address None = tt
  of_address (Some texts) = addresses (once texts)

  of_file : (found : Option (List ℕ)) → AreOf (over (λ path. place.File path ∷ []) [] found)
  of_file None = tt
  of_file (Some path) = (tt, tt)

  of_box : (found : Option ℕ) → ((n : ℕ) → found ≡ Some n → IsOne n numbers) → AreOf (over (λ n. place.Foreign n ∷ []) [] found)
  of_box None makes = tt
  of_box (Some n) makes = (makes n refl, tt)

of_plugin : (draws : Draws) (id : List ℕ) (p : Plugin) → AllByRecursion (IsOf (numbers_of draws)) (places_of draws id p)
of_plugin draws id p =
    let numbers = numbers_of draws in
    by_test numbers (bytes_eq p.name (codes "stdout")) _ _ (tt, tt)
    (by_test numbers (bytes_eq p.name (codes "file")) _ _ (of_file numbers _)
    (by_test numbers (bytes_eq p.name (codes "pipeline")) _ _ (of_address numbers _)
    (by_test numbers (bytes_eq p.name (codes "sink")) _ _ (tt, tt) (of_box numbers (drawn_for id draws) (λ n is. drawn id draws n is)))))

-- ---- targets

abbrev TargetIsOf : List ℕ → Target → Type 0
TargetIsOf numbers t = IsOf numbers t.place

each_target : (numbers : List ℕ) (id : List ℕ) (places : List Place) → AllByRecursion (IsOf numbers) places → AllByRecursion (TargetIsOf numbers) (targets_of id places)
each_target numbers id [] each = tt
each_target numbers id (p ∷ places) each = (each.0, each_target numbers id places each.1)

targets_are : (draws : Draws) (k : ℕ) (ps : List Plugin) → AllByRecursion (TargetIsOf (numbers_of draws)) (targets_from draws k ps)
targets_are draws k [] = tt
targets_are draws k (p ∷ ps) =
    each_joined (TargetIsOf (numbers_of draws)) (targets_of (output_id k p) (output_places draws k p)) (targets_from draws (k + 1) ps)
    (each_target (numbers_of draws) (output_id k p) (output_places draws k p) (of_plugin draws (output_id k p) p)) (targets_are draws (k + 1) ps)

-- ---- boxes

seconds : {O : Type 0} (number : O → ℕ) (outputs : List (Drawn O)) → numbers_of (map (λ (d : Drawn O). (d.want.id, number d.plugged)) outputs) ≡ map (λ (d : Drawn O). number d.plugged) outputs
seconds number [] = refl
seconds number (d ∷ outputs) = ap (λ ns. number d.plugged ∷ ns) (seconds number outputs)

module _ {O : Type 0} (number : O → ℕ) where
  known_by : (n : ℕ) (b : BoxedOutput O) (bs : List (BoxedOutput O)) → (IsOne n (map (λ (x : BoxedOutput O). number x.output) bs) → box_place number n bs < length bs)
      → (number b.output ≡ n) ⊎ IsOne n (map (λ (x : BoxedOutput O). number x.output) bs) → (test : Bool) → (number b.output == n) ≡ test → (if test then 0 else suc (box_place number n bs)) < suc (length bs)
  known_by n b bs behind is true here = omega arith
  known_by n b bs behind is false other = ⊎_elim
      (λ same. absurd (false≢true (sym other ∙ eq-eqb (number b.output) n same)))
      (λ later. let lt : box_place number n bs < length bs = behind later in omega (arith, lt)) is

  known : (n : ℕ) (bs : List (BoxedOutput O)) → IsOne n (map (λ (b : BoxedOutput O). number b.output) bs) → IsKnown number n bs
  known n [] is = absurd is
  known n (b ∷ bs) is = known_by n b bs (λ later. known n bs later) is (number b.output == n) refl

  module _ (folder : List ℕ) (boxes : List (BoxedOutput O)) where
    fits : (p : Place) → IsPlaceOutside folder p → IsOf (map (λ (b : BoxedOutput O). number b.output) boxes) p → PlaceFits number folder boxes p
    fits place.Stdout outside is = tt
    fits (place.File path) outside is = outside
    fits (place.Address address) outside is = tt
    fits (place.Foreign n) outside is = known n boxes is
    fits place.Discard outside is = tt
    fits place.Dead outside is = tt

    -- the targets of the outputs that plugins are, where boxes have the numbers that were drawn
    pub targets_fit : (draws : Draws) (ps : List Plugin) → map (λ d. d.1) draws ≡ map (λ (b : BoxedOutput O). number b.output) boxes
        → AllByRecursion (λ (t : Target). IsPlaceOutside folder t.place) (targets_from draws 1 ps) → AllByRecursion (TargetFits number folder boxes) (targets_from draws 1 ps)
    targets_fit draws ps same outside =
        let numbers = map (λ (b : BoxedOutput O). number b.output) boxes in
        let are = subst (λ ns. AllByRecursion (TargetIsOf ns) (targets_from draws 1 ps)) same (targets_are draws 1 ps) in
        each_then (λ (t : Target). IsPlaceOutside folder t.place × TargetIsOf numbers t) (TargetFits number folder boxes) (λ t is. fits t.place is.0 is.1) (targets_from draws 1 ps)
        (both_of (λ (t : Target). IsPlaceOutside folder t.place) (TargetIsOf numbers) (targets_from draws 1 ps) outside are)

    -- those of a generation
    at_generation : {F : Type 0} (generation : Generation F) (outputs : List (Drawn O)) → HasBoxes number generation outputs → map (λ (b : BoxedOutput O). number b.output) boxes ≡ map (λ (d : Drawn O). number d.plugged) outputs
        → AreOutside folder generation.outgoing → AllByRecursion (TargetFits number folder boxes) generation.outgoing.outputs.targets
    at_generation generation outputs has boxed outside =
        subst (λ (o : PlannedOutputs). AllByRecursion (TargetFits number folder boxes) o.outputs.targets) (sym has.outgoing)
        (targets_fit generation.draws (parts_of generation.config.outputs).plugins (ap numbers_of has.draws ∙ seconds number outputs ∙ sym boxed) (subst (AreOutside folder) has.outgoing outside))

  -- a line that begins can deliver
  pub can_deliver : {F : Type 0} (l : Line F O) (stands : LineFolder) (generation : Generation F) (boxes : BoxedOutputs O) (outputs : List (Drawn O)) → l.folder ≡ stands → l.generation ≡ generation → l.boxes ≡ boxes → l.batches.items ≡ []
      → HasBoxes number generation outputs → map (λ (b : BoxedOutput O). number b.output) boxes.outputs.items ≡ map (λ (d : Drawn O). number d.plugged) outputs → AreOutside stands.queue.folder generation.outgoing → CanDeliver number l
  can_deliver {F} l stands generation boxes outputs folder same_generation same_boxes no_batch has boxed outside =
      let fit = at_generation stands.queue.folder boxes.outputs.items generation outputs has boxed outside in
      let here = subst (λ (x : LineFolder). AllByRecursion (TargetFits number x.queue.folder boxes.outputs.items) generation.outgoing.outputs.targets) (sym folder) fit in
      let with_boxes = subst (λ (x : BoxedOutputs O). AllByRecursion (TargetFits number l.folder.queue.folder x.outputs.items) generation.outgoing.outputs.targets) (sym same_boxes) here in
      record {
        targets = subst (λ (x : Generation F). AllByRecursion (TargetFits number l.folder.queue.folder l.boxes.outputs.items) x.outgoing.outputs.targets) (sym same_generation) with_boxes;
        batches = subst (λ bs. AllByRecursion (BatchFits number l.folder.queue.folder l.boxes.outputs.items) bs) (sym no_batch) tt;
      }

-- no job is out of a line at first
pub none_out : {F O : Type 0} (l : Line F O) → AreOut l []
none_out l = record { each = tt; room = omega (arith, l.generation.kits.few) }
