-- The boxed outputs of a pipeline, found by the numbers that their boxes have of their own.
use Rattle.std.specs.Prelude.{◌≡◌, ◌<◌, ◌==◌, ℕ, suc, List, [], ◌∷◌, Option, Result, length, remove, slice_index_or, slice_set, if◌then◌else◌}
use Rattle.io_traits.specs.Counts.{HasCause, one_more}
use Rattle.io_traits.specs.Telling.{Grows}
use Rattle.event_tree.specs.Events.{Ev}
use Rattle.foreign_parts.specs.Delivering.{Delivers, HadFault, WasLater}
use Rattle.foreign_parts.specs.declared.output.Delivery.{Delivery}
use Rattle.foreign_parts.specs.declared.output.DeliverFault.{DeliverFault}
use Rattle.line_outputs.specs.declared.boxes.BoxedOutput.{BoxedOutput}

module _ {X : Type 0} (number : X → ℕ) where
  -- the place of the first box of a number, or how many boxes there are
  abbrev pub box_place : ℕ → List (BoxedOutput X) → ℕ
  box_place n [] = 0
  box_place n (b ∷ bs) = if number b.output == n then 0 else suc (box_place n bs)

  -- there is one
  abbrev pub IsKnown : ℕ → List (BoxedOutput X) → Type 0
  IsKnown n bs = box_place n bs < length bs

  -- it is this
  abbrev pub IsBoxOf : ℕ → List (BoxedOutput X) → BoxedOutput X → Type 0
  IsBoxOf n bs b = b ≡ slice_index_or bs (box_place n bs) b

module _ {X : Type 0} (number : X → ℕ) (held : X → Option (List Ev)) (faults laters closes : X → ℕ) where
  -- the box of a number answered to events, and the others stay
  pub record DeliversTo (n : ℕ) (events : List Ev) (result : Result Delivery DeliverFault) (old new : List (BoxedOutput X)) : Type 0 where
    pub before : BoxedOutput X
    pub after : BoxedOutput X
    pub was : IsBoxOf number n old before
    pub now : new ≡ slice_set old (box_place number n old) after
    pub kind : after.kind ≡ before.kind
    pub id : after.id ≡ before.id
    pub same : number after.output ≡ number before.output
    pub holds : Delivers result events (held before.output) (held after.output)
    pub fails : HasCause (faults before.output) (faults after.output) (HadFault result)
    pub waits : HasCause (laters before.output) (laters after.output) (WasLater result)
    pub open_still : closes after.output ≡ closes before.output

  -- it was closed and taken away, and the others stay
  pub record IsClosed (n : ℕ) (x : X) (old new : List (BoxedOutput X)) : Type 0 where
    pub before : BoxedOutput X
    pub was : IsBoxOf number n old before
    pub left : new ≡ remove old (box_place number n old)
    pub same : number x ≡ number before.output
    pub holds : Grows (held before.output) (held x) []
    pub fails : faults x ≡ faults before.output
    pub waits : laters x ≡ laters before.output
    pub closed : closes x ≡ one_more (closes before.output)
