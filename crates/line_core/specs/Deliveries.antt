-- What a delivery leaves of a line, and what stands behind each of its answers.
use Rattle.std.specs.Prelude.{◌≡◌, ℕ, List, map, Result, Ok, Err}
use Rattle.io_traits.specs.declared.queue_faults.Damage.{Damage}
use Rattle.line_outputs.specs.declared.boxes.BoxedOutput.{BoxedOutput}
use Rattle.line_outputs.specs.declared.letters.LetterFault.{LetterFault}
use Rattle.line_outputs.specs.declared.letters.LetterFault.TheVariants as letter
use Rattle.line_machine.specs.declared.calls.Delivered.{Delivered}
use Rattle.line_machine.specs.declared.calls.Delivered.TheVariants as delivered
use Rattle.line_machine.specs.declared.calls.LineFault.{LineFault}
use Rattle.line_machine.specs.declared.calls.LineFault.TheVariants as fault
use Rattle.line_core.specs.Parts.{boxes_of, queue_of}
use Rattle.line_core.specs.declared.line.Line.{Line}

-- ---- what changes

module _ {O : Type 0} (number : O → ℕ) where
  -- the numbers of boxes
  abbrev pub numbers_of : List (BoxedOutput O) → List ℕ
  numbers_of boxes = map (λ (b : BoxedOutput O). number b.output) boxes

module _ {F O : Type 0} where
  -- the folder alone, and of that not the queue
  pub record ChangesFolder (old new : Line F O) : Type 0 where
    pub rest : new ≡ record old { folder = new.folder }
    pub queue : queue_of new ≡ queue_of old

module _ {F O : Type 0} (number : O → ℕ) where
  -- the folder, but not the queue, and the boxes, each of which keeps its number
  pub record ChangesOutputs (old new : Line F O) : Type 0 where
    pub rest : new ≡ record old { folder = new.folder; boxes = new.boxes }
    pub queue : queue_of new ≡ queue_of old
    pub numbers : numbers_of number (boxes_of new) ≡ numbers_of number (boxes_of old)

-- ---- answers

-- letters that weren't appended: one whose record can't be written takes more memory than there is
abbrev pub unappended : LetterFault → LineFault
unappended (letter.Full size added limit) = fault.DeadFull size added limit
unappended letter.TooLong = fault.Memory
unappended letter.Memory = fault.Memory
unappended letter.Fault = fault.Store

-- what holds where nothing is left, where an output takes events later, where one failed, where a file is damaged, where the letters have no room, and where the
-- store failed
pub record Grounds : Type 1 where
  pub finished : Type 0
  pub later : Type 0
  pub failed : Type 0
  pub damaged : Damage → Type 0
  pub full : ℕ → ℕ → ℕ → Type 0
  pub lost : Type 0

-- none of these answers comes
abbrev pub no_grounds : Grounds
no_grounds = record { finished = ⊥; later = ⊥; failed = ⊥; damaged = λ damage. ⊥; full = λ size added limit. ⊥; lost = ⊥ }

-- what holds behind a fault
abbrev pub FailsOn : Grounds → LineFault → Type 0
FailsOn g fault.Store = g.lost
FailsOn g (fault.Input n) = ⊥
FailsOn g (fault.Output id) = g.failed
FailsOn g (fault.Damaged damage) = g.damaged damage
FailsOn g fault.NumbersSpent = ⊥
FailsOn g (fault.DeadFull size added limit) = g.full size added limit
FailsOn g fault.Memory = Unit {0}

-- and behind each answer
abbrev pub AnswersOn : Grounds → Result Delivered LineFault → Type 0
AnswersOn g (Ok delivered.Told) = Unit {0}
AnswersOn g (Ok delivered.Waiting) = Unit {0}
AnswersOn g (Ok delivered.Later) = g.later
AnswersOn g (Ok delivered.Finished) = g.finished
AnswersOn g (Err f) = FailsOn g f
