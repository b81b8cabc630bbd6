-- When the calls of a line answer what they do.
use Rattle.std.specs.Prelude.{◌≡◌, ◌≤◌, ◌<◌, length, ℕ, true, List, slice_index_or, map, IsTrue, Some, Result, Ok, Err}
use Rattle.std.specs.List.{sum}
use Rattle.io_traits.specs.Counts.{Rose}
use Rattle.io_traits.specs.declared.files.Files.{Ghosts as FilesWords}
use Rattle.io_traits.specs.declared.links.Links.{Ghosts as LinksWords}
use Rattle.io_traits.specs.declared.sources.Source.{Ghosts as SourceWords}
use Rattle.event_tree.specs.Events.{Ev}
use Rattle.dead_letters.specs.Letters.{size_of}
use Rattle.dead_letters.specs.Views.{DeadQueue, is_full as has_no_room}
use Rattle.dead_letters.specs.declared.letter.DeadLetter.{DeadLetter}
use Rattle.queue_core.specs.Views.{QueueView}
use Rattle.queue_core.specs.Writing.{frame_size, is_full, numbers_spent}
use Rattle.line_inputs.specs.Sources.{Around}
use Rattle.line_inputs.specs.declared.source.InputSource.{InputSource}
use Rattle.line_inputs.specs.declared.source.InputSource.TheVariants as source
use Rattle.line_outputs.specs.declared.boxes.BoxedOutput.{BoxedOutput}
use Rattle.queue_core.specs.declared.writing.WriteFault.{WriteFault}
use Rattle.queue_core.specs.declared.writing.WriteFault.TheVariants as write
use Rattle.line_machine.specs.declared.calls.Accepted.{Accepted}
use Rattle.line_machine.specs.declared.calls.Accepted.TheVariants as accepted
use Rattle.line_machine.specs.declared.calls.LineFault.{LineFault}
use Rattle.line_machine.specs.declared.calls.LineFault.TheVariants as fault
use Rattle.line_core.specs.declared.line.LineInput.{LineInput}

-- a line takes further calls behind a fault of this kind
abbrev pub GoesOn : LineFault → Type 0
GoesOn fault.Store = ⊥
GoesOn (fault.Input n) = Unit {0}
GoesOn (fault.Output id) = ⊥
GoesOn (fault.Damaged damage) = Unit {0}
GoesOn fault.NumbersSpent = Unit {0}
GoesOn (fault.DeadFull size added limit) = ⊥
GoesOn fault.Memory = Unit {0}

-- and behind this answer
abbrev pub GoesOnBehind : {A : Type 0} → Result A LineFault → Type 0
GoesOnBehind (Ok x) = Unit {0}
GoesOnBehind (Err f) = GoesOn f

-- a fault is none of an output, and none of an input
abbrev pub IsOfNoOutput : LineFault → Type 0
IsOfNoOutput fault.Store = Unit {0}
IsOfNoOutput (fault.Input n) = Unit {0}
IsOfNoOutput (fault.Output id) = ⊥
IsOfNoOutput (fault.Damaged damage) = Unit {0}
IsOfNoOutput fault.NumbersSpent = Unit {0}
IsOfNoOutput (fault.DeadFull size added limit) = Unit {0}
IsOfNoOutput fault.Memory = Unit {0}

abbrev pub IsOfNoInput : LineFault → Type 0
IsOfNoInput fault.Store = Unit {0}
IsOfNoInput (fault.Input n) = ⊥
IsOfNoInput (fault.Output id) = Unit {0}
IsOfNoInput (fault.Damaged damage) = Unit {0}
IsOfNoInput fault.NumbersSpent = Unit {0}
IsOfNoInput (fault.DeadFull size added limit) = Unit {0}
IsOfNoInput fault.Memory = Unit {0}

-- what a row that wasn't written is to the line
abbrev pub refusal_of : WriteFault → Result Accepted LineFault
refusal_of write.Full = Ok accepted.Full
refusal_of write.NumbersSpent = Err fault.NumbersSpent
refusal_of write.Memory = Err fault.Memory
refusal_of write.Fault = Err fault.Store

-- ---- inputs

module _ {I F L : Type 0} (stdin : SourceWords I) (files : FilesWords F) (links : LinksWords L) where
  -- the count of faults rose of what an input reads
  abbrev pub FailedToRead : InputSource → Around stdin files links → Type 0
  FailedToRead (source.Stdin s) o = Rose (stdin.faults o.stdin_old) (stdin.faults o.stdin_new)
  FailedToRead (source.Generated g) o = ⊥
  FailedToRead (source.Files w) o = Rose (files.faults o.files_old) (files.faults o.files_new)
  FailedToRead (source.Connections t) o = Rose (links.accept_faults o.links_old) (links.accept_faults o.links_new)

  -- none of these counts fell
  pub record CountsStand (o : Around stdin files links) : Type 0 where
    pub stdin_count : stdin.faults o.stdin_old ≤ stdin.faults o.stdin_new
    pub files_count : files.faults o.files_old ≤ files.faults o.files_new
    pub links_count : links.accept_faults o.links_old ≤ links.accept_faults o.links_new

-- an input holds an event of which the queue says this
abbrev pub IsHeld : (ℕ → QueueView → Type 0) → LineInput → QueueView → Type 0
IsHeld says from q = (event : Ev) × (from.held ≡ Some event) × says (frame_size from.id event) q

-- the input at this place does
pub record Holds (says : ℕ → QueueView → Type 0) (input : ℕ) (inputs : List LineInput) (q : QueueView) : Type 0 where
  pub from : LineInput
  pub is : from ≡ slice_index_or inputs input from
  pub event : Ev
  pub held : from.held ≡ Some event
  pub said : says (frame_size from.id event) q

-- it has no room for an element of this size, or no number
abbrev pub HasNoRoom : ℕ → QueueView → Type 0
HasNoRoom size q = is_full size q ≡ true

abbrev pub HasNoNumber : ℕ → QueueView → Type 0
HasNoNumber size q = numbers_spent size q ≡ true

-- ---- outputs

module _ {O : Type 0} (count : O → ℕ) where
  -- this count of a box rose
  pub record BoxRose (old new : List (BoxedOutput O)) : Type 0 where
    pub place : ℕ
    pub there : place < length old
    pub before : BoxedOutput O
    pub after : BoxedOutput O
    pub was : before ≡ slice_index_or old place before
    pub is : after ≡ slice_index_or new place after
    pub rose : Rose (count before.output) (count after.output)

-- the dead letters hold all that they have, and have no room for these; the numbers are those of their sizes and of their limit
pub record LettersAreFull (q : DeadQueue) (size added limit : ℕ) : Type 0 where
  pub letters : List DeadLetter
  pub full : IsTrue (has_no_room q letters)
  pub size_is : size ≡ sum q.sizes
  pub added_is : added ≡ sum (map size_of letters)
  pub limit_is : limit ≡ q.limit
