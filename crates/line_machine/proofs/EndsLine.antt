-- Whether a line takes further calls is told by the answer.
use Rattle.std.proofs.Common.{◌≡◌, inl, inr, ℕ, Bool, true, false, List, [], ◌∷◌, ◌++◌, Option, None, Result, Ok, Err, refl, sym, ap, ◌∙◌}
use Rattle.std.specs.Prelude.{◌↔◌}
use Rattle.foreign_parts.specs.declared.place.Place.TheVariants as place
use Rattle.event_flow.specs.Meaning.{Makes, Due}
use Rattle.event_flow.specs.Meaning as due
use Rattle.event_tree.specs.declared.lists.DeadPart.{DeadPart}
use Rattle.history_book.specs.Contents.{Bytes}
use Rattle.history_book.specs.Links.{Listening}
use Rattle.history_book.specs.Sound.{Places}
use Rattle.line_machine.specs.declared.calls.Accepted.{Accepted}
use Rattle.line_machine.specs.declared.calls.Accepted.TheVariants as accepted
use Rattle.line_machine.specs.declared.calls.Call.{Call}
use Rattle.line_machine.specs.declared.calls.Call.TheVariants as call
use Rattle.line_machine.specs.declared.calls.Delivered.TheVariants as delivered
use Rattle.line_machine.specs.declared.calls.LineFault.{LineFault}
use Rattle.line_machine.specs.declared.calls.LineFault.TheVariants as fault
use Rattle.line_machine.specs.declared.calls.ReadOut.TheVariants as read
use Rattle.line_machine.specs.Answers.{TakesAnswer}
use Rattle.line_machine.specs.Ends.{TakerView}
use Rattle.line_machine.specs.EndsLine.{ends_line, AnswersTellEnds}
use Rattle.line_machine.specs.Finds.{WritesNone, AreHeldBack, FailsSo}
use Rattle.line_machine.specs.Steps as m
use Rattle.line_machine.specs.Steps.{Step, GoesOn}
use Rattle.line_machine.specs.Unchanged.{LeavesAll, OnlyFails}
use Rattle.line_machine.specs.Views.{Batch, Incoming, LineView}

differs : true ≡ false → ⊥
differs e = cc

-- ---- answers that a step may have

takes_go_on : (only : Option (List ℕ)) (n : ℕ) (opens : Bool) (ts : List TakerView) (x : Call) → TakesAnswer only n opens ts x → ends_line x ≡ false
takes_go_on only n opens ts x (inl ended) = ap ends_line ended.3
takes_go_on only n opens ts x (inr (inl none)) = ap ends_line none.2
takes_go_on only n opens ts x (inr (inr (inl (part, inl full)))) = ap ends_line full
takes_go_on only n opens ts x (inr (inr (inl (part, inr spent)))) = ap ends_line spent
takes_go_on only n opens ts x (inr (inr (inr memory))) = ap ends_line memory

none_goes_on : (n : ℕ) (held : List Incoming) (answer : Result Accepted LineFault) → WritesNone n held answer → ends_line (call.Accept n answer) ≡ false
none_goes_on n held (Ok accepted.Full) is = refl
none_goes_on n held (Err fault.NumbersSpent) is = refl
none_goes_on n held (Err (fault.Input input)) is = refl
none_goes_on n held (Err fault.Memory) is = refl
none_goes_on n held answer is = absurd is

module _ (listening : Listening) {places : Places} (i : LineView places) where
  leaves_goes_on : (x : Call) → LeavesAll listening i x → ends_line x ≡ false
  leaves_goes_on (call.Accept n (Ok accepted.NotYet)) leaves = refl
  leaves_goes_on (call.Accept n (Err (fault.Damaged damage))) leaves = refl
  leaves_goes_on (call.Read (Ok read.Nothing)) leaves = refl
  leaves_goes_on (call.Read (Ok read.NoKit)) leaves = refl
  leaves_goes_on (call.Read (Err (fault.Damaged damage))) leaves = refl
  leaves_goes_on (call.Read (Err fault.Memory)) leaves = refl
  leaves_goes_on (call.Deliver n (Ok delivered.Waiting)) leaves = refl
  leaves_goes_on (call.Deliver n (Ok delivered.Later)) leaves = refl
  leaves_goes_on (call.Deliver n (Ok delivered.Finished)) leaves = refl
  leaves_goes_on (call.Deliver n (Err (fault.Damaged damage))) leaves = refl
  leaves_goes_on (call.Purge (Ok None)) leaves = refl
  leaves_goes_on (call.AnswerLink place None) leaves = refl
  leaves_goes_on (call.PushLast all) leaves = refl
  leaves_goes_on (call.Room enough) leaves = refl
  leaves_goes_on (call.Release false) leaves = refl
  leaves_goes_on (call.Skipped a) leaves = refl
  leaves_goes_on x leaves = absurd leaves

  fails_ends : (x : Call) → OnlyFails listening i x → ends_line x ≡ true
  fails_ends (call.Accept n (Err fault.Store)) fails = refl
  fails_ends (call.Read (Err fault.Store)) fails = refl
  fails_ends (call.Mark (Err fault.Store)) fails = refl
  fails_ends (call.Purge (Err fault.Store)) fails = refl
  fails_ends x fails = absurd fails

  -- a delivery that fails so isn't damaged
  abbrev EndsIt : LineFault → Type 0
  EndsIt f = (n : ℕ) → ends_line (call.Deliver n (Err f)) ≡ true

  by_output : (id : List ℕ) (f : LineFault) → f ≡ fault.Output id → EndsIt f
  by_output id f is n = ap (λ (g : LineFault). ends_line (call.Deliver n (Err g))) is

  by_store : (f : LineFault) → f ≡ fault.Store → EndsIt f
  by_store f is n = ap (λ (g : LineFault). ends_line (call.Deliver n (Err g))) is

  by_memory : (f : LineFault) → f ≡ fault.Memory → EndsIt f
  by_memory f is n = ap (λ (g : LineFault). ends_line (call.Deliver n (Err g))) is

  by_letters : (parts : List DeadPart) (f : LineFault) → AreHeldBack i parts f → EndsIt f
  by_letters parts f held n = ap (λ (g : LineFault). ends_line (call.Deliver n (Err g))) held.fault_is

  delivery_ends : (b : Batch) (left : List Due) (f : LineFault) → FailsSo i b left f → EndsIt f
  delivery_ends b [] f why = by_memory f why
  delivery_ends b (due.Letters parts ∷ rest) f (inl store) = by_store f store
  delivery_ends b (due.Letters parts ∷ rest) f (inr (inl held)) = by_letters parts f held
  delivery_ends b (due.Letters parts ∷ rest) f (inr (inr memory)) = by_memory f memory
  delivery_ends b (due.Events id place.Stdout es ∷ rest) f (inl output) = by_output id f output
  delivery_ends b (due.Events id place.Stdout es ∷ rest) f (inr memory) = by_memory f memory
  delivery_ends b (due.Events id (place.File path) es ∷ rest) f (inl store) = by_store f store
  delivery_ends b (due.Events id (place.File path) es ∷ rest) f (inr memory) = by_memory f memory
  delivery_ends b (due.Events id (place.Foreign number) es ∷ rest) f (inl output) = by_output id f output
  delivery_ends b (due.Events id (place.Foreign number) es ∷ rest) f (inr (inl (fates, fit, inl store))) = by_store f store
  delivery_ends b (due.Events id (place.Foreign number) es ∷ rest) f (inr (inl (fates, fit, inr held))) = by_letters _ f held
  delivery_ends b (due.Events id (place.Foreign number) es ∷ rest) f (inr (inr memory)) = by_memory f memory
  delivery_ends b (due.Events id (place.Address address) es ∷ rest) f why = by_memory f why
  delivery_ends b (due.Events id place.Discard es ∷ rest) f why = by_memory f why
  delivery_ends b (due.Events id place.Dead es ∷ rest) f why = by_memory f why

-- ---- the law

-- a step behind which the line goes on, and one that ends it
goes : {G : Type 0} (x : Call) → G → ends_line x ≡ false → G ↔ (ends_line x ≡ false)
goes x on is = (λ g. is, λ none. on)

ends : {G : Type 0} (x : Call) → (G → ⊥) → ends_line x ≡ true → G ↔ (ends_line x ≡ false)
ends x never is = (λ g. absurd (never g), λ none. absurd (differs (sym is ∙ none)))

pub answers_tell_ends : (makes : Makes) (listening : Listening) (bytes : Bytes) (places : Places) → AnswersTellEnds makes listening bytes places
answers_tell_ends makes listening bytes places i (m.Accepts n c r false) x is = goes x tt (ap ends_line is)
answers_tell_ends makes listening bytes places i (m.Accepts n c r true) x is = ends x (λ never. never) (ap ends_line is)
answers_tell_ends makes listening bytes places i (m.Accepts_parcel n a r false) x is = goes x tt (ap ends_line is)
answers_tell_ends makes listening bytes places i (m.Accepts_parcel n a r true) x is = ends x (λ never. never) (ap ends_line is)
answers_tell_ends makes listening bytes places i (m.Takes_alone n h address listens taken takers takes) x is = goes x tt (takes_go_on _ n h.input.is_open takers x is)
answers_tell_ends makes listening bytes places i (m.Holds_more n h reads came answer none) x is = goes x tt (ap ends_line is ∙ none_goes_on n (h.input.held ++ came) answer none)
answers_tell_ends makes listening bytes places i (m.Sends n id address events rest h none p same some may) x is = absurd is
answers_tell_ends makes listening bytes places i (m.Hears address a s has turn waits) x is = absurd is
answers_tell_ends makes listening bytes places i (m.Sends_last address p last may due) x is = absurd is
answers_tell_ends makes listening bytes places i (m.Fails_to_deliver n left h f why printed out given took) x is =
    ends x (λ never. never) (ap ends_line is ∙ delivery_ends listening i h.batch left f why n)
answers_tell_ends makes listening bytes places i (m.Fails_to_assure n front h marks) x is = ends x (λ never. never) (ap ends_line is)
answers_tell_ends makes listening bytes places i (m.Leaves_all y leaves) x is = goes x tt (ap ends_line is ∙ leaves_goes_on listening i y leaves)
answers_tell_ends makes listening bytes places i (m.Only_fails y fails) x is = ends x (λ never. never) (ap ends_line is ∙ fails_ends listening i y fails)
answers_tell_ends makes listening bytes places i s x is = goes x tt (ap ends_line is)
