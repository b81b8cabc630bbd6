-- Which call a step is, and what it answers.
use Rattle.std.specs.Prelude.{◌≡◌, ◌⊎◌, ℕ, Bool, true, false, List, Option, Some, Result, Ok, Err}
use Rattle.pipeline_bus.specs.declared.parcel.Heard.TheVariants.{Assured, NotListening}
use Rattle.event_flow.specs.Meaning.{Makes}
use Rattle.history_book.specs.Contents.{Bytes}
use Rattle.history_book.specs.Links.{Listening}
use Rattle.history_book.specs.Sound.{Places}
use Rattle.line_machine.specs.declared.calls.Accepted.{Accepted}
use Rattle.line_machine.specs.declared.calls.Accepted.TheVariants as accepted
use Rattle.line_machine.specs.declared.calls.Call.{Call}
use Rattle.line_machine.specs.declared.calls.Call.TheVariants as call
use Rattle.line_machine.specs.declared.calls.Delivered.{Delivered}
use Rattle.line_machine.specs.declared.calls.Delivered.TheVariants as delivered
use Rattle.line_machine.specs.declared.calls.LineFault.{LineFault}
use Rattle.line_machine.specs.declared.calls.LineFault.TheVariants as fault
use Rattle.line_machine.specs.declared.calls.ReadOut.TheVariants as read
use Rattle.line_machine.specs.Effects.{Effect}
use Rattle.line_machine.specs.Ends.{TakerView, IsPartlyAccepted, AreEnded}
use Rattle.line_machine.specs.Finds.{ends_served}
use Rattle.line_machine.specs.Steps as m
use Rattle.line_machine.specs.Steps.{Step, effect}
use Rattle.line_machine.specs.Views.{LineView}

-- what an accept answers of its row: its number, and where the row is in doubt that the store failed
abbrev pub row_answer : Bool → ℕ → Result Accepted LineFault
row_answer true number = Err fault.Store
row_answer false number = Ok (accepted.Row number)

-- An accept that takes what lay in the rings and writes no row. Where no event is left there is none yet; or, of an open input, the end, where a parcel without events
-- came last at each of its ends. Where one is left, there was no room for it.
abbrev pub TakesAnswer : Option (List ℕ) → ℕ → Bool → List TakerView → Call → Type 0
TakesAnswer only n is_open ts c =
    ((IsPartlyAccepted only n ts → ⊥) × (is_open ≡ true) × AreEnded only n ts × (c ≡ call.Accept n (Ok accepted.Ended)))
    ⊎ ((IsPartlyAccepted only n ts → ⊥) × ((is_open ≡ true) × AreEnded only n ts → ⊥) × (c ≡ call.Accept n (Ok accepted.NotYet)))
    ⊎ (IsPartlyAccepted only n ts × ((c ≡ call.Accept n (Ok accepted.Full)) ⊎ (c ≡ call.Accept n (Err fault.NumbersSpent))))
    ⊎ (c ≡ call.Accept n (Err fault.Memory))

module _ (makes : Makes) (listening : Listening) (bytes : Bytes) {places : Places} where
  -- the last step of the call with this answer
  abbrev pub IsCall : (i : LineView places) → Step makes listening bytes i → Call → Type 0
  IsCall i (m.Accepts n c r doubt) x = x ≡ call.Accept n (row_answer doubt r.row.number)
  IsCall i (m.Accepts_parcel n a r doubt) x = x ≡ call.Accept n (row_answer doubt r.row.number)
  IsCall i (m.Takes_alone n h address listens taken takers takes) x = TakesAnswer (ends_served i) n h.input.is_open takers x
  IsCall i (m.Holds_more n h reads came answer none) x = x ≡ call.Accept n answer
  IsCall i (m.Is_at_its_end n h opens lines none) x = x ≡ call.Accept n (Ok accepted.Ended)
  IsCall i (m.Reads t k) x = x ≡ call.Read (Ok (read.Given i.next_batch))
  IsCall i (m.Works t k verdicts uses) x = x ≡ call.Read (Ok (read.Given i.next_batch))
  IsCall i (m.Keeps_a_batch t) x = x ≡ call.Read (Err fault.Memory)
  IsCall i (m.Collects n a verdicts uses) x = x ≡ call.Collect n true
  IsCall i (m.Loses_a_result n a) x = x ≡ call.Collect n false
  IsCall i (m.Tells n parts rest h a) x = x ≡ call.Deliver n (Ok delivered.Told)
  IsCall i (m.Gives n id at events rest h plain) x = x ≡ call.Deliver n (Ok delivered.Told)
  IsCall i (m.Is_taken n id number events rest h fates are none) x = x ≡ call.Deliver n (Ok delivered.Told)
  IsCall i (m.Is_rejected n id number events rest h fates are some a) x = x ≡ call.Deliver n (Ok delivered.Told)
  IsCall i (m.Sends n id address events rest h none p is some may) x = ⊥
  IsCall i (m.Hears address a s has turn waits) x = ⊥
  IsCall i (m.Is_heard n id address events rest h number is was) x = x ≡ call.Deliver n (Ok delivered.Told)
  IsCall i (m.Is_not_heard n id address events rest h number is was) x = x ≡ call.Deliver n (Ok delivered.Waiting)
  IsCall i (m.Fails_to_deliver n left h f is printed out given took) x = x ≡ call.Deliver n (Err f)
  IsCall i (m.Acknowledges_it n h queue a) x = x ≡ call.Acknowledge n
  IsCall i (m.Marks front last is) x = x ≡ call.Mark (Ok front)
  IsCall i (m.Assures n front h is) x = x ≡ call.Assure n (Ok front)
  IsCall i (m.Fails_to_assure n front h is) x = x ≡ call.Assure n (Err fault.Store)
  IsCall i (m.Purges h) x = x ≡ call.Purge (Ok (Some h.page.number))
  IsCall i (m.Answers place t has may) x = x ≡ call.AnswerLink place (Some (record { number = may.oldest.number; answer = Assured }))
  IsCall i (m.Refuses place t has may) x = x ≡ call.AnswerLink place (Some (record { number = t.next; answer = NotListening }))
  IsCall i (m.Sends_last address p last may is) x = ⊥
  IsCall i (m.Adopts c) x = x ≡ call.Adopt
  IsCall i (m.Connects takers next_place are listen senders unused) x = x ≡ call.Connect
  IsCall i (m.Releases place t has free) x = x ≡ call.Release true
  IsCall i (m.Stops drains) x = x ≡ call.Stop drains
  IsCall i (m.Goes_on_with place t has) x = x ≡ call.GoOn place
  IsCall i (m.Leaves_all y leaves) x = x ≡ y
  IsCall i (m.Only_fails y fails) x = x ≡ y

  -- A step that a call makes before its last: in the delivery of a batch its parcel is sent, and answers are heard; and last parcels are sent one by one.
  abbrev pub IsPart : (i : LineView places) → Step makes listening bytes i → Call → Type 0
  IsPart i (m.Sends n id address events rest h none p is some may) x = (answer : Result Delivered LineFault) × (x ≡ call.Deliver n answer)
  IsPart i (m.Hears address a s has turn waits) x = (n : ℕ) × (answer : Result Delivered LineFault) × (x ≡ call.Deliver n answer)
  IsPart i (m.Sends_last address p last may is) x = (all : Bool) × (x ≡ call.PushLast all)
  IsPart i s x = ⊥

  -- the line behind such steps
  pub data Parts (x : Call) : LineView places → LineView places → Type 0 where
    None_before : (i : LineView places) → Parts x i i
    First : (i j : LineView places) (s : Step makes listening bytes i) → IsPart i s x → Parts x (effect makes listening bytes i s).line j → Parts x i j

  -- The call with this answer made this of the line, by its last step; those before it tell nothing, and leave its places as they are.
  pub record Did (x : Call) (i : LineView places) (e : Effect places) : Type 0 where
    pub line : LineView places
    pub before : Parts x i line
    pub step : Step makes listening bytes line
    pub is_call : IsCall line step x
    pub effect_is : e ≡ effect makes listening bytes line step
