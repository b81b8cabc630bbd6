-- What `decode`, `decode_row` and the tests beside them answer.
use Rattle.std.specs.Prelude.{◌≡◌, ℕ, ◌≤◌, List, length, Result, Ok, Err, ⊤}
use Rattle.event_tree.specs.Events.{Ev, IsEvent}
use Rattle.element_code.specs.Parts.{event_spelling}
use Rattle.element_code.specs.Values.{IsWhole}
use Rattle.element_code.specs.declared.fault.ElementFault.{ElementFault}
use Rattle.element_code.specs.declared.fault.ElementFault.TheVariants.{At}
use Rattle.element_code.specs.declared.fault.ElementFault.TheVariants.{Memory as OutOfMemory}

-- what was read is this, unless memory ran out
abbrev pub ReadsAs : {X : Type 0} → Result X ElementFault → X → Type 0
ReadsAs (Ok read) x = read ≡ x
ReadsAs (Err OutOfMemory) x = ⊤
ReadsAs (Err (At at)) x = ⊥

-- the fault, if there is one, stands at such a place
abbrev pub IsAt : {X : Type 0} → Result X ElementFault → (ℕ → Type 0) → Type 0
IsAt (Ok read) is = ⊤
IsAt (Err OutOfMemory) is = ⊤
IsAt (Err (At at)) is = is at

-- the event that these bytes spell is what was read, unless memory ran out
abbrev pub ReadsWhatIsSpelled : Result Ev ElementFault → List ℕ → Type 0
ReadsWhatIsSpelled read bytes = (e : Ev) → IsWhole e → event_spelling e ≡ bytes → length bytes ≤ 16777216 → ReadsAs read e

-- the event that has this spelling is what was read, unless memory ran out: whatever calls made it
abbrev pub ReadsEachEvent : Result Ev ElementFault → List ℕ → Type 0
ReadsEachEvent read bytes = (e : Ev) → IsEvent e → event_spelling e ≡ bytes → ReadsAs read e

-- these bytes spell an event
abbrev pub SpellsEvent : List ℕ → Type 0
SpellsEvent bytes = (e : Ev) × IsWhole e × (event_spelling e ≡ bytes) × (length bytes ≤ 16777216)
