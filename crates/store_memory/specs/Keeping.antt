-- What a store in memory keeps, and what its calls make of it.
use Rattle.std.specs.Prelude.{◌≡◌, ◌⊎◌, ◌-◌, ◌^◌, ℕ, Bool, true, false, ◌||◌, nat_le, List, [], ◌∷◌, ◌++◌, length, Result, Ok, Err, IfOk, if◌then◌else◌}
use Rattle.io_traits.specs.Folders.{Content}
use Rattle.io_traits.specs.declared.faults.ListFault.{ListFault}
use Rattle.io_traits.specs.declared.faults.ListFault.TheVariants.{Failed, Memory}
use Rattle.io_memory.specs.Scripts.{Course, fails_next, worked, failed}
use Rattle.io_memory.specs.Scripts.{beginning as no_calls}
use Rattle.io_traits.specs.Images.{Image}
use Rattle.io_traits.specs.Steps.{held, LeavesAt}
use Rattle.store_memory.specs.Calls.{steps_of}
use Rattle.io_memory.specs.Tables.{Table, content_of}
use Rattle.store_memory.specs.declared.calls.Logged.{Logged}
use Rattle.store_memory.specs.declared.calls.StoreCall.{StoreCall}

-- the files that it held at first, all settled; its calls since; its script; and the number of the call from which it is stopped
pub record Keeping : Type 0 where
  pub base : Table
  pub calls : List Logged
  pub script : Course
  pub stop : ℕ

-- what reads give
abbrev pub reads_of : Keeping → Content
reads_of k = held (content_of k.base) (steps_of k.calls)

-- the moment of now: how many calls are in the log
abbrev pub moment_of : Keeping → ℕ
moment_of k = length (steps_of k.calls)

-- what a stop may leave at a moment
abbrev pub LeavesFrom : Keeping → ℕ → Image → Type 0
LeavesFrom k = LeavesAt (content_of k.base) (steps_of k.calls)

-- the next call is to fail
abbrev pub is_failing : Keeping → Bool
is_failing k = fails_next k.script || nat_le k.stop k.script.made

-- before the first call, with files that are all settled
abbrev pub beginning : Table → Course → ℕ → Keeping
beginning files script stop = record { base = files; calls = []; script = script; stop = stop }

-- and as a store of which no call fails
abbrev pub freshly : Table → Keeping
freshly files = beginning files (no_calls [] []) (2 ^ 64 - 1)

-- a call was begun, which fails or not
abbrev pub begun : Keeping → Keeping
begun k = record k { script = if is_failing k then failed k.script else worked k.script }

-- a call was made, and did its work or failed
abbrev pub after_call : Keeping → StoreCall → Bool → Keeping
after_call k call did = record k { calls = k.calls ++ (record { call = call; worked = did }) ∷ []; script = if did then worked k.script else failed k.script }

-- a call failed for want of memory
abbrev pub out_of_memory : Keeping → Keeping
out_of_memory k = record k { script = failed k.script }

-- a call that did its work is in the log; one that failed is there too, or found no memory
abbrev pub Answered : Keeping → Keeping → StoreCall → Bool → Type 0
Answered old new call true = new ≡ after_call old call true
Answered old new call false = (new ≡ after_call old call false) ⊎ (new ≡ out_of_memory old)

-- so is a list, which may also have found no memory for the names that it was to give
abbrev pub AnsweredUnless : {T : Type 0} → Keeping → Keeping → StoreCall → Result T ListFault → Type 0
AnsweredUnless old new call (Ok names) = Answered old new call true
AnsweredUnless old new call (Err Memory) = Answered old new call true
AnsweredUnless old new call (Err Failed) = Answered old new call false

-- so is a call, where there was memory to write it down
abbrev pub AnsweredIf : {E : Type 0} → Keeping → Keeping → Result StoreCall E → Bool → Type 0
AnsweredIf old new call did = (made : StoreCall) → IfOk call (λ c. c ≡ made) → Answered old new made did

-- a store reads as one of the images that a stop of another at a moment may leave
abbrev pub IsImageOf : Keeping → ℕ → Keeping → Type 0
IsImageOf k moment left = (i : Image) × LeavesFrom k moment i × ((n : List ℕ) → (i n).file ≡ reads_of left n)
