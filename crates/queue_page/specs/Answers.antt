-- What a call answers that reads a page, beside what the bytes say.
use Rattle.std.specs.Prelude.{◌≡◌, ◌≤◌, ℕ, ◌-◌, List, Option, Some, None, Result, Ok, Err, ⊤}
use Rattle.element_code.specs.declared.fault.ElementFault.{ElementFault}
use Rattle.element_code.specs.declared.fault.ElementFault.TheVariants.{At}
use Rattle.element_code.specs.declared.fault.ElementFault.TheVariants.{Memory as NoMemory}
use Rattle.io_traits.specs.declared.queue_faults.QueueFault.{QueueFault}
use Rattle.io_traits.specs.declared.queue_faults.QueueFault.TheVariants as f
use Rattle.queue_page.specs.Elements.{misfit}
use Rattle.queue_page.specs.declared.fault.Mismatch.{Mismatch}
use Rattle.queue_page.specs.declared.fault.RowFault.{RowFault}
use Rattle.queue_page.specs.declared.fault.RowFault.TheVariants as r

-- what was read of a body is this, or it stops being one there, unless memory ran out
abbrev pub TellsBody : {X : Type 0} → ℕ → Result X ElementFault → Result X ℕ → Type 0
TellsBody len (Ok said) read = read ≡ Ok said
TellsBody len (Err (At at)) read = (at ≤ len) × (read ≡ Err (len - at))
TellsBody len (Err NoMemory) read = ⊤

-- a body stops being one there, if it does, and else something was read of it
abbrev pub StopsBody : {X : Type 0} → ℕ → Option ℕ → Result X ℕ → Type 0
StopsBody len (Some at) read = (at ≤ len) × (read ≡ Err (len - at))
StopsBody {X} len None read = (said : X) × (read ≡ Ok said)

-- what was read is this, or this is at fault, where the store and memory lasted
abbrev pub Tells : {X Y : Type 0} → (X → Y) → Result X RowFault → Result Y Mismatch → Type 0
Tells view (Ok x) read = read ≡ Ok (view x)
Tells view (Err (r.Mismatch m)) read = read ≡ Err m
Tells view (Err r.Fault) read = ⊤
Tells view (Err r.Memory) read = ⊤

-- the same of a file that is named in the damage
abbrev pub Answers : {X Y : Type 0} → (X → Y) → List ℕ → Result X QueueFault → Result Y Mismatch → Type 0
Answers view name (Ok x) read = read ≡ Ok (view x)
Answers view name (Err (f.Damaged d)) read = (d.file ≡ name) × (read ≡ Err (misfit d.place d.found d.expected))
Answers view name (Err f.Fault) read = ⊤
Answers view name (Err f.Memory) read = ⊤

-- no damage was found
abbrev pub IsNoMisfit : RowFault → Type 0
IsNoMisfit (r.Mismatch m) = ⊥
IsNoMisfit r.Fault = ⊤
IsNoMisfit r.Memory = ⊤

-- the fault of a row, with the name of its file; there may be no memory for that
abbrev pub IsNamed : List ℕ → RowFault → QueueFault → Type 0
IsNamed name (r.Mismatch m) (f.Damaged d) = d ≡ record { file = name; place = m.place; found = m.found; expected = m.expected }
IsNamed name (r.Mismatch m) f.Fault = ⊥
IsNamed name (r.Mismatch m) f.Memory = ⊤
IsNamed name r.Fault fault = fault ≡ f.Fault
IsNamed name r.Memory fault = fault ≡ f.Memory
