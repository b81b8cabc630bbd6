-- A list of what is made of each item, up to the first at fault.
use Rattle.std.specs.Prelude.{◌≡◌, List, [], ◌∷◌, ◌++◌, Result, Ok, Err, ⊤}
use Rattle.io_traits.specs.declared.queue_faults.QueueFault.{QueueFault}
use Rattle.io_traits.specs.declared.queue_faults.QueueFault.TheVariants as f
use Rattle.queue_page.specs.Elements.{and_then}
use Rattle.queue_files.specs.Folders.{Role, Names}
use Rattle.queue_files.specs.Checkpoints.{misfit}
use Rattle.queue_files.specs.Found.{Damaged}

-- what f makes of each item, or the first fault
abbrev pub collected : {X Y E : Type 0} → (X → Result Y E) → List X → Result (List Y) E
collected f [] = Ok []
collected f (x ∷ xs) = and_then (f x) (λ y. and_then (collected f xs) (λ ys. Ok (y ∷ ys)))

-- these in front of what comes behind
abbrev pub in_front : {Y E : Type 0} → List Y → Result (List Y) E → Result (List Y) E
in_front done rest = and_then rest (λ more. Ok (done ++ more))

-- This fault was found: a damage of the file of its name, where the store and memory lasted.
abbrev pub IsLost : {Y : Type 0} → Names → QueueFault → Result Y Damaged → Type 0
IsLost names (f.Damaged d) found = (role : Role) × (d.file ≡ names role) × (found ≡ Err (role, misfit d.place d.found d.expected))
IsLost names f.Fault found = ⊤
IsLost names f.Memory found = ⊤

-- what was found is this, or this fault
abbrev pub Finds : {X Y : Type 0} → (X → Y) → Names → Result X QueueFault → Result Y Damaged → Type 0
Finds view names (Ok x) found = found ≡ Ok (view x)
Finds view names (Err fault) found = IsLost names fault found

-- the store failed, or there was no memory
abbrev pub IsNoDamage : QueueFault → Type 0
IsNoDamage (f.Damaged d) = ⊥
IsNoDamage f.Fault = ⊤
IsNoDamage f.Memory = ⊤
