-- What an output holds once events were delivered to it.
use Rattle.std.specs.Prelude.{◌≤◌, List, [], ◌∷◌, Option, Result, Ok, Err, length, ⊤}
use Rattle.event_tree.specs.Events.{Ev}
use Rattle.io_traits.specs.Telling.{Grows, GrowsInPart}
use Rattle.foreign_parts.specs.declared.output.Delivery.{Delivery}
use Rattle.foreign_parts.specs.declared.output.Delivery.TheVariants as d
use Rattle.foreign_parts.specs.declared.output.DeliverFault.{DeliverFault}
use Rattle.foreign_parts.specs.declared.output.DeliverFault.TheVariants as fault
use Rattle.foreign_parts.specs.declared.output.Fate.{Fate}
use Rattle.foreign_parts.specs.declared.output.Fate.TheVariants as f

-- the events that were taken, by their fates
abbrev pub taken : List Fate → List Ev → List Ev
taken [] es = []
taken (x ∷ fates) [] = []
taken (f.Took ∷ fates) (e ∷ es) = e ∷ taken fates es
taken (f.Rejected status reason ∷ fates) (e ∷ es) = taken fates es

-- there is a fate for each event, and what is said of a rejected one isn't too long
abbrev pub AreFates : List Fate → List Ev → Type 0
AreFates [] [] = ⊤
AreFates [] (e ∷ es) = ⊥
AreFates (x ∷ fates) [] = ⊥
AreFates (f.Took ∷ fates) (e ∷ es) = AreFates fates es
AreFates (f.Rejected status reason ∷ fates) (e ∷ es) = (length reason ≤ 65536) × AreFates fates es

-- by the answer: it holds the events that were taken more; none; or some from their front
abbrev pub Delivers : Result Delivery DeliverFault → List Ev → Option (List Ev) → Option (List Ev) → Type 0
Delivers (Ok (d.Took fates)) es old new = AreFates fates es × Grows old new (taken fates es)
Delivers (Ok d.Later) es old new = Grows old new []
Delivers (Err fault.Failed) es old new = GrowsInPart old new es
Delivers (Err fault.Memory) es old new = Grows old new []

-- the delivery failed
abbrev pub HadFault : Result Delivery DeliverFault → Type 0
HadFault (Ok delivery) = ⊥
HadFault (Err fault.Failed) = ⊤
HadFault (Err fault.Memory) = ⊥

-- the answer was that it takes them later
abbrev pub WasLater : Result Delivery DeliverFault → Type 0
WasLater (Ok (d.Took fates)) = ⊥
WasLater (Ok d.Later) = ⊤
WasLater (Err fault) = ⊥
