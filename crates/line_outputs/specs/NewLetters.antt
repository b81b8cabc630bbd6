-- Dead letters that are made of events which were not delivered.
use Rattle.std.specs.Prelude.{◌≡◌, length, ℕ, ℤ, List, [], ◌∷◌, ◌++◌, map, codes}
use Rattle.std.specs.Fmt.{decimal}
use Rattle.event_tree.specs.Events.{Ev}
use Rattle.event_tree.specs.declared.lists.DeadPart.{DeadPart}
use Rattle.foreign_parts.specs.Delivering.{AreFates}
use Rattle.foreign_parts.specs.declared.output.Fate.{Fate}
use Rattle.foreign_parts.specs.declared.output.Fate.TheVariants.{Took, Rejected}
use Rattle.dead_letters.specs.Letters.{letter}
use Rattle.dead_letters.specs.declared.letter.DeadLetter.{DeadLetter}

-- an event that was not delivered, as a letter of a moment
abbrev pub new_letter : ℤ → DeadPart → DeadLetter
new_letter moment part = letter part.kind part.id part.reason moment part.event

abbrev pub new_letters : ℤ → List DeadPart → List DeadLetter
new_letters moment parts = map (new_letter moment) parts

-- ---- events that a boxed output rejected

-- what is said of one
abbrev pub status_reason : ℕ → List ℕ → List ℕ
status_reason status text = codes "status " ++ (decimal status ++ (codes ": " ++ text))

abbrev pub rejected : List ℕ → List ℕ → ℕ → List ℕ → Ev → DeadPart
rejected kind id status text event = record { kind = kind; id = id; reason = status_reason status text; event = event }

-- what is not delivered of an event, by its fate
abbrev pub rejection : List ℕ → List ℕ → Fate → Ev → List DeadPart
rejection kind id Took event = []
rejection kind id (Rejected status text) event = rejected kind id status text event ∷ []

-- and of events, each by its own
abbrev pub rejections : List ℕ → List ℕ → List Fate → List Ev → List DeadPart
rejections kind id [] es = []
rejections kind id (x ∷ fates) [] = []
rejections kind id (x ∷ fates) (e ∷ es) = rejection kind id x e ++ rejections kind id fates es

-- ---- laws

-- an output that took events answered with a fate for each
abbrev pub FatesAreAsMany : Type 0
FatesAreAsMany = (fates : List Fate) (events : List Ev) → AreFates fates events → length fates ≡ length events
