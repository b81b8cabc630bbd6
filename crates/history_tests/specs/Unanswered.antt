-- Deliveries to addresses of which no answer was heard.
use Rattle.std.specs.Prelude.{◌≡◌, ℕ, List, [], ◌∷◌, ◌++◌, ⊤}
use Rattle.event_flow.specs.Meaning.{Makes}
use Rattle.event_tree.specs.Events.{Ev}
use Rattle.foreign_parts.specs.declared.output.Fate.{Fate}
use Rattle.foreign_parts.specs.declared.place.Place.TheVariants as place
use Rattle.history_book.specs.Deeds.{Deed, Tell, Send, Hear, LegalBehind, told_of}
use Rattle.history_book.specs.Entries.{Entry, Deliver}
use Rattle.history_book.specs.Steps.{NoOpening}

-- no answer is heard
abbrev pub HearsNone : List Deed → Type 0
HearsNone [] = ⊤
HearsNone (Tell entry ∷ deeds) = HearsNone deeds
HearsNone (Send address parcel ∷ deeds) = HearsNone deeds
HearsNone (Hear address answer ∷ deeds) = ⊥

-- What a pipeline does isn't legal where it tells a delivery to an address, since it was last opened, and heard no answer, whatever it sent and whatever it told in earlier
-- runs.
abbrev pub UnansweredIsNotLegal : Type 0
UnansweredIsNotLegal =
    (makes : Makes) (earlier : List Entry) (deeds : List Deed) (before : List Entry) (batch : ℕ) (address : List ℕ) (events : List Ev) (fates : List Fate) (rest : List Entry)
    → HearsNone deeds → told_of deeds ≡ before ++ Deliver batch (place.Address address) events fates ∷ rest → NoOpening rest → LegalBehind makes earlier deeds → ⊥
