-- Where a line's kits are: at home, out with one batch, or closed.
use Rattle.std.specs.Prelude.{◌≡◌, ℕ, ◌+◌, List, [], ◌∷◌, ◌++◌, Option, Some, None}
use Rattle.io_traits.specs.Images.{Image}
use Rattle.event_flow.specs.Meaning.{Makes}
use Rattle.history_book.specs.Contents.{Bytes}
use Rattle.history_book.specs.Entries.{Entry}
use Rattle.history_book.specs.Links.{Listening}
use Rattle.history_book.specs.Lists.{IsIn}
use Rattle.history_book.specs.Sound.{Places, LineSound}
use Rattle.line_machine.specs.Openings.{IsOpenedLine}
use Rattle.line_machine.specs.Steps.{Step, Adopts, effect}
use Rattle.line_machine.specs.Views.{Kit, Batch, LineView}

-- what all of these weigh, by any weights: so many as are such, or how often a number stands in them
abbrev pub weigh : {X : Type 0} → (X → ℕ) → List X → ℕ
weigh w [] = 0
weigh w (x ∷ xs) = w x + weigh w xs

abbrev pub kit_out : Option Kit → List Kit
kit_out None = []
kit_out (Some kit) = kit ∷ []

-- those that are out with batches
abbrev pub kits_out : List Batch → List Kit
kits_out [] = []
kits_out (b ∷ bs) = kit_out b.kit ++ kits_out bs

module _ {places : Places} where
  -- those of a line: at home, or out
  abbrev pub kits_of : LineView places → List Kit
  kits_of i = i.kits ++ kits_out i.batches

  -- each kit at home is of the newest generation, and each that is out of that of its batch, which isn't back
  pub record AreOfTheirs (i : LineView places) : Type 0 where
    pub home : (k : Kit) → IsIn k i.kits → k.generation ≡ i.plan.generation
    pub out : (b : Batch) → IsIn b i.batches → (k : Kit) → b.kit ≡ Some k → (k.generation ≡ b.plan.generation) × (b.verdicts ≡ None)

module _ (makes : Makes) (listening : Listening) (bytes : Bytes) (places : Places) where
  -- the kits that come with a configuration
  abbrev pub new_kits : (i : LineView places) → Step makes listening bytes i → List Kit
  new_kits i (Adopts c) = c.kits
  new_kits i x = []

  -- No step loses a kit or doubles one: those that the line had, and those that came, it has, or they were closed. So it is with what is in them, as their boxes.
  abbrev pub KitsStay : Type 0
  KitsStay =
      (i : LineView places) (x : Step makes listening bytes i) (w : Kit → ℕ)
      → weigh w (kits_of (effect makes listening bytes i x).line) + weigh w (effect makes listening bytes i x).closed ≡ weigh w (kits_of i) + weigh w (new_kits i x)

  -- At first all kits are at home.
  abbrev pub OpenedKitsAreTheirs : Type 0
  OpenedKitsAreTheirs =
      (told : List Entry) (image : Image) (sound : LineSound makes bytes places told image) (i : LineView places) → IsOpenedLine makes listening bytes places told image sound i → AreOfTheirs i

  -- A batch is run by a kit of the generation under which it was read: a step keeps it so.
  abbrev pub KitsAreTheirs : Type 0
  KitsAreTheirs = (i : LineView places) (x : Step makes listening bytes i) → AreOfTheirs i → AreOfTheirs (effect makes listening bytes i x).line
