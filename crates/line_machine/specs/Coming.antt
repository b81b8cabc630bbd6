-- What came to the inputs of a line that listen on no address, against what it told: what it accepted of it, what it holds, of what it was told, and which places of watched files it recorded.
use Rattle.std.specs.Prelude.{◌≡◌, ◌⊎◌, ◌≤◌, ◌<◌, ◌==◌, ℕ, suc, true, List, [], ◌∷◌, ◌++◌, length, map, Some, None, if◌then◌else◌, ⊤}
use Rattle.io_traits.specs.Images.{Image}
use Rattle.event_tree.specs.Events.{Ev}
use Rattle.event_flow.specs.Meaning.{Makes}
use Rattle.history_book.specs.Contents.{Bytes}
use Rattle.history_book.specs.Entries.{Entry, Accept, Assure}
use Rattle.history_book.specs.Links.{Listening}
use Rattle.history_book.specs.Lists.{IsIn, Rise}
use Rattle.history_book.specs.Queues.{next_in}
use Rattle.history_book.specs.Sound.{Places, LineSound}
use Rattle.history_book.specs.States.{start, after}
use Rattle.line_machine.specs.Effects.{Came}
use Rattle.line_machine.specs.Openings.{IsOpenedLine, opening}
use Rattle.line_machine.specs.Since.{since, of_each}
use Rattle.line_machine.specs.Stands.{Stands}
use Rattle.line_machine.specs.Steps.{Step, effect, GoesOn}
use Rattle.line_machine.specs.Views.{FileAt, Incoming, RowAt, InputView, LineView}

-- a row that was accepted from no parcel
pub record RowIn : Type 0 where
  pub number : ℕ
  pub event : Ev

abbrev pub row_accepted : ℕ → Entry → List RowIn
row_accepted n (Accept input None number event) = if n == input then record { number = number; event = event } ∷ [] else []
row_accepted n e = []

-- those that an input accepted since the line was opened
abbrev pub rows_by : ℕ → List Entry → List RowIn
rows_by n told = of_each (row_accepted n) (since told)

-- since the line was opened the input was told that this row is settled
abbrev pub WasAssured : List Entry → ℕ → ℕ → Type 0
WasAssured told n number = (front : ℕ) × IsIn (Assure n front) (since told) × (number ≤ front)

-- what came to an input in one step
abbrev pub came_in : ℕ → List Came → List Incoming
came_in n [] = []
came_in n (c ∷ came) = (if n == c.input then c.events else []) ++ came_in n came

-- what came to each input up to now, and in a step behind that
abbrev pub and_came : (ℕ → List Incoming) → List Came → ℕ → List Incoming
and_came came more n = came n ++ came_in n more

-- the rows are what these settings make of the events, one for each
abbrev pub AreRowsFor : (Ev → Ev) → List RowIn → List Incoming → Type 0
AreRowsFor applies [] [] = ⊤
AreRowsFor applies [] (x ∷ xs) = ⊥
AreRowsFor applies (r ∷ rs) [] = ⊥
AreRowsFor applies (r ∷ rs) (x ∷ xs) = (r.event ≡ applies x.event) × AreRowsFor applies rs xs

-- The row is made of a line whose end stands there: as many rows were accepted before it as lines came before that one.
pub record IsPlaced (came : List Incoming) (rows : List RowIn) (r : RowAt) : Type 0 where
  pub before : List Incoming
  pub line : Incoming
  pub behind : List Incoming
  pub came_is : came ≡ before ++ line ∷ behind
  pub rows_before : List RowIn
  pub row : RowIn
  pub rows_behind : List RowIn
  pub rows_are : rows ≡ rows_before ++ row ∷ rows_behind
  pub as_many : length rows_before ≡ length before
  pub number_is : row.number ≡ r.number
  pub at_is : line.at ≡ r.at

-- Of an open input that listens on no address: what came since it was opened is what it accepted, in order, and then what it holds. Its rows have rising numbers, and
-- of each it was told that it is settled, or the line keeps it, with the place behind its line.
pub record InputStands (listening : Listening) (told : List Entry) (came : List Incoming) (v : InputView) : Type 0 where
  pub accepted : List Incoming
  pub came_is : came ≡ accepted ++ v.held
  pub rows_are : AreRowsFor (listening.applies v.statement) (rows_by v.number told) accepted
  pub rise : Rise 0 (map (λ (r : RowIn). r.number) (rows_by v.number told))
  pub known : (r : RowIn) → IsIn r (rows_by v.number told) → WasAssured told v.number r.number ⊎ IsIn r.number (map (λ (x : RowAt). x.number) v.rows)
  pub placed : (r : RowAt) → IsIn r v.rows → IsPlaced came (rows_by v.number told) r

module _ {places : Places} where
  -- So it is with each; of others the line keeps no rows; to inputs that will come nothing came yet; and the next row has a greater number.
  pub record InputsStand (listening : Listening) (told : List Entry) (came : ℕ → List Incoming) (i : LineView places) : Type 0 where
    pub each : (v : InputView) → IsIn v i.inputs → v.is_open ≡ true → listening.address v.statement ≡ None → InputStands listening told (came v.number) v
    pub others : (v : InputView) → IsIn v i.inputs → ((v.is_open ≡ true) × (listening.address v.statement ≡ None) → ⊥) → v.rows ≡ []
    pub none_yet : (n : ℕ) → length i.inputs ≤ n → (came n ≡ []) × (rows_by n told ≡ [])
    pub below : (n : ℕ) (r : RowIn) → IsIn r (rows_by n told) → r.number < next_in i.holds.queue

-- A place of a watched file stands behind a line that came by the input, and that line and all that came before it are rows that are settled.
pub record IsSettledUpTo (makes : Makes) (told : List Entry) (n : ℕ) (came : List Incoming) (f : FileAt) : Type 0 where
  pub before : List Incoming
  pub line : Incoming
  pub behind : List Incoming
  pub came_is : came ≡ before ++ line ∷ behind
  pub at_is : line.at ≡ Some f
  pub rows : List RowIn
  pub rest : List RowIn
  pub rows_are : rows_by n told ≡ rows ++ rest
  pub as_many : length rows ≡ suc (length before)
  pub settled : (r : RowIn) → IsIn r rows → r.number ≤ (after makes start told).front

module _ (makes : Makes) (listening : Listening) (bytes : Bytes) (places : Places) where
  -- So it is once a line was opened, when nothing came yet, and behind each step.
  abbrev pub OpenedInputsStand : Type 0
  OpenedInputsStand =
      (told : List Entry) (image : Image) (sound : LineSound makes bytes places told image) (i : LineView places) → IsOpenedLine makes listening bytes places told image sound i
      → InputsStand listening (told ++ opening makes listening bytes places told image sound i) (λ n. []) i

  abbrev pub InputsStandStill : Type 0
  InputsStandStill =
      (told : List Entry) (came : ℕ → List Incoming) (i : LineView places) (x : Step makes listening bytes i) → Stands makes bytes places told i → InputsStand listening told came i
      → GoesOn makes listening bytes i x
      → InputsStand listening (told ++ (effect makes listening bytes i x).told) (and_came came (effect makes listening bytes i x).came) (effect makes listening bytes i x).line

  -- each place that a step records, or may have recorded, is such, of an open input that listens on no address
  abbrev pub RecordedAreSettled : Type 0
  RecordedAreSettled =
      (told : List Entry) (came : ℕ → List Incoming) (i : LineView places) (x : Step makes listening bytes i) → Stands makes bytes places told i → InputsStand listening told came i
      → (f : FileAt) → IsIn f (effect makes listening bytes i x).recorded
      → (v : InputView) × IsIn v i.inputs × (v.is_open ≡ true) × (listening.address v.statement ≡ None) × IsSettledUpTo makes told v.number (came v.number) f
