-- What one turn of a run is, and one that answers a parcel.
use Rattle.std.specs.Prelude.{◌≡◌, ◌⊎◌, ℕ, List, [], ◌∷◌, Ok, ⊤}
use Rattle.io_traits.specs.Images.{Image}
use Rattle.event_flow.specs.Meaning.{Makes}
use Rattle.queue_files.specs.Folders.{folder_in}
use Rattle.queue_files.specs.Found.{Found, found}
use Rattle.history_book.specs.Contents.{Bytes}
use Rattle.history_book.specs.Deeds.{DeedOf}
use Rattle.history_book.specs.Entries.{Entry}
use Rattle.history_book.specs.Legal.{IsFound}
use Rattle.history_book.specs.Links.{Listening, Link, IsSettled, rows_from}
use Rattle.history_book.specs.Lists.{IsIn}
use Rattle.history_book.specs.Sound.{Places, LineSound}
use Rattle.history_book.specs.States.{Written, start, after}

-- all of this was done by one pipeline
abbrev pub AreOf : ℕ → List DeedOf → Type 0
AreOf k [] = ⊤
AreOf k (d ∷ done) = (d.line ≡ k) × AreOf k done

-- a step is a move of one pipeline
abbrev pub IsMove : List DeedOf → Type 0
IsMove step = (k : ℕ) × AreOf k step

-- so is each of these
abbrev pub AreMoves : List (List DeedOf) → Type 0
AreMoves [] = ⊤
AreMoves (step ∷ steps) = IsMove step × AreMoves steps

module _ (makes : Makes) (listening : Listening) where
  -- each row of the parcel of this number is found in the queue that a stop left, or is acknowledged
  abbrev pub RowsStand : Places → List Entry → Link → ℕ → Image → Type 0
  RowsStand places told l number i =
      (rows : Found) → found (folder_in places.queue i) ≡ Ok rows → (w : Written) → IsIn w (rows_from makes listening told l number)
      → IsFound rows.rows w ⊎ IsIn w.number (after makes start told).acknowledged

  -- A turn that answers a parcel of a link as assured does nothing else: no pipeline tells, sends or hears anything in it, and no store is changed, so that a stop may leave of
  -- each what it might have left before. And when it begins, each row of the parcel stands in whatever a stop may leave of the listener's store.
  pub record AnswersAlone (places : Places) (told : List Entry) (l : Link) (number : ℕ) (step : List DeedOf) (leaves leaves_behind : ℕ → Image → Type 0) : Type 0 where
    pub does_nothing : step ≡ []
    pub same : (k : ℕ) (i : Image) → leaves_behind k i → leaves k i
    pub rows : (i : Image) → leaves l.to i → RowsStand places told l number i

-- Where the parcel is settled with its listener, its rows stand in whatever a stop leaves that agrees with what the listener told.
abbrev pub AnsweredRowsStand : Type 0
AnsweredRowsStand =
    (makes : Makes) (listening : Listening) (bytes : Bytes) (places : Places) (told : List Entry) (l : Link) (number : ℕ) (i : Image) → LineSound makes bytes places told i
    → IsSettled makes listening told l number → RowsStand makes listening places told l number i
