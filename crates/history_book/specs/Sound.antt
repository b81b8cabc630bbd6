-- When what a stop leaves agrees with a history.
use Rattle.std.specs.Prelude.{◌≡◌, ◌⊎◌, ◌≤◌, ℕ, List, [], ◌∷◌, ◌++◌, Ok}
use Rattle.io_traits.specs.Images.{Image}
use Rattle.event_tree.specs.Events.{Ev}
use Rattle.event_tree.specs.declared.lists.DeadPart.{DeadPart}
use Rattle.foreign_parts.specs.declared.place.Place.{Place}
use Rattle.foreign_parts.specs.declared.place.Place.TheVariants as place
use Rattle.event_flow.specs.Meaning.{Makes}
use Rattle.event_flow.specs.Meaning as due
use Rattle.slot_files.specs.Contents.{left_in, Holds}
use Rattle.dead_letters.specs.Found.{Held, found as dead_found}
use Rattle.queue_files.specs.Folders.{Names, folder_in}
use Rattle.queue_files.specs.Found.{Found, found}
use Rattle.history_book.specs.Contents.{Bytes, Clock, FileLeft, DeadLeft, FileHolds, DeadHolds}
use Rattle.history_book.specs.Entries.{Entry, Assure}
use Rattle.history_book.specs.Laws.{WasDelivered, WasTold, WereAppended, fates_of, limits_in}
use Rattle.history_book.specs.Legal.{rejections, Legal, Fits, IsFound}
use Rattle.history_book.specs.Lists.{IsIn}
use Rattle.history_book.specs.States.{Written, start, after}

-- A file to which a pipeline delivers: its name, that of its position file, and what stood there when the pipeline first opened it.
pub record FilePlace : Type 0 where
  pub path : List ℕ
  pub slot : List ℕ
  pub base : List ℕ

-- where a pipeline keeps what it holds: the names of its queue's files, its files, and the folder of its dead letters with what that held at first; and what the clock gave
-- it for these
pub record Places : Type 0 where
  pub queue : Names
  pub files : List FilePlace
  pub dead : List ℕ
  pub dead_base : Held
  pub clock : Clock

module _ (makes : Makes) (bytes : Bytes) where
  -- A file has a content that the history allows, or that and one delivery more that was next and wasn't told.
  pub record FileSound (file : FilePlace) (told : List Entry) (i : Image) : Type 0 where
    pub content : List ℕ
    pub holds : Holds file.path file.slot content i
    pub whole : List ℕ
    pub allowed : FileHolds makes bytes file.path start file.base told whole
    pub or_more : (content ≡ whole) ⊎ FileLeft bytes file.path (after makes start told) whole content

module _ (makes : Makes) (clock : Clock) where
  -- so it is with the dead letters
  pub record DeadSound (folder : List ℕ) (base : Held) (told : List Entry) (i : Image) : Type 0 where
    pub held : Held
    pub is_found : dead_found folder (left_in i) ≡ Ok held
    pub whole : Held
    pub allowed : DeadHolds makes clock start base told whole
    pub or_more : (held ≡ whole) ⊎ DeadLeft clock (after makes start told) whole held

module _ (makes : Makes) (bytes : Bytes) where
  -- The history is legal, the queue's folder isn't damaged and fits it, and so do the files and the dead letters.
  pub record LineSound (places : Places) (told : List Entry) (i : Image) : Type 0 where
    pub legal : Legal makes start told
    pub rows : Found
    pub is_found : found (folder_in places.queue i) ≡ Ok rows
    pub fits : Fits (after makes start told) rows
    pub files : (file : FilePlace) → IsIn file places.files → FileSound makes bytes file told i
    pub dead : DeadSound makes places.clock places.dead places.dead_base told i

  -- All that was due of a row was told before it was acknowledged; each file holds the bytes of what was delivered there, and letters were appended to
  -- what the dead letter queue holds, those of rejected events among them.
  pub record AllStands (places : Places) (told : List Entry) (i : Image) (w : Written) : Type 0 where
    pub delivered : WasDelivered makes start told w
    pub in_files : (file : FilePlace) → IsIn file places.files → (id : List ℕ) (events : List Ev) → IsIn (due.Events id (place.File file.path) events) delivered.out.told
        → (content : List ℕ) × (front : List ℕ) × (back : List ℕ)
        × Holds file.path file.slot content i × (content ≡ front ++ bytes delivered.out.plan.config id events ++ back)
    pub in_letters : (letters : List DeadPart) → IsIn (due.Letters letters) delivered.out.told
        → (held : Held) × (dead_found places.dead (left_in i) ≡ Ok held) × WereAppended (limits_in told) places.clock places.dead_base held letters
    pub in_rejections : (id : List ℕ) (at : Place) (events : List Ev) → IsIn (due.Events id at events) delivered.out.told → (was : WasTold makes start told delivered.out.plan (due.Events id at events))
        × ((rejections delivered.out.plan.config id (fates_of was.entry) events ≡ [])
        ⊎ ((held : Held) × (dead_found places.dead (left_in i) ≡ Ok held)
        × WereAppended (limits_in told) places.clock places.dead_base held (rejections delivered.out.plan.config id (fates_of was.entry) events)))

-- An event that was acknowledged to its input stands unacknowledged in its queue, or all stands that its configuration derives from it: in each image that
-- agrees with the history, whatever was told since.
abbrev pub AcknowledgedEventsStand : Type 0
AcknowledgedEventsStand =
    (makes : Makes) (bytes : Bytes) (places : Places) (told rest : List Entry) (input front : ℕ) (w : Written) (i : Image)
    → (sound : LineSound makes bytes places (told ++ Assure input front ∷ rest) i) → IsIn w (after makes start told).rows → w.number ≤ front
    → IsFound sound.rows.rows w ⊎ AllStands makes bytes places (told ++ Assure input front ∷ rest) i w
