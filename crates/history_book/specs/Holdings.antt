-- What a pipeline's places hold while it runs, and what a stop leaves of them at each moment.
use Rattle.std.specs.Prelude.{◌≡◌, ◌⊎◌, ℕ, List, [], ◌∷◌, ◌++◌, None, Ok}
use Rattle.io_traits.specs.Images.{Image}
use Rattle.settings_lines.specs.declared.settings.Policy.{Policy}
use Rattle.event_flow.specs.Meaning.{Makes}
use Rattle.slot_files.specs.Contents.{left_in, Holds}
use Rattle.dead_letters.specs.Found.{Held, found as dead_found}
use Rattle.queue_files.specs.Folders.{folder_in}
use Rattle.queue_files.specs.Kept.{Queue, Kept}
use Rattle.history_book.specs.Contents.{Bytes, FileLeft, DeadLeft, FileHolds, DeadHolds, next_fates}
use Rattle.history_book.specs.Entries.{Entry, Opened}
use Rattle.history_book.specs.Legal.{Legal}
use Rattle.history_book.specs.Lists.{IsIn}
use Rattle.history_book.specs.Queues.{IsQueueAt, IsOpenedAs}
use Rattle.history_book.specs.Sound.{FilePlace, Places, LineSound}
use Rattle.history_book.specs.States.{Nothing, start, after}

-- its queue, the content of each of its files, and its dead letters
pub record Holdings (places : Places) : Type 0 where
  pub queue : Queue
  pub content : (file : FilePlace) → IsIn file places.files → List ℕ
  pub dead : Held

module _ (makes : Makes) (bytes : Bytes) (places : Places) where
  -- The places hold what the history says, and no delivery is on its way.
  pub record HoldsTold (told : List Entry) (h : Holdings places) : Type 0 where
    pub legal : Legal makes start told
    pub queue : IsQueueAt (after makes start told) h.queue
    pub files : (file : FilePlace) → (i : IsIn file places.files) → FileHolds makes bytes file.path start file.base told (h.content file i)
    pub dead : DeadHolds makes places.clock start places.dead_base told h.dead

  -- What a stop leaves of them: the queue, and of files and dead letters what they held or that with the next delivery of a batch that is out.
  pub record StopLeaves (told : List Entry) (h : Holdings places) (i : Image) : Type 0 where
    pub queue : Kept h.queue (folder_in places.queue i)
    pub files : (file : FilePlace) → (j : IsIn file places.files)
        → (content : List ℕ) × Holds file.path file.slot content i × ((content ≡ h.content file j) ⊎ FileLeft bytes file.path (after makes start told) (h.content file j) content)
    pub dead : (held : Held) × (dead_found places.dead (left_in i) ≡ Ok held) × ((held ≡ h.dead) ⊎ DeadLeft places.clock (after makes start told) h.dead held)

  -- it agrees with the history
  abbrev pub LeftIsSound : Type 0
  LeftIsSound = (told : List Entry) (h : Holdings places) (i : Image) → HoldsTold told h → StopLeaves told h i → LineSound makes bytes places told i

  -- Entries that come next, with what they make of the places. Where letters of rejected events were told last, the delivery that rejected them isn't told by
  -- itself.
  pub record Follows (told more : List Entry) (old new : Holdings places) : Type 0 where
    pub whole : ((after makes start told).between ≡ Nothing) ⊎ (next_fates more ≡ None)
    pub legal : Legal makes (after makes start told) more
    pub queue : IsQueueAt (after makes (after makes start told) more) new.queue
    pub files : (file : FilePlace) → (i : IsIn file places.files) → FileHolds makes bytes file.path (after makes start told) (old.content file i) more (new.content file i)
    pub dead : DeadHolds makes places.clock (after makes start told) old.dead more new.dead

  abbrev pub FollowingStands : Type 0
  FollowingStands = (told more : List Entry) (old new : Holdings places) → HoldsTold told old → Follows told more old new → HoldsTold (told ++ more) new

  -- What a stop left is opened: the queue with the rows that are found, and files and dead letters as they are.
  pub record IsOpened (told : List Entry) (i : Image) (sound : LineSound makes bytes places told i) (h : Holdings places) : Type 0 where
    pub queue : IsOpenedAs sound.rows h.queue
    pub files : (file : FilePlace) → (j : IsIn file places.files) → h.content file j ≡ (sound.files file j).content
    pub dead : h.dead ≡ sound.dead.held

  abbrev pub OpeningStands : Type 0
  OpeningStands =
      (told : List Entry) (i : Image) (sound : LineSound makes bytes places told i) (h : Holdings places) (limit : ℕ) (policy : Policy) → IsOpened told i sound h
      → HoldsTold (told ++ Opened sound.rows.rows limit policy ∷ []) h
