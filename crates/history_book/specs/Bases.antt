-- Where pipelines keep what they hold, by the folders of their settings; and how the map of bases grows in a run.
use Rattle.std.specs.Prelude.{◌≡◌, ◌⊎◌, ℕ, ℤ, true, List, [], ◌++◌, Option, Some, Ok}
use Rattle.io_traits.specs.Folders.{Content}
use Rattle.io_traits.specs.Reads.{bytes_of}
use Rattle.event_tree.specs.Events.{Ev}
use Rattle.config_tree.specs.declared.tree.Config.{Config}
use Rattle.config_tree.specs.declared.tree.Plugin.{Plugin}
use Rattle.foreign_parts.specs.declared.place.Place.TheVariants as place
use Rattle.event_flow.specs.Parts.{parts_of}
use Rattle.event_flow.specs.Places.{Draws, places_of}
use Rattle.slot_files.specs.Names.{position_name}
use Rattle.slot_files.specs.declared.name.PositionOf.TheVariants.{Output, Input as Watched_by_input}
use Rattle.dead_letters.specs.Found.{Held, found as dead_found}
use Rattle.queue_files.specs.Folders.{names_in}
use Rattle.history_book.specs.Deeds.{DeedOf, told_by}
use Rattle.history_book.specs.Entries.{Entry, Adopt}
use Rattle.history_book.specs.Inputs.{Input, IsInput}
use Rattle.history_book.specs.Lists.{IsIn}
use Rattle.history_book.specs.Runs.{Meanings, Bases, Outputs, Around}
use Rattle.history_book.specs.Sound.{FilePlace, Places}
use Rattle.history_book.specs.Sources.{SourceLook, Watched}
use Rattle.history_book.specs.States.{start, after}
use Rattle.history_book.specs.Watched.{WatchedFile}

-- ---- places by settings

-- a file output of a configuration that was adopted delivers to this path
pub record DeliversTo (told : List Entry) (path : List ℕ) : Type 0 where
  pub generation : ℕ
  pub config : Config
  pub draws : Draws
  pub adopted : IsIn (Adopt generation config draws) told
  pub output : Plugin
  pub is_output : IsIn output (parts_of config.outputs).plugins
  pub to : IsIn (place.File path) (places_of draws [] output)

-- A pipeline keeps its queue, its dead letters and its recorded positions in its folder, and has one place for each file to which a configuration delivers that it
-- adopted.
pub record ArePlacesOf (folder : List ℕ) (told : List Entry) (p : Places) : Type 0 where
  pub queue : p.queue ≡ names_in folder
  pub dead : p.dead ≡ folder
  pub slots : (file : FilePlace) → IsIn file p.files → file.slot ≡ folder ++ position_name Output file.path
  pub once : (one other : FilePlace) → IsIn one p.files → IsIn other p.files → one.path ≡ other.path → one ≡ other
  pub covers : (path : List ℕ) → DeliversTo told path → (file : FilePlace) × IsIn file p.files × (file.path ≡ path)

-- The files that its inputs watch have their recorded positions there, and each is among them at which an input looked that is known since the pipeline was opened.
pub record AreWatchedOf (m : Meanings) (folder : List ℕ) (told : List Entry) (looks : Option (ℕ → List SourceLook)) (files : List WatchedFile) : Type 0 where
  pub slots : (file : WatchedFile) → IsIn file files → file.slot ≡ folder ++ position_name Watched_by_input file.path
  pub once : (one other : WatchedFile) → IsIn one files → IsIn other files → one.path ≡ other.path → one ≡ other
  pub covers : (by : ℕ → List SourceLook) → looks ≡ Some by → (x : Input) → IsInput (after m.makes start told).plans x.number x → (path : List ℕ) (look : SourceLook)
      → IsIn look (by x.number) → look.source ≡ Watched path → (file : WatchedFile) × IsIn file files × (file.path ≡ path)

-- So it is with all pipelines, by their folders.
pub record Covers (m : Meanings) (folders : ℕ → List ℕ) (done : List DeedOf) (around : Around) (bases : Bases) : Type 0 where
  pub places : (k : ℕ) → ArePlacesOf (folders k) (told_by k done) (bases.places k)
  pub watched : (k : ℕ) → AreWatchedOf m (folders k) (told_by k done) (around.looks k) (bases.watched k)

-- ---- how the map grows

-- The reading of a file began where no position was recorded: at the place that its input's statement says of the bytes that the file had then.
pub record BeganReading (m : Meanings) (files : Content) (file : WatchedFile) : Type 0 where
  pub statement : Plugin
  pub watches : m.sources.watches statement file.path ≡ true
  pub bytes : List ℕ
  pub more : List ℕ
  pub grew : bytes_of (files file.path) ≡ bytes ++ more
  pub begins : file.base ≡ m.sources.begins statement bytes

-- A run keeps the map of bases with these changes alone: a place that it opens first has what stood there when the run began, and so have the dead letters of a pipeline
-- that told nothing before; a watched file without a recorded position has the place where its reading began; what the clock gave in the run may join what it gave before;
-- and where it opens pipelines, stdout and boxes have what they held when it began.
pub record Extends (m : Meanings) (first : List DeedOf) (stood : ℕ → Content) (files : Content) (asked : List ℤ) (began : Outputs) (old new : Bases) : Type 0 where
  pub queue : (k : ℕ) → (new.places k).queue ≡ (old.places k).queue
  pub dead : (k : ℕ) → (new.places k).dead ≡ (old.places k).dead
  pub dead_base : (k : ℕ) → ((new.places k).dead_base ≡ (old.places k).dead_base)
      ⊎ ((told_by k first ≡ []) × (dead_found (new.places k).dead (stood k) ≡ Ok (new.places k).dead_base))
  pub clock_stays : (k : ℕ) (h : Held) (t : ℤ) → IsIn t ((old.places k).clock h) → IsIn t ((new.places k).clock h)
  pub clock_comes : (k : ℕ) (h : Held) (t : ℤ) → IsIn t ((new.places k).clock h) → IsIn t ((old.places k).clock h) ⊎ IsIn t asked
  pub files_stay : (k : ℕ) (file : FilePlace) → IsIn file (old.places k).files → IsIn file (new.places k).files
  pub files_come : (k : ℕ) (file : FilePlace) → IsIn file (new.places k).files → IsIn file (old.places k).files ⊎ (file.base ≡ bytes_of (stood k file.path))
  pub watched_stay : (k : ℕ) (file : WatchedFile) → IsIn file (old.watched k) → IsIn file (new.watched k)
  pub watched_come : (k : ℕ) (file : WatchedFile) → IsIn file (new.watched k) → IsIn file (old.watched k) ⊎ BeganReading m files file
  pub outputs : ((new.stdout ≡ old.stdout) × ((n : ℕ) → new.boxes n ≡ old.boxes n)) ⊎ ((new.stdout ≡ began.stdout) × ((n : ℕ) → new.boxes n ≡ began.boxes n))
