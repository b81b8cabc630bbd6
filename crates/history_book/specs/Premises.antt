-- What is taken for granted of what a stop leaves and of what stands around a run; what stands of each pipeline at every moment of a run, so that a stop leaves what the
-- next run may begin with.
use Rattle.std.specs.Prelude.{◌≡◌, ℕ, zero, suc, ◌-◌, ◌==◌, List, [], ◌∷◌, ◌++◌, if◌then◌else◌}
use Rattle.io_traits.specs.Folders.{Content}
use Rattle.io_traits.specs.Reads.{bytes_of}
use Rattle.io_traits.specs.Chance.{NoChance}
use Rattle.io_traits.specs.Images.{Image}
use Rattle.io_traits.specs.Tails.{passes}
use Rattle.crc_frame.specs.Slots.{is_slot}
use Rattle.queue_files.specs.Marks.{NoChances as NoneInQueue}
use Rattle.dead_letters.specs.Opening.{NoChances as NoneInLetters}
use Rattle.history_book.specs.Deeds.{Deed, Tell, Send, Hear, DeedOf, deeds_by, told_of, told_by, AreTold, LegalBehind}
use Rattle.history_book.specs.Entries.{Entry}
use Rattle.history_book.specs.Lists.{IsIn}
use Rattle.history_book.specs.Sound.{FilePlace, Places}
use Rattle.history_book.specs.Runs.{Meanings, Bases, Around, PipelineSound, RunSound}
use Rattle.history_book.specs.Watched.{WatchedFile}
use Rattle.history_book.specs.Yards.{all_done}

-- Of what a pipeline keeps, no element, no checkpoint and no slot passes its test by chance.
pub record NoChanceIn (places : Places) (watched : List WatchedFile) (i : Image) : Type 0 where
  pub queue : NoneInQueue places.queue i
  pub files : (file : FilePlace) → IsIn file places.files → NoChance (passes (is_slot 24)) (i file.slot)
  pub dead : NoneInLetters places.dead i
  pub positions : (file : WatchedFile) → IsIn file watched → NoChance (passes (is_slot 24)) (i file.slot)

-- a watched file only grows
abbrev pub OnlyGrows : Content → Content → Type 0
OnlyGrows old new = (path : List ℕ) → (more : List ℕ) × (bytes_of (new path) ≡ bytes_of (old path) ++ more)

-- ---- where a run begins, and where it may be stopped

module _ (m : Meanings) (bases : Bases) where
  -- What a run may begin with: entries of earlier runs, which agree, pipeline by pipeline, with what its store holds. No link stands and no input is open.
  pub record Starts (first : List DeedOf) (files : Content) (images : ℕ → Image) : Type 0 where
    pub entries : AreTold first
    pub pipelines : (k : ℕ) → PipelineSound m bases k (told_by k first) files (images k)

  -- Inside a run: what a stop leaves of a pipeline's store agrees with what it told in earlier runs and up to some moment of this one; and each delivery to an address
  -- counts among that only where its answer was taken before.
  pub record StandsInside (k : ℕ) (earlier : List Entry) (deeds : List Deed) (files : Content) (i : Image) : Type 0 where
    pub front : List Deed
    pub more : List Deed
    pub parts : deeds ≡ front ++ more
    pub legal : LegalBehind m.makes earlier front
    pub sound : PipelineSound m bases k (earlier ++ told_of front) files i

-- ---- laws

-- Where a run agrees with what stands around it, each pipeline stands so.
abbrev pub RunsStandInside : Type 0
RunsStandInside =
    (m : Meanings) (bases : Bases) (first : List DeedOf) (steps : List (List DeedOf)) (around : Around) → RunSound m bases first steps around
    → (k : ℕ) → StandsInside m bases k (told_by k first) (deeds_by k (all_done steps)) around.files (around.images k)

-- the same counts, of which that of one pipeline is one less
abbrev pub one_less : ℕ → (ℕ → ℕ) → ℕ → ℕ
one_less line counts k = if k == line then counts k - 1 else counts k

-- behind a deed of a pipeline that has so many entries left
abbrev pub cut_behind : ℕ → Deed → ℕ → (ℕ → ℕ) → ((ℕ → ℕ) → List DeedOf) → List DeedOf
cut_behind line (Tell e) (suc n) counts rest = record { line = line; deed = Tell e } ∷ rest (one_less line counts)
cut_behind line (Tell e) zero counts rest = rest counts
cut_behind line (Send address p) n counts rest = rest counts
cut_behind line (Hear address a) n counts rest = rest counts

-- of the entries that each pipeline told the first so many, and nothing that it sent or heard
abbrev pub cut_at : (ℕ → ℕ) → List DeedOf → List DeedOf
cut_at counts [] = []
cut_at counts (d ∷ done) = cut_behind d.line d.deed (counts d.line) counts (λ less. cut_at less done)

-- Wherever a stop falls, and at whichever moment of each pipeline's own, the next run may begin with what it leaves.
abbrev pub StopsMeetTheStart : Type 0
StopsMeetTheStart =
    (m : Meanings) (bases : Bases) (first since : List DeedOf) (files : Content) (images : ℕ → Image)
    → ((k : ℕ) → StandsInside m bases k (told_by k first) (deeds_by k since) files (images k))
    → (counts : ℕ → ℕ) × Starts m bases (cut_at counts (first ++ since)) files images
