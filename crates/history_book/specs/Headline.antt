-- What the call of the program ensures of events: whatever the order of steps, of returning batches and of reloads, and wherever a stop falls, each event acknowledged to
-- its input stands unacknowledged in its queue, or everything that the configuration under which it was read derives from it stands in the destinations that its conditionals
-- select or in the dead letter queue; and destinations hold nothing else. No call ensures it yet: the names are those of the definitions below it.
use Rattle.std.specs.Prelude.{◌≡◌, ℕ, ℤ, true, false, Bool, List, [], ◌∷◌, ◌++◌, Option, Some, None, if◌then◌else◌, ⊤}
use Rattle.io_traits.specs.Folders.{Content}
use Rattle.io_traits.specs.Images.{Image}
use Rattle.config_tree.specs.declared.tree.Config.{Config}
use Rattle.history_book.specs.Bases.{Covers, Extends}
use Rattle.history_book.specs.Deeds.{Deed, Tell, Send, Hear, DeedOf, deeds_by, told_by, AreTold}
use Rattle.history_book.specs.Ends.{IsDone, IsStopped}
use Rattle.history_book.specs.Entries.{Entry, Adopt, Opened}
use Rattle.history_book.specs.Links.{Link}
use Rattle.history_book.specs.Lists.{IsIn}
use Rattle.history_book.specs.Premises.{NoChanceIn, OnlyGrows, Starts, StandsInside}
use Rattle.history_book.specs.Runs.{Meanings, Bases, Outputs, Around, RunSound}
use Rattle.history_book.specs.Sources.{SourceLook}
use Rattle.history_book.specs.States.{Limits}
use Rattle.history_book.specs.Turns.{AreMoves}
use Rattle.history_book.specs.Yards.{all_done}

-- How a call of the program ended, as far as this speaks of it.
pub data Ended : Type 0 where
  -- nothing is left to do
  Done : Ended
  -- it was told to stop, and did
  Stopped : Ended
  -- by a fault, or with a status that comes before any pipeline is opened
  Otherwise : Ended

-- what is set of a pipeline: its folder, what its dead letters may hold, whether it drains at a stop; and the configurations that were read of its text in the call, in order
pub record Set : Type 0 where
  pub folder : List ℕ
  pub limits : Limits
  pub drains : Bool
  pub read : List Config

-- A call of the program: the pipelines that it ran, by their numbers, as they are set, and whether they ran beside each other, in threads; what its book was told before it
-- and in it; what each pipeline's store read when it began; which images each store might leave when it began, at some moment of it, and at its return; the watched files
-- when it began and at its return; what the clock gave in it; what stdout and boxes held when it began, and what they hold at its return, where a pipeline was opened over
-- them; and the looks that its inputs made, of a pipeline that was opened.
pub record ProgramCall : Type 1 where
  pub runs : ℕ → Bool
  pub set : ℕ → Set
  pub apart : Bool
  pub told_before : List (ℕ × Entry)
  pub told : List (ℕ × Entry)
  pub stood : ℕ → Content
  pub may_have_left : ℕ → Image → Type 0
  pub may_leave_inside : ℕ → Image → Type 0
  pub may_leave : ℕ → Image → Type 0
  pub files_before : Content
  pub files : Content
  pub asked : List ℤ
  pub began : Outputs
  pub outputs : Option Outputs
  pub looks : ℕ → ℕ → List SourceLook
  pub ended : Ended

-- ---- what the book was told

-- the entries among deeds, each with the number of its pipeline
abbrev pub told_in : ℕ → Deed → List (ℕ × Entry)
told_in line (Tell e) = (line, e) ∷ []
told_in line (Send address p) = []
told_in line (Hear address a) = []

abbrev pub tells_of : List DeedOf → List (ℕ × Entry)
tells_of [] = []
tells_of (d ∷ done) = told_in d.line d.deed ++ tells_of done

-- what a pipeline adopts was read of its text in this call, and an opening tells what its settings say of its dead letters
abbrev pub IsAsSet : Set → Entry → Type 0
IsAsSet set (Adopt generation config draws) = IsIn config set.read
IsAsSet set (Opened rows limit policy) = (limit ≡ set.limits.limit) × (policy ≡ set.limits.policy)
IsAsSet set e = ⊤

-- ---- the headline

module _ (m : Meanings) (c : ProgramCall) where
  abbrev folders : ℕ → List ℕ
  folders k = (c.set k).folder

  abbrev around : (ℕ → Image) → Around
  around images = record { images = images; files = c.files; looks = λ k. if c.runs k then Some (c.looks k) else None; outputs = c.outputs }

  -- of what stores may leave, nothing passes a test by chance
  abbrev HasNoChance : Bases → ℕ → Image → Type 0
  HasNoChance bases k i = NoChanceIn (bases.places k) (bases.watched k) i

  -- What is told in the call behind what was told before, and the map of bases behind that of before.
  pub record Headline (first : List DeedOf) (old : Bases) : Type 0 where
    -- what was done in the call tells what the book was told, step by step, and each step is a move of one pipeline where none ran beside another; each pipeline that tells
    -- is one that the call runs, as it is set
    pub steps : List (List DeedOf)
    pub moves : c.apart ≡ false → AreMoves steps
    pub told_is : tells_of (all_done steps) ≡ c.told
    pub as_set : (k : ℕ) (e : Entry) → IsIn (k, e) c.told → (c.runs k ≡ true) × IsAsSet (c.set k) e
    pub bases : Bases
    pub extends : Extends m first c.stood c.files c.asked c.began old bases
    -- the links behind the last step; at the return, by any status, the run agrees with every combination of what stores may leave then
    pub last : List Link
    pub at_return : (images : ℕ → Image) → ((k : ℕ) → c.may_leave k (images k) × HasNoChance bases k (images k))
        → Covers m folders (first ++ all_done steps) (around images) bases × ((sound : RunSound m bases first steps (around images)) × (sound.last ≡ last))
    -- at every moment of the call each pipeline agrees with what a stop leaves of its store then, by what it told up to some moment; a place counts from its first opening on
    pub inside : (k : ℕ) (i : Image) → c.may_leave_inside k i → HasNoChance bases k i
        → (now : Bases) × Extends m first c.stood c.files c.asked c.began old now × StandsInside m now k (told_by k first) (deeds_by k (all_done steps)) c.files i
    -- and where nothing was left to do, or the call was told to stop
    pub done : c.ended ≡ Done → (k : ℕ) (i : Image) → c.runs k ≡ true → c.may_leave k i → HasNoChance bases k i
        → IsDone m.makes m.listening m.sources (bases.places k) (first ++ all_done steps) last k (c.looks k) i
    pub stopped : c.ended ≡ Stopped → (k : ℕ) (i : Image) → c.runs k ≡ true → c.may_leave k i → HasNoChance bases k i
        → IsStopped m.makes m.listening m.sources (bases.places k) (first ++ all_done steps) last k (λ j. (c.set j).drains) i

  -- So it is for each map of bases and what was told before, with which the call might begin, where watched files only grow.
  abbrev pub HeadlineHolds : Type 0
  HeadlineHolds =
      (first : List DeedOf) (old : Bases) → AreTold first → tells_of first ≡ c.told_before
      → ((images : ℕ → Image) → ((k : ℕ) → c.may_have_left k (images k) × HasNoChance old k (images k)) → Starts m old first c.files_before images)
      → OnlyGrows c.files_before c.files → Headline first old
