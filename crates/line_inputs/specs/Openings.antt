-- The files that an input watches, as they stand when they were opened.
use Rattle.std.specs.Prelude.{◌≡◌, ◌⊎◌, ℕ, false, IsTrue, List, [], ◌∷◌, ◌++◌, map, if◌then◌else◌}
use Rattle.std.specs.List.{AllByRecursion, list_any}
use Rattle.std.specs.Str.{bytes_eq}
use Rattle.io_traits.specs.declared.files.Files.{Ghosts as FilesWords}
use Rattle.io_traits.specs.declared.stores.Store.{Ghosts as StoreWords}
use Rattle.slot_files.specs.Names.{position_name}
use Rattle.slot_files.specs.declared.name.PositionOf.TheVariants.{Input}
use Rattle.in_file.specs.Openings.{IsOpened}
use Rattle.in_file.specs.Watching.{AreWatched}
use Rattle.in_file.specs.declared.plan.FilePlan.{FilePlan}
use Rattle.line_inputs.specs.Rows.{Noted}

-- the name of the position file of a path, in a folder whose path ends with a slash
abbrev pub position_path : List ℕ → List ℕ → List ℕ
position_path folder path = folder ++ position_name Input path

-- of some paths those whose position files are not taken, by these or by one before them
abbrev pub untaken : List ℕ → List (List ℕ) → List (List ℕ) → List (List ℕ)
untaken folder taken [] = []
untaken folder taken (path ∷ paths) =
    if list_any (bytes_eq (position_path folder path)) taken then untaken folder taken paths
    else path ∷ untaken folder (taken ++ position_path folder path ∷ []) paths

abbrev pub paths_of : List Noted → List (List ℕ)
paths_of opened = map (λ (n : Noted). n.watched.path) opened

abbrev pub slots_of : List Noted → List (List ℕ)
slots_of opened = map (λ (n : Noted). n.watched.slot) opened

-- some paths, and others behind them
abbrev pub BeginsWith : List (List ℕ) → List (List ℕ) → Type 0
BeginsWith front all = (behind : List (List ℕ)) × (all ≡ front ++ behind)

module _ {S F : Type 0} (store : StoreWords S) (files : FilesWords F) (folder : List ℕ) (plan : FilePlan) (first : S) where
  -- A file that was opened, while the store read as at first, and of which nothing was given.
  pub record IsOpen (n : Noted) : Type 0 where
    pub path : List ℕ
    pub s : S
    pub f : F
    pub reads : IsTrue store.tells → store.seen s ≡ store.seen first
    pub opened : IsOpened store files path (position_path folder path) plan s f n.watched
    pub given : n.given ≡ n.watched.behind
    pub rows : n.rows ≡ []
    pub ended : n.ended ≡ false

  abbrev pub AreOpen : List Noted → Type 0
  AreOpen opened = AllByRecursion IsOpen opened

  -- one file more is open, or none
  abbrev pub OpensOne : List Noted → List Noted → Type 0
  OpensOne before after = (after ≡ before) ⊎ ((n : Noted) × IsOpen n × (after ≡ before ++ n ∷ []))

module _ {F : Type 0} (files : FilesWords F) where
  -- these files are those that an input of this path watches, beside the earlier ones, but for such as have a position file that is taken
  pub record AreOfPath (folder path : List ℕ) (earlier later : List (List ℕ)) (old : F) (opened : List Noted) : Type 0 where
    pub paths : List (List ℕ)
    pub mid : F
    pub watched : AreWatched files path earlier old mid paths
    pub are : paths_of opened ≡ untaken folder [] paths
    -- they join the earlier ones
    pub joined : later ≡ earlier ++ paths
