-- The text of a configuration, by its source: the files that a path names are read call by call, and may change meanwhile.
use Rattle.std.specs.Prelude.{◌≡◌, ◌++◌, ℕ, true, List, [], ◌∷◌, take, IsTrue, if◌then◌else◌, Option, Some, None, Result, Ok, Err}
use Rattle.byte_lines.specs.Text.{text_of}
use Rattle.in_file.specs.Watching.{IsSplit, has_star, paths_of}
use Rattle.io_traits.specs.Counts.{Rose, one_more}
use Rattle.io_traits.specs.Folders.{Content, Lists}
use Rattle.io_traits.specs.Reads.{bytes_of}
use Rattle.io_traits.specs.declared.files.Files.{Ghosts as FilesWords}
use Rattle.settings_lines.specs.declared.orders.ConfigSource.{ConfigSource}
use Rattle.settings_lines.specs.declared.orders.ConfigSource.TheVariants as source
use Rattle.logstash_top.specs.declared.config_files.TextFault.{TextFault}
use Rattle.logstash_top.specs.declared.config_files.TextFault.TheVariants as text

-- how many bytes are read at most: one more than a configuration may have
abbrev pub read_limit : ℕ
read_limit = 1048577

-- the paths that a folder and a last part name, where the folder has these names: with `*` those for which it stands, and else the one
abbrev pub named_of : List ℕ → List ℕ → List (List ℕ) → List (List ℕ)
named_of folder last names = if has_star last then paths_of folder last names else (folder ++ last) ∷ []

-- what is read, or the path of the file that isn't there
abbrev pub Shown : Type 0
Shown = Result (List ℕ) (List ℕ)

abbrev pub with_shown : (List ℕ → Shown) → Shown → Shown
with_shown f (Ok bytes) = f bytes
with_shown f (Err path) = Err path

abbrev pub unless_missing : List ℕ → Option (List ℕ) → List ℕ → Shown
unless_missing path None bytes = Err path
unless_missing path (Some there) bytes = Ok bytes

-- bytes with more behind them, up to the limit
abbrev pub joined : List ℕ → List ℕ → List ℕ
joined front more = take read_limit (front ++ more)

-- bytes with a line feed and those of a file behind them
abbrev pub with_file : List ℕ → Shown → Shown
with_file front file = with_shown (λ bytes. Ok (joined (joined front (10 ∷ [])) bytes)) file

-- each call sees what the files hold then
module _ (shows : ℕ → Content) where
  -- a file, of which this call asks whether it is there, and the next one reads the bytes, up to the limit
  abbrev pub file_shown : ℕ → List ℕ → Shown
  file_shown call path = unless_missing path (shows call path) (take read_limit (bytes_of (shows (one_more call) path)))

  -- these bytes, and behind them a line feed and the bytes of each further file, up to the limit
  abbrev pub files_behind : List ℕ → ℕ → List (List ℕ) → Shown
  files_behind front call [] = Ok front
  files_behind front call (path ∷ paths) =
      with_shown (λ bytes. files_behind bytes (one_more (one_more call)) paths) (with_file front (file_shown call path))

  -- the bytes of a first file and of those behind it
  abbrev pub bytes_shown : ℕ → List ℕ → List (List ℕ) → Shown
  bytes_shown call path paths = with_shown (λ bytes. files_behind bytes (one_more (one_more call)) paths) (file_shown call path)

  -- the text of the files of these paths, which this one named
  abbrev pub text_shown : List ℕ → ℕ → List (List ℕ) → Shown
  text_shown named call [] = Err named
  text_shown named call (path ∷ paths) =
      with_shown (λ bytes. Ok (text_of bytes)) (bytes_shown call path paths)

-- this is the fault where a file isn't there; a call may fail and memory run out in its place, and in the place of any answer
abbrev pub IsMissing : Shown → TextFault → Type 0
IsMissing shown (text.NoFile path) = shown ≡ Err path
IsMissing shown text.Failed = Unit {0}
IsMissing shown text.Memory = Unit {0}

-- a file that is there wasn't read
abbrev pub IsUnread : TextFault → Type 0
IsUnread (text.NoFile path) = ⊥
IsUnread text.Failed = Unit {0}
IsUnread text.Memory = Unit {0}

module _ {P : Type 0} (files : FilesWords P) where
  -- a path names these files, and so many calls were made then
  pub record IsNamed (path : List ℕ) (old : P) (call : ℕ) (paths : List (List ℕ)) : Type 0 where
    pub folder : List ℕ
    pub last : List ℕ
    pub splits : IsSplit path folder last
    pub names : List (List ℕ)
    pub are : paths ≡ named_of folder last names
    -- with `*` the names in the folder are asked for
    pub listed : has_star last ≡ true → IsTrue files.tells → Lists (files.shows old (files.calls old)) folder names
    pub calls : call ≡ (if has_star last then one_more (files.calls old) else files.calls old)

  -- what calls for the text of a path showed, where the files tell it
  pub record IsShown (path : List ℕ) (old : P) (shown : Shown) : Type 0 where
    pub call : ℕ
    pub paths : List (List ℕ)
    pub named : IsNamed path old call paths
    pub same : IsTrue files.tells → shown ≡ text_shown (files.shows old) path call paths

  -- the text of a path, or why there is none
  abbrev pub IsPathText : List ℕ → P → P → Result (List ℕ) TextFault → Type 0
  IsPathText path old new (Ok found) = IsShown path old (Ok found)
  IsPathText path old new (Err (text.NoFile missing)) = IsShown path old (Err missing)
  IsPathText path old new (Err text.Failed) = Rose (files.faults old) (files.faults new)
  IsPathText path old new (Err text.Memory) = Unit {0}

  -- the text of a source, or why there is none; one that is in the words asks nothing of the files
  abbrev pub IsSourceText : ConfigSource → P → P → Result (List ℕ) TextFault → Type 0
  IsSourceText (source.Text words) old new found = (found ≡ Ok words) × (new ≡ old)
  IsSourceText (source.Path path) old new found = IsPathText path old new found
  IsSourceText (source.Sample events) old new found = ⊥
  IsSourceText source.Pipelines old new found = ⊥
