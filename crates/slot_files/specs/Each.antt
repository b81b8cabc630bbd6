-- Changes of several files of a store, one after the other: what reads give behind them, and what a stop may leave at each moment.
use Rattle.std.specs.Prelude.{◌≡◌, ◌⊎◌, ℕ, List, [], ◌∷◌, ◌++◌, take, drop, Some, None, Contains, IsTrue, if◌then◌else◌}
use Rattle.std.specs.Str.{bytes_eq}
use Rattle.io_traits.specs.Folders.{Content}
use Rattle.io_traits.specs.Reads.{bytes_of, file_length}
use Rattle.io_traits.specs.Images.{Image, FileImage, at_rest}
use Rattle.io_traits.specs.Moments.{NowOrSynced}
use Rattle.io_traits.specs.declared.stores.Store.{Ghosts as StoreWords}
use Rattle.slot_files.specs.Changes.{HasFirst, KeepsFirst}

-- what reads give with bytes appended to the file of a name
abbrev pub with_more : List ℕ → List ℕ → Content → Content
with_more x bytes content name = if bytes_eq name x then Some (bytes_of (content name) ++ bytes) else content name

-- each file of these names has taken so many of the bytes, one behind the other
abbrev pub laid : List (List ℕ) → List ℕ → List ℕ → Content → Content
laid [] sizes bytes content = content
laid (x ∷ names) [] bytes content = content
laid (x ∷ names) (n ∷ sizes) bytes content = laid names sizes (drop n bytes) (with_more x (take n bytes) content)

-- what reads give without the files of these names
abbrev pub without : List (List ℕ) → Content → Content
without [] content = content
without (x ∷ names) content = without names (λ name. if bytes_eq name x then None else content name)

-- a file that reads give keeps all its bytes
abbrev pub KeepsBytes : Content → List ℕ → FileImage → FileImage → Type 0
KeepsBytes content name = KeepsFirst (file_length (content name)) (content name)

-- a file is gone, or it is the same
abbrev pub GoneOrSame : List ℕ → FileImage → FileImage → Type 0
GoneOrSame name old new = (new.file ≡ None) ⊎ (new.file ≡ old.file)

module _ {S : Type 0} (store : StoreWords S) where
  -- An image of the moment when a call began, or what was read then, at rest; but for the files of these names, of which is said how each may differ.
  abbrev pub AltersEach : List (List ℕ) → (List ℕ → FileImage → FileImage → Type 0) → S → Image → Type 0
  AltersEach names may_differ s i = (d : Image) × NowOrSynced store s d × ((name : List ℕ) → (i name ≡ d name) ⊎ (Contains names name × may_differ name (d name) (i name)))

  -- each file reads as before, or it is one of these names and has the bytes that it had in front
  abbrev pub Grows : List (List ℕ) → S → S → Type 0
  Grows names old new =
      IsTrue store.tells → (name : List ℕ)
      → (store.seen new name ≡ store.seen old name) ⊎ (Contains names name × HasFirst (file_length (store.seen old name)) (store.seen old name) (at_rest (store.seen new name)))
