-- A change of one file of a store, which is settled behind it: what a stop may leave at each moment, and what stands then.
use Rattle.std.specs.Prelude.{◌≡◌, ◌≤◌, ℕ, min, IsTrue, List, take, Option}
use Rattle.io_traits.specs.Reads.{bytes_of, file_length}
use Rattle.io_traits.specs.Images.{Image, FileImage, On, IsAtRest, at_rest}
use Rattle.io_traits.specs.Moments.{MayLeaveNow, NowOrSynced}
use Rattle.io_traits.specs.declared.stores.Store.{Ghosts as StoreWords}

-- the first n bytes of a file stand, or all of one that has fewer
pub record HasFirst (n : ℕ) (file : Option (List ℕ)) (new : FileImage) : Type 0 where
  pub no_shorter : min n (file_length file) ≤ file_length new.file
  pub front : take n (bytes_of new.file) ≡ take n (bytes_of file)

-- a file that was this, at rest, keeps its first n bytes
abbrev pub KeepsFirst : ℕ → Option (List ℕ) → FileImage → FileImage → Type 0
KeepsFirst n file old new = old ≡ at_rest file → HasFirst n file new

module _ {S : Type 0} (store : StoreWords S) where
  -- all files are at rest, as they read
  abbrev pub AllRest : S → Type 0
  AllRest s = (i : Image) → MayLeaveNow store s i → IsAtRest (store.seen s) i

  -- all files are at rest, and that of this name reads so
  pub record Settled (name : List ℕ) (file : Option (List ℕ)) (s : S) : Type 0 where
    pub reads : IsTrue store.tells → store.seen s name ≡ file
    pub rests : AllRest s

  -- An image of the moment when a call began, or what was read then, at rest; but for the file of one name, of which is said how it may differ.
  abbrev pub Alters : List ℕ → (FileImage → FileImage → Type 0) → S → Image → Type 0
  Alters name may_differ s i = (d : Image) × NowOrSynced store s d × On name may_differ d i
