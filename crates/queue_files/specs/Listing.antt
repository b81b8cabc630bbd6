-- The numbers of the files in a folder of a queue.
use Rattle.std.specs.Prelude.{◌↔◌, ◌<◌, ◌^◌, ℕ, List, Contains, IsSome}
use Rattle.std.specs.List.Sorted.{IsStrictlyIncreasing}
use Rattle.queue_files.specs.Folders.{Role, page, checkpoint, Folder}
use Rattle.queue_files.specs.declared.listing.Listing.{Listing}

-- these are the numbers below 2^32 of which a file of this kind stands, in rising order
pub record AreNumbers (kind : ℕ → Role) (folder : Folder) (numbers : List ℕ) : Type 0 where
  pub rises : IsStrictlyIncreasing numbers
  pub each : (n : ℕ) → Contains numbers n ↔ ((n < 2 ^ 32) × IsSome (folder (kind n)))

-- the pages of a folder, and its checkpoints but for that of the head page
pub record IsListed (folder : Folder) (l : Listing) : Type 0 where
  pub pages : AreNumbers page folder l.pages.items
  pub checkpoints : AreNumbers checkpoint folder l.checkpoints.items
