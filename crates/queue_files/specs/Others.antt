-- What a call leaves of the files of a store that it isn't for.
use Rattle.std.specs.Prelude.{ℕ, List, map, Contains}
use Rattle.io_traits.specs.Moments.{EachMoment, LeavesBeside, ReadsBeside}
use Rattle.io_traits.specs.declared.stores.Store.{Ghosts as StoreWords}
use Rattle.queue_files.specs.declared.marking.Mark.{Mark}

-- one of the checkpoints that these marks are for
abbrev pub IsMarked : List Mark → List ℕ → Type 0
IsMarked marks = Contains (map (λ m. m.file) marks)

module _ {S : Type 0} (store : StoreWords S) where
  -- All files but those that are Mine read as before. And whatever a stop leaves at a moment of the call, these files are as in an image of the moment
  -- when it began, or as they were read then, at rest.
  pub record KeepsOthers (Mine : List ℕ → Type 0) (old new : S) : Type 0 where
    pub reads : ReadsBeside store Mine old new
    pub moments : EachMoment store old new (LeavesBeside store Mine old)
