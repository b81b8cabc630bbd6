-- When all that is acknowledged in a queue was recorded.
use Rattle.std.specs.Prelude.{◌≡◌, List, [], ◌∷◌, length, ⊤}
use Rattle.queue_files.specs.Kept.{Page, Queue, first_open_of}

-- of each of these pages what is acknowledged now was recorded
abbrev pub AreRecorded : List Page → Type 0
AreRecorded [] = ⊤
AreRecorded (p ∷ ps) = (p.from ≡ first_open_of p) × AreRecorded ps

pub record IsRecorded (q : Queue) : Type 0 where
  pub tails : AreRecorded q.tails
  pub top : q.top.from ≡ first_open_of q.top
  pub all : q.marked ≡ length q.top.rows
