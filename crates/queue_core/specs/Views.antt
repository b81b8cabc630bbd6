-- A queue that is open, as contracts see it.
use Rattle.std.specs.Prelude.{ℕ, Bool, List}
use Rattle.queue_page.specs.Views.{PageView, PageBufferView}
use Rattle.queue_core.specs.declared.kept.KeptRow.{KeptRow}
use Rattle.queue_core.specs.declared.limits.Limits.{Limits}

-- A page of a queue that is open: its number, the path of its file, and how that stands; which of its rows are acknowledged; and the first number that wasn't when that
-- was last recorded, with the turn of the slot in which it was.
pub record OpenPageView : Type 0 where
  pub number : ℕ
  pub file : List ℕ
  pub page : PageView
  pub acknowledged : List Bool
  pub from : ℕ
  pub turn : ℕ

-- The place of the next unread row: the number of its page, its own number, and where in the file it begins; with the part of that file that was
-- read last, and the rows that were written and are kept for their batch.
pub record CursorView : Type 0 where
  pub page : ℕ
  pub number : ℕ
  pub place : ℕ
  pub block : PageBufferView
  pub kept : List KeptRow

pub record QueueView : Type 0 where
  -- the folder, whose path ends with a slash
  pub folder : List ℕ
  pub limits : Limits
  -- the pages below the head in rising order, and the head page
  pub tails : List OpenPageView
  pub top : OpenPageView
  -- how many rows weren't given yet, and the first of them
  pub unread : ℕ
  pub cursor : CursorView
