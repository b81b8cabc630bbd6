-- What an opening reads of the pages of a folder.
use Rattle.std.specs.Prelude.{◌≤◌, ◌+◌, ◌-◌, ◌^◌, ℕ, List, [], ◌∷◌, Bool, false, Result, Ok, ⊤}
use Rattle.io_traits.specs.Reads.{bytes_of}
use Rattle.queue_page.specs.Elements.{and_then}
use Rattle.queue_page.specs.Pages.{opened_view}
use Rattle.queue_page.specs.Views.{PageView}
use Rattle.queue_files.specs.Folders.{page, checkpoint, Folder}
use Rattle.queue_files.specs.Checkpoints.{misfit}
use Rattle.queue_files.specs.Found.{Damaged, or_damage, told_at, Held}
use Rattle.queue_files.specs.Collected.{collected}
use Rattle.queue_files.specs.Telling.{misfit_of}
use Rattle.queue_files.specs.declared.checkpoint_state.Differing.{Differing}
use Rattle.queue_files.specs.declared.sealed_pages.SealedPage.{SealedPage}

-- a page below the head as its checkpoint tells of it, with the bytes of its file
abbrev pub held_tail : Folder → SealedPage → Held
held_tail folder t = record { number = t.number; state = t.state; bytes = bytes_of (folder (page t.number)) }

abbrev pub held_at : Folder → ℕ → Result Held Damaged
held_at folder n = and_then (told_at (checkpoint n) (folder (checkpoint n))) (λ s. Ok (record { number = n; state = s; bytes = bytes_of (folder (page n)) }))

-- the pages of these numbers, each with its checkpoint, or the first damage of a checkpoint
abbrev pub held_of : Folder → List ℕ → Result (List Held) Damaged
held_of folder numbers = collected (held_at folder) numbers

-- ---- what the pages say

abbrev pub IsBounded : SealedPage → Type 0
IsBounded t = t.state.least + t.state.count ≤ 2 ^ 63 - 1

abbrev pub AllBounded : List SealedPage → Type 0
AllBounded [] = ⊤
AllBounded (t ∷ tails) = IsBounded t × AllBounded tails

-- a page, as it is opened
abbrev pub view_at : Bool → Held → Result PageView Damaged
view_at is_head p = or_damage (opened_view is_head p.state p.bytes) (λ m. (page p.number, misfit m.place m.found m.expected))

-- those below the head, or the first damage of one
abbrev pub views_of : Folder → List SealedPage → Result (List PageView) Damaged
views_of folder tails = collected (λ t. view_at false (held_tail folder t)) tails

-- the page of this number has a least number that is below the end before it
abbrev pub falls_at : ℕ × Differing → Damaged
falls_at found = (page found.0, misfit_of found.1)
