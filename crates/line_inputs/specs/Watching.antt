-- The files that one input watches, between two polls: what a poll and an event are of them (this project's rules for inputs).
use Rattle.std.specs.Prelude.{◌≡◌, ◌⊎◌, ℕ, zero, suc, ◌+◌, ℤ, Bool, true, false, Option, Some, None, List, [], ◌∷◌, ◌++◌, take, drop, map, get_or, slice_set, if◌then◌else◌}
use Rattle.io_traits.specs.declared.files.Files.{Ghosts as FilesWords}
use Rattle.byte_lines.specs.Unread.{lines_left}
use Rattle.event_tree.specs.Events.{Ev}
use Rattle.in_file.specs.Looks.{event_from}
use Rattle.in_file.specs.Looks.{Gave as FileGave, WasPolled as FileWasPolled}
use Rattle.in_file.specs.Views.{Watched}
use Rattle.in_lines.specs.Polls.{received_at}
use Rattle.in_lines.specs.declared.poll_outcome.Got.{Got}
use Rattle.in_lines.specs.declared.poll_outcome.Got.TheVariants as got
use Rattle.line_inputs.specs.Rows.{HasRoom, Noted, handed_on, polled}
use Rattle.line_inputs.specs.Rows.{assured as file_assured, with_row as file_with_row}

-- The files, in byte order of their names; the place of the one that was polled last, whose lines come next; and that of the one of which an event was
-- handed on last.
pub record Watching : Type 0 where
  pub files : List Noted
  pub at : ℕ
  pub given_at : ℕ

-- the lines of the first of some files
abbrev pub first_lines : List Noted → List (List ℕ)
first_lines [] = []
first_lines (n ∷ files) = lines_left n.watched.unread

-- and their events
abbrev pub events_of : Watched → List Ev
events_of w = map (event_from w.path w.codec) (received_at w.moment (lines_left w.unread))

abbrev pub first_events : List Noted → List Ev
first_events [] = []
first_events (n ∷ files) = events_of n.watched

abbrev pub lines_held : Watching → List (List ℕ)
lines_held w = first_lines (drop w.at w.files)

abbrev pub events_held : Watching → List Ev
events_held w = first_events (drop w.at w.files)

-- the place of the first file whose end was not met, of those from a place on, counted from there
abbrev pub open_place : ℕ → List Noted → Option ℕ
open_place at [] = None
open_place at (n ∷ files) = if n.ended then open_place (at + 1) files else Some at

abbrev pub open_from : ℕ → List Noted → Option ℕ
open_from from files = open_place from (drop from files)

abbrev pub or_else : Option ℕ → Option ℕ → Option ℕ
or_else (Some place) other = Some place
or_else None other = other

-- the file that is polled next: the next one in turn whose end was not met
abbrev pub next_open : Watching → Option ℕ
next_open w = or_else (open_from (w.at + 1) w.files) (open_from 0 w.files)

abbrev is_none : Option ℕ → Bool
is_none None = true
is_none (Some place) = false

-- the end of each file was met, or there is none
abbrev pub is_over : Watching → Bool
is_over w = is_none (open_from 0 w.files)

-- the answer of a poll, by whether a line is held
abbrev pub got_by : List (List ℕ) → Bool → Got
got_by [] over = if over then got.End else got.NotYet
got_by (line ∷ lines) over = got.Lines

abbrev pub got_of : Watching → Got
got_of w = got_by (lines_held w) (is_over w)

module _ {F : Type 0} (files : FilesWords F) where
  -- one of the files was polled
  pub record PolledAt (place : ℕ) (moment : ℤ) (old new : F) (before after : Watching) : Type 0 where
    pub file : Noted
    pub is : file ≡ get_or before.files place file
    pub left : Watched
    pub polled_is : FileWasPolled files moment old new file.watched left
    pub after_is : after ≡ record before { files = slice_set before.files place (polled left file); at = place }

  -- the next in turn was, where there is one
  abbrev pub PolledNext : Option ℕ → ℤ → F → F → Watching → Watching → Type 0
  PolledNext None moment old new before after = (new ≡ old) × (after ≡ before)
  PolledNext (Some place) moment old new before after = PolledAt place moment old new before after

  abbrev pub WasPolled : ℤ → F → F → Watching → Watching → Type 0
  WasPolled moment old new before after = PolledNext (next_open before) moment old new before after

-- ---- lines and rows

-- one of some files is changed
abbrev pub change_at : (Noted → Noted) → ℕ → List Noted → List Noted
change_at f at [] = []
change_at f zero (n ∷ files) = f n ∷ files
change_at f (suc at) (n ∷ files) = n ∷ change_at f at files

-- the event of the next line was given, of the file that was polled last
pub record GaveAt (event : Option Ev) (before after : Watching) : Type 0 where
  pub file : Noted
  pub is : file ≡ get_or before.files before.at file
  pub left : Watched
  pub gave : FileGave event file.watched left
  pub after_is : after ≡ record before { files = slice_set before.files before.at (record file { watched = left }) }

-- an event was given, or no line is held
abbrev pub Gave : Option Ev → Watching → Watching → Type 0
Gave event before after = ((event ≡ None) × (after ≡ before)) ⊎ GaveAt event before after

-- there is room for one more row of the first of some files, if there is one
abbrev pub FirstHasRoom : List Noted → Type 0
FirstHasRoom [] = Unit {0}
FirstHasRoom (n ∷ files) = HasRoom n

-- an event is handed on, and the row that it became is noted
abbrev pub passed_on : Watching → Watching
passed_on w = record w { files = change_at handed_on w.at w.files; given_at = w.at }

abbrev pub with_row : ℕ → Watching → Watching
with_row number w = record w { files = change_at (file_with_row number) w.given_at w.files }

-- the positions that the rows up to a front reach are recorded, and these rows are forgotten
abbrev pub assured : ℕ → Watching → Watching
assured front w = record w { files = map (file_assured front) w.files }

-- the same, of the first few files alone
pub record FrontAssured (front : ℕ) (before after : List Noted) : Type 0 where
  pub done : ℕ
  pub after_is : after ≡ map (file_assured front) (take done before) ++ drop done before

abbrev pub AssuredInPart : ℕ → Watching → Watching → Type 0
AssuredInPart front before after = FrontAssured front before.files after.files × (after ≡ record before { files = after.files })
