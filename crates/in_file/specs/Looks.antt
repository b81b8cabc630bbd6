-- What a file input takes of its file and gives of it, poll by poll and line by line (this project's rules for inputs).
use Rattle.std.specs.Prelude.{◌≡◌, ◌≤◌, ℕ, zero, suc, ◌+◌, ◌-◌, ◌^◌, min, ℤ, Bool, true, false, IsTrue, List, [], ◌∷◌, ◌++◌, codes, length, take, drop, Option, Some, None, if◌then◌else◌}
use Rattle.io_traits.specs.Folders.{Content, IsOneCall}
use Rattle.io_traits.specs.Pieces.{Piece, Came, End, Nothing}
use Rattle.io_traits.specs.Reads.{bytes_of}
use Rattle.io_traits.specs.declared.files.Files.{Ghosts as FilesWords}
use Rattle.byte_lines.specs.Unread.{lines_left}
use Rattle.event_tree.specs.Events.{Ev, Way, to}
use Rattle.event_tree.specs.declared.value.Value.TheVariants as v
use Rattle.event_text.specs.Options.{set_at}
use Rattle.in_lines.specs.declared.codec.Codec.{Codec}
use Rattle.in_lines.specs.Decoding.{event_by}
use Rattle.in_lines.specs.Polls.{Poll, joined, Received}
use Rattle.in_lines.specs.Readings.{IsReading, with_piece}
use Rattle.in_file.specs.Held.{got_by, looks_by}
use Rattle.in_file.specs.Views.{Watched, taken}
use Rattle.in_lines.specs.declared.poll_outcome.Got.{Got}

-- what a poll and a line leave as it was: all but what was read and given
abbrev pub Keeps : Watched → Watched → Type 0
Keeps before after = after ≡ record before { behind = after.behind; unread = after.unread; moment = after.moment }

-- ---- a whole reading

-- An input that met these polls since it was opened, and gave these lines. Their bytes begin where the reading began.
pub record HasRead (polls : List Poll) (given : List Received) (w : Watched) : Type 0 where
  pub reading : IsReading polls given w.unread w.moment
  pub places : taken w ≡ w.began + length (joined polls)

-- ---- polls

-- how many bytes a look asks for at most
abbrev pub read_limit : ℕ
read_limit = 262144

-- and how many from a place on: a place has 64 bits
abbrev pub room_at : ℕ → ℕ
room_at place = min (2 ^ 64 - 1 - place) read_limit

-- the bytes that a look finds: those of the file from behind all that were read
abbrev pub bytes_next : Content → Watched → List ℕ
bytes_next content w = take (room_at (taken w)) (drop (taken w) (bytes_of (content w.path)))

-- what is found so: no byte is the end of a file that ends, and of another nothing so far
abbrev pub piece_of : Bool → List ℕ → Piece
piece_of ends [] = if ends then End else Nothing
piece_of ends (b ∷ bytes) = Came (b ∷ bytes)

-- what an input holds once a poll at this moment found a piece
abbrev pub polled : Piece → ℤ → Watched → Watched
polled (Came bytes) moment w = record w { unread = with_piece (Came bytes) w.unread; moment = moment }
polled End moment w = record w { unread = with_piece End w.unread; moment = moment }
polled Nothing moment w = w

-- the same, of an input that has the bytes already, by how many they are
abbrev pub taken_in : ℕ → ℤ → Watched → Watched
taken_in zero moment w = if w.ends then record w { unread = with_piece End w.unread; moment = moment } else w
taken_in (suc count) moment w = record w { moment = moment }

-- whether it looks
abbrev pub looks : Watched → Bool
looks w = looks_by (lines_left w.unread) w.unread.ended

-- the answer
abbrev pub got_of : Watched → Got
got_of w = got_by (lines_left w.unread) w.unread.ended

module _ {F : Type 0} (files : FilesWords F) where
  -- a read from a place on, of up to so many bytes, put so many behind others
  pub record IsRead (path : List ℕ) (place room : ℕ) (before after : List ℕ) (old new : F) (count : ℕ) : Type 0 where
    pub bytes : List ℕ
    pub counted : length bytes ≡ count
    pub within : count ≤ room
    pub whole : after ≡ before ++ bytes
    pub seen : IsTrue files.tells → bytes ≡ take room (drop place (bytes_of (files.shows old (files.calls old) path)))
    pub call : IsOneCall files.tells files.shows files.calls old new

  -- a look at the file: one call of the files, which found these bytes
  pub record Found (w : Watched) (old new : F) (bytes : List ℕ) : Type 0 where
    pub seen : IsTrue files.tells → bytes ≡ bytes_next (files.shows old (files.calls old)) w
    pub within : length bytes ≤ room_at (taken w)
    pub call : IsOneCall files.tells files.shows files.calls old new

  -- what a poll at a moment found, and what the input holds behind it
  pub record WasPolled (moment : ℤ) (old new : F) (before after : Watched) : Type 0 where
    pub piece : Piece
    pub after_is : after ≡ polled piece moment before
    -- it looked at the file
    pub looked : looks before ≡ true → (bytes : List ℕ) × (piece ≡ piece_of before.ends bytes) × Found before old new bytes
    -- or not
    pub stood : looks before ≡ false → (piece ≡ Nothing) × (new ≡ old)
    -- it is a poll of the reading
    pub read : (polls : List Poll) (given : List Received) → HasRead polls given before → HasRead (polls ++ record { moment = moment; piece = piece } ∷ []) given after

-- ---- lines

-- where an event keeps the path of its file
abbrev pub file_path : Way
file_path = to false (codes "log" ∷ codes "file" ∷ codes "path" ∷ [])

-- the event of a line of the file of this path; what the event can't hold is not set
abbrev pub event_from : List ℕ → Codec → Received → Ev
event_from path codec r = set_at file_path (v.Text path) (event_by codec r)

-- an event was given: that of the first line held, at the moment of the poll that made the line whole
pub record GaveEvent (event : Ev) (before after : Watched) : Type 0 where
  pub line : List ℕ
  pub event_is : event ≡ event_from before.path before.codec (record { line = line; moment = before.moment })
  pub first : lines_left before.unread ≡ line ∷ lines_left after.unread
  -- the bytes in which it stands, with what ends it
  pub bytes : List ℕ
  pub whole : before.unread.bytes ≡ bytes ++ after.unread.bytes
  pub after_is : after ≡ record before { behind = before.behind + length bytes; unread = record before.unread { bytes = after.unread.bytes } }
  -- it is the next line of the reading
  pub read : (polls : List Poll) (given : List Received) → HasRead polls given before → HasRead polls (given ++ record { line = line; moment = before.moment } ∷ []) after

-- an event was given, or no whole line is held
abbrev pub Gave : Option Ev → Watched → Watched → Type 0
Gave (Some event) before after = GaveEvent event before after
Gave None before after = (lines_left before.unread ≡ []) × (after ≡ before)
