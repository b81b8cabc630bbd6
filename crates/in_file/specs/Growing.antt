-- What was read of a file that only grows.
use Rattle.std.specs.Prelude.{◌≡◌, ℕ, ℤ, List, [], ◌∷◌, ◌++◌, length, take, drop, false}
use Rattle.io_traits.specs.Folders.{Content}
use Rattle.io_traits.specs.Reads.{bytes_of}
use Rattle.in_lines.specs.Polls.{Poll, joined, is_ended, Received}
use Rattle.in_file.specs.Looks.{HasRead, bytes_next, piece_of}
use Rattle.in_file.specs.Views.{Watched}

-- the bytes that polls found stand in a file, from where the reading began
abbrev pub StandsIn : List ℕ → ℕ → List Poll → Type 0
StandsIn file began polls = take (length (joined polls)) (drop began file) ≡ joined polls

-- with one more look at the file
abbrev pub LookStands : Type 0
LookStands =
    (content : Content) (w : Watched) (polls : List Poll) (given : List Received) (moment : ℤ) → HasRead polls given w → is_ended polls ≡ false → StandsIn (bytes_of (content w.path)) w.began polls
    → StandsIn (bytes_of (content w.path)) w.began (polls ++ record { moment = moment; piece = piece_of w.ends (bytes_next content w) } ∷ [])

-- and when the file has grown
abbrev pub GrowthStands : Type 0
GrowthStands = (file more : List ℕ) (began : ℕ) (polls : List Poll) → StandsIn file began polls → StandsIn (file ++ more) began polls
