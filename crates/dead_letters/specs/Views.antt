-- A queue of dead letters that is open, as contracts see it.
use Rattle.std.specs.Prelude.{◌≡◌, ℕ, zero, suc, ◌+◌, ◌-◌, ◌&&◌, Bool, true, false, nat_lt, List, [], ◌∷◌, length, map, drop, get_or}
use Rattle.std.specs.List.{sum}
use Rattle.settings_lines.specs.declared.settings.Policy.{Policy}
use Rattle.settings_lines.specs.declared.settings.Policy.TheVariants.{Hold, DropNewer, DropOlder}
use Rattle.crc_frame.specs.Slots.{next_turn}
use Rattle.dead_letters.specs.Queues.{Role, segment, name_in, IsRole, pieces}
use Rattle.dead_letters.specs.Segments.{segments}
use Rattle.dead_letters.specs.Shedding.{shed}
use Rattle.dead_letters.specs.Appends.{kept_from}
use Rattle.dead_letters.specs.Letters.{size_of}
use Rattle.dead_letters.specs.declared.segments.Segments.{Segments}
use Rattle.dead_letters.specs.declared.letter.DeadLetter.{DeadLetter}
use Rattle.dead_letters.specs.declared.shedding.Shedding.{Shedding}

pub record DeadQueue : Type 0 where
  -- the folder, whose path ends with a slash
  pub folder : List ℕ
  -- how many bytes it may hold, and what it does where that is too little
  pub limit : ℕ
  pub policy : Policy
  -- the turn of the newest slot, the number of the oldest segment, and how many bytes each one has
  pub turn : ℕ
  pub first : ℕ
  pub sizes : List ℕ

-- the files of a folder that are those of a queue
abbrev pub IsOwn : List ℕ → List ℕ → Type 0
IsOwn folder name = (role : Role) × IsRole role × (name ≡ name_in folder role)

-- the names of so many segments, from a number on
abbrev pub names_from : List ℕ → ℕ → ℕ → List (List ℕ)
names_from folder n zero = []
names_from folder n (suc more) = name_in folder (segment n) ∷ names_from folder (suc n) more

-- the number of the last segment, and how many bytes it has
abbrev pub last_of : DeadQueue → ℕ
last_of q = q.first + (length q.sizes - 1)

abbrev pub held_last : List ℕ → ℕ
held_last sizes = get_or sizes (length sizes - 1) 0

-- what its newest slot says
abbrev pub named : DeadQueue → Segments
named q = segments q.first (last_of q) (held_last q.sizes)

-- ---- an append, by the bytes of segments and records

abbrev pub sheds : DeadQueue → List DeadLetter → Shedding
sheds q letters = shed q.policy q.limit q.sizes (map size_of letters)

-- it holds all that it has, and that and the new letters exceed its limit
abbrev pub holds_all : Policy → Bool
holds_all Hold = true
holds_all DropNewer = false
holds_all DropOlder = false

abbrev pub is_full : DeadQueue → List DeadLetter → Bool
is_full q letters = holds_all q.policy && nat_lt q.limit (sum q.sizes + sum (map size_of letters))

-- the letters that join, and how many bytes of their records each segment takes
abbrev pub joining : DeadQueue → List DeadLetter → List DeadLetter
joining q letters = kept_from (sheds q letters).newer 0 letters

abbrev pub taken_by : DeadQueue → List DeadLetter → List ℕ
taken_by q letters = pieces q.limit (last_of q) (held_last q.sizes) 0 (map size_of letters)

-- segments, the last of which takes the first piece, and those that come behind it
abbrev pub sizes_with : List ℕ → List ℕ → List ℕ
sizes_with [] ps = ps
sizes_with (s ∷ []) [] = s ∷ []
sizes_with (s ∷ []) (p ∷ ps) = (s + p) ∷ ps
sizes_with (s ∷ t ∷ rest) ps = s ∷ sizes_with (t ∷ rest) ps

-- the queue that is open behind an append
abbrev pub behind_append : DeadQueue → List DeadLetter → DeadQueue
behind_append q letters = record {
  folder = q.folder;
  limit = q.limit;
  policy = q.policy;
  turn = next_turn q.turn;
  first = q.first + (sheds q letters).older;
  sizes = sizes_with (drop (sheds q letters).older q.sizes) (taken_by q (joining q letters));
}
