-- Which letters a queue gives up where it has no room for all: by the bytes of its segments, oldest first, and of the new records, in order.
use Rattle.std.specs.Prelude.{◌≢◌, ◌≤◌, ◌<◌, ◌⊎◌, Bool, ℕ, suc, ◌+◌, nat_le, List, [], ◌∷◌, length, drop, if◌then◌else◌}
use Rattle.std.specs.List.{sum}
use Rattle.settings_lines.specs.declared.settings.Policy.{Policy}
use Rattle.settings_lines.specs.declared.settings.Policy.TheVariants.{Hold, DropNewer, DropOlder}
use Rattle.dead_letters.specs.declared.shedding.Shedding.{Shedding}

abbrev pub shedding : ℕ → List ℕ → Shedding
shedding older newer = record { older = older; newer = newer }

-- How many of the oldest segments leave, so that what is left and what is added is within a limit: the least number that serves; the last segment stays.
unfoldable pub fewest : ℕ → ℕ → List ℕ → ℕ
fewest limit added [] = 0
fewest limit added (s ∷ []) = 0
fewest limit added (s ∷ t ∷ rest) = if nat_le (sum (s ∷ t ∷ rest) + added) limit then 0 else suc (fewest limit added (t ∷ rest))

-- under one policy alone
abbrev pub older : Policy → ℕ → ℕ → List ℕ → ℕ
older DropOlder limit added segments = fewest limit added segments
older DropNewer limit added segments = 0
older Hold limit added segments = 0

-- The places of the records that don't fit, the first of which has this place: in order a record is kept if what is used, with those kept before it, and itself are within the limit.
abbrev pub not_kept : ℕ → ℕ → ℕ → List ℕ → List ℕ
not_kept limit used place [] = []
not_kept limit used place (r ∷ rest) = if nat_le (used + r) limit then not_kept limit (used + r) (suc place) rest else place ∷ not_kept limit used (suc place) rest

-- all that there is, and all that is added, is within the limit
abbrev pub fits_all : ℕ → List ℕ → List ℕ → Bool
fits_all limit segments records = nat_le (sum segments + sum records) limit

unfoldable pub shed : Policy → ℕ → List ℕ → List ℕ → Shedding
shed policy limit segments records =
    if fits_all limit segments records then shedding 0 []
    else (let k = older policy limit (sum records) segments in shedding k (not_kept limit (sum (drop k segments)) 0 records))

-- ---- laws

-- So many of the oldest segments leave where not all is within the limit: with as many gone it is, or one segment is left; and with fewer gone it isn't.
pub record IsFewest (limit added : ℕ) (segments : List ℕ) (k : ℕ) : Type 0 where
  pub one_stays : segments ≢ [] → k < length segments
  pub enough : (sum (drop k segments) + added ≤ limit) ⊎ (length segments ≤ k + 1)
  pub no_fewer : (j : ℕ) → j < k → limit < sum (drop j segments) + added

abbrev pub FewestSegmentsLeave : Type 0
FewestSegmentsLeave = (limit added : ℕ) (segments : List ℕ) → IsFewest limit added segments (fewest limit added segments)
