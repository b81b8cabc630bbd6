-- Which calls of an object in memory fail, and which reads find nothing yet.
use Rattle.std.specs.Prelude.{ℕ, List, Bool, ◌&&◌, not, nat_eq, if◌then◌else◌}
use Rattle.std.specs.List.{list_any}
use Rattle.io_traits.specs.Counts.{HasCause, one_more}

-- the numbers of the calls that fail and of the reads that find nothing yet, and how many calls were made, failed, and found nothing
pub record Course : Type 0 where
  pub failing : List ℕ
  pub waiting : List ℕ
  pub made : ℕ
  pub faults : ℕ
  pub waits : ℕ

-- before the first call
abbrev pub beginning : List ℕ → List ℕ → Course
beginning failing waiting = record { failing = failing; waiting = waiting; made = 0; faults = 0; waits = 0 }

-- the next call is to fail
abbrev pub fails_next : Course → Bool
fails_next c = list_any (λ n. nat_eq n c.made) c.failing

-- the next read is to find nothing yet
abbrev pub waits_next : Course → Bool
waits_next c = list_any (λ n. nat_eq n c.made) c.waiting && not (fails_next c)

-- a call was made that didn't fail
abbrev pub worked : Course → Course
worked c = record c { made = one_more c.made }

-- a call was made that failed
abbrev pub failed : Course → Course
failed c = record c { made = one_more c.made; faults = one_more c.faults }

-- a read was made that found nothing yet
abbrev pub waited : Course → Course
waited c = record c { made = one_more c.made; waits = one_more c.waits }

-- what a call makes of its script, and what a read does
abbrev pub begun : Course → Course
begun c = if fails_next c then failed c else worked c

abbrev pub looked : Course → Course
looked c = if fails_next c then failed c else if waits_next c then waited c else worked c

-- the count of faults has this cause, or the count of reads that found nothing yet
abbrev pub CountsFault : Course → Course → Type 0 → Type 0
CountsFault old new fault = HasCause old.faults new.faults fault

abbrev pub CountsWait : Course → Course → Type 0 → Type 0
CountsWait old new wait = HasCause old.waits new.waits wait
