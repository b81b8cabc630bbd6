-- The counts of the objects of the real machine.
use Rattle.std.specs.Prelude.{ℕ, Bool, ◌||◌, Result, Ok, Err, is_err}
use Rattle.io_traits.specs.declared.faults.Failed.{Failed}
use Rattle.io_traits.specs.declared.faults.ListFault.{ListFault}
use Rattle.io_traits.specs.declared.faults.ListFault.TheVariants.{Failed as ListFailed, Memory}
use Rattle.io_traits.specs.declared.sources.Step.{Step}
use Rattle.io_traits.specs.declared.sources.Step.TheVariants.{Bytes, NotYet}
use Rattle.io_traits.specs.declared.sources.Step.TheVariants.{End as AtEnd}
use Rattle.io_traits.specs.Counts.{one_more}

-- how often a source failed, and how often it found nothing yet
pub record ReadCounts : Type 0 where
  pub faults : ℕ
  pub waits : ℕ

-- a source over a reader, and its counts
pub record Reading (R : Type 0) : Type 0 where
  pub input : R
  pub counts : ReadCounts

-- a sink over a writer, and how often it failed
pub record Writing (W : Type 0) : Type 0 where
  pub output : W
  pub faults : ℕ

abbrev pub no_counts : ReadCounts
no_counts = record { faults = 0; waits = 0 }

-- the counts after a read: one more fault at an error, and one more wait where nothing came yet
abbrev pub counts_after : ReadCounts → Result Step Failed → ReadCounts
counts_after c (Ok (Bytes n)) = c
counts_after c (Ok NotYet) = record c { waits = one_more c.waits }
counts_after c (Ok AtEnd) = c
counts_after c (Err e) = record c { faults = one_more c.faults }

-- a count of faults after a call: one more at an error
abbrev pub faults_after : {T : Type 0} → ℕ → Result T Failed → ℕ
faults_after n (Ok x) = n
faults_after n (Err e) = one_more n

-- and after a list
abbrev pub faults_listed : {T : Type 0} → ℕ → Result T ListFault → ℕ
faults_listed n (Ok x) = n
faults_listed n (Err ListFailed) = one_more n
faults_listed n (Err Memory) = n

-- how often a store failed, and whether a sync of it failed, after which no sync is known to settle anything
pub record StoreCounts : Type 0 where
  pub faults : ℕ
  pub is_lost : Bool

-- after a call, after a list, and after a sync
abbrev pub store_called : {T : Type 0} → StoreCounts → Result T Failed → StoreCounts
store_called c result = record c { faults = faults_after c.faults result }

abbrev pub store_listed : {T : Type 0} → StoreCounts → Result T ListFault → StoreCounts
store_listed c result = record c { faults = faults_listed c.faults result }

abbrev pub store_synced : StoreCounts → Result (Unit {0}) Failed → StoreCounts
store_synced c result = record { faults = faults_after c.faults result; is_lost = c.is_lost || is_err result }

-- how often files were called, and how often a call failed
pub record CallCounts : Type 0 where
  pub calls : ℕ
  pub faults : ℕ

-- the counts after a call, and after a list
abbrev pub called : {T : Type 0} → CallCounts → Result T Failed → CallCounts
called c result = record { calls = one_more c.calls; faults = faults_after c.faults result }

abbrev pub called_list : {T : Type 0} → CallCounts → Result T ListFault → CallCounts
called_list c result = record { calls = one_more c.calls; faults = faults_listed c.faults result }
