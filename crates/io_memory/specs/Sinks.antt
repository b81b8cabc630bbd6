-- What a sink in memory holds, and what its calls do.
use Rattle.std.specs.Prelude.{ℕ, List, [], ◌++◌, Result, Ok, Err, take}
use Rattle.io_traits.specs.declared.faults.Failed.{Failed}
use Rattle.io_memory.specs.Scripts.{Course, worked, failed}

-- the bytes that are flushed, those that it took since, how many it takes at most by a write, and its script
pub record Writing : Type 0 where
  pub flushed : List ℕ
  pub held : List ℕ
  pub most : ℕ
  pub script : Course

-- all bytes that it took
abbrev pub taken_by : Writing → List ℕ
taken_by w = w.flushed ++ w.held

-- what a sink holds after a write of these bytes, by the answer of that write
abbrev pub after_write : Writing → List ℕ → Result ℕ Failed → Writing
after_write w bytes (Ok n) = record w { held = w.held ++ take n bytes; script = worked w.script }
after_write w bytes (Err e) = record w { script = failed w.script }

-- what it holds after a flush
abbrev pub after_flush : Writing → Result (Unit {0}) Failed → Writing
after_flush w (Ok u) = record w { flushed = w.flushed ++ w.held; held = []; script = worked w.script }
after_flush w (Err e) = record w { script = failed w.script }
