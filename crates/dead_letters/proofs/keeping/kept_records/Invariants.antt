use Rattle.std.proofs.Common.{◌≡◌, ◌++◌, drop, map}
use Rattle.dead_letters.specs.Letters.{record_bytes, size_of}
use Rattle.dead_letters.specs.Queues.{joined}
use Rattle.dead_letters.specs.Appends.{kept_from}
use Rattle.dead_letters.proofs.keeping.kept_records.Given as goal

abbrev pub invariant-loop-place : goal.invariant-loop-place
invariant-loop-place l = record {
  bytes : l.bytes.items ++ joined (map record_bytes (kept_from (drop l.next l.newer) l.place (drop l.place l.letters))) ≡ joined (map record_bytes (kept_from l.newer 0 l.letters));
  sizes : l.sizes ++ map size_of (kept_from (drop l.next l.newer) l.place (drop l.place l.letters)) ≡ map size_of (kept_from l.newer 0 l.letters);
}
