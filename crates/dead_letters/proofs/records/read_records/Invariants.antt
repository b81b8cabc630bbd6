use Rattle.std.proofs.Common.{◌≡◌, ◌≤◌, ◌-◌, length}
use Rattle.dead_letters.specs.Records.{records_from, records_in}
use Rattle.dead_letters.proofs.RecordReads.{with_front}
use Rattle.dead_letters.proofs.records.read_records.Given as goal

abbrev pub invariant-loop : goal.invariant-loop
invariant-loop l = record {
  read : with_front l.letters (records_from (length l.bytes - l.counter) (length l.bytes) l.rest) ≡ records_in l.bytes;
  short : length l.rest ≤ length l.bytes;
}
