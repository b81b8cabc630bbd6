use Rattle.std.proofs.Common.{◌≡◌, ◌++◌, take, drop}
use Rattle.event_json.specs.Stops.{plain_run, after_plain_run}
use Rattle.event_json.proofs.string.run_length.Given as goal

abbrev pub invariant-loop-byte : goal.invariant-loop-byte
invariant-loop-byte l = record {
  same : l.count ≡ l.byte-index;
  front : plain_run l.bytes ≡ take l.byte-index l.bytes ++ plain_run (drop l.byte-index l.bytes);
  behind : after_plain_run l.bytes ≡ after_plain_run (drop l.byte-index l.bytes);
}
