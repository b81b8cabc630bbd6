use Rattle.std.proofs.Common.{◌≡◌, [], length}
use Rattle.std.specs.Vec.Iter.{into_iter_len}
use Rattle.event_json.specs.Gathered.{put_all}
use Rattle.event_json.proofs.read.gathered.Given as goal

abbrev pub invariant-loop-key : goal.invariant-loop-key
invariant-loop-key l = record {
  rest : put_all l.found l.key-iterator.rest.items ≡ put_all [] l.initial.key-iterator.rest.items;
  counted : into_iter_len l.key-iterator ≡ length l.key-iterator.rest.items;
}
