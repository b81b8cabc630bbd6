use Rattle.std.proofs.Common.{◌≡◌, length}
use Rattle.std.specs.Vec.Iter.{into_iter_len}
use Rattle.event_text.specs.Options.{each_done}
use Rattle.in_lines.specs.Decoding.{with_member}
use Rattle.in_lines.proofs.decoding.put_members.Given as goal

abbrev pub invariant-loop-key : goal.invariant-loop-key
invariant-loop-key l = record {
  rest : each_done with_member l.key-iterator.rest.items l.event ≡ each_done with_member l.fn.members l.fn.event;
  counted : into_iter_len l.key-iterator ≡ length l.key-iterator.rest.items;
}
