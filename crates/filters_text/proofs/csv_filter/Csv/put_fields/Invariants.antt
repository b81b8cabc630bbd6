use Rattle.std.proofs.Common.{◌≡◌, ◌+◌, length}
use Rattle.std.specs.Vec.Iter.{into_iter_len}
use Rattle.filters_text.specs.Csv.{put_fields}
use Rattle.filters_text.proofs.csv_filter.Csv.put_fields.Given as goal

abbrev pub invariant-loop-text : goal.invariant-loop-text
invariant-loop-text l = record {
  rest : put_fields l.fn.self l.index l.text-iterator.rest.items l.event ≡ put_fields l.fn.self 0 l.fn.row l.fn.event;
  counted : into_iter_len l.text-iterator ≡ length l.text-iterator.rest.items;
  index : l.index + length l.text-iterator.rest.items ≡ length l.fn.row;
}
