use Rattle.std.proofs.Common.{◌≡◌, length}
use Rattle.std.specs.Vec.Iter.{into_iter_len}
use Rattle.filter_settings.specs.Trying.{all_tried}
use Rattle.filters_text.specs.Json.{place_one}
use Rattle.filters_text.proofs.json_filter.place_all.Given as goal

abbrev pub invariant-loop-key : goal.invariant-loop-key
invariant-loop-key l = record {
  rest : all_tried place_one l.key-iterator.rest.items l.event ≡ all_tried place_one l.fn.members l.fn.event;
  counted : into_iter_len l.key-iterator ≡ length l.key-iterator.rest.items;
}
