use Rattle.std.proofs.Common.{◌≡◌, length}
use Rattle.std.specs.Vec.Iter.{into_iter_len}
use Rattle.filter_settings.specs.Trying.{all_tried}
use Rattle.filters_grok.specs.Searching.{put_in}
use Rattle.filters_grok.proofs.searching.put_all.Given as goal

abbrev pub invariant-loop-put : goal.invariant-loop-put
invariant-loop-put l = record {
  so_far : all_tried (put_in l.patterns) l.put-iterator.rest.items l.event ≡ all_tried (put_in l.patterns) l.fn.puts l.fn.event;
  counted : into_iter_len l.put-iterator ≡ length l.put-iterator.rest.items;
}
