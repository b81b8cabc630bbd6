use Rattle.std.proofs.Common.{sym, ◌∙◌, rules}
use Rattle.queue_core.specs.Calls.{with_marked}
use Rattle.queue_core.proofs.EachPlace.{all_changed, one_changed}
use Rattle.queue_core.proofs.marking.mark_all.Goals as goal

pub loop-place-preserved : goal.loop-place-preserved
loop-place-preserved c = record {
  changed = one_changed with_marked c.loop-place.tails.items c.loop-place.place c.index_mut.result.now c.mark.new.self (search rules) c.index_mut.ensures.value c.mark.ensures ∙ c.loop-place.invariant.changed;
  long = search rules;
}

pub returns : goal.returns
returns c =
    sym (all_changed with_marked c.loop-place.tails.items c.loop-place.place (search rules)) ∙ c.loop-place.invariant.changed
