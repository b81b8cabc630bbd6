use Rattle.std.proofs.Common.{sym, ◌∙◌, rules}
use Rattle.queue_core.specs.Calls.{with_acknowledged}
use Rattle.queue_core.proofs.EachPlace.{all_changed, one_changed}
use Rattle.queue_core.proofs.marking.acknowledge_all.Goals as goal

pub loop-place-preserved : goal.loop-place-preserved
loop-place-preserved c = record {
  changed = one_changed (with_acknowledged c.args.numbers) c.loop-place.tails.items c.loop-place.place c.index_mut.result.now c.acknowledge.new.self (search rules) c.index_mut.ensures.value c.acknowledge.ensures ∙ c.loop-place.invariant.changed;
  long = search rules;
}

pub returns : goal.returns
returns c =
    sym (all_changed (with_acknowledged c.args.numbers) c.loop-place.tails.items c.loop-place.place (search rules)) ∙ c.loop-place.invariant.changed
