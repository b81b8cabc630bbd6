use Rattle.std.proofs.Common.{sym, ◌∙◌, ap, rules, Bool}
use Rattle.queue_core.specs.Calls.{mark_of}
use Rattle.queue_core.proofs.EachPlace.{all_marked, one_marked}
use Rattle.queue_core.proofs.marking.set_tails.Goals as goal

pub loop-place-preserved : goal.loop-place-preserved
loop-place-preserved c = record {
  changed = one_marked c.args.tails.now c.loop-place.marks.items c.loop-place.place c.index-tails-place.result c.index_mut.result.now c.set_mark.new.mark (search rules) (search rules) c.index-tails-place.is c.index_mut.ensures.value
      (c.set_mark.ensures ∙ ap (λ (b : Bool). mark_of c.index-tails-place.result b c.index_mut.result.now) c.is_due.ensures) ∙ c.loop-place.invariant.changed;
  long = search rules;
}

pub returns : goal.returns
returns c = sym (all_marked c.args.tails.now c.loop-place.marks.items c.loop-place.place (search rules)) ∙ c.loop-place.invariant.changed
