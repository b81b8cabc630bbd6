use Rattle.event_json.specs.Json.{quoted}
use Rattle.std.proofs.Common.{◌++◌}
use Rattle.event_json.proofs.Runs.{all_written_ok, one_written_on}
use Rattle.event_tree.proofs.Adding.{keeps_on}
use Rattle.event_json.proofs.json.add_quoted.Goals as goal

pub returns-then-count-rest-clause-ok : goal.returns-then-count-rest-clause-ok
returns-then-count-rest-clause-ok c = all_written_ok c.add-then-count-rest.result c.loop-to.rest.now (c.args.to.now.items ++ quoted c.args.text.now) c.run_length-count.result c.loop-to.to.items c.add-in-loop-to.new.to.items c.add-then-count-rest.new.to.items c.run_length-count.ensures.run c.run_length-count.ensures.after c.if-count-rest.true c.in_ok-add-2.ensures.ok c.add-then-count-rest.ensures.ok c.loop-to.invariant.rest

pub loop-to-preserved : goal.loop-to-preserved
loop-to-preserved c = record {
  rest = one_written_on c.loop-to.rest.now (c.args.to.now.items ++ quoted c.args.text.now) c.run_length-count.result c.loop-to.to.items c.add-in-loop-to.new.to.items c.add_escaped.new.to.items c.run_length-count.ensures.run c.run_length-count.ensures.after c.run_length-count.ensures.within c.if-count-rest.false c.in_ok-add-2.ensures.ok c.in_ok-add_escaped.ensures.ok c.loop-to.invariant.rest;
  keeps = keeps_on c.args.to.now.items c.loop-to.to.items c.add_escaped.new.to.items c.loop-to.invariant.keeps (keeps_on c.loop-to.to.items c.add-in-loop-to.new.to.items c.add_escaped.new.to.items (_, c.in_ok-add-2.ensures.ok) (_, c.in_ok-add_escaped.ensures.ok));
}
