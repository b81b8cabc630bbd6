use Rattle.std.proofs.Common.{string_bytes}
use Rattle.event_json.proofs.Contents.{run_passes, run_leaves}
use Rattle.event_json.proofs.string.add_run.Goals as goal

pub returns-clause-goes : goal.returns-clause-goes
returns-clause-goes c = run_passes c.as_bytes.result.now c.args.text.now c.range.result.now c.range_from.result.now c.run_length-count.result c.args.waits (string_bytes c.args.to.now) (string_bytes c.add_lone.new.to) (string_bytes c.push_str.new.self) c.as_bytes.ensures.value c.run_length-count.ensures.run c.run_length-count.ensures.after c.run_length-count.ensures.within c.if-count-eq0.false c.range.ensures.value c.range_from.ensures.value c.in_ok-add_lone.ensures c.in_ok-push_str.ensures.bytes

pub returns-clause-special : goal.returns-clause-special
returns-clause-special c = run_leaves c.as_bytes.result.now c.args.text.now c.range_from.result.now c.run_length-count.result c.as_bytes.ensures.value c.run_length-count.ensures.after c.range_from.ensures.value
