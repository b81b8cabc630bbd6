use Rattle.event_json.proofs.WrittenValues.{json_utf8, reads_on_ok}
use Rattle.event_json.proofs.json.write_json.Goals as goal

pub returns-else-is_err-clause-utf8 : goal.returns-else-is_err-clause-utf8
returns-else-is_err-clause-utf8 c u = json_utf8 c.add_value-written.result c.args.value.now c.args.to.now.items c.add_value-written.new.to.items c.add_value-written.ensures.sound c.add_value-written.ensures.ok u

pub returns-else-is_err-clause-reads_back : goal.returns-else-is_err-clause-reads_back
returns-else-is_err-clause-reads_back c = reads_on_ok c.add_value-written.result c.args.value.now c.add_value-written.ensures.sound
