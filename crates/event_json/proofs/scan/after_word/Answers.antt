use Rattle.event_json.proofs.Added.{word_ends}
use Rattle.event_json.proofs.scan.after_word.Goals as goal

pub returns-in_default : goal.returns-in_default
returns-in_default c = rw c.stopped.ensures (word_ends c.args.word.now c.loop-letter.rest.now c.args.bytes.now c.loop-letter.letter-index c.loop-letter-test.true c.in_default.ensures.cases c.loop-letter.invariant)
