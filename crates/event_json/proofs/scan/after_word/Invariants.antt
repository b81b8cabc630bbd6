use Rattle.std.proofs.Common.{◌≡◌, drop}
use Rattle.event_json.specs.Reading.{after_word}
use Rattle.event_json.proofs.scan.after_word.Given as goal

abbrev pub invariant-loop-letter : goal.invariant-loop-letter
invariant-loop-letter l = after_word (drop l.letter-index l.word) l.rest ≡ after_word l.word l.bytes
