use Rattle.std.proofs.Common.{sym, ap, ◌∙◌}
use Rattle.event_json.specs.Reading.{after_word}
use Rattle.event_json.proofs.Rests.{word_rest}
use Rattle.event_json.proofs.read.word.Goals as goal

pub rest_of-requires : goal.rest_of-requires
rest_of-requires c = word_rest c.args.word.now c.args.text.now c.in_ok-rest.rest.now c.requires (ap (after_word c.args.word.now) (sym c.as_bytes.ensures.value) ∙ c.in_ok-rest.ensures)
