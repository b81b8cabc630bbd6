use Rattle.event_text.proofs.ValueLemmas.{got_sound}
use Rattle.event_text.proofs.value_laws.what_is_got_is_sound.Goals as goal

pub returns : goal.returns
returns c way event value = got_sound way.meta way.parts event value
