use Rattle.event_text.proofs.EventGets.{put_got}
use Rattle.event_text.proofs.path_laws.what_is_put_is_got.Goals as goal

pub returns : goal.returns
returns c way value old new h = put_got way.meta way.parts value old new h
