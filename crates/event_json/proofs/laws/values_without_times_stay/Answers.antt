use Rattle.event_json.proofs.Timeless as timeless
use Rattle.event_json.proofs.laws.values_without_times_stay.Goals as goal

pub returns : goal.returns
returns c = timeless.values_without_times_stay
