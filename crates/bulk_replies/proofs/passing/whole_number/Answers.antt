use Rattle.std.proofs.Common.{option_map, sym, ap, ◌∙◌}
use Rattle.serde_json.specs.Find.{as_u64}
use Rattle.serde_json.specs.Read.{number_of}
use Rattle.bulk_replies.proofs.passing.whole_number.Goals as goal

pub returns-in-Some : goal.returns-in-Some
returns-in-Some c = sym (ap (option_map as_u64) (ap number_of (sym c.as_bytes.ensures.value) ∙ c.in-Some.ensures))
