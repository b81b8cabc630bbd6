use Rattle.config_parse.proofs.Reading.{reads_made}
use Rattle.config_parse.proofs.laws.reading_is_right.Goals as goal

pub returns : goal.returns
returns c = λ levels ts. reads_made levels ts
