use Rattle.logstash_top.proofs.Asking.{asked_without}
use Rattle.logstash_top.proofs.start.command_of_words.Goals as goal

pub returns-in-Err : goal.returns-in-Err
returns-in-Err g c = asked_without g.P.Files _ _ _ c.in_ok-settings.settings c.in-Err.fault c.without_text.result c.in_ok-settings.ensures c.in-Err.ensures (c.without_text.ensures c.in_ok-settings.settings)
