use Rattle.logstash_top.proofs.Starting.{starts_read, starts_not_read}
use Rattle.logstash_top.proofs.start.begin.Goals as goal

pub returns-in-Ok-clause-starts : goal.returns-in-Ok-clause-starts
returns-in-Ok-clause-starts g c =
    let p = c.parse.ensures in
    starts_read _ c.args.command c.as_str.result.now c.parse.result c.as_str.ensures (record { found = p.found; only = p.only; long = p.long; syntax = p.syntax; only_syntax = p.only_syntax; deep = p.deep; only_deep = p.only_deep })
    c.in-Ok.config c.check_config.result c.in-Ok.is c.check_config.ensures.checked

pub returns-in-Err-clause-starts : goal.returns-in-Err-clause-starts
returns-in-Err-clause-starts g c =
    let p = c.parse.ensures in
    starts_not_read _ c.args.command c.as_str.result.now c.parse.result c.as_str.ensures (record { found = p.found; only = p.only; long = p.long; syntax = p.syntax; only_syntax = p.only_syntax; deep = p.deep; only_deep = p.only_deep })
    c.in-Err.fault c.refused_text.result c.in-Err.is c.refused_text.ensures
