use Rattle.config_parse.specs.Symbols as symbol
use Rattle.config_parse.specs.Seen.{tokens_of}
use Rattle.config_parse.proofs.Reading.{read_short}
use Rattle.config_parse.proofs.Turns.{fewer}
use Rattle.config_parse.proofs.statements.sections.Goals as goal

pub loop-token-smaller-in-Input-1 : goal.loop-token-smaller-in-Input-1
loop-token-smaller-in-Input-1 c = fewer (read_short c.args.depth symbol.PluginsBlock (tokens_of c.in-Some.behind.now)) c.in-Some.ensures c.in_ok-more-in-Word-Section-Input.ensures

pub loop-token-smaller-in-Filter-1 : goal.loop-token-smaller-in-Filter-1
loop-token-smaller-in-Filter-1 c = fewer (read_short c.args.depth symbol.Block (tokens_of c.in-Some.behind.now)) c.in-Some.ensures c.in_ok-more-in-Word-Section-Filter.ensures

pub loop-token-smaller : goal.loop-token-smaller
loop-token-smaller c = fewer (read_short c.args.depth symbol.Block (tokens_of c.in-Some.behind.now)) c.in-Some.ensures c.in_ok-more-in-Word-Section-Output.ensures
