use Rattle.std.proofs.Common.{◌-◌, get_or, arith}
use Rattle.config_lex.proofs.Scans.{word_ascii, word_some}
use Rattle.config_lex.proofs.bytes.word_end.Goals as goal

pub returns-clause-some : goal.returns-clause-some
returns-clause-some c = λ l h. omega (arith, word_some c.args.dashes c.args.bytes.now c.args.from l h, c.run_end.ensures.end)

pub returns-clause-last : goal.returns-clause-last
returns-clause-last c = λ h. word_ascii c.args.dashes (get_or c.args.bytes.now (c.run_end.result - 1) 0) (c.run_end.ensures.last h)
