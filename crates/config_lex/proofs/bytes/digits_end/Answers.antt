use Rattle.std.proofs.Common.{◌-◌, drop, get_or, arith}
use Rattle.config_lex.proofs.Scans.{digit_ascii, digits_some}
use Rattle.config_lex.proofs.bytes.digits_end.Goals as goal

pub returns-clause-some : goal.returns-clause-some
returns-clause-some c = λ h. omega (arith, digits_some (drop c.args.from c.args.bytes.now) h, c.run_end.ensures.end)

pub returns-clause-last : goal.returns-clause-last
returns-clause-last c = λ h. digit_ascii (get_or c.args.bytes.now (c.run_end.result - 1) 0) (c.run_end.ensures.last h)
