use Rattle.std.proofs.Common.{◌∙◌, sym, drop}
use Rattle.config_lex.proofs.Scans.{unsigned}
use Rattle.config_lex.proofs.bytes.whole_end.Goals as goal

pub returns-else-begins_with-clause-last : goal.returns-else-begins_with-clause-last
returns-else-begins_with-clause-last c = λ h.
    let z = sym (unsigned (drop c.args.at c.args.bytes.now) (sym c.begins_with.ensures ∙ c.if-begins_with.false)) ∙ h in
    let s = c.digits_end-else-begins_with.ensures.some z in (s, c.digits_end-else-begins_with.ensures.last s)
