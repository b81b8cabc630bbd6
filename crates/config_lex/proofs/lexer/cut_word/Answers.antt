use Rattle.std.proofs.Common.{◌≡◌, ◌+◌, ◌-◌, ◌<◌, length, subst, arith}
use Rattle.std.specs.Str.{IsCharBoundary}
use Rattle.std.proofs.lemmas.Str.{IsCharBoundary-after_ascii}
use Rattle.config_lex.proofs.lexer.cut_word.Goals as goal

pub range-requires-clause-end_boundary : goal.range-requires-clause-end_boundary
range-requires-clause-end_boundary c =
    let text = c.args.text.now in
    let last = c.args.from + c.args.len - 1 in
    let e : last + 1 ≡ c.args.from + c.args.len = omega (arith, c.requires.some) in
    let l : last < length text = omega (arith, e, c.requires.within) in
    subst (λ i. IsCharBoundary text i) e (IsCharBoundary-after_ascii text last c.utf8.text l c.requires.last)
