use Rattle.std.proofs.Common.{◌≡◌, ◌+◌, ◌-◌, ◌<◌, length, subst, arith}
use Rattle.std.specs.Str.{IsCharBoundary}
use Rattle.std.proofs.lemmas.Str.{IsCharBoundary-after_ascii}
use Rattle.config_lex.proofs.lexer.cut_between.Goals as goal

pub range-requires-clause-start_boundary : goal.range-requires-clause-start_boundary
range-requires-clause-start_boundary c =
    let text = c.args.text.now in
    let front = c.args.from - 1 in
    let e : front + 1 ≡ c.args.from = omega (arith, c.requires.some) in
    let l : front < length text = omega (arith, e, c.requires.within) in
    λ _. subst (λ i. IsCharBoundary text i) e (IsCharBoundary-after_ascii text front c.utf8.text l c.requires.front)
