use Rattle.std.proofs.Common.{◌≡◌, ◌∙◌, ◌-◌, not, Some, ap, drop, take, arith}
use Rattle.config_lex.specs.Bytes.{passing, is_in_word}
use Rattle.config_lex.specs.Lexemes.{word_token}
use Rattle.config_lex.proofs.lexer.word_at.Goals as goal

pub returns-clause-gives : goal.returns-clause-gives
returns-clause-gives c =
    let s = drop c.args.at c.args.text.now in
    let len = c.word_end.result - c.args.at in
    let n : len ≡ passing (is_in_word (not c.args.inside)) s =
    omega (arith, c.word_end.ensures.end, ap (λ z. passing (is_in_word (not c.args.inside)) (drop c.args.at z)) c.as_bytes.ensures.value) in
    ap (λ y. Some (y, len)) (c.word_token.ensures ∙ ap word_token c.in_ok-word.ensures) ∙ ap (λ k. Some (word_token (take k s), k)) n
