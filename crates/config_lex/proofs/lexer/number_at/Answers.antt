use Rattle.std.proofs.Common.{◌≡◌, ◌-◌, ◌∙◌, ap, sym, subst, drop, take, arith}
use Rattle.config_lex.specs.Bytes.{number_length}
use Rattle.config_lex.specs.Laws.{IsNumberText}
use Rattle.config_lex.proofs.NumberFronts.{front_is_number}
use Rattle.config_lex.proofs.lexer.number_at.Goals as goal

pub number_of-requires : goal.number_of-requires
number_of-requires c =
    let s = drop c.args.at c.args.text.now in
    let n : c.number_end.result - c.args.at ≡ number_length s =
    omega (arith, c.number_end.ensures.end, ap (λ z. number_length (drop c.args.at z)) c.as_bytes.ensures.value) in
    let is : c.as_bytes-2.result.now ≡ take (number_length s) s =
    c.as_bytes-2.ensures.value ∙ c.as_str.ensures ∙ c.in_ok-spelling.ensures ∙ ap (λ k. take k s) n in
    subst IsNumberText (sym is) (front_is_number s c.requires.number)
