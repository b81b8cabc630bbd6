use Rattle.std.proofs.Common.{◌≡◌, ◌∷◌, ◌+◌, ap, ◌∙◌, sym, arith, drop, rules}
use Rattle.std.specs.List.{prefix_len}
use Rattle.std.proofs.lemmas.Str.{IsCharBoundary-after_ascii}
use Rattle.json.specs.Run.{is_plain}
use Rattle.json.specs.Token.{string}
use Rattle.json.specs.Lex.{token, between, lex}
use Rattle.bulk_replies.proofs.Lexemes.{string_there}
use Rattle.bulk_replies.proofs.compact.string.Goals as goal

pub range-requires-clause-start_boundary : goal.range-requires-clause-start_boundary
range-requires-clause-start_boundary c some = IsCharBoundary-after_ascii c.args.text.now c.args.at c.utf8.text c.requires.within (omega arith)

pub returns : goal.returns
returns c =
    let d = c.args.text.now in
    let at = c.args.at in
    let stop = c.plain_end-stop.result in
    let is : stop ≡ at + 1 + prefix_len is_plain (drop (at + 1) d) = search rules in
    record {
      within = omega arith;
      gives = string_there d at stop c.requires.within c.requires.quote is (omega arith) (grind arith) ∙ ap (λ s. token (string s) ∷ lex between (drop (stop + 1) d)) (sym c.range.ensures.value);
    }
