use Rattle.std.proofs.Common.{◌≡◌, ◌<◌, ◌≤◌, length, ap, sym, ◌∙◌, arith}
use Rattle.config_lex.specs.Lexemes.{place_in}
use Rattle.config_parse.proofs.Placing.{no_place, past_all, place_at}
use Rattle.config_parse.proofs.text.place.Goals as goal

pub returns-then-left-eq0 : goal.returns-then-left-eq0
returns-then-left-eq0 c = let z : c.args.left ≡ 0 = omega (arith, c.if-left-eq0.true) in sym (ap (place_in c.args.end c.args.found.now) z ∙ no_place c.args.end c.args.found.now)

pub returns-then-left-found : goal.returns-then-left-found
returns-then-left-found c = let h : length c.args.found.now < c.args.left = omega (arith, c.if-left-found.true) in sym (past_all c.args.end c.args.found.now c.args.left h)

pub returns : goal.returns
returns c =
    let s : 0 < c.args.left = omega (arith, c.if-left-eq0.false) in
    let h : c.args.left ≤ length c.args.found.now = omega (arith, c.if-left-found.false) in sym (place_at c.args.end c.args.found.now c.args.left c.index-found-found.result s h)
