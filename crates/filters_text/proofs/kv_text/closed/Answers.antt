use Rattle.std.proofs.Common.{◌≡◌, ◌++◌, ◌∷◌, [], sym, ap, ◌∙◌, ◌≤◌, length, arith, rules}
use Rattle.std.specs.Str.{chars, IsUtf8}
use Rattle.filters_text.specs.Pairs.{are_missing}
use Rattle.filters_text.proofs.CutChars.{no_cut, parts_found, parts_none}
use Rattle.filters_text.proofs.Missing.{known_missing, missing_more}
use Rattle.filters_text.proofs.kv_text.closed.Goals as goal

pub returns-then-contains-clause-found : goal.returns-then-contains-clause-found
returns-then-contains-clause-found c =
    let text = chars c.args.text.now in
    sym (no_cut c.args.closing text (known_missing c.args.unclosed.now.items c.args.closing text (search rules) c.requires))

pub returns-in-Some-clause-found : goal.returns-in-Some-clause-found
returns-in-Some-clause-found c =
    let text = c.args.text.now in
    let cut = c.in-Some.ensures.cases in
    let front : IsUtf8 c.in-Some.parts.0.now = search rules in
    let within : cut.0 ≤ length text = omega (arith, cut.5, cut.7) in
    sym (parts_found c.args.closing text c.utf8.text cut.0 cut.1 c.in-Some.parts.0.now c.in-Some.parts.1.now cut.3 cut.4 within front cut.2)

pub returns-in_ok-push-in-None-clause-found : goal.returns-in_ok-push-in-None-clause-found
returns-in_ok-push-in-None-clause-found c =
    sym (no_cut c.args.closing (chars c.args.text.now) (parts_none c.args.closing c.args.text.now c.utf8.text c.in-None.ensures.cases))

pub returns-in_ok-push-in-None-clause-unclosed : goal.returns-in_ok-push-in-None-clause-unclosed
returns-in_ok-push-in-None-clause-unclosed c =
    let text = chars c.args.text.now in
    let pushed : c.push.new.self.items ≡ c.args.unclosed.now.items ++ c.args.closing ∷ [] = search rules in
    ap (λ us. are_missing us text) pushed ∙ missing_more c.args.unclosed.now.items c.args.closing text (parts_none c.args.closing c.args.text.now c.utf8.text c.in-None.ensures.cases) c.requires
