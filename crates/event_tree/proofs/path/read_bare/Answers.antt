use Rattle.std.proofs.Common.{◌≡◌, ◌-◌, ◌<◌, true, length, take, drop, get_or, inr, ap, subst, arith}
use Rattle.event_tree.specs.PathTexts.{is_bracket, NoBracket}
use Rattle.event_tree.proofs.PathLemmas.{stray_inside}
use Rattle.event_tree.proofs.path.read_bare.Goals as goal

pub returns-then-end-text-clause-reads : goal.returns-then-end-text-clause-reads
returns-then-end-text-clause-reads c =
    let text = c.args.text.now in
    let bytes = c.as_bytes.result.now in
    let same : bytes ≡ text = c.as_bytes.ensures.value in
    let long : length bytes ≡ length text = ap length same in
    let end = c.name_end-end.result in
    let hb : end < length bytes = omega (arith, long, c.if-end-text.true) in
    let name : NoBracket (take (end - 0) (drop 0 text)) = subst (λ l. NoBracket (take (end - 0) l)) same c.name_end-end.ensures.name in
    let b : is_bracket (get_or text end 0) ≡ true = subst (λ l. is_bracket (get_or l end 0) ≡ true) same (c.name_end-end.ensures.end hb) in
    inr (stray_inside text end c.if-end-text.true name b c.requires.bare)
