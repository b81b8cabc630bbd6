use Rattle.std.proofs.Common.{◌≡◌, ◌<◌, ◌≤◌, ◌+◌, ◌-◌, ◌++◌, ◌∷◌, [], length, take, drop, get_or, sym, ap, subst, ◌∙◌, arith}
use Rattle.std.proofs.lemmas.Str.{IsCharBoundary-after_ascii}
use Rattle.event_tree.specs.PathTexts.{AreNames, IsPartAt, bracketed}
use Rattle.event_tree.proofs.PathLemmas.{closed_names, closed_end, closed_front}
use Rattle.event_tree.proofs.path.read_bracketed.Goals as goal

pub range-requires-clause-start_boundary : goal.range-requires-clause-start_boundary
range-requires-clause-start_boundary c =
    let text = c.args.text.now in
    let same = c.as_bytes-bytes.ensures.value in
    let lt : c.loop-at.at < length text = omega (arith, ap length same, c.loop-at-test.true) in
    let first : get_or text c.loop-at.at 0 ≡ 91 = ap (λ l. get_or l c.loop-at.at 0) (sym same) ∙ c.if-bytes-at-ne91.false in
    λ _. IsCharBoundary-after_ascii text c.loop-at.at c.utf8.text lt (omega (arith, first))

pub loop-at-preserved : goal.loop-at-preserved
loop-at-preserved c =
    let text = c.args.text.now in
    let same = c.as_bytes-bytes.ensures.value in
    let ps = c.loop-at.parts in
    let at = c.loop-at.at in
    let end = c.in_ok-end.end in
    let i = c.loop-at.invariant in
    let part : IsPartAt text at end = subst (λ l. IsPartAt l at end) same c.in_ok-end.ensures.part in
    let lt : at < length text = omega (arith, ap length same, c.loop-at-test.true) in
    let first : get_or text at 0 ≡ 91 = ap (λ l. get_or l at 0) (sym same) ∙ c.if-bytes-at-ne91.false in
    let after : at + 1 ≤ end = omega (arith, part.some) in
    let last : end ≤ length text = omega (arith, part.within) in
    let p : c.push.new.self ≡ ps ++ take (end - (at + 1)) (drop (at + 1) text) ∷ [] = c.in_ok-push.ensures.ok ∙ ap (λ x. ps ++ x ∷ []) (c.in_ok-of.ensures ∙ c.range.ensures.value) in
    record {
      names = subst AreNames (sym p) (closed_names text ps at i.names i.front i.at_end lt first end after last part.name part.some);
      within = omega (arith, part.within);
      front = closed_front text ps at i.names i.front i.at_end lt first end after last part.within part.closed ∙ ap (λ l. bracketed l ++ drop (end + 1) text) (sym p);
      at_end = closed_end text ps at i.names i.front i.at_end lt first end after last ∙ ap (λ l. length (bracketed l)) (sym p);
    }
