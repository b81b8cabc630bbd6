use Rattle.std.proofs.Common.{rules, ◌≡◌, ◌-◌, ◌<◌, IfOk, Some, sym, subst, arith}
use Rattle.grok_patterns.specs.Expansions.{went, added, all_added, begun}
use Rattle.grok_patterns.proofs.Adding.{reference_added}
use Rattle.grok_patterns.proofs.expansion.+add.Goals as goal

pub add_reference-returns-then-branch : goal.add_reference-returns-then-branch
add_reference-returns-then-branch t c =
    let r = c.args.rules.now in
    let inner = c.in-Some.inner.now in
    let some : 0 < c.args.depth = omega (arith, c.if-depth-eq0.false) in
    let begins : Some (inner, c.begin.new.to) ≡ begun r c.args.name.now c.args.field.now c.args.to.now = search rules in
    let goes : Some c.add_pieces.new.to ≡ all_added (added r (c.args.depth - 1)) inner c.begin.new.to = search rules in
    subst (λ z. IfOk c.write.result (λ fine. went fine c.write.new.self ≡ z))
    (sym (reference_added r c.args.name.now c.args.field.now c.args.to.now c.args.depth c.begin.new.to c.add_pieces.new.to inner some begins goes))
    c.write.ensures
