use Rattle.std.proofs.Common.{◌≡◌, ◌<◌, ◌≤◌, ap, ◌∙◌, sym, arith, length, drop, List, ℕ}
use Rattle.in_file.specs.Matching.{first_of, stands_for, ends_of}
use Rattle.in_file.proofs.Ends.{length-ends, turn, first-ends}
use Rattle.in_file.proofs.matching.bytes_match.Goals as goal

pub ends_behind-requires : goal.ends_behind-requires
ends_behind-requires c = ap length (c.deref.ensures.value ∙ c.loop-left.invariant.1) ∙ length-ends (λ s. stands_for (drop c.loop-left.left c.args.pattern.now) s) c.args.name.now

pub loop-left-preserved : goal.loop-left-preserved
loop-left-preserved c =
    let some : 0 < c.loop-left.left = c.loop-left-test.true in
    (omega arith, turn c.args.pattern.now c.args.name.now c.loop-left.left c.deref.result.now c.loop-left.ends.items _ some c.loop-left.invariant.0 c.loop-left.invariant.1 c.deref.ensures.value c.in_ok-ends-2.ensures)

pub returns : goal.returns
returns c =
    let test = λ (s : List ℕ). stands_for (drop c.loop-left.left c.args.pattern.now) s in
    let none : c.loop-left.left ≡ 0 = omega arith in
    c.first_of.ensures ∙ ap first_of (c.deref-2.ensures.value ∙ c.loop-left.invariant.1) ∙ first-ends test c.args.name.now
    ∙ ap (λ n. stands_for (drop n c.args.pattern.now) c.args.name.now) none
