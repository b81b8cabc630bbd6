use Rattle.std.proofs.Common.{rules, ◌≡◌, false, sym, ◌∙◌, arith}
use Rattle.queue_core.proofs.BitLists.{stops_at, stops_end}
use Rattle.queue_core.proofs.words.first_unset.Goals as goal

pub returns-then-not-is_set : goal.returns-then-not-is_set
returns-then-not-is_set c =
    let inv = c.loop-bit.invariant in
    let clear : c.is_set.result ≡ false = search rules in
    stops_at c.args.words.now c.args.from c.loop-bit.bit c.args.end inv.past c.loop-bit-test.true inv.set (sym c.is_set.ensures ∙ clear)

pub returns : goal.returns
returns c =
    let inv = c.loop-bit.invariant in
    let done : c.args.end ≡ c.loop-bit.bit = omega (arith, inv.within, c.loop-bit-test.false) in
    sym done ∙ stops_end c.args.words.now c.args.from c.args.end c.requires.order (λ k past less. inv.set k past (omega (arith, less, done)))
