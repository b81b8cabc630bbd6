use Rattle.std.proofs.Common.{◌≡◌, ◌+◌, ◌-◌, ◌≤◌, ◌<◌, length, true, false, sym, ap, ◌∙◌, arith}
use Rattle.std.specs.Prelude.{slice_range, slice_index}
use Rattle.filters_mutate.specs.Texts.{without_end, is_space}
use Rattle.filters_mutate.proofs.Strips.{end_more, end_stays}
use Rattle.filters_mutate.proofs.cases.back_start.Goals as goal

pub loop-end-preserved : goal.loop-end-preserved
loop-end-preserved c =
    let s = c.args.bytes.now in
    let a = c.args.start in
    let i = c.loop-end.end - 1 in
    let inv = c.loop-end.invariant in
    let below : a < c.loop-end.end = omega (arith, c.loop-end-test.true) in
    let next : i + 1 ≡ c.loop-end.end = omega (arith, below) in
    let space : is_space (slice_index s i) ≡ true = sym c.is_space.ensures ∙ c.if-is_space.true in (
      omega (arith, below),
      omega (arith, inv.1),
      end_more s a i (omega (arith, below)) (omega (arith, below, inv.1)) space ∙ ap (λ n. without_end (slice_range s a n)) next ∙ inv.2,
      λ within. space,
    )

pub returns-else-is_space-clause-rest : goal.returns-else-is_space-clause-rest
returns-else-is_space-clause-rest c =
    let s = c.args.bytes.now in
    let a = c.args.start in
    let i = c.loop-end.end - 1 in
    let inv = c.loop-end.invariant in
    let below : a < c.loop-end.end = omega (arith, c.loop-end-test.true) in
    let next : i + 1 ≡ c.loop-end.end = omega (arith, below) in
    let other : is_space (slice_index s i) ≡ false = sym c.is_space.ensures ∙ c.if-is_space.false in
    ap (slice_range s a) (sym next) ∙ end_stays s a i (omega (arith, below)) (omega (arith, below, inv.1)) other
    ∙ ap (λ n. without_end (slice_range s a n)) next ∙ inv.2
