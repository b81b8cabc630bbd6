use Rattle.std.proofs.Common.{ap, arith}
use Rattle.io_traits.specs.declared.pages.PageState.{PageState}
use Rattle.queue_core.specs.Calls.{end_of}
use Rattle.queue_core.proofs.Ranges.{leading_short}
use Rattle.queue_core.proofs.pages.OpenPage.first_open.Goals as goal

pub overflow_add-result : goal.overflow_add-result
overflow_add-result c =
    omega (arith, c.self.invariant.numbers, c.self.invariant.each, leading_short c.self.inside.acknowledged, c.leading.ensures, ap (λ (s : PageState). s.least) c.state.ensures)

pub returns-clause-within : goal.returns-clause-within
returns-clause-within c =
    omega (arith, c.self.invariant.each, leading_short c.self.inside.acknowledged, c.leading.ensures, ap (λ (s : PageState). s.least) c.state.ensures, ap end_of c.self.view_is)
