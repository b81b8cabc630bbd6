use Rattle.std.proofs.Common.{◌≡◌, ◌-◌, min, Bool, List, length, sym, ◌∙◌, ap, arith}
use Rattle.io_traits.specs.declared.pages.PageState.{PageState}
use Rattle.queue_core.specs.Calls.{with_acknowledged}
use Rattle.queue_core.specs.Views.{OpenPageView}
use Rattle.queue_core.proofs.Ranges.{long_range, range_is, range_none}
use Rattle.queue_core.proofs.pages.OpenPage.acknowledge.Goals as goal

pub invariant_of-self : goal.invariant_of-self
invariant_of-self c = record { each = ap length c.add.ensures ∙ long_range 0 c.min-from.result c.min-to.result c.self.inside.acknowledged ∙ c.self.invariant.each; numbers = c.self.invariant.numbers }

pub returns-then-from-to : goal.returns-then-from-to
returns-then-from-to c =
    let p = c.self.inside in
    let s = p.page.state in
    let v : OpenPageView = record { number = p.number; file = p.file; page = p.page; acknowledged = p.acknowledged; from = p.from; turn = p.turn } in
    let least = ap (λ (x : PageState). x.least) c.state.ensures in
    let count = ap (λ (x : PageState). x.count) c.state-2.ensures in
    let from_is : c.min-from.result ≡ min (c.args.numbers.first - s.least) s.count = omega (arith, c.min-from.ensures, c.saturating_sub.ensures, c.from-count.ensures, least, count) in
    let to_is : c.min-to.result ≡ min (c.args.numbers.behind - s.least) s.count = omega (arith, c.min-to.ensures, c.saturating_sub-2.ensures, c.from-count.ensures, least, count) in
    ap (λ (l : List Bool). record v { acknowledged = l }) (c.add.ensures ∙ range_is s.least c.args.numbers.first c.args.numbers.behind s.count p.acknowledged c.self.invariant.each c.min-from.result c.min-to.result from_is to_is)
    ∙ ap (with_acknowledged c.args.numbers) c.self.view_is

pub returns-else-from-to : goal.returns-else-from-to
returns-else-from-to c =
    let p = c.self.inside in
    let s = p.page.state in
    let v : OpenPageView = record { number = p.number; file = p.file; page = p.page; acknowledged = p.acknowledged; from = p.from; turn = p.turn } in
    let least = ap (λ (x : PageState). x.least) c.state.ensures in
    let count = ap (λ (x : PageState). x.count) c.state-2.ensures in
    let from_is : c.min-from.result ≡ min (c.args.numbers.first - s.least) s.count = omega (arith, c.min-from.ensures, c.saturating_sub.ensures, c.from-count.ensures, least, count) in
    let to_is : c.min-to.result ≡ min (c.args.numbers.behind - s.least) s.count = omega (arith, c.min-to.ensures, c.saturating_sub-2.ensures, c.from-count.ensures, least, count) in
    sym c.self.view_is ∙ ap (λ (l : List Bool). record v { acknowledged = l }) (sym (range_none c.min-from.result c.min-to.result 0 p.acknowledged (omega (arith, c.if-from-to.false)))
    ∙ range_is s.least c.args.numbers.first c.args.numbers.behind s.count p.acknowledged c.self.invariant.each c.min-from.result c.min-to.result from_is to_is)
    ∙ ap (with_acknowledged c.args.numbers) c.self.view_is
