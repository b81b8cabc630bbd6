use Rattle.std.proofs.Common.{Bool, List, ℕ, false, replicate, ◌∙◌, ap}
use Rattle.std.proofs.Math.Path.{ap₂}
use Rattle.io_traits.specs.declared.pages.PageState.{PageState}
use Rattle.queue_files.specs.Folders.{page, names_in}
use Rattle.queue_core.specs.Bits.{with_range}
use Rattle.queue_core.specs.Views.{OpenPageView}
use Rattle.queue_core.proofs.OpenedQueues.{range_below}
use Rattle.queue_core.proofs.opening.held_page.Goals as goal

pub returns : goal.returns
returns c =
    let s = c.args.page.state in
    let first = c.args.first_open in
    let made : List ℕ → List Bool → OpenPageView = λ file bits. record { number = c.args.number; file = file; page = c.args.page; acknowledged = bits; from = first; turn = c.args.turn } in
    c.acknowledge.ensures
    ∙ ap₂ (λ file bits. made file (with_range s.least 0 first bits)) c.in_ok-file.ensures (c.in_ok-acknowledged.ensures ∙ ap (λ (x : PageState). replicate x.count false) c.state.ensures)
    ∙ ap (made (names_in c.args.folder.now (page c.args.number))) (range_below first s.least s.count)
