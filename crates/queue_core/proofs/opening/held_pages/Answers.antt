use Rattle.std.proofs.Common.{◌<◌, ◌+◌, ◌∷◌, drop, get_or, length, sym, ◌∙◌, ap, arith, rules}
use Rattle.std.proofs.lemmas.List.{drop_more}
use Rattle.io_traits.specs.declared.pages.PageState.{PageState}
use Rattle.queue_files.proofs.Fallings.{bounded_at, no_tail}
use Rattle.queue_core.proofs.OpenedQueues.{state_there}
use Rattle.queue_core.proofs.OpenedRows.{same_long}
use Rattle.queue_core.proofs.opening.held_pages.Goals as goal

pub held_page-requires : goal.held_page-requires
held_page-requires c =
    let at = c.loop-place.place in
    let tails = c.args.tails.now in
    let pages = c.args.pages.now in
    let t = get_or tails at no_tail in
    let p = c.index-pages-place.result in
    let within : at < length tails = search rules in
    let split = drop_more tails at no_tail within in
    let parts = drop_more pages at p (omega (arith, within, same_long tails pages c.requires.states)) ∙ ap (λ x. x ∷ drop (at + 1) pages) (sym c.index-pages-place.is) in
    let same = state_there at tails pages t p (drop (at + 1) tails) (drop (at + 1) pages) c.requires.states split parts in
    let bounded = bounded_at tails at t split c.requires.bounded in
    omega (arith, bounded, ap (λ (s : PageState). s.least) same, ap (λ (s : PageState). s.count) same)
