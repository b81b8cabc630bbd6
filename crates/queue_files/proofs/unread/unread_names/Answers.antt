use Rattle.std.proofs.Common.{◌++◌, ◌∙◌, ap}
use Rattle.std.proofs.Math.Path.{ap₂}
use Rattle.queue_files.specs.Unread.{pages_above, unpaired}
use Rattle.queue_files.proofs.unread.unread_names.Goals as goal

pub returns : goal.returns
returns c =
    let folder = c.args.folder.now in
    let top = c.args.head in
    let pages = c.as_slice-pages.result.now in
    c.in_ok-add_checkpoints.ensures
    ∙ ap (λ l. l ++ unpaired folder top pages c.as_slice.result.now) (c.in_ok-add_pages.ensures ∙ ap (λ l. l ++ pages_above folder top pages) c.new-names.ensures.items)
    ∙ ap₂ (λ p q. pages_above folder top p ++ unpaired folder top p q) c.as_slice-pages.ensures.value c.as_slice.ensures.value
