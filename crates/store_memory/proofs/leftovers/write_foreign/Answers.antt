use Rattle.std.proofs.Common.{◌≡◌, ◌-◌, min, Some, ap, ◌∙◌, replicate, List, ℕ}
use Rattle.io_traits.specs.Reads.{bytes_of, file_length}
use Rattle.io_traits.specs.Images.{overlaid}
use Rattle.io_traits.specs.Leftovers.{with_foreign}
use Rattle.io_memory.specs.Tables.{content_of, overwritten}
use Rattle.io_memory.proofs.Changes.{changed_on}
use Rattle.store_memory.proofs.leftovers.write_foreign.Goals as goal

pub returns : goal.returns
returns c =
    let file = content_of c.args.files.now c.args.name.now in
    let from : c.min-from.result ≡ min c.args.at (file_length file) = c.min-from.ensures ∙ ap (min c.args.at) c.end_of.ensures in
    let bytes : c.as_slice.result.now ≡ replicate (c.args.end - min c.args.at (file_length file)) 165 = c.as_slice.ensures.value ∙ c.in_ok-foreign.ensures.items_if_clones_equal (λ y same. same) ∙ ap (λ k. replicate k 165) (c.saturating_sub.ensures ∙ ap (λ k. c.args.end - k) from) in
    changed_on c.args.name.now (overwritten c.min-from.result c.as_slice.result.now) (λ f. Some (with_foreign c.args.at c.args.end f)) c.args.files.now c.write_in.new.files c.write_in.result
    (ap (λ k. Some (overlaid k c.as_slice.result.now (bytes_of file))) from ∙ ap (λ (l : List ℕ). Some (overlaid (min c.args.at (file_length file)) l (bytes_of file))) bytes) c.write_in.ensures.ok
