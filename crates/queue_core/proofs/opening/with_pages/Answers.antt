use Rattle.std.proofs.Common.{◌+◌, ◌++◌, ◌∷◌, [], List, ℕ, map, sym, ◌∙◌, ap}
use Rattle.queue_files.specs.Folders.{head, page, names_in}
use Rattle.queue_core.specs.Calls.{tail_bytes, tail_checkpoints}
use Rattle.queue_core.specs.Views.{OpenPageView}
use Rattle.queue_core.proofs.opening.with_pages.Goals as goal

pub invariant_of-result : goal.invariant_of-result
invariant_of-result c =
    let is = sym c.in_ok-folder.ensures in
    let tails = c.args.tails.items in
    let top = c.args.top in
    record {
      tails = c.requires.files ∙ ap (λ (f : List ℕ). map (λ (o : OpenPageView). names_in f (page o.number)) tails) is;
      top = c.requires.file ∙ ap (λ (f : List ℕ). names_in f (page top.number)) is;
      marks_are = c.requires.marks ∙ ap (λ (f : List ℕ). tail_checkpoints f tails ++ names_in f head ∷ []) is;
      bytes_are = c.bytes_in-bytes.ensures ∙ ap (λ (l : List OpenPageView). tail_bytes l + top.page.state.length) c.as_slice-2.ensures.value;
    }
