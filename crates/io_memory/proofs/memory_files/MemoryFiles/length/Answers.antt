use Rattle.std.proofs.Common.{◌≡◌, [], ap, ◌∙◌, length, option_map}
use Rattle.io_memory.specs.Tables.{content_of}
use Rattle.io_memory.specs.Showings.{shown_from, shown_at}
use Rattle.io_memory.proofs.memory_files.MemoryFiles.length.Goals as goal

pub returns-clause-length : goal.returns-clause-length
returns-clause-length c =
    let seen : content_of c.shown.result.now ≡ shown_at c.args.self.now c.args.self.now.script.made =
    c.shown.ensures ∙ ap (λ k. content_of (shown_from [] k.contents c.made-number.result)) c.self.view_is ∙ ap (shown_at c.args.self.now) (c.made-number.ensures ∙ ap (λ k. k.script.made) c.self.view_is) in
    c.length_in.ensures ∙ ap (λ files. option_map length (files c.args.path.now)) seen
