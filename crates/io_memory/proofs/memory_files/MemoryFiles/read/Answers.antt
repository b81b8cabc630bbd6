use Rattle.std.proofs.Common.{◌≡◌, [], ap, ◌∙◌, subst, length}
use Rattle.io_traits.specs.Reads.{Gives}
use Rattle.io_memory.specs.Tables.{content_of}
use Rattle.io_memory.specs.Showings.{shown_from, shown_at}
use Rattle.io_memory.proofs.memory_files.MemoryFiles.read.Goals as goal

pub returns-clause-gives : goal.returns-clause-gives
returns-clause-gives c =
    let seen : content_of c.shown.result.now ≡ shown_at c.args.self.now c.args.self.now.script.made =
    c.shown.ensures ∙ ap (λ k. content_of (shown_from [] k.contents c.made-number.result)) c.self.view_is ∙ ap (shown_at c.args.self.now) (c.made-number.ensures ∙ ap (λ k. k.script.made) c.self.view_is) in
    subst (λ files. Gives (files c.args.path.now) c.args.at (length c.args.into.now) c.copy_from.result c.copy_from.new.into) seen c.copy_from.ensures.gives
