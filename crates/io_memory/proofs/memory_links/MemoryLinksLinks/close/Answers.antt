use Rattle.std.proofs.Common.{◌≡◌, ap, sym, ◌∙◌, []}
use Rattle.io_memory.specs.Links.{left_of}
use Rattle.std.proofs.lemmas.Option.{same_Some}
use Rattle.io_memory.proofs.Linked.{none_of_shut, shut_keeps_others}
use Rattle.io_memory.proofs.memory_links.MemoryLinksLinks.close.Goals as goal

pub returns-clause-left : goal.returns-clause-left
returns-clause-left c =
    let none : left_of c.close.new.self c.args.conn ≡ [] = ap (λ s. left_of s c.args.conn) c.close.ensures ∙ none_of_shut c.args.self.now c.args.conn in
    record { none = λ rest told. sym (same_Some _ _ told) ∙ none }

pub returns-clause-others : goal.returns-clause-others
returns-clause-others c = shut_keeps_others c.args.self.now c.close.new.self c.args.conn c.close.ensures
