use Rattle.std.proofs.Common.{◌≡◌, ap, sym, ◌∙◌, Some, subst}
use Rattle.std.specs.Prelude.{IfSome, IfNone}
use Rattle.in_tcp.specs.Lines.{HasNoLine, IsWholeFirst}
use Rattle.in_tcp.specs.Rests.{place_from}
use Rattle.in_tcp.proofs.Among.{bytes_at, no_line, none_of}
use Rattle.in_tcp.proofs.partial_lines.PartialLines.first.Goals as goal

pub returns-in-Some-clause-line : goal.returns-in-Some-clause-line
returns-in-Some-clause-line c =
    let items = c.self.inside.members.items in
    let found : place_from 0 c.args.conn items ≡ Some c.in-Some.place = ap (place_from 0 c.args.conn) c.self.view_is ∙ sym c.place.ensures.place ∙ c.in-Some.is in
    subst (λ b. IfSome c.first.result (λ found. IsWholeFirst b found.content_len found.taken)) (sym (bytes_at c.in-Some.place c.args.conn items c.args.self.now c.index_mut.result.now found c.self.view_is c.index_mut.ensures.value)) c.first.ensures.line

pub returns-in-Some-clause-none : goal.returns-in-Some-clause-none
returns-in-Some-clause-none c =
    let items = c.self.inside.members.items in
    let found : place_from 0 c.args.conn items ≡ Some c.in-Some.place = ap (place_from 0 c.args.conn) c.self.view_is ∙ sym c.place.ensures.place ∙ c.in-Some.is in
    subst (λ b. IfNone c.first.result (HasNoLine b)) (sym (bytes_at c.in-Some.place c.args.conn items c.args.self.now c.index_mut.result.now found c.self.view_is c.index_mut.ensures.value)) c.first.ensures.none

pub returns-in-None-clause-none : goal.returns-in-None-clause-none
returns-in-None-clause-none c = subst HasNoLine (sym (none_of 0 c.args.conn c.args.self.now (sym c.place.ensures.place ∙ c.in-None.is))) no_line
