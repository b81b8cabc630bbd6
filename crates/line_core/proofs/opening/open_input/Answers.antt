use Rattle.std.proofs.Common.{List, sym, subst, IfOk, IfSome}
use Rattle.line_inputs.specs.Positions.{AreReady}
use Rattle.line_inputs.specs.Sources.{connections_of, files_of}
use Rattle.line_inputs.specs.Starting.{IsOpenAs}
use Rattle.line_core.specs.Openings.{AreOpened, HasNone}
use Rattle.line_core.specs.declared.line.LineInput.{LineInput}
use Rattle.line_core.proofs.InputsOpened.{beside_earlier, none_more, one_more, opened_some}
use Rattle.line_core.proofs.opening.open_input.Goals as goal

pub returns-in-Ok-Some-clause-opened : goal.returns-in-Ok-Some-clause-opened
returns-in-Ok-Some-clause-opened g c =
    let o = c.open_on-opened in
    let made = c.in-Ok-Some.open in
    let found = opened_some c.len.result o.result c.in-Ok-Some.field-0 made c.in-Ok-Some.ensures c.in-Ok-Some.field-0-is in
    one_more g.S.Store g.met.S.Store.images_tell c.args.store.now o.new.store o.ensures.any_moment o.ensures.reads c.args.folder.now c.args.watched.now o.new.watched o.ensures.watched c.args.inputs.now.items c.requires.opened
    _ c.reserve.new.self.items c.push_reserved.new.self.items c.push_reserved.ensures.items c.reserve.ensures.items
    (subst (λ r. IfOk r (λ m. IfSome m (λ v. AreReady g.S.Store (files_of v.source) o.new.store))) found o.ensures.ready)
    (subst (λ r. IfOk r (λ m. IfSome m (λ v. HasNone (connections_of v.source)))) found o.ensures.connections)
    (beside_earlier g.S.Store g.P.Files c.args.folder.now c.args.store.now c.args.files.now c.args.watched.now o.new.watched c.args.planned.input made
    (subst (λ r. IfOk r (IsOpenAs g.S.Store g.P.Files c.args.folder.now c.args.store.now c.args.files.now c.args.watched.now o.new.watched c.args.planned.input)) found o.ensures.open))

pub returns-in-Ok-None-clause-opened : goal.returns-in-Ok-None-clause-opened
returns-in-Ok-None-clause-opened g c =
    let o = c.open_on-opened in
    subst (λ l. AreOpened g.S.Store c.args.folder.now o.new.watched l o.new.store) (sym {A = List LineInput} c.reserve.ensures.items)
    (none_more g.S.Store g.met.S.Store.images_tell c.args.store.now o.new.store o.ensures.any_moment o.ensures.reads c.args.folder.now c.args.watched.now o.new.watched o.ensures.watched c.args.inputs.now.items c.requires.opened)
