use Rattle.std.proofs.Common.{◌≡◌, IsTrue, Err, None, OnOk, sym, ap, subst, ◌∙◌}
use Rattle.io_traits.specs.Moments.{EachMoment, ReadsBeside}
use Rattle.slot_files.specs.Contents.{counted_in}
use Rattle.line_outputs.specs.OpenFiles.{EachReady, IsDelivered, IsFileOf, IsOutside, LeavesDelivered, OpenFiles, file_of, slot_in}
use Rattle.line_outputs.proofs.files.OutputFiles.append.Goals as goal

pub append_to-requires-clause-ready : goal.append_to-requires-clause-ready
append_to-requires-clause-ready g c =
    subst (λ n. EachReady g.S.Store n c.self.inside.files.items c.args.store.now) (sym c.as_str.ensures)
    (subst (λ (o : OpenFiles). EachReady g.S.Store o.folder o.files c.args.store.now) (sym c.self.view_is) c.requires.ready)

pub append_to-requires-clause-outside : goal.append_to-requires-clause-outside
append_to-requires-clause-outside g c =
    subst (λ n. IsOutside n c.args.path.now) (sym c.as_str.ensures) (subst (λ (o : OpenFiles). IsOutside o.folder c.args.path.now) (sym c.self.view_is) c.requires.outside)

pub returns-clause-ready : goal.returns-clause-ready
returns-clause-ready g c = subst (λ n. EachReady g.S.Store n c.append_to.new.files.items c.append_to.new.store) c.as_str.ensures c.append_to.ensures.ready

pub returns-clause-delivered : goal.returns-clause-delivered
returns-clause-delivered g c =
    subst (λ (o : OpenFiles). OnOk c.append_to.result (IsDelivered g.S.Store o.folder c.args.path.now c.args.bytes.now o.files c.args.store.now c.append_to.new.files.items c.append_to.new.store)) c.self.view_is
    (subst (λ n. OnOk c.append_to.result (IsDelivered g.S.Store n c.args.path.now c.args.bytes.now c.self.inside.files.items c.args.store.now c.append_to.new.files.items c.append_to.new.store)) c.as_str.ensures c.append_to.ensures.delivered)

pub returns-clause-damaged : goal.returns-clause-damaged
returns-clause-damaged g c = λ damage is.
    subst (λ (o : OpenFiles). (file_of c.args.path.now o.files ≡ None) × (IsTrue g.S.Store.tells → counted_in c.args.path.now (slot_in o.folder c.args.path.now) (g.S.Store.seen c.args.store.now) ≡ Err damage)) c.self.view_is
    (subst (λ n. (file_of c.args.path.now c.self.inside.files.items ≡ None) × (IsTrue g.S.Store.tells → counted_in c.args.path.now (slot_in n c.args.path.now) (g.S.Store.seen c.args.store.now) ≡ Err damage)) c.as_str.ensures
    (c.append_to.ensures.damaged damage is))

pub returns-clause-any_moment : goal.returns-clause-any_moment
returns-clause-any_moment g c =
    subst (λ n. EachMoment g.S.Store c.args.store.now c.append_to.new.store (LeavesDelivered g.S.Store n c.args.path.now c.args.bytes.now c.args.store.now)) (c.as_str.ensures ∙ ap (λ (o : OpenFiles). o.folder) c.self.view_is)
    c.append_to.ensures.any_moment

pub returns-clause-beside : goal.returns-clause-beside
returns-clause-beside g c =
    subst (λ n. ReadsBeside g.S.Store (IsFileOf n c.args.path.now) c.args.store.now c.append_to.new.store) (c.as_str.ensures ∙ ap (λ (o : OpenFiles). o.folder) c.self.view_is) c.append_to.ensures.beside
