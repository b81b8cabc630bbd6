use Rattle.std.proofs.Common.{◌<◌, ℕ, List, length, slice_set, sym, ◌∙◌, subst}
use Rattle.std.proofs.lemmas.List.{get_or-set_same}
use Rattle.in_tcp.specs.Reads.{AllCame}
use Rattle.queue_core.specs.Views.{QueueView}
use Rattle.line_core.specs.Causes.{Holds, IsHeld}
use Rattle.line_core.specs.Readiness.{InputsReady}
use Rattle.line_core.specs.declared.line.LineInput.{LineInput}
use Rattle.line_core.proofs.InputsTogether.{all_came, came_set, one_came, queue_keeps, stored_ready, stored_set}
use Rattle.line_core.proofs.line.Line.accept.Goals as goal

-- the input that was put at a place holds its event
held_at : (says : ℕ → QueueView → Type 0) (inputs : List LineInput) (at : ℕ) (from : LineInput) (q : QueueView) → at < length inputs → IsHeld says from q → Holds says at (slice_set inputs at from) q
held_at says inputs at from q lt held = record { from = from; is = sym (get_or-set_same inputs at from from lt); event = held.0; held = held.1; said = held.2 }

pub hold_next-requires : goal.hold_next-requires
hold_next-requires g c =
    let i = c.index_mut-from in
    one_came (g.L.Links.came c.args.links.now) c.args.self.now.inputs.items c.args.input i.result.now c.requires.input i.ensures.value c.requires.came

pub returns-in_err-hold_next-clause-ready : goal.returns-in_err-hold_next-clause-ready
returns-in_err-hold_next-clause-ready g c = λ goes.
    let l = c.args.self.now in
    let i = c.index_mut-from in
    let new = c.hold_next.new.self in
    let same = stored_set l.inputs.items c.args.input i.result.now new i.ensures.value c.hold_next.ensures.stored in
    record {
      folder = c.requires.ready.folder;
      inputs = stored_ready g.S.Store c.args.store.now l.folder.queue.folder l.inputs.items (slice_set l.inputs.items c.args.input new) same c.requires.ready.inputs;
    }

pub returns-in_err-hold_next-clause-came : goal.returns-in_err-hold_next-clause-came
returns-in_err-hold_next-clause-came g c =
    let inputs = c.args.self.now.inputs.items in
    let e = c.hold_next.ensures in
    let now = g.L.Links.came c.hold_next.new.links in
    came_set now inputs c.args.input c.hold_next.new.self e.came (all_came (g.L.Links.came c.args.links.now) now e.more inputs c.requires.came)

pub returns-clause-ready : goal.returns-clause-ready
returns-clause-ready g c = λ goes.
    let store = g.S.Store in
    let l = c.args.self.now in
    let i = c.index_mut-from in
    let w = c.write_held-accepted in
    let after = slice_set l.inputs.items c.args.input w.new.from in
    let same = stored_set l.inputs.items c.args.input i.result.now w.new.from i.ensures.value (w.ensures.stored ∙ c.hold_next.ensures.stored) in
    let held = stored_ready store c.args.store.now l.folder.queue.folder l.inputs.items after same c.requires.ready.inputs in
    record {
      folder = w.ensures.ready goes;
      inputs = subst (λ path. InputsReady store path after w.new.store) (sym w.ensures.path)
          (queue_keeps store g.met.S.Store.images_tell l.folder.queue.folder after c.args.store.now w.new.store w.ensures.leaves held);
    }

pub returns-clause-came : goal.returns-clause-came
returns-clause-came g c =
    let inputs = c.args.self.now.inputs.items in
    let e = c.hold_next.ensures in
    let now = g.L.Links.came c.hold_next.new.links in
    let w = c.write_held-accepted in
    came_set now inputs c.args.input w.new.from (subst (AllCame now) (sym w.ensures.connections) e.came) (all_came (g.L.Links.came c.args.links.now) now e.more inputs c.requires.came)

pub returns-clause-full : goal.returns-clause-full
returns-clause-full g c = λ is.
    let w = c.write_held-accepted in
    let l = c.args.self.now in
    held_at _ l.inputs.items c.args.input w.new.from l.folder.queue c.requires.input (w.ensures.full is)

pub returns-clause-spent : goal.returns-clause-spent
returns-clause-spent g c = λ is.
    let w = c.write_held-accepted in
    let l = c.args.self.now in
    held_at _ l.inputs.items c.args.input w.new.from l.folder.queue c.requires.input (w.ensures.spent is)
