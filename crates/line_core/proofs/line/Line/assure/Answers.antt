use Rattle.io_traits.specs.Moments.{LeavesBeside}
use Rattle.io_traits.proofs.Moments.{holds_now}
use Rattle.line_inputs.specs.Positions.{IsOfThese}
use Rattle.line_inputs.specs.Sources.{files_of}
use Rattle.line_outputs.specs.Readiness.{LeavesOthers}
use Rattle.line_core.specs.Readiness.{IsRecordedIn}
use Rattle.line_core.proofs.InputsTogether.{all_of_one, assured_ready, connections_set, folder_assured, one_ready}
use Rattle.line_core.proofs.line.Line.assure.Goals as goal

pub assure-requires : goal.assure-requires
assure-requires g c =
    let ready = c.requires.ready.inputs in
    one_ready g.S.Store c.args.store.now c.args.self.now.inputs.items c.args.input c.index_mut.result.now c.requires.input c.index_mut.ensures.value ready.files

pub returns-in_err-assure-clause-connections : goal.returns-in_err-assure-clause-connections
returns-in_err-assure-clause-connections g c =
    connections_set c.args.self.now.inputs.items c.args.input c.index_mut.result.now c.assure.new.self c.index_mut.ensures.value c.assure.ensures.connections

pub returns-clause-ready : goal.returns-clause-ready
returns-clause-ready g c =
    let store = g.S.Store in
    let tell = g.met.S.Store.images_tell in
    let e = c.assure.ensures in
    let ready = c.requires.ready in
    let l = c.args.self.now in
    let i = c.index_mut.result.now in
    let mine = files_of i.open.source in
    let old = c.args.store.now in
    let new = c.assure.new.store in
    let lt = c.requires.input in
    let is = c.index_mut.ensures.value in
    let leaves : LeavesOthers store (IsOfThese mine) old new = record { now = holds_now store old new (LeavesBeside store (IsOfThese mine) old) e.any_moment; reads = e.beside } in
    record {
      folder = folder_assured store tell l.folder mine (all_of_one (IsRecordedIn l.folder.queue.folder) l.inputs.items c.args.input i lt is ready.inputs.recorded) old new leaves ready.folder;
      inputs = assured_ready store tell i c.assure.new.self old new leaves c.in_ok-assure.ensures.ready.each l.folder.queue.folder l.inputs.items c.args.input lt is c.in_ok-assure.ensures.slots ready.inputs;
    }

pub returns-clause-connections : goal.returns-clause-connections
returns-clause-connections g c =
    connections_set c.args.self.now.inputs.items c.args.input c.index_mut.result.now c.assure.new.self c.index_mut.ensures.value c.assure.ensures.connections
