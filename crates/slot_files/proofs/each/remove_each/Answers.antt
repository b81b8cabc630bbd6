use Rattle.std.proofs.Common.{◌∙◌, refl, sym, subst, ap}
use Rattle.io_traits.specs.Images.{Beside, RemovedFile}
use Rattle.slot_files.specs.Each.{GoneOrSame}
use Rattle.slot_files.proofs.EachFile.{split_at, contains_at, none_altered, one_altered, changed_beside, without_more, removed_more}
use Rattle.slot_files.proofs.each.remove_each.Goals as goal

pub loop-name-init : goal.loop-name-init
loop-name-init g c = record {
  stops = none_altered g.S.Store g.met.S.Store.images_tell c.args.names.now GoneOrSame c.args.store.now;
  gone = λ told name. refl;
  beside = λ told name other. refl;
  same = refl;
}

pub returns-in-Err-clause-any_moment : goal.returns-in-Err-clause-any_moment
returns-in-Err-clause-any_moment g c =
    let x = c.name-item.result in
    one_altered g.S.Store g.met.S.Store.images_tell c.args.names.now GoneOrSame c.args.store.now c.loop-name.store c.remove.new.self x c.as_str.result.now RemovedFile c.as_str.ensures
    (contains_at c.args.names.now c.loop-name.name-index x c.name-item.is c.loop-name-test.true) (λ told. removed_more x) c.loop-name.invariant.stops c.remove.ensures.change

pub returns-in-Err-clause-beside : goal.returns-in-Err-clause-beside
returns-in-Err-clause-beside g c =
    let x = c.name-item.result in
    changed_beside g.S.Store c.args.names.now c.args.store.now c.loop-name.store c.remove.new.self x c.as_str.result.now c.as_str.ensures
    (contains_at c.args.names.now c.loop-name.name-index x c.name-item.is c.loop-name-test.true) c.loop-name.invariant.beside c.remove.ensures.change.beside

pub loop-name-preserved : goal.loop-name-preserved
loop-name-preserved g c =
    let names = c.args.names.now in
    let at = c.loop-name.name-index in
    let x = c.name-item.result in
    let inv = c.loop-name.invariant in
    let among = contains_at names at x c.name-item.is c.loop-name-test.true in
    record {
      stops = one_altered g.S.Store g.met.S.Store.images_tell names GoneOrSame c.args.store.now c.loop-name.store c.remove.new.self x c.as_str.result.now RemovedFile c.as_str.ensures among (λ told. removed_more x) inv.stops
          c.remove.ensures.change;
      gone = λ told. without_more names at x (g.S.Store.seen c.args.store.now) (g.S.Store.seen c.loop-name.store) (g.S.Store.seen c.remove.new.self) (split_at names at x c.name-item.is c.loop-name-test.true) (inv.gone told)
          (ap (g.S.Store.seen c.remove.new.self) (sym c.as_str.ensures) ∙ c.in-Ok.ensures.removed told)
          (subst (λ n. Beside n (g.S.Store.seen c.loop-name.store) (g.S.Store.seen c.remove.new.self)) c.as_str.ensures (c.remove.ensures.change.beside told));
      beside = changed_beside g.S.Store names c.args.store.now c.loop-name.store c.remove.new.self x c.as_str.result.now c.as_str.ensures among inv.beside c.remove.ensures.change.beside;
      same = c.in-Ok.ensures.cause.same (λ is. absurd cc) ∙ inv.same;
    }
