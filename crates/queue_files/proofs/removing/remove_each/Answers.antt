use Rattle.std.proofs.Common.{◌∙◌, refl, sym, subst, ap}
use Rattle.std.specs.Prelude.{Contains}
use Rattle.io_traits.specs.Images.{Beside}
use Rattle.queue_files.proofs.Removals.{split_at, contains_at, without_more, none_removed, one_removed}
use Rattle.queue_files.proofs.OtherFiles.{others_stay, then_changed}
use Rattle.queue_files.proofs.removing.remove_each.Goals as goal

pub loop-name-init : goal.loop-name-init
loop-name-init g c = record { stops = none_removed g.S.Store g.met.S.Store.images_tell c.args.names.now c.args.store.now; gone = λ told name. refl; beside = others_stay g.S.Store g.met.S.Store.images_tell (Contains c.args.names.now) c.args.store.now; same = refl }

pub returns-in-Err-clause-any_moment : goal.returns-in-Err-clause-any_moment
returns-in-Err-clause-any_moment g c =
    let names = c.args.names.now in
    let at = c.loop-name.name-index in
    let x = c.name-item.result in
    one_removed g.S.Store g.met.S.Store.images_tell names c.args.store.now c.loop-name.store c.remove.new.self x c.as_str.result.now c.as_str.ensures
    (contains_at names at x (split_at names at x c.name-item.is c.loop-name-test.true)) c.loop-name.invariant.stops c.remove.ensures.change

pub loop-name-preserved : goal.loop-name-preserved
loop-name-preserved g c =
    let names = c.args.names.now in
    let at = c.loop-name.name-index in
    let x = c.name-item.result in
    let inv = c.loop-name.invariant in
    let split = split_at names at x c.name-item.is c.loop-name-test.true in
    record {
      stops = one_removed g.S.Store g.met.S.Store.images_tell names c.args.store.now c.loop-name.store c.remove.new.self x c.as_str.result.now c.as_str.ensures (contains_at names at x split) inv.stops c.remove.ensures.change;
      gone = λ told. without_more names at x (g.S.Store.seen c.args.store.now) (g.S.Store.seen c.loop-name.store) (g.S.Store.seen c.remove.new.self) split (inv.gone told)
          (ap (g.S.Store.seen c.remove.new.self) (sym c.as_str.ensures) ∙ c.in-Ok.ensures.removed told)
          (subst (λ n. Beside n (g.S.Store.seen c.loop-name.store) (g.S.Store.seen c.remove.new.self)) c.as_str.ensures (c.remove.ensures.change.beside told));
      beside = then_changed g.S.Store g.met.S.Store.images_tell inv.beside c.remove.new.self x c.as_str.result.now _ c.as_str.ensures (contains_at names at x split) c.remove.ensures.change;
      same = c.in-Ok.ensures.cause.same (λ is. absurd cc) ∙ inv.same;
    }

pub returns-in-Err-clause-beside : goal.returns-in-Err-clause-beside
returns-in-Err-clause-beside g c =
    let names = c.args.names.now in
    let at = c.loop-name.name-index in
    let x = c.name-item.result in
    let split = split_at names at x c.name-item.is c.loop-name-test.true in
    then_changed g.S.Store g.met.S.Store.images_tell c.loop-name.invariant.beside c.remove.new.self x c.as_str.result.now _ c.as_str.ensures (contains_at names at x split) c.remove.ensures.change

pub returns-clause-beside : goal.returns-clause-beside
returns-clause-beside g c = c.loop-name.invariant.beside
