use Rattle.std.proofs.Common.{◌≡◌, ◌≤◌, ◌<◌, ◌+◌, ◌-◌, ◌++◌, Some, length, take, drop, get_or, refl, sym, ap, ◌∙◌, subst, arith}
use Rattle.std.proofs.Math.Path.{ap₂}
use Rattle.std.proofs.lemmas.List.{drop_more}
use Rattle.io_traits.specs.Reads.{bytes_of, file_length}
use Rattle.io_traits.specs.Images.{Beside}
use Rattle.slot_files.specs.Each.{KeepsBytes}
use Rattle.slot_files.proofs.EachFile.{split_at, contains_at, none_altered, one_altered, none_grown, one_grown, grown_long, laid_more, more_keeps, size_left}
use Rattle.slot_files.proofs.each.append_parts.Goals as goal

pub loop-place-init : goal.loop-place-init
loop-place-init g c = record {
  stops = none_altered g.S.Store g.met.S.Store.images_tell c.args.names.now (KeepsBytes (g.S.Store.seen c.args.store.now)) c.args.store.now;
  grows = none_grown g.S.Store c.args.names.now c.args.store.now;
  laid = λ told name. refl;
  left = omega (arith, c.requires.within);
  same = refl;
}

pub returns-in-Err-clause-any_moment : goal.returns-in-Err-clause-any_moment
returns-in-Err-clause-any_moment g c =
    let names = c.args.names.now in
    let x = c.index-names-place.result in
    let old = g.S.Store.seen c.args.store.now in
    let now = g.S.Store.seen c.loop-place.store in
    let inv = c.loop-place.invariant in
    one_altered g.S.Store g.met.S.Store.images_tell names (KeepsBytes old) c.args.store.now c.loop-place.store c.append.new.self x c.as_str.result.now _ c.as_str.ensures
    (contains_at names c.loop-place.place x c.index-names-place.is c.loop-place-test.true)
    (λ told f g' h was torn. more_keeps (old x) (now c.as_str.result.now) _ f g' h (subst (λ n. file_length (old x) ≤ file_length (now n)) (sym c.as_str.ensures) (grown_long g.S.Store names c.args.store.now c.loop-place.store inv.grows told x)) was torn)
    inv.stops c.append.ensures.change

pub loop-place-preserved : goal.loop-place-preserved
loop-place-preserved g c =
    let names = c.args.names.now in
    let sizes = c.args.sizes.now in
    let at = c.loop-place.place in
    let x = c.index-names-place.result in
    let old = g.S.Store.seen c.args.store.now in
    let now = g.S.Store.seen c.loop-place.store in
    let inv = c.loop-place.invariant in
    let among = contains_at names at x c.index-names-place.is c.loop-place-test.true in
    let size : c.loop-place.at + get_or sizes at 0 - c.loop-place.at ≡ get_or sizes at 0 = omega arith in
    let within : at < length sizes = omega (arith, c.requires.each, c.loop-place-test.true) in
    record {
      stops = one_altered g.S.Store g.met.S.Store.images_tell names (KeepsBytes old) c.args.store.now c.loop-place.store c.append.new.self x c.as_str.result.now _ c.as_str.ensures among
          (λ told f g' h was torn. more_keeps (old x) (now c.as_str.result.now) _ f g' h (subst (λ n. file_length (old x) ≤ file_length (now n)) (sym c.as_str.ensures) (grown_long g.S.Store names c.args.store.now c.loop-place.store inv.grows told x)) was torn)
          inv.stops c.append.ensures.change;
      grows = one_grown g.S.Store names c.args.store.now c.loop-place.store c.append.new.self x c.as_str.result.now _ c.as_str.ensures among inv.grows c.in-Ok.ensures.written c.append.ensures.change.beside;
      laid = λ told. laid_more names sizes c.args.bytes.now at c.loop-place.at (get_or sizes at 0) x old now (g.S.Store.seen c.append.new.self) (split_at names at x c.index-names-place.is c.loop-place-test.true)
          (drop_more sizes at 0 within) (inv.laid told)
          (ap (g.S.Store.seen c.append.new.self) (sym c.as_str.ensures) ∙ c.in-Ok.ensures.written told ∙ ap₂ (λ n b. Some (bytes_of (now n) ++ b)) c.as_str.ensures (ap (λ k. take k (drop c.loop-place.at c.args.bytes.now)) size))
          (subst (λ n. Beside n now (g.S.Store.seen c.append.new.self)) c.as_str.ensures (c.append.ensures.change.beside told));
      left = (let more = size_left sizes at within in omega (arith, more, inv.left));
      same = c.in-Ok.ensures.cause.same (λ is. absurd cc) ∙ inv.same;
    }
