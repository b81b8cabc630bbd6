use Rattle.std.proofs.Common.{◌≡◌, ◌+◌, ◌-◌, ◌++◌, ◌∷◌, [], suc, length, map, sym, ap, ◌∙◌, subst, arith, append-nil, length-append}
use Rattle.io_traits.specs.Folders.{Content}
use Rattle.io_traits.proofs.Looking.{nothing_then}
use Rattle.dead_letters.specs.Found.{bytes_in}
use Rattle.dead_letters.specs.Ready.{files_from}
use Rattle.dead_letters.proofs.Turns.{one_measured}
use Rattle.dead_letters.proofs.trimming.sizes_from.Goals as goal

pub loop-place-preserved : goal.loop-place-preserved
loop-place-preserved g c =
    let inv = c.loop-place.invariant in
    let at = c.loop-place.place in
    let some : c.args.count - at ≡ suc (c.args.count - (at + 1)) = omega (arith, c.loop-place-test.true) in
    let next : c.args.first + (at + 1) ≡ suc (c.args.first + at) = omega arith in
    let old = g.S.Store.seen c.args.store.now in
    record {
      same = nothing_then g.S.Store c.args.store.now c.loop-place.store c.size_of_segment.new.store inv.same c.size_of_segment.ensures.same;
      faults = c.in-Ok.ensures.cause.same (λ is. absurd cc) ∙ inv.faults;
      many = ap length c.in-Ok-push.ensures.ok ∙ length-append c.loop-place.sizes (c.in-Ok.size ∷ []) ∙ ap (λ n. n + 1) inv.many;
      so_far = λ told. one_measured c.args.folder.now old (c.args.first + at) (c.args.count - at) (c.args.first + (at + 1)) (c.args.count - (at + 1)) c.loop-place.sizes c.push.new.self
          (map length (files_from c.args.folder.now old c.args.first c.args.count)) c.in-Ok.size some next c.in-Ok-push.ensures.ok
          (subst (λ (s : Content). c.in-Ok.size ≡ length (bytes_in c.args.folder.now s (c.args.first + at))) (inv.same.reads told) (c.in-Ok.ensures.size told)) (inv.so_far told);
    }

pub returns-clause-sizes : goal.returns-clause-sizes
returns-clause-sizes g c told =
    let none : c.args.count - c.loop-place.place ≡ 0 = omega (arith, c.loop-place-test.false) in
    let old = g.S.Store.seen c.args.store.now in
    sym (append-nil c.loop-place.sizes) ∙ sym (ap (λ k. c.loop-place.sizes ++ map length (files_from c.args.folder.now old (c.args.first + c.loop-place.place) k)) none) ∙ c.loop-place.invariant.so_far told
