use Rattle.std.proofs.Common.{ℕ, Option, List, ap, subst}
use Rattle.slot_files.specs.Changes.{KeepsFirst}
use Rattle.slot_files.proofs.Altering.{keeps_same}
use Rattle.slot_files.proofs.LookedRuns.{looked_only, looked_then}
use Rattle.slot_files.proofs.opening.cut_back.Goals as goal

pub returns-in_err-length-clause-any_moment : goal.returns-in_err-length-clause-any_moment
returns-in_err-length-clause-any_moment g c =
    let file = g.S.Store.seen c.args.store.now c.args.path.now in
    looked_only g.S.Store g.met.S.Store.images_tell c.args.store.now c.length.new.self c.args.path.now (KeepsFirst c.args.position file) (keeps_same c.args.position file) c.length.ensures.same

pub returns-in_err-cut_settled-clause-any_moment : goal.returns-in_err-cut_settled-clause-any_moment
returns-in_err-cut_settled-clause-any_moment g c =
    let file = g.S.Store.seen c.args.store.now c.args.path.now in
    let n = c.args.position in
    looked_then g.S.Store g.met.S.Store.images_tell c.args.store.now c.length.new.self c.args.path.now (KeepsFirst n file) (keeps_same n file) c.in_ok-length.ensures.same
    c.cut_settled.new.store (KeepsFirst n (g.S.Store.seen c.length.new.self c.args.path.now)) c.cut_settled.ensures.any_moment
    (λ told f h differs. subst (λ o. KeepsFirst n o f h) (ap (λ (s : List ℕ → Option (List ℕ)). s c.args.path.now) (c.in_ok-length.ensures.same.reads told)) differs)

pub returns-clause-any_moment : goal.returns-clause-any_moment
returns-clause-any_moment g c =
    let file = g.S.Store.seen c.args.store.now c.args.path.now in
    let n = c.args.position in
    looked_then g.S.Store g.met.S.Store.images_tell c.args.store.now c.length.new.self c.args.path.now (KeepsFirst n file) (keeps_same n file) c.in_ok-length.ensures.same
    c.cut_settled.new.store (KeepsFirst n (g.S.Store.seen c.length.new.self c.args.path.now)) c.cut_settled.ensures.any_moment
    (λ told f h differs. subst (λ o. KeepsFirst n o f h) (ap (λ (s : List ℕ → Option (List ℕ)). s c.args.path.now) (c.in_ok-length.ensures.same.reads told)) differs)
