use Rattle.std.proofs.Common.{◌≡◌, ◌∷◌, List, [], IsTrue, OnOk, refl, sym, subst}
use Rattle.std.proofs.lemmas.Bool.{cond-true, cond-false}
use Rattle.io_traits.specs.Moments.{EachMoment}
use Rattle.queue_files.specs.Writes.{Write, write_of, due_of, MayLeave, Wrote}
use Rattle.queue_files.proofs.WriteLemmas.{left_none, left_one, wrote_one}
use Rattle.queue_files.proofs.OtherFiles.{others_stay, others_changed}
use Rattle.queue_files.proofs.marking.write_mark.Goals as goal

pub returns-then-mark-clause-images : goal.returns-then-mark-clause-images
returns-then-mark-clause-images g c =
    let m = c.args.mark.now in
    let due : due_of m ≡ write_of m ∷ [] = cond-true m.due (write_of m ∷ []) [] c.if-mark.true in
    subst (λ (ws : List Write). EachMoment g.S.Store c.args.store.now c.write_slot.new.store (MayLeave g.S.Store c.args.store.now ws)) (sym due)
    (left_one g.S.Store (write_of m) c.as_str.result.now c.args.store.now c.write_slot.new.store c.as_str.ensures c.write_slot.ensures.change.time c.write_slot.ensures.change.images)

pub returns-then-mark-clause-wrote : goal.returns-then-mark-clause-wrote
returns-then-mark-clause-wrote g c =
    let m = c.args.mark.now in
    let due : due_of m ≡ write_of m ∷ [] = cond-true m.due (write_of m ∷ []) [] c.if-mark.true in
    subst (λ (ws : List Write). OnOk c.write_slot.result (IsTrue g.S.Store.tells → Wrote ws (g.S.Store.seen c.args.store.now) (g.S.Store.seen c.write_slot.new.store))) (sym due)
    (wrote_one c.write_slot.result (IsTrue g.S.Store.tells) (write_of m) c.as_str.result.now (g.S.Store.seen c.args.store.now) (g.S.Store.seen c.write_slot.new.store) c.as_str.ensures c.write_slot.ensures.written
    c.write_slot.ensures.change.beside)

pub returns-else-mark-clause-images : goal.returns-else-mark-clause-images
returns-else-mark-clause-images g c =
    let m = c.args.mark.now in
    let none : due_of m ≡ [] = cond-false m.due (write_of m ∷ []) [] c.if-mark.false in
    subst (λ (ws : List Write). EachMoment g.S.Store c.args.store.now c.args.store.now (MayLeave g.S.Store c.args.store.now ws)) (sym none) (left_none g.S.Store c.args.store.now)

pub returns-then-mark-clause-beside : goal.returns-then-mark-clause-beside
returns-then-mark-clause-beside g c =
    let file = c.args.mark.now.file in
    others_changed g.S.Store g.met.S.Store.images_tell (λ n. n ≡ file) c.args.store.now c.write_slot.new.store file c.as_str.result.now _ c.as_str.ensures refl c.write_slot.ensures.change

pub returns-else-mark-clause-beside : goal.returns-else-mark-clause-beside
returns-else-mark-clause-beside g c = others_stay g.S.Store g.met.S.Store.images_tell (λ n. n ≡ c.args.mark.now.file) c.args.store.now
