use Rattle.std.proofs.Common.{◌≡◌, IsTrue, sym, ◌∙◌, subst}
use Rattle.io_traits.specs.Reads.{bytes_of, file_length}
use Rattle.io_traits.specs.Moments.{EachMoment}
use Rattle.slot_files.specs.Changes.{KeepsFirst, Alters}
use Rattle.slot_files.specs.Positions.{recorded_in}
use Rattle.slot_files.specs.PositionWrites.{OldOrNewPosition}
use Rattle.slot_files.specs.declared.recorded.Recorded.TheVariants as r
use Rattle.slot_files.proofs.OpeningRun.{cutting, beginning}
use Rattle.slot_files.proofs.opening.opened.Goals as goal

pub returns-in_err-position-in-Nothing-clause-any_moment : goal.returns-in_err-position-in-Nothing-clause-any_moment
returns-in_err-position-in-Nothing-clause-any_moment g c = λ differ.
    let recorded = λ (told : IsTrue g.S.Store.tells).
    subst (λ n. recorded_in (bytes_of (g.S.Store.seen c.args.store.now n)) ≡ r.Nothing) c.as_str.ensures (sym (c.in_ok-settle_and_read.ensures.recorded told) ∙ c.in-Nothing.is) in
    let run = subst (λ n. EachMoment g.S.Store c.settle_and_read.new.store c.begin.new.store
    (Alters g.S.Store c.args.slot (OldOrNewPosition 0 (file_length (g.S.Store.seen c.settle_and_read.new.store n))) c.settle_and_read.new.store)) c.as_str-in-Nothing.ensures
    (subst (λ n. EachMoment g.S.Store c.settle_and_read.new.store c.begin.new.store
    (Alters g.S.Store n (OldOrNewPosition 0 (file_length (g.S.Store.seen c.settle_and_read.new.store c.as_str-in-Nothing.result.now))) c.settle_and_read.new.store)) c.as_str-in-Nothing-2.ensures c.begin.ensures.any_moment) in
    beginning g.S.Store g.met.S.Store.images_tell c.args.path c.args.slot c.args.store.now c.settle_and_read.new.store differ c.settle_and_read.ensures.reads c.in_ok-settle_and_read.ensures.settled c.begin.new.store recorded c.settle_and_read.ensures.any_moment run

pub returns-in_ok-position-in-Nothing-clause-any_moment : goal.returns-in_ok-position-in-Nothing-clause-any_moment
returns-in_ok-position-in-Nothing-clause-any_moment g c = λ differ.
    let recorded = λ (told : IsTrue g.S.Store.tells).
    subst (λ n. recorded_in (bytes_of (g.S.Store.seen c.args.store.now n)) ≡ r.Nothing) c.as_str.ensures (sym (c.in_ok-settle_and_read.ensures.recorded told) ∙ c.in-Nothing.is) in
    let run = subst (λ n. EachMoment g.S.Store c.settle_and_read.new.store c.begin.new.store
    (Alters g.S.Store c.args.slot (OldOrNewPosition 0 (file_length (g.S.Store.seen c.settle_and_read.new.store n))) c.settle_and_read.new.store)) c.as_str-in-Nothing.ensures
    (subst (λ n. EachMoment g.S.Store c.settle_and_read.new.store c.begin.new.store
    (Alters g.S.Store n (OldOrNewPosition 0 (file_length (g.S.Store.seen c.settle_and_read.new.store c.as_str-in-Nothing.result.now))) c.settle_and_read.new.store)) c.as_str-in-Nothing-2.ensures c.begin.ensures.any_moment) in
    beginning g.S.Store g.met.S.Store.images_tell c.args.path c.args.slot c.args.store.now c.settle_and_read.new.store differ c.settle_and_read.ensures.reads c.in_ok-settle_and_read.ensures.settled c.begin.new.store recorded c.settle_and_read.ensures.any_moment run

pub returns-in_err-length-in-Position-clause-any_moment : goal.returns-in_err-length-in-Position-clause-any_moment
returns-in_err-length-in-Position-clause-any_moment g c = λ differ.
    let recorded = λ (told : IsTrue g.S.Store.tells).
    subst (λ n. recorded_in (bytes_of (g.S.Store.seen c.args.store.now n)) ≡ r.Position c.in-Position.turn c.in-Position.position) c.as_str.ensures (sym (c.in_ok-settle_and_read.ensures.recorded told) ∙ c.in-Position.is) in
    let run = subst (λ n. EachMoment g.S.Store c.settle_and_read.new.store c.cut_back.new.store
    (Alters g.S.Store n (KeepsFirst c.in-Position.position (g.S.Store.seen c.settle_and_read.new.store n)) c.settle_and_read.new.store)) c.as_str-in-Position.ensures c.cut_back.ensures.any_moment in
    cutting g.S.Store g.met.S.Store.images_tell c.args.path c.args.slot c.args.store.now c.settle_and_read.new.store differ c.settle_and_read.ensures.reads c.in_ok-settle_and_read.ensures.settled c.cut_back.new.store c.in-Position.turn c.in-Position.position recorded
    c.settle_and_read.ensures.any_moment run

pub returns-then-length-position-clause-any_moment : goal.returns-then-length-position-clause-any_moment
returns-then-length-position-clause-any_moment g c = λ differ.
    let recorded = λ (told : IsTrue g.S.Store.tells).
    subst (λ n. recorded_in (bytes_of (g.S.Store.seen c.args.store.now n)) ≡ r.Position c.in-Position.turn c.in-Position.position) c.as_str.ensures (sym (c.in_ok-settle_and_read.ensures.recorded told) ∙ c.in-Position.is) in
    let run = subst (λ n. EachMoment g.S.Store c.settle_and_read.new.store c.cut_back.new.store
    (Alters g.S.Store n (KeepsFirst c.in-Position.position (g.S.Store.seen c.settle_and_read.new.store n)) c.settle_and_read.new.store)) c.as_str-in-Position.ensures c.cut_back.ensures.any_moment in
    cutting g.S.Store g.met.S.Store.images_tell c.args.path c.args.slot c.args.store.now c.settle_and_read.new.store differ c.settle_and_read.ensures.reads c.in_ok-settle_and_read.ensures.settled c.cut_back.new.store c.in-Position.turn c.in-Position.position recorded
    c.settle_and_read.ensures.any_moment run

pub returns-else-length-position-clause-any_moment : goal.returns-else-length-position-clause-any_moment
returns-else-length-position-clause-any_moment g c = λ differ.
    let recorded = λ (told : IsTrue g.S.Store.tells).
    subst (λ n. recorded_in (bytes_of (g.S.Store.seen c.args.store.now n)) ≡ r.Position c.in-Position.turn c.in-Position.position) c.as_str.ensures (sym (c.in_ok-settle_and_read.ensures.recorded told) ∙ c.in-Position.is) in
    let run = subst (λ n. EachMoment g.S.Store c.settle_and_read.new.store c.cut_back.new.store
    (Alters g.S.Store n (KeepsFirst c.in-Position.position (g.S.Store.seen c.settle_and_read.new.store n)) c.settle_and_read.new.store)) c.as_str-in-Position.ensures c.cut_back.ensures.any_moment in
    cutting g.S.Store g.met.S.Store.images_tell c.args.path c.args.slot c.args.store.now c.settle_and_read.new.store differ c.settle_and_read.ensures.reads c.in_ok-settle_and_read.ensures.settled c.cut_back.new.store c.in-Position.turn c.in-Position.position recorded
    c.settle_and_read.ensures.any_moment run
