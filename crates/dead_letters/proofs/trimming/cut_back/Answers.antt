use Rattle.std.proofs.Common.{◌≡◌, ◌≤◌, ◌∙◌, IsTrue, sym, subst, arith}
use Rattle.std.specs.Prelude.{Contains}
use Rattle.io_traits.specs.Reads.{file_length}
use Rattle.io_traits.proofs.Looking.{nothing_then}
use Rattle.dead_letters.specs.Trimming.{IsCut, sizes_cut}
use Rattle.dead_letters.proofs.OpeningRun.{looked, beside_looked, apart, long, cut_run, opened}
use Rattle.dead_letters.proofs.trimming.cut_back.Goals as goal

pub returns-in_err-excess-clause-any_moment : goal.returns-in_err-excess-clause-any_moment
returns-in_err-excess-clause-any_moment g c = looked g.S.Store g.met.S.Store.images_tell c.args.folder.now c.args.store.now c.excess_in.new.store c.requires.rests c.excess_in.ensures.same

pub returns-in_err-excess-clause-beside : goal.returns-in_err-excess-clause-beside
returns-in_err-excess-clause-beside g c = beside_looked g.S.Store g.met.S.Store.images_tell c.args.folder.now c.args.store.now c.excess_in.new.store c.excess_in.ensures.same

pub returns-in_err-sizes-clause-any_moment : goal.returns-in_err-sizes-clause-any_moment
returns-in_err-sizes-clause-any_moment g c =
    let nothing = nothing_then g.S.Store c.args.store.now c.excess_in.new.store c.sizes_of.new.store c.excess_in.ensures.same c.sizes_of.ensures.same in
    looked g.S.Store g.met.S.Store.images_tell c.args.folder.now c.args.store.now c.sizes_of.new.store c.requires.rests nothing

pub returns-in_err-sizes-clause-beside : goal.returns-in_err-sizes-clause-beside
returns-in_err-sizes-clause-beside g c =
    let nothing = nothing_then g.S.Store c.args.store.now c.excess_in.new.store c.sizes_of.new.store c.excess_in.ensures.same c.sizes_of.ensures.same in
    beside_looked g.S.Store g.met.S.Store.images_tell c.args.folder.now c.args.store.now c.sizes_of.new.store nothing

pub trim-requires-clause-apart : goal.trim-requires-clause-apart
trim-requires-clause-apart g c =
    let s = c.args.segments in
    let mid = c.sizes_of.new.store in
    let e = c.in_ok-excess.excess in
    let x = c.in_ok-excess.ensures.excess in
    let nothing = nothing_then g.S.Store c.args.store.now c.excess_in.new.store mid c.excess_in.ensures.same c.sizes_of.ensures.same in
    let none = apart g.S.Store g.met.S.Store.images_tell c.args.folder.now c.args.turn (omega arith) s (omega arith) c.requires.order c.args.store.now c.requires.rests c.requires.counted mid nothing e x in
    subst (λ l. Contains l c.as_str.result.now → ⊥) (sym c.deref.ensures.value) (subst (λ n. Contains e.gone.items n → ⊥) (sym (c.as_str.ensures ∙ x.last)) none)

pub trim-requires-clause-long : goal.trim-requires-clause-long
trim-requires-clause-long g c = λ told.
    let s = c.args.segments in
    let mid = c.sizes_of.new.store in
    let e = c.in_ok-excess.excess in
    let x = c.in_ok-excess.ensures.excess in
    let nothing = nothing_then g.S.Store c.args.store.now c.excess_in.new.store mid c.excess_in.ensures.same c.sizes_of.ensures.same in
    subst (λ n. s.length ≤ file_length (g.S.Store.seen mid n)) (sym (c.as_str.ensures ∙ x.last))
    (long g.S.Store g.met.S.Store.images_tell c.args.folder.now c.args.turn (omega arith) s (omega arith) c.requires.order c.args.store.now c.requires.rests c.requires.counted mid nothing e x told)

pub returns-in_err-trim-clause-any_moment : goal.returns-in_err-trim-clause-any_moment
returns-in_err-trim-clause-any_moment g c =
    let nothing = nothing_then g.S.Store c.args.store.now c.excess_in.new.store c.sizes_of.new.store c.excess_in.ensures.same c.sizes_of.ensures.same in
    (cut_run g.S.Store g.met.S.Store.images_tell c.args.folder.now c.args.turn (omega arith) c.args.segments (omega arith) c.requires.order c.args.store.now c.requires.rests c.requires.counted c.sizes_of.new.store nothing
    c.in_ok-excess.excess c.in_ok-excess.ensures.excess c.trim.new.store c.deref.result.now c.as_str.result.now c.deref.ensures.value c.as_str.ensures c.trim.ensures.any_moment c.trim.ensures.beside).0

pub returns-in_err-trim-clause-beside : goal.returns-in_err-trim-clause-beside
returns-in_err-trim-clause-beside g c =
    let nothing = nothing_then g.S.Store c.args.store.now c.excess_in.new.store c.sizes_of.new.store c.excess_in.ensures.same c.sizes_of.ensures.same in
    (cut_run g.S.Store g.met.S.Store.images_tell c.args.folder.now c.args.turn (omega arith) c.args.segments (omega arith) c.requires.order c.args.store.now c.requires.rests c.requires.counted c.sizes_of.new.store nothing
    c.in_ok-excess.excess c.in_ok-excess.ensures.excess c.trim.new.store c.deref.result.now c.as_str.result.now c.deref.ensures.value c.as_str.ensures c.trim.ensures.any_moment c.trim.ensures.beside).1

pub returns-clause-any_moment : goal.returns-clause-any_moment
returns-clause-any_moment g c =
    let nothing = nothing_then g.S.Store c.args.store.now c.excess_in.new.store c.sizes_of.new.store c.excess_in.ensures.same c.sizes_of.ensures.same in
    (cut_run g.S.Store g.met.S.Store.images_tell c.args.folder.now c.args.turn (omega arith) c.args.segments (omega arith) c.requires.order c.args.store.now c.requires.rests c.requires.counted c.sizes_of.new.store nothing
    c.in_ok-excess.excess c.in_ok-excess.ensures.excess c.trim.new.store c.deref.result.now c.as_str.result.now c.deref.ensures.value c.as_str.ensures c.trim.ensures.any_moment c.trim.ensures.beside).0

pub returns-clause-beside : goal.returns-clause-beside
returns-clause-beside g c =
    let nothing = nothing_then g.S.Store c.args.store.now c.excess_in.new.store c.sizes_of.new.store c.excess_in.ensures.same c.sizes_of.ensures.same in
    (cut_run g.S.Store g.met.S.Store.images_tell c.args.folder.now c.args.turn (omega arith) c.args.segments (omega arith) c.requires.order c.args.store.now c.requires.rests c.requires.counted c.sizes_of.new.store nothing
    c.in_ok-excess.excess c.in_ok-excess.ensures.excess c.trim.new.store c.deref.result.now c.as_str.result.now c.deref.ensures.value c.as_str.ensures c.trim.ensures.any_moment c.trim.ensures.beside).1

pub returns-clause-opened : goal.returns-clause-opened
returns-clause-opened g c =
    let s = c.args.segments in
    let mid = c.sizes_of.new.store in
    let new = c.trim.new.store in
    let e = c.in_ok-excess.excess in
    let x = c.in_ok-excess.ensures.excess in
    let nothing = nothing_then g.S.Store c.args.store.now c.excess_in.new.store mid c.excess_in.ensures.same c.sizes_of.ensures.same in
    let cut : IsTrue g.S.Store.tells → IsCut e.gone.items c.as_str.result.now s.length (g.S.Store.seen mid) (g.S.Store.seen new) = λ told.
    subst (λ l. IsCut l c.as_str.result.now s.length (g.S.Store.seen mid) (g.S.Store.seen new)) c.deref.ensures.value (c.in_ok-trim.ensures.cut told) in
    let cut_last = subst (λ n. IsTrue g.S.Store.tells → IsCut e.gone.items n s.length (g.S.Store.seen mid) (g.S.Store.seen new)) (c.as_str.ensures ∙ x.last) cut in
    let are = λ (told : IsTrue g.S.Store.tells). subst (λ seen. c.in_ok-sizes.sizes ≡ sizes_cut c.args.folder.now seen s) (c.excess_in.ensures.same.reads told) (c.in_ok-sizes.ensures.sizes told) in
    opened g.S.Store g.met.S.Store.images_tell c.args.folder.now c.args.turn (omega arith) s (omega arith) c.requires.order c.args.store.now c.requires.rests c.requires.counted mid nothing e x new c.in_ok-trim.ensures.settled cut_last
    c.in_ok-sizes.sizes c.in_ok-sizes.ensures.count are
