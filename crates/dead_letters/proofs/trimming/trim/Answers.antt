use Rattle.std.proofs.Common.{◌≤◌, inl, inr, ◌∙◌, sym, subst}
use Rattle.io_traits.specs.Reads.{file_length}
use Rattle.io_traits.proofs.TailRuns.{on_ok_so}
use Rattle.dead_letters.proofs.Cutting.{removing, cutting, is_cut}
use Rattle.dead_letters.proofs.trimming.trim.Goals as goal

pub returns-in_err-remove_each-clause-any_moment : goal.returns-in_err-remove_each-clause-any_moment
returns-in_err-remove_each-clause-any_moment g c = λ rests.
    removing g.S.Store g.met.S.Store.images_tell c.args.gone.now c.args.last.now c.args.length c.requires.apart c.args.store.now rests c.remove_each.new.store c.remove_each.ensures.any_moment

pub returns-in_err-remove_each-clause-beside : goal.returns-in_err-remove_each-clause-beside
returns-in_err-remove_each-clause-beside g c = λ told name other. c.remove_each.ensures.beside told name (λ has. other (inl has))

pub returns-clause-any_moment : goal.returns-clause-any_moment
returns-clause-any_moment g c = λ rests.
    cutting g.S.Store g.met.S.Store.images_tell c.args.gone.now c.args.last.now c.args.length c.requires.apart c.args.store.now rests c.remove_each.new.store c.remove_each.ensures.any_moment c.remove_each.ensures.beside
    c.cut_settled.new.store c.cut_settled.ensures.any_moment

pub returns-clause-beside : goal.returns-clause-beside
returns-clause-beside g c = λ told name other. c.cut_settled.ensures.beside told name (λ is. other (inr is)) ∙ c.remove_each.ensures.beside told name (λ has. other (inl has))

pub cut_settled-requires : goal.cut_settled-requires
cut_settled-requires g c = λ told. subst (λ o. c.args.length ≤ file_length o) (sym (c.remove_each.ensures.beside told c.args.last.now c.requires.apart)) (c.requires.long told)

pub returns-clause-settled : goal.returns-clause-settled
returns-clause-settled g c = on_ok_so c.cut_settled.result c.cut_settled.ensures.settled (λ settled. settled.rests)

pub returns-clause-cut : goal.returns-clause-cut
returns-clause-cut g c = on_ok_so c.cut_settled.result c.cut_settled.ensures.settled (λ settled told.
    is_cut c.args.gone.now c.args.last.now c.args.length (g.S.Store.seen c.args.store.now) (g.S.Store.seen c.remove_each.new.store) (g.S.Store.seen c.cut_settled.new.store) c.requires.apart (c.in_ok-remove_each.ensures.gone told)
    (c.remove_each.ensures.beside told) (c.cut_settled.ensures.beside told) (settled.reads told))
