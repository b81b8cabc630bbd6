use Rattle.std.proofs.Common.{sym, subst, ◌∙◌}
use Rattle.io_traits.specs.Moments.{EachMoment}
use Rattle.line_inputs.specs.Positions.{LeavesReached}
use Rattle.line_inputs.proofs.Recording.{none_reached}
use Rattle.line_inputs.proofs.watched_file.WatchedFile.assure.Goals as goal

pub returns-in_default-clause-any_moment : goal.returns-in_default-clause-any_moment
returns-in_default-clause-any_moment g c =
    subst (λ place. EachMoment g.S.Store c.args.store.now c.args.store.now (LeavesReached g.S.Store place c.args.self.now.watched c.args.store.now)) (sym (sym c.reached.ensures ∙ c.in_default.is))
    (none_reached g.S.Store c.args.self.now.watched c.args.store.now c.requires)
