use Rattle.std.proofs.Common.{inl, refl}
use Rattle.io_traits.specs.Moments.{LeavesBeside}
use Rattle.io_traits.proofs.Moments.{started}
use Rattle.line_inputs.specs.Positions.{IsOfThese}
use Rattle.line_inputs.specs.Sources.{files_of}
use Rattle.line_inputs.proofs.source.InputSource.assure.Goals as goal

pub returns-in-Stdin-clause-any_moment : goal.returns-in-Stdin-clause-any_moment
returns-in-Stdin-clause-any_moment g c =
    started g.S.Store c.args.store.now (LeavesBeside g.S.Store (IsOfThese (files_of c.args.self.now)) c.args.store.now) (λ i left. (i, inl left, λ name other. refl))

pub returns-in-Generated-clause-any_moment : goal.returns-in-Generated-clause-any_moment
returns-in-Generated-clause-any_moment g c =
    started g.S.Store c.args.store.now (LeavesBeside g.S.Store (IsOfThese (files_of c.args.self.now)) c.args.store.now) (λ i left. (i, inl left, λ name other. refl))

pub returns-in-Connections-clause-any_moment : goal.returns-in-Connections-clause-any_moment
returns-in-Connections-clause-any_moment g c =
    started g.S.Store c.args.store.now (LeavesBeside g.S.Store (IsOfThese (files_of c.args.self.now)) c.args.store.now) (λ i left. (i, inl left, λ name other. refl))
