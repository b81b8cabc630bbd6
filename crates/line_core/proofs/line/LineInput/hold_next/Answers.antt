use Rattle.std.proofs.Common.{◌≡◌, IfNone, List, [], ◌∷◌, ◌++◌, sym, ◌∙◌, subst}
use Rattle.line_inputs.specs.Inputs.{coming}
use Rattle.line_core.proofs.line.LineInput.hold_next.Goals as goal

-- nothing is to come behind what there is not
rest_none : {X : Type 0} (given rest : List X) → given ++ rest ≡ [] → rest ≡ []
rest_none [] rest none = none
rest_none (x ∷ given) rest none = absurd cc

pub returns-clause-none : goal.returns-clause-none
returns-clause-none g c = λ none.
    let gave = c.next.ensures.gave in
    let came = subst (λ o. IfNone o (coming c.poll.new.self.open ≡ [])) none c.in_ok-self.ensures.gave.none in
    rest_none gave.given (coming c.next.new.self) (sym gave.events ∙ came)
