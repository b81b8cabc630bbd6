use Rattle.std.proofs.Common.{◌∙◌, refl}
use Rattle.dead_letter_reader.proofs.Working.{in_order, runs_sending, steps_ended, steps_sending}
use Rattle.dead_letter_reader.proofs.laws.letters_are_sent_in_order.Goals as goal

pub returns-clause-in_order : goal.returns-clause-in_order
returns-clause-in_order c = λ start w results begins runs. let on = runs_sending start w results begins runs in (on.1, in_order w on.0)

pub returns-clause-ended : goal.returns-clause-ended
returns-clause-ended c = λ start w v results begins runs one.
    let on = runs_sending start w results begins runs in
    ((steps_sending w v _ on.0 one).1 ∙ on.1, steps_ended w v _ on.0 one refl)
