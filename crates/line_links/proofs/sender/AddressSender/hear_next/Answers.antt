use Rattle.std.proofs.Common.{◌++◌, sym, ap, ap₂, ◌∙◌}
use Rattle.std.proofs.lemmas.List.{append-nil}
use Rattle.pipeline_bus.specs.Ends.{sending}
use Rattle.line_links.specs.Answers.{if_refused, refused_of}
use Rattle.line_links.proofs.Sending.{heard_one}
use Rattle.line_links.proofs.sender.AddressSender.hear_next.Goals as goal

pub invariant_of-self-in-Assured-clause-refused_is : goal.invariant_of-self-in-Assured-clause-refused_is
invariant_of-self-in-Assured-clause-refused_is c =
    c.args.self.now.refused_is ∙ sym (append-nil (refused_of (sending c.args.self.now.end).heard))
    ∙ ap (λ h. refused_of (sending c.args.self.now.end).heard ++ if_refused h c.in-Some.answer.number) (sym c.in-Assured.is)
    ∙ sym (heard_one (sending c.args.self.now.end) (sending c.answer.new.self) c.in-Some.answer c.in-Some.ensures.heard c.args.self.now.in_turn c.in-Some.ensures.number).refused

pub invariant_of-self-in-NotListening-clause-refused_is : goal.invariant_of-self-in-NotListening-clause-refused_is
invariant_of-self-in-NotListening-clause-refused_is c =
    c.push_reserved.ensures.items
    ∙ ap₂ (λ r h. r ++ if_refused h c.in-Some.answer.number) c.args.self.now.refused_is (sym c.in-NotListening.is)
    ∙ sym (heard_one (sending c.args.self.now.end) (sending c.answer.new.self) c.in-Some.answer c.in-Some.ensures.heard c.args.self.now.in_turn c.in-Some.ensures.number).refused
