-- A fault that a call hands on.
use Rattle.std.proofs.Common.{◌≡◌, sym, ap, subst, ◌∙◌, Result, Err}
use Rattle.std.specs.Result.{IsErrAnd}
use Rattle.std.proofs.lemmas.Result.{err_from_is_err_and}
use Rattle.config_tree.specs.declared.fault.FromFault.{FromFault}
use Rattle.filter_settings.specs.Settings as settings
use Rattle.graph_checks.specs.Answers.{Checked, Refuses, Gives, Leaves, Passes}
use Rattle.graph_checks.specs.declared.fault.GraphFault.{GraphFault}

pub leaves_handed : {A : Type 0} (r : Result (Unit {0}) GraphFault) (lost : GraphFault) (said : Checked A) (new : A) → IsErrAnd r (λ e. e ≡ lost) → Refuses lost said → Leaves r said new
leaves_handed r lost said new err h = let p = err_from_is_err_and r err in subst (λ x. Leaves x said new) (sym (p.1 ∙ ap Err p.2)) h

pub gives_handed : {A : Type 0} (r : Result A GraphFault) (lost : GraphFault) (said : Checked A) → IsErrAnd r (λ e. e ≡ lost) → Refuses lost said → Gives r said
gives_handed r lost said err h = let p = err_from_is_err_and r err in subst (λ x. Gives x said) (sym (p.1 ∙ ap Err p.2)) h

pub passes_handed : {A : Type 0} (r : Result A GraphFault) (lost : GraphFault) (said : Checked (Unit {0})) → IsErrAnd r (λ e. e ≡ lost) → Refuses lost said → Passes r said
passes_handed r lost said err h = let p = err_from_is_err_and r err in subst (λ x. Passes x said) (sym (p.1 ∙ ap Err p.2)) h

pub made_handed : {A : Type 0} (r : Result A FromFault) (lost : FromFault) (said : settings.Made A) → IsErrAnd r (λ e. e ≡ lost) → settings.Refuses lost said → settings.Gives r said
made_handed r lost said err h = let p = err_from_is_err_and r err in subst (λ x. settings.Gives x said) (sym (p.1 ∙ ap Err p.2)) h
