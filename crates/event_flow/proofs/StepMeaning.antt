-- Steps laid one behind the other mean what the parts mean that they were laid for.
use Rattle.std.proofs.Common.{◌≡◌, ℕ, suc, ◌+◌, List, [], ◌∷◌, ◌++◌, length, refl, ap, ◌∙◌, append_assoc, append-nil, add-one, subst, sym}
use Rattle.event_tree.specs.Events.{Ev}
use Rattle.event_flow.specs.Flows.{Goes, led}
use Rattle.event_flow.specs.Laying.{behind_block, closing}
use Rattle.event_flow.specs.Steps.{Table, Mean, acted, from}
use Rattle.event_flow.specs.declared.step.FlowStep.{FlowStep}
use Rattle.event_flow.specs.declared.step.FlowStep.TheVariants as s

module _ (table : Table) where
  passed_over : (ss rest : List FlowStep) (goes : Goes) (e : Ev) → from table (ss ++ rest) (length ss) goes e ≡ from table rest 0 goes e
  passed_over [] rest goes e = refl
  passed_over (x ∷ ss) rest goes e = passed_over ss rest goes e

  passed_next : (ss : List FlowStep) (x : FlowStep) (rest : List FlowStep) (goes : Goes) (e : Ev) → from table (ss ++ x ∷ rest) (suc (length ss)) goes e ≡ from table rest 0 goes e
  passed_next [] x rest goes e = refl
  passed_next (y ∷ ss) x rest goes e = passed_next ss x rest goes e

  passed_one : (ss : List FlowStep) (x : FlowStep) (rest : List FlowStep) (goes : Goes) (e : Ev) → from table (ss ++ x ∷ rest) (length ss + 1) goes e ≡ from table rest 0 goes e
  passed_one ss x rest goes e = rw add-one (passed_next ss x rest goes e)

  pub mean_nothing : Mean table [] (λ goes. goes)
  mean_nothing = record { goes_on = λ rest goes e. refl }

  pub mean_plugin : (n : ℕ) → Mean table (s.Plugin n ∷ []) (λ goes e. acted (table.acts n e) goes e)
  mean_plugin n = record { goes_on = λ rest goes e. refl }

  pub mean_behind : (ss ts : List FlowStep) (f g : Goes → Goes) → Mean table ss f → Mean table ts g → Mean table (ss ++ ts) (λ goes. f (g goes))
  mean_behind ss ts f g first second = record {
    goes_on = λ rest goes e. ap (λ us. from table us 0 goes e) (append_assoc ss ts rest) ∙ first.goes_on (ts ++ rest) goes e ∙ ap (λ h. f h e) (λ i x. second.goes_on rest goes x i);
  }

  -- a block with its condition, and the arms behind it
  mean_arm : (n : ℕ) (ss ts : List FlowStep) (f g : Goes → Goes) → Mean table ss f → Mean table ts g → Mean table (s.Test n (length ss + 1) ∷ ss ++ s.Skip (length ts) ∷ ts) (λ goes e. led (table.ids n) (table.says n e) (f goes) (g goes) e)
  mean_arm n ss ts f g first second = record {
    goes_on = λ rest goes e.
        let taken : (x : Ev) → from table ((ss ++ s.Skip (length ts) ∷ ts) ++ rest) 0 goes x ≡ f (from table rest 0 goes) x
        = λ x. ap (λ us. from table us 0 goes x) (append_assoc ss (s.Skip (length ts) ∷ ts) rest) ∙ first.goes_on (s.Skip (length ts) ∷ ts ++ rest) goes x ∙ ap (λ h. f h x) (λ i y. passed_over ts rest goes y i) in
        let passed : (x : Ev) → from table ((ss ++ s.Skip (length ts) ∷ ts) ++ rest) (length ss + 1) goes x ≡ g (from table rest 0 goes) x
        = λ x. ap (λ us. from table us (length ss + 1) goes x) (append_assoc ss (s.Skip (length ts) ∷ ts) rest) ∙ passed_one ss (s.Skip (length ts)) (ts ++ rest) goes x ∙ second.goes_on rest goes x in
        λ i. led (table.ids n) (table.says n e) (λ x. taken x i) (λ x. passed x i) e;
  }

  -- the same where its end passes over the arms behind it, if there are any
  pub mean_block : (n : ℕ) (ss ts : List FlowStep) (f g : Goes → Goes) → Mean table ss f → Mean table ts g → Mean table (s.Test n (behind_block (length ss) ts) ∷ ss ++ closing ts) (λ goes e. led (table.ids n) (table.says n e) (f goes) (g goes) e)
  mean_block n ss [] f g first second = record {
    goes_on = λ rest goes e.
        let taken : (x : Ev) → from table ((ss ++ []) ++ rest) 0 goes x ≡ f (from table rest 0 goes) x
        = λ x. ap (λ us. from table (us ++ rest) 0 goes x) (append-nil ss) ∙ first.goes_on rest goes x in
        let passed : (x : Ev) → from table ((ss ++ []) ++ rest) (length ss) goes x ≡ g (from table rest 0 goes) x
        = λ x. ap (λ us. from table (us ++ rest) (length ss) goes x) (append-nil ss) ∙ passed_over ss rest goes x ∙ second.goes_on rest goes x in
        λ i. led (table.ids n) (table.says n e) (λ x. taken x i) (λ x. passed x i) e;
  }
  mean_block n ss (x ∷ ts) f g first second = mean_arm n ss (x ∷ ts) f g first second

  -- a block that each event takes, and steps behind it that none meets
  mean_else : (ss ts : List FlowStep) (f : Goes → Goes) → Mean table ss f → Mean table (ss ++ s.Skip (length ts) ∷ ts) f
  mean_else ss ts f first = record {
    goes_on = λ rest goes e. ap (λ us. from table us 0 goes e) (append_assoc ss (s.Skip (length ts) ∷ ts) rest) ∙ first.goes_on (s.Skip (length ts) ∷ ts ++ rest) goes e ∙ ap (λ h. f h e) (λ i x. passed_over ts rest goes x i);
  }

  pub mean_last : (ss ts : List FlowStep) (f : Goes → Goes) → Mean table ss f → Mean table (ss ++ closing ts) f
  mean_last ss [] f first = subst (λ us. Mean table us f) (sym (append-nil ss)) first
  mean_last ss (x ∷ ts) f first = mean_else ss (x ∷ ts) f first
