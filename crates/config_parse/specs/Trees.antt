-- The machine with the tree that it makes.
use Rattle.std.specs.Prelude.{ℕ, zero, suc, List, [], ◌∷◌, ◌++◌, length, Option, Some, None, Result, Ok, Err}
use Rattle.config_lex.specs.declared.token.Token.{Token}
use Rattle.config_tree.specs.declared.tree.Config.{Config}
use Rattle.config_tree.specs.Joining.{empty}
use Rattle.config_parse.specs.Symbols as y
use Rattle.config_parse.specs.Verdicts.{Verdict}
use Rattle.config_parse.specs.Verdicts as is
use Rattle.config_parse.specs.Machine.{Stack, Sems, Move, refuses, stays, opens, shuts, next, blank, rise}

abbrev pub front : (now k : Stack) → Sems (now ++ k) → Sems now
front [] k p = tt
front (x ∷ now) k p = (p.0, front now k p.1)

abbrev pub back : (now k : Stack) → Sems (now ++ k) → Sems k
back [] k p = p
back (x ∷ now) k p = back now k p.1

-- what is made, or the fault
abbrev pub Made : Type 0 → Type 0
Made R = Result R Verdict

abbrev pub Going : Type 0 → Type 0
Going R = ℕ → (j : Stack) → (Sems j → R) → Made R

module _ {R : Type 0} where
  abbrev pub act_with : {X : Type 0} → Move X → Option X → (ℕ → ℕ) → ℕ → ℕ → (k : Stack) → (X × Sems k → R) → Going R → (ℕ → (Sems k → R) → Made R) → Made R
  act_with (stays now made) b up left d k f on pass = on d (now ++ k) (λ p. f (made (front now k p), back now k p))
  act_with (opens now made) b up left zero k f on pass = Err (is.Deep left)
  act_with (opens now made) b up left (suc d) k f on pass = on d (now ++ k) (λ p. f (made (front now k p), back now k p))
  act_with (shuts v) b up left d k f on pass = on (up d) k (λ p. f (v, p))
  act_with refuses None up left d k f on pass = Err (is.Syntax left)
  act_with refuses (Some v) up left d k f on pass = pass (up d) (λ p. f (v, p))

  abbrev pub step_with : ℕ → ℕ → (k : Stack) → (Sems k → R) → Token → Going R → Made R
  step_with left d [] f z on = Err (is.Syntax left)
  step_with left d (x ∷ k) f z on = act_with (next x z) (blank x) (rise x) left d k f on (λ e g. step_with left e k g z on)

  abbrev pub end_blank : {X : Type 0} → Option X → (X → Made R) → Made R
  end_blank None f = Err (is.Syntax 0)
  end_blank (Some v) f = f v

  abbrev pub end_with : (k : Stack) → (Sems k → R) → Made R
  end_with [] f = Ok (f tt)
  end_with (x ∷ k) f = end_blank (blank x) (λ v. end_with k (λ p. f (v, p)))

  abbrev pub run_with : ℕ → (k : Stack) → (Sems k → R) → List Token → Made R
  run_with d k f [] = end_with k f
  run_with d k f (z ∷ ts) = step_with (suc (length ts)) d k f z (λ e j g. run_with e j g ts)

-- the configuration that a list of tokens is, in so many levels, or its fault
abbrev pub made : ℕ → List Token → Made Config
made levels ts = run_with levels (y.Sections ∷ []) (λ p. p.0 empty) ts
