-- Which conditions have patterns.
use Rattle.std.proofs.Common.{◌≡◌, ℕ, suc, length, List, [], ◌∷◌, ◌++◌, refl, sym, ap, ap₂, ◌∙◌, Bool, true, false, ◌&&◌, if◌then◌else◌, Ok, Err, codes}
use Rattle.std.specs.List.{list_all}
use Rattle.condition_eval.specs.Made.{AreReadFrom, FirstIsRefused, texts}
use Rattle.config_tree.specs.declared.fault.FromFault.{FromFault}
use Rattle.config_tree.specs.declared.fault.FromFault.TheVariants as from
use Rattle.config_tree.specs.declared.fault.SettingFault.{SettingFault}
use Rattle.config_tree.specs.declared.fault.SettingFault.TheVariants as fault
use Rattle.config_tree.specs.declared.tree.Condition.{Condition}
use Rattle.filter_settings.specs.Settings.{Refuses, with_made}
use Rattle.pattern_box.proofs.Written.{of_pattern}
use Rattle.pattern_box.specs.Patterns.{Expression, is_pattern}
use Rattle.pattern_box.specs.declared.fault.PatternFault.TheVariants.{BadPattern}
use Rattle.built_plugins.specs.Conditions.{compiled, has_patterns, patterns_read}
use Rattle.built_plugins.specs.declared.condition.NamedCondition.{NamedCondition}

all_patterns : (ss : List (List ℕ)) (ps : List Expression) → AreReadFrom ss ps → list_all is_pattern ss ≡ true
all_patterns [] [] all = refl
all_patterns [] (p ∷ ps) all = elim all [ ]
all_patterns (s ∷ ss) [] all = elim all [ ]
all_patterns (s ∷ ss) (p ∷ ps) all = ap₂ (λ b c. b && c) (of_pattern s p all.0) (all_patterns ss ps all.1)

one_refused : (before : List (List ℕ)) (s : List ℕ) (behind : List (List ℕ)) → is_pattern s ≡ false → list_all is_pattern (before ++ s ∷ behind) ≡ false
one_refused [] s behind is = ap (λ b. b && list_all is_pattern behind) is
one_refused (x ∷ before) s behind is = by (is_pattern x) (one_refused before s behind is)
  where
    by : (b : Bool) → list_all is_pattern (before ++ s ∷ behind) ≡ false → (b && list_all is_pattern (before ++ s ∷ behind)) ≡ false
    by true rest = rest
    by false rest = refl

abbrev refusal : SettingFault
refusal = fault.BadPattern (codes "condition")

pub all_read : (c : Condition) (ps : List Expression) → AreReadFrom (texts c) ps → patterns_read c ≡ Ok tt
all_read c ps all = ap (λ t. if t then Ok tt else Err refusal) (all_patterns (texts c) ps all)

pub one_is_none : (c : Condition) → FirstIsRefused BadPattern (texts c) → patterns_read c ≡ Err refusal
one_is_none c refused = ap (λ t. if t then Ok tt else Err refusal) (ap (list_all is_pattern) refused.whole ∙ one_refused refused.before refused.text refused.behind refused.refused)

choose : (c : NamedCondition) (b : Bool) → has_patterns c ≡ b → compiled c ≡ (if b then Ok c else Err refusal)
choose c b is = ap (λ t. if t then Ok c else Err refusal) is

-- what is said of the patterns is said of the condition
same : (c : NamedCondition) (b : Bool) → has_patterns c ≡ b → compiled c ≡ with_made (λ u. c) (patterns_read c.condition)
same c true is = choose c true is ∙ ap (λ t. with_made (λ (u : Unit {0}). c) (if t then Ok tt else Err refusal)) (sym is)
same c false is = choose c false is ∙ ap (λ t. with_made (λ (u : Unit {0}). c) (if t then Ok tt else Err refusal)) (sym is)

pub is_compiled : (c : NamedCondition) → patterns_read c.condition ≡ Ok tt → compiled c ≡ Ok c
is_compiled c said = same c (has_patterns c) refl ∙ ap (with_made (λ u. c)) said

pub is_refused : (c : NamedCondition) (told : FromFault) → Refuses told (patterns_read c.condition) → Refuses told (compiled c)
is_refused c (from.Bad b) said = same c (has_patterns c) refl ∙ ap (with_made (λ u. c)) said
is_refused c from.Memory said = tt

pub as_many : (ss : List (List ℕ)) (ps : List Expression) → AreReadFrom ss ps → length ps ≡ length ss
as_many [] [] all = refl
as_many [] (p ∷ ps) all = elim all [ ]
as_many (s ∷ ss) [] all = elim all [ ]
as_many (s ∷ ss) (p ∷ ps) all = ap suc (as_many ss ps all.1)
