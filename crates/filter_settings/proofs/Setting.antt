-- One more setting, and a setting that stands.
use Rattle.std.proofs.Common.{◌≡◌, ℕ, ◌+◌, ◌<◌, ◌≤◌, List, [], ◌∷◌, length, drop, get_or, refl, sym, ap, ◌∙◌, Bool, true, false, if◌then◌else◌, Some, Ok}
use Rattle.std.specs.Prelude.{is_some, bytes_eq, ◌||◌}
use Rattle.config_tree.specs.Joining.{Entries, has}
use Rattle.config_tree.specs.Readers.{value_at}
use Rattle.config_tree.specs.declared.tree.SettingValue.{SettingValue}
use Rattle.config_tree.specs.declared.fault.FromFault.{FromFault}
use Rattle.config_tree.specs.declared.fault.FromFault.TheVariants as from
use Rattle.event_text.proofs.Going.{front, behind_end}
use Rattle.filter_settings.specs.Settings.{Made, Refuses, all_set, next}

module _ {F : Type 0} (set : List ℕ → SettingValue → F → Made F) (es : Entries) (i : ℕ) where
  -- what was set so far, and what the rest makes of it, is what all make
  abbrev pub SetSoFar : F → F → Type 0
  SetSoFar f start = all_set set (drop i es) f ≡ all_set set es start

  step : (e : List ℕ × SettingValue) (f start : F) → i < length es → e ≡ get_or es i e → SetSoFar f start → next (all_set set (drop (i + 1) es)) (set e.0 e.1 f) ≡ all_set set es start
  step e f start below is so_far = ap (λ xs. all_set set xs f) (sym (front es i e below is)) ∙ so_far

  pub set_more : (e : List ℕ × SettingValue) (f g start : F) → i < length es → e ≡ get_or es i e → SetSoFar f start → set e.0 e.1 f ≡ Ok g → all_set set (drop (i + 1) es) g ≡ all_set set es start
  set_more e f g start below is so_far here = ap (next (all_set set (drop (i + 1) es))) (sym here) ∙ step e f start below is so_far

  pub set_fails : (e : List ℕ × SettingValue) (f start : F) (fault : FromFault) → i < length es → e ≡ get_or es i e → SetSoFar f start → Refuses fault (set e.0 e.1 f) → Refuses fault (all_set set es start)
  set_fails e f start (from.Bad b) below is so_far here = sym (step e f start below is so_far) ∙ ap (next (all_set set (drop (i + 1) es))) here
  set_fails e f start from.Memory below is so_far here = tt

  pub set_end : (f start : F) → length es ≤ i → SetSoFar f start → all_set set es start ≡ Ok f
  set_end f start end so_far = sym so_far ∙ ap (λ xs. all_set set xs f) (behind_end es i end)

-- a value stands at a name where the name stands
pub stands : (k : List ℕ) (es : Entries) → is_some (value_at k es) ≡ has k es
stands k [] = refl
stands k (e ∷ es) = by (bytes_eq e.0 k) (stands k es)
  where
    by : (t : Bool) → is_some (value_at k es) ≡ has k es → is_some (if t then Some e.1 else value_at k es) ≡ (t || has k es)
    by true rest = refl
    by false rest = rest

pub ruleset setting = (set_more, set_fails, set_end)
