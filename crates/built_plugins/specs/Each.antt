-- What is made of each of a list.
use Rattle.std.specs.Prelude.{ℕ, ◌+◌, List, [], ◌∷◌, Ok}
use Rattle.config_tree.specs.declared.tree.Condition.{Condition}
use Rattle.filter_settings.specs.Settings.{Made, with_made, next}
use Rattle.event_flow.specs.Ids.{condition_id}
use Rattle.built_plugins.specs.declared.condition.NamedCondition.{NamedCondition}

-- each in order, up to the first that is refused
abbrev pub each_made : {A B : Type 0} → (A → Made B) → List A → Made (List B)
each_made f [] = Ok []
each_made f (x ∷ xs) = next (λ y. with_made (λ ys. y ∷ ys) (each_made f xs)) (f x)

-- conditions with their ids, which a section counts from k on
abbrev pub named : List ℕ → ℕ → List Condition → List NamedCondition
named section k [] = []
named section k (c ∷ cs) = record { condition = c; id = condition_id section k } ∷ named section (k + 1) cs
