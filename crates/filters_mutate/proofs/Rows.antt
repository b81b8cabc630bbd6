-- One item more of a list that is gone through.
use Rattle.std.proofs.Common.{◌≡◌, ℕ, ◌+◌, ◌<◌, List, [], ◌∷◌, ◌++◌, length, drop, get_or, map, append_assoc, Bool, true, sym, ap, ◌∙◌}
use Rattle.std.specs.Prelude.{◌&&◌}
use Rattle.pattern_box.specs.Patterns.{is_pattern}
use Rattle.event_text.proofs.Going.{front}
use Rattle.event_text.specs.Shown.{shown}
use Rattle.event_tree.specs.declared.value.Value.{Value}
use Rattle.filters_mutate.specs.Gsub.{are_patterns}
use Rattle.filters_mutate.specs.Texts.{behind_separator, between}
use Rattle.filters_mutate.specs.declared.gsub.Substitution.{Substitution}

-- an item is shown behind those in front
pub shown_next : (separator text new whole : List ℕ) (later : Bool) (items : List Value) (i : ℕ) (item : Value) → i < length items → item ≡ get_or items i item
    → text ++ between separator later (map shown (drop i items)) ≡ whole → new ≡ text ++ behind_separator separator later (shown item)
    → new ++ between separator true (map shown (drop (i + 1) items)) ≡ whole
shown_next separator text new whole later items i item below is so_far added =
    let behind = between separator true (map shown (drop (i + 1) items)) in
    ap (λ t. t ++ behind) added ∙ append_assoc text (behind_separator separator later (shown item)) behind
    ∙ ap (λ vs. text ++ between separator later (map shown vs)) (sym (front items i item below is)) ∙ so_far

-- a substitution whose text is a pattern leaves the question to the others
pub patterns_next : (one : Substitution) (left rest : List Substitution) (all : Bool) → left ≡ one ∷ rest → is_pattern one.pattern ≡ true → are_patterns left ≡ all → are_patterns rest ≡ all
patterns_next one left rest all is pattern so_far = ap (λ b. b && are_patterns rest) (sym pattern) ∙ ap are_patterns (sym is) ∙ so_far

-- and stands behind those in front
pub made_next : (made new : List Substitution) (gsub one : Substitution) (left rest all : List Substitution) → new ≡ made ++ gsub ∷ [] → gsub ≡ one → left ≡ one ∷ rest → made ++ left ≡ all → new ++ rest ≡ all
made_next made new gsub one left rest all added same is so_far =
    ap (λ gs. gs ++ rest) added ∙ append_assoc made (gsub ∷ []) rest ∙ ap (λ g. made ++ g ∷ rest) same ∙ ap (λ gs. made ++ gs) (sym is) ∙ so_far
