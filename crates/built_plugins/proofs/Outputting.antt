-- Outputs that are added one by one.
use Rattle.std.proofs.Common.{◌≡◌, ℕ, suc, ◌+◌, ◌-◌, ◌<◌, ◌≤◌, List, [], ◌∷◌, ◌++◌, length, drop, get_or, refl, sym, ap, ap₂, ◌∙◌, arith, append_assoc, append-nil, length-append}
use Rattle.config_tree.specs.declared.tree.Plugin.{Plugin}
use Rattle.foreign_parts.specs.declared.place.Place.{Place}
use Rattle.event_text.proofs.Going.{front, behind_end}
use Rattle.event_flow.specs.Places.{Draws}
use Rattle.built_plugins.specs.Numbering.{numbers, outputs_behind, outputs_from, outputs_of, output_id, output_places, targets_from, targets_of, with_output}
use Rattle.built_plugins.specs.declared.output.OutputTargets.{OutputTargets}
use Rattle.built_plugins.specs.declared.output.Outputs.{Outputs}

pub as_long : (id : List ℕ) (places : List Place) → length (targets_of id places) ≡ length places
as_long id [] = refl
as_long id (p ∷ places) = ap suc (as_long id places)

one_behind : (draws : Draws) (os : Outputs) (k : ℕ) (p : Plugin) (ps : List Plugin) → outputs_behind draws (with_output (output_id k p) (output_places draws k p) os) (k + 1) ps ≡ outputs_behind draws os k (p ∷ ps)
one_behind draws os k p ps =
    let id = output_id k p in
    let places = output_places draws k p in
    let one : OutputTargets = record { id = id; targets = numbers (length os.targets) (length places) } in
    let count : length (os.targets ++ targets_of id places) ≡ length os.targets + length places = length-append os.targets (targets_of id places) ∙ ap (λ n. length os.targets + n) (as_long id places) in
    let outputs = append_assoc os.outputs (one ∷ []) (outputs_from draws (k + 1) (length (os.targets ++ targets_of id places)) ps)
    ∙ ap (λ n. os.outputs ++ one ∷ outputs_from draws (k + 1) n ps) count in
    let targets = append_assoc os.targets (targets_of id places) (targets_from draws (k + 1) ps) in
    λ i. record { outputs = outputs i; targets = targets i }

module _ (draws : Draws) (ps : List Plugin) (at : ℕ) (os : Outputs) (so_far : outputs_behind draws os (at + 1) (drop at ps) ≡ outputs_of draws ps) where
  pub next_output : (p : Plugin) (id : List ℕ) (places : List Place) (new : Outputs) → at < length ps → p ≡ get_or ps at p → id ≡ output_id (at + 1) p → places ≡ output_places draws (at + 1) p → new ≡ with_output id places os → outputs_behind draws new (at + 1 + 1) (drop (at + 1) ps) ≡ outputs_of draws ps
  next_output p id places new below is named placed added =
      ap (λ o. outputs_behind draws o (at + 1 + 1) (drop (at + 1) ps)) (added ∙ ap₂ (λ i xs. with_output i xs os) named placed)
      ∙ one_behind draws os (at + 1) p (drop (at + 1) ps) ∙ ap (outputs_behind draws os (at + 1)) (sym (front ps at p below is)) ∙ so_far

  pub last_output : length ps ≤ at → os ≡ outputs_of draws ps
  last_output end =
      let nothing : outputs_behind draws os (at + 1) [] ≡ os = λ i. record { outputs = append-nil os.outputs i; targets = append-nil os.targets i } in
      sym nothing ∙ ap (outputs_behind draws os (at + 1)) (sym (behind_end ps at end)) ∙ so_far

-- numbers that are counted one by one
pub next_number : (found : List ℕ) (from count next counter : ℕ) → counter < count → found ++ numbers next (count - counter) ≡ numbers from count → (found ++ next ∷ []) ++ numbers (next + 1) (count - (counter + 1)) ≡ numbers from count
next_number found from count next counter below so_far =
    let more : count - counter ≡ suc (count - (counter + 1)) = omega (arith, below) in
    append_assoc found (next ∷ []) (numbers (next + 1) (count - (counter + 1))) ∙ ap (λ n. found ++ numbers next n) (sym more) ∙ so_far

pub last_number : (found : List ℕ) (from count next counter : ℕ) → count ≤ counter → found ++ numbers next (count - counter) ≡ numbers from count → found ≡ numbers from count
last_number found from count next counter end so_far =
    let none : count - counter ≡ 0 = omega (arith, end) in
    sym (append-nil found) ∙ ap (λ n. found ++ numbers next n) (sym none) ∙ so_far

pub ruleset outputting = (next_number, last_number, next_output, last_output)
