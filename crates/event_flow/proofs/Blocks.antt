-- The steps of a branch, put together from the last block on.
use Rattle.std.proofs.Common.{◌≡◌, ℕ, ◌+◌, List, [], ◌∷◌, ◌++◌, length, reverse, refl, sym, ap, ◌∙◌}
use Rattle.std.proofs.lemmas.List.{length-reverse, nil_from_length, reverse-append}
use Rattle.event_flow.specs.Laying.{behind_block, closing, with_block, assembled}
use Rattle.event_flow.specs.declared.block.Block.{Block}
use Rattle.event_flow.specs.declared.step.FlowStep.{FlowStep}
use Rattle.event_flow.specs.declared.step.FlowStep.TheVariants as s

pub assembled_last : (bs : List Block) (b : Block) (rest : List FlowStep) → assembled (bs ++ b ∷ []) rest ≡ assembled bs (with_block b rest)
assembled_last [] b rest = refl
assembled_last (x ∷ bs) b rest = ap (with_block x) (assembled_last bs b rest)

closes : (rest : List FlowStep) → (rest ≡ [] → ⊥) → closing rest ≡ s.Skip (length rest) ∷ rest
closes [] some = absurd (some refl)
closes (x ∷ rest) some = refl

goes_behind : (n : ℕ) (rest : List FlowStep) → (rest ≡ [] → ⊥) → behind_block n rest ≡ n + 1
goes_behind n [] some = absurd (some refl)
goes_behind n (x ∷ rest) some = refl

module _ (back : List FlowStep) (some : back ≡ [] → ⊥) where
  turned : reverse back ≡ [] → ⊥
  turned none = some (nil_from_length back (sym (length-reverse back) ∙ ap length none))

  pub closed : (new : List FlowStep) → new ≡ back ++ s.Skip (length back) ∷ [] → reverse new ≡ closing (reverse back)
  closed new is = ap reverse is ∙ reverse-append back (s.Skip (length back) ∷ []) ∙ ap (λ n. s.Skip n ∷ reverse back) (sym (length-reverse back)) ∙ sym (closes (reverse back) turned)

  pub passed_behind : (n over : ℕ) → over ≡ n + 1 → over ≡ behind_block n (reverse back)
  passed_behind n over is = is ∙ sym (goes_behind n (reverse back) turned)
