-- Batches that stay where they are, and are found by their numbers.
use Rattle.std.proofs.Common.{◌≡◌, ◌<◌, ℕ, zero, suc, List, [], ◌∷◌, length, map, get_or, slice_set, Bool, true, false, nat_eq, if◌then◌else◌, refl, sym, ap, ◌∙◌, subst, arith, rules}
use Rattle.std.specs.List.{AllByRecursion}
use Rattle.line_outputs.specs.declared.boxes.BoxedOutput.{BoxedOutput}
use Rattle.line_core.specs.Batches.{IsOut, batch_place, stage_in}
use Rattle.line_core.specs.Readiness.{BatchFits, StageFits}
use Rattle.line_core.specs.declared.batches.LineBatch.{LineBatch}

module _ {O : Type 0} (number : O → ℕ) (folder : List ℕ) (boxes : List (BoxedOutput O)) where
  stages_fit : (bs : List LineBatch) → AllByRecursion (BatchFits number folder boxes) bs → AllByRecursion (StageFits number folder boxes) (map stage_in bs)
  stages_fit [] all = tt
  stages_fit (b ∷ bs) all = (all.0, stages_fit bs all.1)

  batches_fit : (bs : List LineBatch) → AllByRecursion (StageFits number folder boxes) (map stage_in bs) → AllByRecursion (BatchFits number folder boxes) bs
  batches_fit [] all = tt
  batches_fit (b ∷ bs) all = (all.0, batches_fit bs all.1)

  -- batches that are where others are
  pub same_stages : (before after : List LineBatch) → map stage_in after ≡ map stage_in before → AllByRecursion (BatchFits number folder boxes) before → AllByRecursion (BatchFits number folder boxes) after
  same_stages before after same all = batches_fit after (subst (AllByRecursion (StageFits number folder boxes)) (sym same) (stages_fit before all))

-- one of them is changed, and stays where it is
pub stage_set : (bs : List LineBatch) (at : ℕ) (b new : LineBatch) → b ≡ get_or bs at b → new.stage ≡ b.stage → map stage_in (slice_set bs at new) ≡ map stage_in bs
stage_set [] at b new is same = refl
stage_set (x ∷ bs) zero b new is same = ap (λ s. s ∷ map stage_in bs) (same ∙ ap (λ (y : LineBatch). y.stage) is)
stage_set (x ∷ bs) (suc at) b new is same = ap (λ ss. x.stage ∷ ss) (stage_set bs at b new is same)

-- the number of one of them is found
pub found : (bs : List LineBatch) (at : ℕ) (b : LineBatch) → at < length bs → b ≡ get_or bs at b → IsOut b.number bs
found [] at b lt is = absurd (omega (arith, lt))
found (x ∷ bs) zero b lt is = by (nat_eq x.number b.number) refl where
  by : (same : Bool) → nat_eq x.number b.number ≡ same → (if nat_eq x.number b.number then 0 else suc (batch_place b.number bs)) < suc (length bs)
  by true eq = subst (λ t. (if t then 0 else suc (batch_place b.number bs)) < suc (length bs)) (sym eq) (omega (arith))
  by false eq = absurd (search rules)
found (x ∷ bs) (suc at) b lt is = by (nat_eq x.number b.number) (found bs at b (omega (arith, lt)) is) where
  by : (same : Bool) → batch_place b.number bs < length bs → (if same then 0 else suc (batch_place b.number bs)) < suc (length bs)
  by true lt = omega (arith)
  by false lt = omega (arith, lt)
