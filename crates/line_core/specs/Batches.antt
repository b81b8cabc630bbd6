-- The batches of a line that aren't acknowledged, found by their numbers.
use Rattle.std.specs.Prelude.{◌≡◌, ◌<◌, ◌==◌, ℕ, suc, List, [], ◌∷◌, length, slice_index_or, if◌then◌else◌}
use Rattle.line_core.specs.declared.batches.BatchStage.{BatchStage}
use Rattle.line_core.specs.declared.batches.BatchStage.TheVariants as stage
use Rattle.line_core.specs.declared.batches.LineBatch.{LineBatch}
use Rattle.line_core.specs.declared.batches.LeftOver.{LeftOver}

-- the place of the first batch of a number, or how many batches there are
abbrev pub batch_place : ℕ → List LineBatch → ℕ
batch_place n [] = 0
batch_place n (b ∷ bs) = if b.number == n then 0 else suc (batch_place n bs)

-- there is one
abbrev pub IsOut : ℕ → List LineBatch → Type 0
IsOut n bs = batch_place n bs < length bs

-- it is this
abbrev pub IsBatchOf : ℕ → List LineBatch → LineBatch → Type 0
IsBatchOf n bs b = b ≡ slice_index_or bs (batch_place n bs) b

-- where a batch is
abbrev pub stage_in : LineBatch → BatchStage
stage_in b = b.stage

-- nothing is left to deliver of what is at home
abbrev pub HasNothingLeft : BatchStage → Type 0
HasNothingLeft stage.Away = Unit {0}
HasNothingLeft (stage.Home left) = (left.dead ≡ []) × (left.due ≡ [])
HasNothingLeft stage.Lost = Unit {0}

-- nothing that is left to deliver
abbrev pub nothing_left : LeftOver
nothing_left = record { dead = []; due = [] }

-- what is left of a batch that is at home, and else nothing
abbrev pub left_of : BatchStage → LeftOver
left_of stage.Away = nothing_left
left_of (stage.Home left) = left
left_of stage.Lost = nothing_left

-- a stage with this left, where it is at home
abbrev pub with_left : LeftOver → BatchStage → BatchStage
with_left left stage.Away = stage.Away
with_left left (stage.Home other) = stage.Home left
with_left left stage.Lost = stage.Lost
