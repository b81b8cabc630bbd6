-- When a line stands where its history does.
use Rattle.std.specs.Prelude.{◌≡◌, ◌<◌, ℕ, List, [], ◌∷◌, ◌++◌, Some, ⊤}
use Rattle.event_flow.specs.Meaning.{Makes}
use Rattle.history_book.specs.Contents.{Bytes}
use Rattle.history_book.specs.Entries.{Entry}
use Rattle.history_book.specs.Holdings.{HoldsTold}
use Rattle.history_book.specs.Inputs.{AreInputs}
use Rattle.history_book.specs.Lists.{IsIn}
use Rattle.history_book.specs.Queues.{AreRowsOf}
use Rattle.history_book.specs.Sound.{Places}
use Rattle.history_book.specs.States.{Out, State, Nothing, newest, unread, start, after}
use Rattle.line_machine.specs.Views.{Batch, LineView, inputs_of}

-- a batch of the line is one that the history has out
pub record IsBatchOf (b : Batch) (o : Out) : Type 0 where
  pub number : o.batch ≡ b.number
  pub plan : o.plan ≡ b.plan
  pub rows : AreRowsOf b.rows o.rows
  pub verdicts : o.verdicts ≡ b.verdicts
  pub left : o.left ≡ b.left

-- so are all of them, in order
abbrev pub AreBatchesOf : List Batch → List Out → Type 0
AreBatchesOf [] [] = ⊤
AreBatchesOf [] (o ∷ os) = ⊥
AreBatchesOf (b ∷ bs) [] = ⊥
AreBatchesOf (b ∷ bs) (o ∷ os) = IsBatchOf b o × AreBatchesOf bs os

-- beside what its places hold: what it knows of configurations, rows, batches, inputs and marks is what the history says of them
pub record Knows {places : Places} (s : State) (i : LineView places) : Type 0 where
  pub running : newest s.plans ≡ Some i.plan
  pub between : s.between ≡ Nothing
  pub limits : s.limits ≡ Some i.limits
  pub unread : AreRowsOf (i.kept ++ i.unread) (unread s)
  pub batches : AreBatchesOf i.batches s.out
  pub below : (b : Batch) → IsIn b i.batches → b.number < i.next_batch
  pub used : (n : ℕ) → IsIn n s.used → n < i.next_batch
  pub inputs : AreInputs s.plans (inputs_of i.inputs)
  pub mark : (front : ℕ) → i.mark ≡ Some front → front ≡ s.front

module _ (makes : Makes) (bytes : Bytes) (places : Places) where
  pub record Stands (told : List Entry) (i : LineView places) : Type 0 where
    pub holds : HoldsTold makes bytes places told i.holds
    pub knows : Knows (after makes start told) i
