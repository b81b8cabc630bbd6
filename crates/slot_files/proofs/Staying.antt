-- An output file beside the calls of others, and between its own.
use Rattle.std.proofs.Common.{◌≡◌, inl, inr, ◌≤◌, ℕ, IsTrue, List, length, take, refl, sym, ap, ◌∙◌, arith}
use Rattle.std.proofs.lemmas.List.{take_all}
use Rattle.io_traits.specs.Reads.{bytes_of, file_length}
use Rattle.crc_frame.specs.Slots.{place_of, next_turn}
use Rattle.io_traits.specs.Images.{Image, FileImage, at_rest}
use Rattle.io_traits.specs.Moments.{MayLeaveNow, NowOrSynced, LeavesBeside, ReadsBeside, ImagesTell}
use Rattle.io_traits.specs.declared.stores.Store.{Ghosts as StoreWords}
use Rattle.slot_files.specs.Positions.{recorded_in}
use Rattle.slot_files.specs.declared.recorded.Recorded.TheVariants.{Position}
use Rattle.slot_files.proofs.PositionReads.{positions_have_room}
use Rattle.slot_files.specs.Views.{Output, IsOwn}
use Rattle.slot_files.specs.Contents.{Stands}
use Rattle.slot_files.specs.Outputs.{IsReady, content_of}

module _ {S : Type 0} (store : StoreWords S) (out : Output) (old : S) (ready : IsReady store out old) where
  -- there is room for the next slot
  pub has_room : IsTrue store.tells → place_of 24 (next_turn out.turn) ≤ file_length (store.seen old out.slot)
  has_room told = positions_have_room (bytes_of (store.seen old out.slot)) out.turn out.position (next_turn out.turn) (ready.recorded told)

  pub own_rests : (d : Image) → NowOrSynced store old d → (name : List ℕ) → IsOwn out name → d name ≡ at_rest (store.seen old name)
  own_rests d (inl left) name own = ready.settled d left name own
  own_rests d (inr synced) name own = synced.1 name

  module _ (Mine : List ℕ → Type 0) (apart : (name : List ℕ) → IsOwn out name → Mine name → ⊥) where
    beside_rests : (i : Image) → LeavesBeside store Mine old i → (name : List ℕ) → IsOwn out name → i name ≡ at_rest (store.seen old name)
    beside_rests i beside name own = beside.2 name (apart name own) ∙ own_rests beside.0 beside.1 name own

    -- a stop while others change their files leaves what it holds
    pub stands_beside : (i : Image) → IsTrue store.tells → LeavesBeside store Mine old i → Stands out.path out.slot (content_of store out old) i
    stands_beside i told beside =
        let content = content_of store out old in
        record {
          turn = out.turn;
          recorded = ap (λ (f : FileImage). recorded_in (bytes_of f.file)) (beside_rests i beside out.slot (inr refl)) ∙ ready.recorded told ∙ ap (Position out.turn) (sym (ready.ends told));
          front = ap (λ (f : FileImage). take (length content) (bytes_of f.file)) (beside_rests i beside out.path (inl refl)) ∙ take_all (length content) content (omega arith);
        }

    -- and then it is ready still
    pub ready_beside : ImagesTell store → (new : S) → ((i : Image) → MayLeaveNow store new i → LeavesBeside store Mine old i) → ReadsBeside store Mine old new → IsReady store out new
    ready_beside tell new beside reads = record {
      differ = ready.differ;
      turn_fits = ready.turn_fits;
      recorded = λ told. ap (λ f. recorded_in (bytes_of f)) (reads told out.slot (apart out.slot (inr refl))) ∙ ready.recorded told;
      ends = λ told. ap file_length (reads told out.path (apart out.path (inl refl))) ∙ ready.ends told;
      settled = λ i left name own. beside_rests i (beside i left) name own ∙ sym (ap at_rest (reads (tell new (store.moment new) i left) name (apart name own)));
    }
