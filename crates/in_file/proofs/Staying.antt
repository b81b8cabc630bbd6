-- An input's position file between its own calls, and beside the calls of others.
use Rattle.std.proofs.Common.{◌≡◌, inl, inr, ◌≤◌, ℕ, IsTrue, List, length, refl, sym, ap, ◌∙◌, arith, subst}
use Rattle.io_traits.specs.Reads.{bytes_of, file_length}
use Rattle.crc_frame.specs.Slots.{place_of}
use Rattle.io_traits.specs.Images.{Image, FileImage, at_rest}
use Rattle.io_traits.specs.Moments.{MayLeaveNow, NowOrSynced, LeavesBeside, ReadsBeside, ImagesTell}
use Rattle.io_traits.specs.declared.stores.Store.{Ghosts as StoreWords}
use Rattle.slot_files.specs.Positions.{recorded_in}
use Rattle.slot_files.specs.PositionWrites.{IsNextTurn}
use Rattle.slot_files.specs.declared.recorded.Recorded.{Recorded}
use Rattle.slot_files.specs.declared.recorded.Recorded.TheVariants.{Nothing, Position, Damaged}
use Rattle.slot_files.proofs.PositionReads.{positions_have_room}
use Rattle.in_file.specs.Looks.{Keeps}
use Rattle.in_file.specs.Openings.{position_by}
use Rattle.in_file.specs.Positions.{IsOwn, IsReady, recorded_left, recorded_now}
use Rattle.in_file.specs.Views.{Watched}

room_by : (file : List ℕ) (turn : ℕ) (r : Recorded) → recorded_in file ≡ r → IsNextTurn r turn → place_of 24 turn ≤ length file
room_by file turn Nothing is next = subst (λ t. place_of 24 t ≤ length file) (sym next) (omega arith)
room_by file turn (Position last position) is next = positions_have_room file last position turn is
room_by file turn (Damaged found expected) is next = absurd next

-- behind polls and lines
pub kept_ready : {S : Type 0} (store : StoreWords S) (before after : Watched) (s : S) → Keeps before after → IsReady store before s → IsReady store after s
kept_ready store before after s keeps ready = subst (λ w. IsReady store w s) (sym keeps) (record { next = ready.next; position = ready.position; settled = ready.settled })

module _ {S : Type 0} (store : StoreWords S) (w : Watched) (old : S) (ready : IsReady store w old) where
  -- there is room for the next slot
  pub has_room : IsTrue store.tells → place_of 24 w.turn ≤ file_length (store.seen old w.slot)
  has_room told = room_by (bytes_of (store.seen old w.slot)) w.turn (recorded_now store w old) refl (ready.next told)

  own_rests : (d : Image) → NowOrSynced store old d → (name : List ℕ) → IsOwn w name → d name ≡ at_rest (store.seen old name)
  own_rests d (inl left) name own = ready.settled d left name own
  own_rests d (inr synced) name own = synced.1 name

  module _ (Mine : List ℕ → Type 0) (apart : (name : List ℕ) → IsOwn w name → Mine name → ⊥) where
    beside_rests : (i : Image) → LeavesBeside store Mine old i → (name : List ℕ) → IsOwn w name → i name ≡ at_rest (store.seen old name)
    beside_rests i beside name own = beside.2 name (apart name own) ∙ own_rests beside.0 beside.1 name own

    -- a stop while others change their files leaves recorded what was
    pub stands_beside : (i : Image) → LeavesBeside store Mine old i → recorded_left w.slot i ≡ recorded_now store w old
    stands_beside i beside = ap (λ (f : FileImage). recorded_in (bytes_of f.file)) (beside_rests i beside w.slot refl)

    -- and then it is ready still
    pub ready_beside : ImagesTell store → (new : S) → ((i : Image) → MayLeaveNow store new i → LeavesBeside store Mine old i) → ReadsBeside store Mine old new → IsReady store w new
    ready_beside tell new beside reads =
        let same = λ (told : IsTrue store.tells). ap (λ f. recorded_in (bytes_of f)) (reads told w.slot (apart w.slot refl)) in
        record {
          next = λ told. subst (λ r. IsNextTurn r w.turn) (sym (same told)) (ready.next told);
          position = λ told. ready.position told ∙ ap (position_by w.began) (sym (same told));
          settled = λ i left name own. beside_rests i (beside i left) name own ∙ sym (ap at_rest (reads (tell new (store.moment new) i left) name (apart name own)));
        }
