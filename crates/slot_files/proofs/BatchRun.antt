-- A batch that is appended and settled, and its position that is recorded and settled behind it.
use Rattle.std.proofs.Common.{◌≡◌, ◌≢◌, ◌⊎◌, inl, inr, ⊎_elim, ℕ, ◌+◌, ◌<◌, ◌≤◌, ◌^◌, IsTrue, List, ◌++◌, length, take, Option, Some, refl, sym, ap, ◌∙◌, arith, subst, length-append}
use Rattle.std.proofs.lemmas.Bool.{cases_Bool, false≢true}
use Rattle.std.proofs.lemmas.List.{take_all, take_at}
use Rattle.plain_data.specs.Keys.{same_key}
use Rattle.plain_data.proofs.ChangeLemmas.{same_key-decides}
use Rattle.io_traits.specs.Reads.{bytes_of, file_length}
use Rattle.crc_frame.specs.Slots.{next_turn}
use Rattle.io_traits.specs.Images.{Image, FileImage, IsAtRest, at_rest}
use Rattle.io_traits.specs.Moments.{NowOrSynced, EachMoment, ReadsBeside, ImagesTell}
use Rattle.io_traits.specs.declared.stores.Store.{Ghosts as StoreWords}
use Rattle.io_traits.proofs.Beside.{resting, both_read}
use Rattle.io_traits.proofs.Moments.{weaker, one_then_other}
use Rattle.slot_files.specs.Changes.{AllRest, Settled, KeepsFirst, Alters}
use Rattle.slot_files.specs.Positions.{recorded_in}
use Rattle.slot_files.specs.PositionWrites.{IsNextTurn, OldOrNewPosition}
use Rattle.slot_files.specs.declared.recorded.Recorded.TheVariants.{Position}
use Rattle.slot_files.specs.Views.{Output, IsOwn}
use Rattle.slot_files.specs.Outputs.{AppendLeaves, IsReady, content_of, LeavesOldOrNew, IsAppended}
use Rattle.slot_files.proofs.Staying.{own_rests}

same_or_other : (a b : List ℕ) → (a ≡ b) ⊎ (a ≢ b)
same_or_other a b = elim (cases_Bool (same_key a b)) [
  | inl is ↦ inl ((same_key-decides a b).0 is)
  | inr is_not ↦ inr (λ same. false≢true (sym is_not ∙ (same_key-decides a b).1 same))
]

-- ---- what the two calls told, of the files of these names

pub record Appends {S : Type 0} (store : StoreWords S) (old mid : S) (name : List ℕ) : Type 0 where
  pub moments : EachMoment store old mid (Alters store name (KeepsFirst (file_length (store.seen old name)) (store.seen old name)) old)
  pub beside : ReadsBeside store (λ n. n ≡ name) old mid

pub record WasAppended {S : Type 0} (store : StoreWords S) (batch : List ℕ) (old mid : S) (name : List ℕ) : Type 0 where
  pub appends : Appends store old mid name
  pub settled : Settled store name (Some (bytes_of (store.seen old name) ++ batch)) mid
  pub fits : IsTrue store.tells → file_length (store.seen old name) + length batch < 2 ^ 64

pub record Records {S : Type 0} (store : StoreWords S) (turn position : ℕ) (mid new : S) (name : List ℕ) : Type 0 where
  pub moments : EachMoment store mid new (Alters store name (OldOrNewPosition turn position) mid)
  pub beside : ReadsBeside store (λ n. n ≡ name) mid new

pub record WasRecorded {S : Type 0} (store : StoreWords S) (turn position : ℕ) (mid new : S) (name : List ℕ) : Type 0 where
  pub recording : Records store turn position mid new name
  pub rests : AllRest store new
  pub records : IsTrue store.tells → IsNextTurn (recorded_in (bytes_of (store.seen mid name))) turn → recorded_in (bytes_of (store.seen new name)) ≡ Position turn position

-- what an append leaves, wherever it ends
pub record HasLeft {S : Type 0} (store : StoreWords S) (out : Output) (batch : List ℕ) (old new : S) : Type 0 where
  pub any_moment : AppendLeaves store out batch old new
  pub beside : ReadsBeside store (IsOwn out) old new

-- ---- a batch

module _ {S : Type 0} (store : StoreWords S) (tell : ImagesTell store) (out : Output) (batch : List ℕ) (old mid : S) where
  abbrev file : Option (List ℕ)
  file = store.seen old out.path

  abbrev Grows : Image → Type 0
  Grows = Alters store out.path (KeepsFirst (file_length file) file) old

  abbrev Leaves : Image → Type 0
  Leaves = LeavesOldOrNew store out batch old

  -- the position file is no shorter behind the append
  pub room : WasAppended store batch old mid out.path → (place : ℕ) → IsTrue store.tells → place ≤ file_length (store.seen old out.slot) → place ≤ file_length (store.seen mid out.slot)
  room a place told le = ⊎_elim
      (λ (same : out.slot ≡ out.path).
      let was : file_length (store.seen old out.slot) ≡ file_length file = ap (λ n. file_length (store.seen old n)) same in
      let now : file_length (store.seen mid out.slot) ≡ length (bytes_of file ++ batch) = ap (λ n. file_length (store.seen mid n)) same ∙ ap file_length (a.settled.reads told) in
      omega (arith, le, was, now, length-append (bytes_of file) batch))
      (λ (other : out.slot ≢ out.path). subst (λ f. place ≤ file_length f) (sym (a.appends.beside told out.slot other)) le)
      (same_or_other out.slot out.path)

  module _ (ready : IsReady store out old) where
    slot_is_other : out.slot ≢ out.path
    slot_is_other same = ready.differ (sym same)

    content_long : IsTrue store.tells → Position out.turn out.position ≡ Position out.turn (length (content_of store out old))
    content_long told = ap (Position out.turn) (sym (ready.ends told))

    -- while the batch is appended
    while_appended : (i : Image) → IsTrue store.tells → Grows i → Leaves i
    while_appended i told a =
        let slot_rests : i out.slot ≡ at_rest (store.seen old out.slot) = a.2.there out.slot slot_is_other ∙ own_rests store out old ready a.0 a.1 out.slot (inr refl) in
        let kept = a.2.here (own_rests store out old ready a.0 a.1 out.path (inl refl)) in
        record {
          own = λ chance. inl (record {
            turn = out.turn;
            recorded = ap (λ (f : FileImage). recorded_in (bytes_of f.file)) slot_rests ∙ ready.recorded told ∙ content_long told;
            front = kept.front ∙ take_all (file_length file) (bytes_of file) (omega arith);
          });
          beside = (a.0, a.1, λ name other. a.2.there name (λ is. other (inl is)));
        }

    module _ (a : WasAppended store batch old mid out.path) (position : ℕ) (exact : IsTrue store.tells → position ≡ out.position + length batch) where
      abbrev turn : ℕ
      turn = next_turn out.turn

      abbrev Names : Image → Type 0
      Names = Alters store out.slot (OldOrNewPosition turn position) mid

      mid_rests : (d : Image) → NowOrSynced store mid d → IsAtRest (store.seen mid) d
      mid_rests d (inl left) = a.settled.rests d left
      mid_rests d (inr synced) = synced.1

      new_long : IsTrue store.tells → position ≡ length (bytes_of file ++ batch)
      new_long told = exact told ∙ ap (λ n. n + length batch) (sym (ready.ends told)) ∙ sym (length-append (bytes_of file) batch)

      pub is_next : IsTrue store.tells → IsNextTurn (recorded_in (bytes_of (store.seen mid out.slot))) turn
      is_next told =
          let was = ap (λ (f : Option (List ℕ)). recorded_in (bytes_of f)) (a.appends.beside told out.slot slot_is_other) ∙ ready.recorded told in
          subst (λ r. IsNextTurn r turn) (sym was) (ready.turn_fits, refl)

      -- while the position is recorded
      while_recorded : (i : Image) → IsTrue store.tells → Names i → Leaves i
      while_recorded i told d =
          let d_rests = mid_rests d.0 d.1 in
          let path_is : bytes_of (i out.path).file ≡ bytes_of file ++ batch = ap (λ (f : FileImage). bytes_of f.file) (d.2.there out.path ready.differ ∙ d_rests out.path) ∙ ap bytes_of (a.settled.reads told) in
          record {
            own = λ chance. ⊎_elim
                (λ same. inl (record {
                  turn = out.turn;
                  recorded = same ∙ ap (λ (f : Option (List ℕ)). recorded_in (bytes_of f)) (a.appends.beside told out.slot slot_is_other) ∙ ready.recorded told ∙ content_long told;
                  front = ap (take (length (bytes_of file))) path_is ∙ take_at (bytes_of file) batch (length (bytes_of file)) refl;
                }))
                (λ is. inr (record {
                  turn = turn;
                  recorded = is ∙ ap (Position turn) (new_long told);
                  front = ap (take (length (bytes_of file ++ batch))) path_is ∙ take_all (length (bytes_of file ++ batch)) (bytes_of file ++ batch) (omega arith);
                }))
                (d.2.here (store.seen mid out.slot) (d_rests out.slot) (is_next told) chance);
            beside = (
              resting (store.seen old),
              inr (told, λ n. refl),
              λ name other. d.2.there name (λ is. other (inr is)) ∙ d_rests name ∙ ap at_rest (a.appends.beside told name (λ is. other (inl is))),
            );
          }

      module _ (new : S) where
        recording : EachMoment store mid new Names → EachMoment store old new Leaves
        recording other = one_then_other store tell old mid new Grows Names Leaves a.appends.moments other while_appended while_recorded

        pub appended : WasRecorded store turn position mid new out.slot → IsAppended store out batch old (record { path = out.path; slot = out.slot; position = position; turn = turn }) new
        appended w = record {
          ready = record {
            differ = ready.differ;
            turn_fits = omega arith;
            recorded = λ told. w.records told (is_next told);
            ends = λ told. ap file_length (path_now told) ∙ sym (new_long told);
            settled = λ i left name own. w.rests i left name;
          };
          content = λ told. ap bytes_of (path_now told);
        }
          where
            path_now : IsTrue store.tells → store.seen new out.path ≡ Some (bytes_of file ++ batch)
            path_now told = w.recording.beside told out.path ready.differ ∙ a.settled.reads told

  -- at each exit
  pub left_appending : Appends store old mid out.path → HasLeft store out batch old mid
  left_appending a = record {
    any_moment = λ ready. weaker store tell old mid Grows Leaves a.moments (while_appended ready);
    beside = λ told name other. a.beside told name (λ is. other (inl is));
  }

  pub left_recording : WasAppended store batch old mid out.path → (position : ℕ) → (IsReady store out old → IsTrue store.tells → position ≡ out.position + length batch)
      → (new : S) → Records store (next_turn out.turn) position mid new out.slot → HasLeft store out batch old new
  left_recording a position exact new r = record {
    any_moment = λ ready. recording ready a position (exact ready) new r.moments;
    beside = both_read store (λ n. n ≡ out.path) (λ n. n ≡ out.slot) old mid new a.appends.beside r.beside;
  }
