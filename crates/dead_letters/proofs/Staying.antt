-- A queue that is ready beside the calls of others, and between its own.
use Rattle.std.proofs.Common.{◌≡◌, inl, inr, ℕ, ◌<◌, ◌≤◌, ◌^◌, IsTrue, List, length, map, take, Ok, refl, sym, ap, ◌∙◌, arith}
use Rattle.std.proofs.lemmas.List.{take_all}
use Rattle.io_traits.specs.Folders.{Content}
use Rattle.io_traits.specs.Reads.{bytes_of}
use Rattle.io_traits.specs.Images.{Image, FileImage, at_rest}
use Rattle.io_traits.specs.Moments.{MayLeaveNow, NowOrSynced, LeavesBeside, ReadsBeside, ImagesTell}
use Rattle.io_traits.specs.declared.stores.Store.{Ghosts as StoreWords}
use Rattle.slot_files.specs.Contents.{left_in}
use Rattle.dead_letters.specs.Queues.{segment, names, name_in}
use Rattle.dead_letters.specs.Segments.{counted_in}
use Rattle.dead_letters.specs.Found.{bytes_in, found}
use Rattle.dead_letters.specs.Views.{DeadQueue, IsOwn, last_of}
use Rattle.dead_letters.specs.Ready.{held_now, IsReady}
use Rattle.dead_letters.proofs.Growing.{files_same}
use Rattle.dead_letters.proofs.Joining.{holds}

module _ {S : Type 0} (store : StoreWords S) (q : DeadQueue) (old : S) (ready : IsReady store q old) (Mine : List ℕ → Type 0) (apart : (name : List ℕ) → IsOwn q.folder name → Mine name → ⊥) where
  abbrev c : Content
  c = store.seen old

  abbrev slot : List ℕ
  slot = name_in q.folder names

  abbrev file : ℕ → List ℕ
  file n = name_in q.folder (segment n)

  slot_apart : Mine slot → ⊥
  slot_apart = apart slot (names, tt, refl)

  segment_apart : (n : ℕ) → n < 2 ^ 32 → Mine (file n) → ⊥
  segment_apart n low = apart (file n) (segment n, low, refl)

  slot_rests : (d : Image) → NowOrSynced store old d → d slot ≡ at_rest (c slot)
  slot_rests d (inl left) = ready.names_rest d left
  slot_rests d (inr synced) = synced.1 slot

  segment_rests : (d : Image) → NowOrSynced store old d → (n : ℕ) → q.first ≤ n → n < 2 ^ 32 → d (file n) ≡ at_rest (c (file n))
  segment_rests d (inl left) n low high = ready.segments_rest d left n low high
  segment_rests d (inr synced) n low high = synced.1 (file n)

  slot_beside : (i : Image) → LeavesBeside store Mine old i → i slot ≡ at_rest (c slot)
  slot_beside i beside = beside.2 slot slot_apart ∙ slot_rests beside.0 beside.1

  segment_beside : (i : Image) → LeavesBeside store Mine old i → (n : ℕ) → q.first ≤ n → n < 2 ^ 32 → i (file n) ≡ at_rest (c (file n))
  segment_beside i beside n low high = beside.2 (file n) (segment_apart n high) ∙ segment_rests beside.0 beside.1 n low high

  -- a stop while others change their files leaves what it holds
  pub holds_beside : (i : Image) → IsTrue store.tells → LeavesBeside store Mine old i → found q.folder (left_in i) ≡ Ok (held_now q c)
  holds_beside i told beside =
      let last = last_of q in
      let fits : last < 2 ^ 32 = omega (arith, ready.some, ready.numbers) in
      let as_read = λ (n : ℕ) (low : q.first ≤ n) (high : n < 2 ^ 32). ap (λ (f : FileImage). bytes_of f.file) (segment_beside i beside n low high) in
      let whole : bytes_in q.folder (left_in i) last ≡ bytes_in q.folder c last = as_read last (omega arith) fits in
      holds q ready.some c (ready.said told).sizes q.turn (left_in i) (ap (λ (f : FileImage). counted_in (bytes_of f.file)) (slot_beside i beside) ∙ (ready.said told).counted) (λ n low high. as_read n low (omega (arith, high, fits)))
      (let e : length (bytes_in q.folder (left_in i) last) ≡ length (bytes_in q.folder c last) = ap length whole in omega (arith, e))
      (ap (take (length (bytes_in q.folder c last))) whole ∙ take_all (length (bytes_in q.folder c last)) (bytes_in q.folder c last) (omega arith))

  -- and then it is ready still
  pub ready_beside : ImagesTell store → (new : S) → ((i : Image) → MayLeaveNow store new i → LeavesBeside store Mine old i) → ReadsBeside store Mine old new → IsReady store q new
  ready_beside tell new beside reads = record {
    some = ready.some;
    numbers = ready.numbers;
    turn_fits = ready.turn_fits;
    said = λ told.
        let s = ready.said told in
        let same = λ (n : ℕ) (low : n < 2 ^ 32). ap bytes_of (reads told (file n) (segment_apart n low)) in
        record {
          counted = ap (λ o. counted_in (bytes_of o)) (reads told slot slot_apart) ∙ s.counted;
          sizes = ap (map length) (files_same q.folder (store.seen new) c q.first (length q.sizes) (λ n low high. same n (omega (arith, high, ready.numbers)))) ∙ s.sizes;
          fresh = λ n above below. same n below ∙ s.fresh n above below;
        };
    names_rest = λ i left. slot_beside i (beside i left) ∙ sym (ap at_rest (reads (tell new (store.moment new) i left) slot slot_apart));
    segments_rest = λ i left n low high. segment_beside i (beside i left) n low high ∙ sym (ap at_rest (reads (tell new (store.moment new) i left) (file n) (segment_apart n high)));
  }
