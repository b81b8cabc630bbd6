-- A new head page behind a queue.
use Rattle.std.proofs.Common.{◌≡◌, ◌≢◌, inl, inr, ℕ, suc, ◌+◌, ◌-◌, ◌<◌, ◌^◌, List, [], ◌∷◌, ◌++◌, length, Some, refl, sym, ◌∙◌, ap, arith, append-nil}
use Rattle.queue_files.specs.Folders.{head, page, checkpoint, Folder}
use Rattle.queue_files.specs.Kept.{Page, NoTail, Rising, IsSound}
use Rattle.queue_files.specs.Resting.{TailHeld, TailsHeld}
use Rattle.queue_files.specs.Steps.{sealed, next_top}
use Rattle.queue_files.specs.Changes.{SameTails}
use Rattle.queue_files.specs.Laws.{RolledIsQueue, RolledIsHeld}
use Rattle.queue_files.proofs.Torn.{is_whole, next_fits}
use Rattle.queue_files.proofs.Whole.{rising_top}
use Rattle.queue_files.proofs.SameFiles.{same_held, tail_below}

sealed_sound : (p : Page) → IsSound p → IsSound (sealed p)
sealed_sound p sound = record {
  number = sound.number;
  turn = omega arith;
  least = sound.least;
  numbers = sound.numbers;
  count = sound.count;
  numbered = sound.numbered;
  each = sound.each;
  from_fits = sound.from_fits;
  from = sound.from;
}

next_sound : (p : Page) → suc p.number < 2 ^ 32 - 1 → IsSound p → IsSound (next_top p)
next_sound p room sound = record {
  number = room;
  turn = next_fits p.turn;
  least = omega (arith, sound.least);
  numbers = omega (arith, sound.numbers);
  count = omega arith;
  numbered = tt;
  each = refl;
  from_fits = omega (arith, sound.numbers);
  from = inl (omega arith);
}

rolled_rising : (number end : ℕ) (tails : List Page) (top : Page) → suc top.number < 2 ^ 32 - 1 → Rising number end tails top → Rising number end (tails ++ sealed top ∷ []) (next_top top)
rolled_rising number end [] top room rising = (rising.0, omega arith, rising.1, sealed_sound top rising.2, (omega arith, omega arith, next_sound top room rising.2))
rolled_rising number end (p ∷ tails) top room rising =
    (rising.0, omega (arith, rising.1), rising.2, rising.3, rolled_rising (suc p.number) (p.least + length p.rows) tails top room rising.4)

pub rolled_is_queue : RolledIsQueue
rolled_is_queue q is can = rolled_rising 0 0 q.tails q.top can.number is

-- ---- the folder

held_then : (p : Page) (tails : List Page) (folder : Folder) → TailsHeld tails folder → TailHeld p (folder (checkpoint p.number)) (folder (page p.number)) → TailsHeld (tails ++ p ∷ []) folder
held_then p [] folder held last = (last, tt)
held_then p (t ∷ tails) folder held last = (held.0, held_then p tails folder held.1 last)

none_then : (n : ℕ) (p : Page) (tails : List Page) → NoTail n (tails ++ p ∷ []) → NoTail n tails × (n ≢ p.number)
none_then n p [] none = (tt, none.0)
none_then n p (t ∷ tails) none = let more = none_then n p tails none.1 in ((none.0, more.0), more.1)

pub rolled_is_held : RolledIsHeld
rolled_is_held q a b is held is_rolled =
    let t = held.top in
    let h = q.top.number in
    let below : (n : ℕ) → n < suc h → b (page n) ≡ a (page n) = λ n less. is_rolled.pages n (λ same. absurd (omega (arith, less, same))) in
    let same : SameTails q.tails a b = λ n tail.
    let less = tail_below n q is tail in
    (is_rolled.checkpoints n (λ same. absurd (omega (arith, less, same))), below n (omega (arith, less))) in
    let seal : TailHeld (sealed q.top) (b (checkpoint h)) (b (page h)) = record {
      bytes = t.front ++ t.tail;
      rest = [];
      stands = below h (omega arith) ∙ t.stands ∙ ap Some (sym (append-nil (t.front ++ t.tail)));
      is_page = is_whole q (a head) (a (page h)) (rising_top 0 0 q.tails q.top is) t;
      short = t.short;
      named = h;
      low = (rising_top 0 0 q.tails q.top is).number;
      records = is_rolled.sealed_slot;
    } in
    record {
      tails = held_then (sealed q.top) q.tails b (same_held q.tails a b same held.tails) seal;
      gone = λ n less none.
          let two = none_then n (sealed q.top) q.tails none in
          below n less ∙ held.gone n (omega (arith, less, two.1)) two.0;
      top = record {
        front = 2 ∷ [];
        tail = [];
        stands = is_rolled.begun;
        marked = omega arith;
        is_page = record { is_version = inr refl; elements = []; begins = refl; are = refl };
        behind = refl;
        short = omega arith;
        records = is_rolled.head_slot;
      };
      no_pages = λ n above fits. is_rolled.pages n (λ same. absurd (omega (arith, above, same))) ∙ held.no_pages n (omega (arith, above)) fits;
      no_checkpoints = λ n above fits. is_rolled.checkpoints n (λ same. absurd (omega (arith, above, same))) ∙ held.no_checkpoints n (omega (arith, above)) fits;
    }
