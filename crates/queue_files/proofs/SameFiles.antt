-- A folder that has the same files of a queue holds it too, and what reads give of a queue stands.
use Rattle.std.proofs.Common.{◌≡◌, inl, ⊎_elim, ℕ, suc, ◌+◌, ◌<◌, ◌≤◌, List, [], ◌∷◌, length, Option, refl, sym, ◌∙◌, subst, arith}
use Rattle.std.proofs.lemmas.Bool.{cases_lt}
use Rattle.io_traits.specs.Images.{at_rest}
use Rattle.io_traits.specs.Tails.{TailImage}
use Rattle.io_traits.proofs.TailImages.{at_rest_tail}
use Rattle.queue_files.specs.Folders.{head, page, checkpoint, Folder}
use Rattle.queue_files.specs.Checkpoints.{told}
use Rattle.queue_files.specs.Kept.{Page, Queue, first_open_of, state_at, IsTail, AreTails, IsTop, NoTail, Rising, IsQueue}
use Rattle.queue_files.specs.Resting.{TailHeld, TailsHeld}
use Rattle.queue_files.specs.Steps.{with_tails}
use Rattle.queue_files.specs.Changes.{SameTails}
use Rattle.queue_files.specs.Laws.{SameFilesStand, HeldStands}
use Rattle.queue_files.proofs.Torn.{tails_stand, open_heads_stand}
use Rattle.queue_files.proofs.Whole.{rising_top, rests_may_record}

-- ---- the same files

first_same : (p : Page) (tails : List Page) (a b : Folder) → SameTails (p ∷ tails) a b → (b (checkpoint p.number) ≡ a (checkpoint p.number)) × (b (page p.number) ≡ a (page p.number))
first_same p tails a b same = same p.number (λ none. none.0 refl)

rest_same : (p : Page) (tails : List Page) (a b : Folder) → SameTails (p ∷ tails) a b → SameTails tails a b
rest_same p tails a b same = λ n is. same n (λ none. is none.1)

pub same_tails : (tails : List Page) (a b : Folder) → SameTails tails a b → AreTails tails a → AreTails tails b
same_tails [] a b same are = tt
same_tails (p ∷ tails) a b same are =
    let s = first_same p tails a b same in (
      subst (λ o. IsTail p o (b (page p.number))) (sym s.0) (subst (λ o. IsTail p (a (checkpoint p.number)) o) (sym s.1) are.0),
      same_tails tails a b (rest_same p tails a b same) are.1,
    )

pub same_held : (tails : List Page) (a b : Folder) → SameTails tails a b → TailsHeld tails a → TailsHeld tails b
same_held [] a b same held = tt
same_held (p ∷ tails) a b same held =
    let s = first_same p tails a b same in (
      subst (λ o. TailHeld p o (b (page p.number))) (sym s.0) (subst (λ o. TailHeld p (a (checkpoint p.number)) o) (sym s.1) held.0),
      same_held tails a b (rest_same p tails a b same) held.1,
    )

-- the head page of a queue that may have other pages below, where its checkpoint tells the same
pub same_top : (q : Queue) (tails : List Page) (slots other file : Option (List ℕ)) → told other ≡ told slots → IsTop q slots file → IsTop (with_tails tails q) other file
same_top q tails slots other file same t = record {
  recorded = t.recorded;
  enough = t.enough;
  len = t.len;
  first_open = t.first_open;
  since = t.since;
  told = same ∙ t.told;
  count = t.count;
  not_less = t.not_less;
  within = t.within;
  read = t.read;
  opens = t.opens;
  gives = t.gives;
}

pub same_files_stand : SameFilesStand
same_files_stand q a b same stands = record {
  tails = same_tails q.tails a b same.tails stands.tails;
  gone = λ n less none. same.gone n less none ∙ stands.gone n less none;
  top = subst (IsTop q (b head)) (sym same.top) (same_top q q.tails (a head) (b head) (a (page q.top.number)) same.told_same stands.top);
}

-- ---- pages below the head have lesser numbers

pub none_above : (n number end : ℕ) (tails : List Page) (top : Page) → top.number ≤ n → Rising number end tails top → NoTail n tails
none_above n number end [] top above rising = tt
none_above n number end (p ∷ tails) top above rising =
    ((λ same. absurd (omega (arith, same, above, rising.1))), none_above n (suc p.number) (p.least + length p.rows) tails top above rising.4)

pub tail_below : (n : ℕ) (q : Queue) → IsQueue q → (NoTail n q.tails → ⊥) → n < q.top.number
tail_below n q is tail = ⊎_elim (λ less. less) (λ more. absurd (tail (none_above n 0 0 q.tails q.top (omega (arith, more)) is))) (cases_lt n q.top.number)

-- ---- what reads give

held_tails : (number end : ℕ) (tails : List Page) (top : Page) (folder : Folder) → Rising number end tails top → TailsHeld tails folder → AreTails tails folder
held_tails number end [] top folder rising held = tt
held_tails number end (p ∷ tails) top folder rising held =
    let slots = folder (checkpoint p.number) in (
      tails_stand p slots (folder (page p.number)) (at_rest slots) rising.3 held.0 (rests_may_record slots p.turn (state_at p (first_open_of p) p.rows (length held.0.bytes)) (at_rest slots) refl),
      held_tails (suc p.number) (p.least + length p.rows) tails top folder rising.4 held.1,
    )

pub held_stands : HeldStands
held_stands q folder is held =
    let file = folder (page q.top.number) in
    let t = held.top in
    record {
      tails = held_tails 0 0 q.tails q.top folder is held.tails;
      gone = held.gone;
      top = open_heads_stand q (folder head) file (at_rest file) (rising_top 0 0 q.tails q.top is) t (record {
        image = subst (λ o. TailImage t.front t.tail (at_rest o)) (sym t.stands) (at_rest_tail t.front t.tail);
        no_chance = record { each = λ place frame is stands. inl stands };
      });
    }
