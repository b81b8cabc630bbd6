-- A queue without one of the pages below its head.
use Rattle.std.proofs.Common.{◌≡◌, ◌≢◌, ⊎_elim, ℕ, suc, ◌+◌, ◌<◌, ◌≤◌, List, [], ◌∷◌, ◌++◌, length, None, sym, ◌∙◌, ap, subst, arith}
use Rattle.std.proofs.lemmas.Bool.{cases_eq}
use Rattle.queue_files.specs.Folders.{Role, head, page, checkpoint, Folder}
use Rattle.queue_files.specs.Checkpoints.{told}
use Rattle.queue_files.specs.Kept.{Page, Queue, AreTails, IsTop, NoTail, Rising, IsSound, IsQueue}
use Rattle.queue_files.specs.Resting.{TailsHeld, TopHeld}
use Rattle.queue_files.specs.Steps.{with_tails}
use Rattle.queue_files.specs.Changes.{SameTails, IsPurged}
use Rattle.queue_files.specs.Laws.{PurgedIsQueue, PurgedStands, PurgedIsHeld}
use Rattle.queue_files.proofs.Standing.{below_all}
use Rattle.queue_files.proofs.SameFiles.{same_tails, same_held, same_top}

abbrev number_in : Role → ℕ
number_in head = 0
number_in (page n) = n
number_in (checkpoint n) = n

rising_weaker : (n m end last : ℕ) (tails : List Page) (top : Page) → n ≤ m → end ≤ last → Rising m last tails top → Rising n end tails top
rising_weaker n m end last [] top less lower rising = (omega (arith, less, rising.0), omega (arith, lower, rising.1), rising.2)
rising_weaker n m end last (p ∷ tails) top less lower rising = (omega (arith, less, rising.0), rising.1, omega (arith, lower, rising.2), rising.3, rising.4)

module _ (p : Page) (behind : List Page) (top : Page) where
  rising_without : (n end : ℕ) (before : List Page) → Rising n end (before ++ p ∷ behind) top → Rising n end (before ++ behind) top
  rising_without n end [] rising = rising_weaker n (suc p.number) end (p.least + length p.rows) behind top (omega (arith, rising.0)) (omega (arith, rising.2)) rising.4
  rising_without n end (b ∷ before) rising = (rising.0, rising.1, rising.2, rising.3, rising_without (suc b.number) (b.least + length b.rows) before rising.4)

  -- where it stands among them
  pub record IsAmong (n : ℕ) : Type 0 where
    pub from : n ≤ p.number
    pub below : p.number < top.number
    pub sound : IsSound p

  is_among : (n end : ℕ) (before : List Page) → Rising n end (before ++ p ∷ behind) top → IsAmong n
  is_among n end [] rising = record { from = rising.0; below = rising.1; sound = rising.3 }
  is_among n end (b ∷ before) rising =
      let more = is_among (suc b.number) (b.least + length b.rows) before rising.4 in
      record { from = omega (arith, rising.0, more.from); below = more.below; sound = more.sound }

  not_among : (n end : ℕ) (before : List Page) → Rising n end (before ++ p ∷ behind) top → NoTail p.number (before ++ behind)
  not_among n end [] rising = below_all p.number (suc p.number) (p.least + length p.rows) behind top (omega arith) rising.4
  not_among n end (b ∷ before) rising =
      let more = is_among (suc b.number) (b.least + length b.rows) before rising.4 in
      ((λ same. absurd (omega (arith, more.from, same))), not_among (suc b.number) (b.least + length b.rows) before rising.4)

  none_with : (n : ℕ) (before : List Page) → NoTail n (before ++ behind) → n ≢ p.number → NoTail n (before ++ p ∷ behind)
  none_with n [] none other = (other, none)
  none_with n (b ∷ before) none other = (none.0, none_with n before none.1 other)

  tails_without : (folder : Folder) (before : List Page) → AreTails (before ++ p ∷ behind) folder → AreTails (before ++ behind) folder
  tails_without folder [] are = are.1
  tails_without folder (b ∷ before) are = (are.0, tails_without folder before are.1)

  held_without : (folder : Folder) (before : List Page) → TailsHeld (before ++ p ∷ behind) folder → TailsHeld (before ++ behind) folder
  held_without folder [] held = held.1
  held_without folder (b ∷ before) held = (held.0, held_without folder before held.1)

module _ (q : Queue) (before behind : List Page) (p : Page) (parts : q.tails ≡ before ++ p ∷ behind) (is : IsQueue q) where
  rising : Rising 0 0 (before ++ p ∷ behind) q.top
  rising = subst (λ tails. Rising 0 0 tails q.top) parts is

  pub among : IsAmong p behind q.top 0
  among = is_among p behind q.top 0 0 before rising

  pub none_here : NoTail p.number (before ++ behind)
  none_here = not_among p behind q.top 0 0 before rising

  pub is_queue : IsQueue (with_tails (before ++ behind) q)
  is_queue = rising_without p behind q.top 0 0 before rising

  module _ (a b : Folder) (purged : IsPurged p.number a b) where
    other_page : (n : ℕ) → n ≢ p.number → b (page n) ≡ a (page n)
    other_page n other = purged.others (page n) (λ same. other (ap number_in same)) (λ same. absurd cc)

    other_checkpoint : (n : ℕ) → n ≢ p.number → b (checkpoint n) ≡ a (checkpoint n)
    other_checkpoint n other = purged.others (checkpoint n) (λ same. absurd cc) (λ same. other (ap number_in same))

    same_head : b head ≡ a head
    same_head = purged.others head (λ same. absurd cc) (λ same. absurd cc)

    same : SameTails (before ++ behind) a b
    same n tail =
        let other : n ≢ p.number = λ is. tail (subst (λ m. NoTail m (before ++ behind)) (sym is) none_here) in
        (other_checkpoint n other, other_page n other)

    -- where a page below the head is missing, it is the one that went, or was missing before
    missing : (n : ℕ) → NoTail n (before ++ behind) → (NoTail n q.tails → a (page n) ≡ None) → b (page n) ≡ None
    missing n none was = ⊎_elim
        (λ (is : n ≡ p.number). ap (λ (m : ℕ). b (page m)) is ∙ purged.page_gone)
        (λ (other : n ≢ p.number). other_page n other ∙ was (subst (NoTail n) (sym parts) (none_with p behind q.top n before none other)))
        (cases_eq n p.number)

    top_page : b (page q.top.number) ≡ a (page q.top.number)
    top_page = other_page q.top.number (λ is. absurd (omega (arith, among.below, is)))

    top_without : TopHeld q (a head) (a (page q.top.number)) → TopHeld (with_tails (before ++ behind) q) (b head) (b (page q.top.number))
    top_without t = subst (λ o. TopHeld (with_tails (before ++ behind) q) o (b (page q.top.number))) (sym same_head)
        (subst (λ o. TopHeld (with_tails (before ++ behind) q) (a head) o) (sym top_page)
        (record { front = t.front; tail = t.tail; stands = t.stands; marked = t.marked; is_page = t.is_page; behind = t.behind; short = t.short; records = t.records }))

pub purged_is_queue : PurgedIsQueue
purged_is_queue q before behind p parts is = is_queue q before behind p parts is

pub purged_stands : PurgedStands
purged_stands q before behind p a b parts is stands purged = record {
  tails = same_tails (before ++ behind) a b (same q before behind p parts is a b purged) (tails_without p behind q.top a before (subst (λ tails. AreTails tails a) parts stands.tails));
  gone = λ n less none. missing q before behind p parts is a b purged n none (stands.gone n less);
  top = subst (IsTop (with_tails (before ++ behind) q) (b head)) (sym (top_page q before behind p parts is a b purged))
      (same_top q (before ++ behind) (a head) (b head) (a (page q.top.number)) (ap told (same_head q before behind p parts is a b purged)) stands.top);
}

pub purged_is_held : PurgedIsHeld
purged_is_held q before behind p a b parts is held purged =
    let below = (among q before behind p parts is).below in
    record {
      tails = same_held (before ++ behind) a b (same q before behind p parts is a b purged) (held_without p behind q.top a before (subst (λ tails. TailsHeld tails a) parts held.tails));
      gone = λ n less none. missing q before behind p parts is a b purged n none (held.gone n less);
      top = top_without q before behind p parts is a b purged held.top;
      no_pages = λ n above fits. other_page q before behind p parts is a b purged n (λ same. absurd (omega (arith, below, above, same))) ∙ held.no_pages n above fits;
      no_checkpoints = λ n above fits. other_checkpoint q before behind p parts is a b purged n (λ same. absurd (omega (arith, below, above, same))) ∙ held.no_checkpoints n above fits;
    }
