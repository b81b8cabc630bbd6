-- A store that holds the queue of a folder holds it with rows acknowledged.
use Rattle.std.proofs.Common.{◌≡◌, inl, inr, ⊎_elim, ℕ, suc, ◌≤◌, ◌+◌, Bool, true, false, List, [], ◌∷◌, length, map, ap, ◌∙◌, arith}
use Rattle.io_traits.specs.Folders.{Content}
use Rattle.io_traits.specs.Images.{Image}
use Rattle.io_traits.specs.declared.stores.Store.{Ghosts as StoreWords}
use Rattle.queue_files.specs.Folders.{Folder, Names, names_in}
use Rattle.queue_files.specs.Kept.{Page, Queue, leading, first_open_of, NoTail, IsSound, Rising}
use Rattle.queue_files.specs.Resting.{TailsHeld, Held, TailsRest}
use Rattle.queue_core.specs.Acknowledging.{acknowledged_page, acknowledged, AcknowledgedIsOpen, AcknowledgedIsReady}
use Rattle.queue_core.specs.Bits.{with_range}
use Rattle.queue_core.specs.Calls.{with_acknowledged, behind_acknowledge}
use Rattle.queue_core.specs.Opens.{Climb, TailsSlotted, IsSlotted, IsPageOf, ArePagesOf, AreLong, IsAmong, IsOfFiles}
use Rattle.queue_core.specs.Views.{OpenPageView, QueueView}
use Rattle.queue_core.specs.declared.limits.Numbers.{Numbers}
use Rattle.queue_core.proofs.Ranges.{long_range}

leading_more : (place from to : ℕ) (bits : List Bool) → leading bits ≤ leading (with_range place from to bits)
leading_more place from to [] = omega arith
leading_more place from to (true ∷ bits) = let rest = leading_more (suc place) from to bits in omega (arith, rest)
leading_more place from to (false ∷ bits) = omega arith

module _ (numbers : Numbers) where
  abbrev page : Page → Page
  page = acknowledged_page numbers

  sound : (p : Page) → IsSound p → IsSound (page p)
  sound p is = record {
    number = is.number;
    turn = is.turn;
    least = is.least;
    numbers = is.numbers;
    count = is.count;
    numbered = is.numbered;
    each = long_range p.least numbers.first numbers.behind p.acknowledged ∙ is.each;
    from_fits = is.from_fits;
    from =
        let more = leading_more p.least numbers.first numbers.behind p.acknowledged in
        ⊎_elim (λ (less : p.from ≤ first_open_of p). inl (omega (arith, less, more))) (λ (all : p.least + length p.rows ≤ first_open_of p). inr (omega (arith, all, more))) is.from;
  }

  rising : (number end : ℕ) (tails : List Page) (top : Page) → Rising number end tails top → Rising number end (map page tails) (page top)
  rising number end [] top is = (is.0, is.1, sound top is.2)
  rising number end (p ∷ tails) top is = (is.0, is.1, is.2, sound p is.3, rising (suc p.number) (p.least + length p.rows) tails top is.4)

  tails_held : (tails : List Page) (folder : Folder) → TailsHeld tails folder → TailsHeld (map page tails) folder
  tails_held [] folder held = tt
  tails_held (p ∷ tails) folder held =
      let h = held.0 in
      (record { bytes = h.bytes; rest = h.rest; stands = h.stands; is_page = h.is_page; short = h.short; named = h.named; low = h.low; records = h.records }, tails_held tails folder held.1)

  no_tail : (n : ℕ) (tails : List Page) → NoTail n (map page tails) → NoTail n tails
  no_tail n [] none = tt
  no_tail n (p ∷ tails) none = (none.0, no_tail n tails none.1)

  held_still : (q : Queue) (folder : Folder) → Held q folder → Held (acknowledged numbers q) folder
  held_still q folder held =
      let t = held.top in
      record {
        tails = tails_held q.tails folder held.tails;
        gone = λ n less none. held.gone n less (no_tail n q.tails none);
        top = record { front = t.front; tail = t.tail; stands = t.stands; marked = t.marked; is_page = t.is_page; behind = t.behind; short = t.short; records = t.records };
        no_pages = held.no_pages;
        no_checkpoints = held.no_checkpoints;
      }

  tails_rest : (tails : List Page) (names : Names) (folder : Folder) (i : Image) → TailsRest tails names folder i → TailsRest (map page tails) names folder i
  tails_rest [] names folder i rest = tt
  tails_rest (p ∷ tails) names folder i rest = (rest.0, tails_rest tails names folder i rest.1)

  -- ---- pages that are open

  page_of : (o : OpenPageView) (p : Page) → IsPageOf o p → IsPageOf (with_acknowledged numbers o) (page p)
  page_of o p is = record {
    number = is.number;
    version = is.version;
    least = is.least;
    count = is.count;
    acknowledged = ap (λ n. with_range n numbers.first numbers.behind p.acknowledged) is.least ∙ ap (with_range o.page.state.least numbers.first numbers.behind) is.acknowledged;
    from = is.from;
    turn = is.turn;
    long = is.long;
  }

  pages_of : (os : List OpenPageView) (ps : List Page) → ArePagesOf os ps → ArePagesOf (map (with_acknowledged numbers) os) (map page ps)
  pages_of [] [] are = tt
  pages_of [] (p ∷ ps) are = are
  pages_of (o ∷ os) [] are = are
  pages_of (o ∷ os) (p ∷ ps) are = (page_of o p are.0, pages_of os ps are.1)

  long_still : (folder : List ℕ) (os : List OpenPageView) (content : Content) → AreLong folder os content → AreLong folder (map (with_acknowledged numbers) os) content
  long_still folder [] content are = tt
  long_still folder (o ∷ os) content are = (are.0, long_still folder os content are.1)

  among_still : (n : ℕ) (os : List OpenPageView) → IsAmong n (map (with_acknowledged numbers) os) → IsAmong n os
  among_still n [] among = among
  among_still n (o ∷ os) (inl is) = inl is
  among_still n (o ∷ os) (inr rest) = inr (among_still n os rest)

  files_still : (v : QueueView) (content : Content) → IsOfFiles v content → IsOfFiles (behind_acknowledge numbers v) content
  files_still v content of = record {
    tails = long_still v.folder v.tails content of.tails;
    top = of.top;
    part = λ has. of.part (⊎_elim (λ (is : v.cursor.page ≡ v.top.number). inl is) (λ (among : IsAmong v.cursor.page (map (with_acknowledged numbers) v.tails)). inr (among_still v.cursor.page v.tails among)) has);
    within = of.within;
    kept = of.kept;
  }

-- ---- checkpoints

module _ (numbers : Numbers) where
  still_climb : (from top : ℕ) (tails : List OpenPageView) → Climb from top tails → Climb from top (map (with_acknowledged numbers) tails)
  still_climb from top [] climb = climb
  still_climb from top (o ∷ tails) climb = (climb.0, still_climb (suc o.number) top tails climb.1)

  tails_still : (folder : List ℕ) (content : Content) (tails : List OpenPageView) → TailsSlotted folder tails content → TailsSlotted folder (map (with_acknowledged numbers) tails) content
  tails_still folder content [] slotted = slotted
  tails_still folder content (o ∷ tails) slotted = (slotted.0, tails_still folder content tails slotted.1)

  pub still_slotted : (v : QueueView) (content : Content) → IsSlotted v content → IsSlotted (behind_acknowledge numbers v) content
  still_slotted v content slotted = record {
    climb = still_climb 0 v.top.number v.tails slotted.climb;
    tails = tails_still v.folder content v.tails slotted.tails;
    top = slotted.top;
  }

pub acknowledged_is_open : {S : Type 0} (store : StoreWords S) → AcknowledgedIsOpen store
unfolding held_still
acknowledged_is_open store v q s numbers opens =
    let r = opens.ready in
    record {
      ready = record {
        is = rising numbers 0 0 q.tails q.top r.is;
        held = λ tells. held_still numbers q _ (r.held tells);
        images = λ tells i may.
            let rests = r.images tells i may in
            record { top_slot = rests.top_slot; tails = tails_rest numbers q.tails (names_in v.folder) _ i rests.tails; pages = rests.pages; top_page = rests.top_page };
      };
      tails = pages_of numbers v.tails q.tails opens.tails;
      top = page_of numbers v.top q.top opens.top;
      files = λ tells. files_still numbers v _ (opens.files tells);
    }

pub acknowledged_is_ready : {S : Type 0} (store : StoreWords S) → AcknowledgedIsReady store
acknowledged_is_ready store v s numbers ready = λ told. still_slotted numbers v (store.seen s) (ready told)
