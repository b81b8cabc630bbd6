-- A queue that was opened, its files, and the queue that it stands for.
use Rattle.std.proofs.Common.{◌≡◌, ◌≤◌, ⊎_elim, ℕ, zero, suc, ◌+◌, ◌<◌, ◌^◌, nat_lt, ◌&&◌, ◌==◌, ◌/◌, ◌%◌, not, Bool, true, false, IsTrue, List, [], ◌∷◌, ◌++◌, length, map, replicate, get_or, drop, Option, Some, None, Result, Ok, Err, refl, sym, ◌∙◌, ap, subst, arith, length-append}
use Rattle.std.proofs.Math.Path.{ap₂}
use Rattle.std.proofs.lemmas.Bool.Decides.{nat_tests}
use Rattle.std.proofs.lemmas.Nat.Bits.{bit_at-zero}
use Rattle.std.proofs.lemmas.Result.{err_from_is_err_and}
use Rattle.std.specs.Int.{bit_at}
use Rattle.std.specs.Result.{IsErrAnd}
use Rattle.io_traits.specs.declared.queue_faults.QueueFault.{QueueFault}
use Rattle.io_traits.specs.Folders.{Content}
use Rattle.io_traits.specs.Reads.{bytes_of, file_length}
use Rattle.io_traits.specs.declared.stores.Store.{Ghosts as StoreWords}
use Rattle.io_traits.specs.declared.pages.PageState.{PageState}
use Rattle.slot_files.specs.Checkpoints.{newest_in}
use Rattle.slot_files.proofs.CheckpointReads.{found_within, newest_says, sayer}
use Rattle.queue_page.specs.Pages.{PageRows, view_of}
use Rattle.queue_page.specs.Views.{PageView}
use Rattle.queue_files.specs.Folders.{head, page, checkpoint, Folder, names_in}
use Rattle.queue_files.specs.Found.{Damaged, Found, Held as HeldPage, found, is_new}
use Rattle.queue_files.specs.Kept.{Page, Queue, AreNumbered, IsQueue, IsSound, Rising, leading}
use Rattle.queue_files.specs.Resting.{Held, TailHeld, TailsHeld}
use Rattle.queue_files.proofs.NewFolders.{new_is_empty}
use Rattle.queue_files.proofs.Torn.{is_whole}
use Rattle.queue_files.proofs.Whole.{rising_top}
use Rattle.queue_files.specs.Collected.{IsLost}
use Rattle.queue_files.specs.Known.{AreStated, IsFirst, IsReadOf, WasOpened}
use Rattle.queue_files.specs.Marks.{read_in}
use Rattle.queue_files.specs.Queues.{ArePages, AreNewest, IsNewest, OpensReady, page_of}
use Rattle.queue_files.specs.Reading.{AreStanding}
use Rattle.queue_files.specs.declared.opening.OpenedQueue.{OpenedQueue}
use Rattle.queue_files.specs.declared.sealed_pages.SealedPage.{SealedPage}
use Rattle.queue_files.proofs.ScanReads.{found_rows, rows_found}
use Rattle.queue_files.proofs.StandingPages.{pages_are_found}
use Rattle.queue_core.specs.Bits.{bit_of, bits_from, is_among, with_range}
use Rattle.queue_core.specs.Calls.{tail_checkpoints}
use Rattle.queue_core.specs.Opening.{below_number, page_opened, queue_opened, tails_opened, unread_in, unread_of, FindsQueue, OpensAs, OpensFolder}
use Rattle.queue_core.specs.Opens.{AreLong, ArePagesOf, Climb, IsPageOf, IsReady, TailsSlotted, place_behind}
use Rattle.queue_core.specs.Views.{OpenPageView, QueueView}
use Rattle.queue_core.specs.declared.limits.Limits.{Limits}
use Rattle.queue_core.proofs.MarkRuns.{page_length}
use Rattle.queue_core.proofs.OpenedRows.{SameStates, all_count, below_same, few_unread, first_state, other_states}
use Rattle.queue_core.proofs.PageNumbers.{first_within}

-- ---- which rows are acknowledged

zero_at : (n i : ℕ) → ◌≡◌ {A = ℕ} (get_or (replicate n 0) i 0) 0
zero_at zero i = refl
zero_at (suc n) zero = refl
zero_at (suc n) (suc i) = zero_at n i

-- no bit of zeros is set
pub no_bit : (n k : ℕ) → bit_of (replicate n 0) k ≡ false
unfolding bit_of
no_bit n k = ap (λ w. bit_at w (k % 64) == 1) (zero_at n (k / 64)) ∙ ap (λ b. b == 1) (bit_at-zero (k % 64))

pub no_bits : (n from count : ℕ) → bits_from (replicate n 0) from count ≡ replicate count false
no_bits n from zero = refl
no_bits n from (suc count) = ap₂ (λ (b : Bool) (l : List Bool). b ∷ l) (no_bit n from) (no_bits n (suc from) count)

pub none_leads : (count : ℕ) → leading (replicate count false) ≡ 0
none_leads zero = refl
none_leads (suc count) = refl

among_first : (from k : ℕ) → is_among 0 from k ≡ nat_lt k from
unfolding is_among
among_first from k =
    let none : nat_lt k 0 ≡ false = grind (arith, nat_tests) in
    ap (λ (b : Bool). not b && nat_lt k from) none

-- of rows of which none is acknowledged, those below a number are
pub range_below : (from number count : ℕ) → with_range number 0 from (replicate count false) ≡ below_number from number count
range_below from number zero = refl
range_below from number (suc count) = ap₂ (λ (b : Bool) (l : List Bool). b ∷ l) (among_first from number) (range_below from (suc number) count)

-- ---- pages one by one

pub state_there : (i : ℕ) (tails : List SealedPage) (views : List PageView) (t : SealedPage) (v : PageView) (rest : List SealedPage) (more : List PageView) → SameStates tails views → drop i tails ≡ t ∷ rest → drop i views ≡ v ∷ more → v.state ≡ t.state
state_there zero tails views t v rest more same split parts = sym (first_state (sym (ap (map (λ (x : SealedPage). x.state)) split) ∙ same ∙ ap (map (λ (p : PageView). p.state)) parts))
state_there (suc i) [] views t v rest more same split parts = absurd (omega (arith, ap length split))
state_there (suc i) (x ∷ tails) [] t v rest more same split parts = absurd (omega (arith, ap length same))
state_there (suc i) (x ∷ tails) (y ∷ views) t v rest more same split parts = state_there i tails views t v rest more (other_states same) split parts

module _ (folder : List ℕ) where
  pub filed : (tails : List SealedPage) (views : List PageView)
      → map (λ (o : OpenPageView). o.file) (tails_opened folder tails views) ≡ map (λ (o : OpenPageView). names_in folder (page o.number)) (tails_opened folder tails views)
  filed [] views = refl
  filed (t ∷ tails) [] = refl
  filed (t ∷ tails) (v ∷ views) = ap (λ l. names_in folder (page t.number) ∷ l) (filed tails views)

  pub slots_filed : (tails : List SealedPage) (views : List PageView) → SameStates tails views → map (λ (t : SealedPage). names_in folder (checkpoint t.number)) tails ≡ tail_checkpoints folder (tails_opened folder tails views)
  slots_filed [] views same = refl
  slots_filed (t ∷ tails) [] same = absurd (omega (arith, ap length same))
  slots_filed (t ∷ tails) (v ∷ views) same = ap (λ l. names_in folder (checkpoint t.number) ∷ l) (slots_filed tails views (other_states same))

  climbs : (f : Folder) (from end : ℕ) (tails : List SealedPage) (views : List PageView) → SameStates tails views → from ≤ end → AreStanding from end f (map (λ t. t.number) tails) → Climb from end (tails_opened folder tails views)
  climbs f from end [] views same within stand = within
  climbs f from end (t ∷ tails) [] same within stand = absurd (omega (arith, ap length same))
  climbs f from end (t ∷ tails) (v ∷ views) same within stand = (stand.0, climbs f (suc t.number) end tails views (other_states same) (omega (arith, stand.1)) stand.4)

  -- the checkpoints have slots
  slot_long : (slots : List ℕ) (turn : ℕ) (s : PageState) → newest_in slots ≡ Some (turn, s) → 48 ≤ length slots
  slot_long slots turn s is =
      let w = sayer slots turn s is in
      let place = found_within slots w.newest w.is.is in
      omega (arith, place.inside)

  slotted : (content : Content) (tails : List SealedPage) (views : List PageView) → SameStates tails views → AreNewest (read_in (names_in folder) content) tails → TailsSlotted folder (tails_opened folder tails views) content
  slotted content [] views same newest = tt
  slotted content (t ∷ tails) [] same newest = absurd (omega (arith, ap length same))
  slotted content (t ∷ tails) (v ∷ views) same newest =
      (slot_long (bytes_of (content (names_in folder (checkpoint t.number)))) t.turn t.state newest.0.is, slotted content tails views (other_states same) newest.1)

  -- the files are as long as they say
  says_long : {x y : ℕ × PageState} → ◌≡◌ {A = Option (ℕ × PageState)} (Some x) (Some y) → x.1.length ≡ y.1.length
  says_long is = cc

  -- a page has as many bytes as its rows say, and its file those and maybe more
  tail_length : (content : Content) (t : SealedPage) (read : PageRows) → TailHeld (page_of t.number t.turn t.state read) (content (names_in folder (checkpoint t.number))) (content (names_in folder (page t.number)))
      → IsNewest (bytes_of (content (names_in folder (checkpoint t.number)))) t.turn t.state → (t.state.length ≡ place_behind 1 read.rows) × (t.state.length ≤ file_length (content (names_in folder (page t.number))))
  tail_length content t read held newest =
      let slots = bytes_of (content (names_in folder (checkpoint t.number))) in
      let says = newest_says slots held.records.slot held.records.bytes held.records.newest in
      let long : t.state.length ≡ length held.bytes = says_long (sym newest.is ∙ says) ∙ ap (λ (s : PageState). s.length) held.records.says_is in (
        long ∙ page_length read.version t.state.least read.rows held.bytes held.is_page,
        omega (arith, long, ap file_length held.stands, length-append held.bytes held.rest),
      )

  longs : (content : Content) (tails : List SealedPage) (views : List PageView) (pages : List Page) → SameStates tails views → ArePages tails views pages → TailsHeld pages (read_in (names_in folder) content)
      → AreNewest (read_in (names_in folder) content) tails → AreLong folder (tails_opened folder tails views) content
  longs content [] views pages same are held newest = tt
  longs content (t ∷ tails) [] pages same are held newest = absurd (omega (arith, ap length same))
  longs content (t ∷ tails) (v ∷ views) pages same are held newest =
      let all = subst (λ ps. TailsHeld ps (read_in (names_in folder) content)) are.3 held in
      let views_are : views ≡ are.2 = ap (drop 1) are.5 in (
        omega (arith, (tail_length content t are.0 all.0 newest.0).1, ap (λ (s : PageState). s.length) (first_state same)),
        longs content tails views are.1 (other_states same) (subst (λ vs. ArePages tails vs are.1) (sym views_are) are.6) all.1 newest.1,
      )

  -- ---- pages of a queue

  page_is : (number turn : ℕ) (s : PageState) (read : PageRows) → AreNumbered s.least read.rows → read.length ≡ place_behind 1 read.rows
      → IsPageOf (page_opened folder number turn s.first_open (view_of s read)) (page_of number turn s read)
  page_is number turn s read numbered long = record { number = refl; version = refl; least = refl; count = refl; acknowledged = below_same s.first_open s.least read.rows numbered; from = refl; turn = refl; long = long }

  pages_are : (content : Content) (number end : ℕ) (tails : List SealedPage) (views : List PageView) (pages : List Page) (top : Page) → Rising number end pages top → SameStates tails views → ArePages tails views pages
      → TailsHeld pages (read_in (names_in folder) content) → AreNewest (read_in (names_in folder) content) tails → ArePagesOf (tails_opened folder tails views) pages
  pages_are content number end [] views pages top rising same are held newest = subst (λ ps. ArePagesOf [] ps) (sym are) tt
  pages_are content number end (t ∷ tails) views pages top rising same are held newest =
      let p = page_of t.number t.turn t.state are.0 in
      let all = subst (λ ps. TailsHeld ps (read_in (names_in folder) content)) are.3 held in
      let states = subst (λ vs. SameStates (t ∷ tails) vs) are.5 same in
      let long : are.0.length ≡ place_behind 1 are.0.rows = sym (ap (λ (s : PageState). s.length) (first_state states)) ∙ (tail_length content t are.0 all.0 newest.0).0 in
      let rises = subst (λ ps. Rising number end ps top) are.3 rising in
      subst (λ vs. ArePagesOf (tails_opened folder (t ∷ tails) vs) pages) (sym are.5)
      (subst (λ ps. ArePagesOf (page_opened folder t.number t.turn t.state.first_open (view_of t.state are.0) ∷ tails_opened folder tails are.2) ps) (sym are.3)
      (page_is t.number t.turn t.state are.0 rises.3.numbered long, pages_are content (suc t.number) (t.state.least + length are.0.rows) tails are.2 are.1 top rises.4 (other_states states) are.6 all.1 newest.1))

-- a fault that is handed on
pub hands_on : (folder : List ℕ) (limits : Limits) (f : Folder) (result : Result QueueView QueueFault) (lost : QueueFault) → IsErrAnd result (λ e. e ≡ lost) → IsLost (names_in folder) lost (found f) → FindsQueue folder limits f result
hands_on folder limits f result lost err is_lost =
    let p = err_from_is_err_and result err in
    subst (λ r. FindsQueue folder limits f r) (sym (p.1 ∙ ap Err p.2)) is_lost

-- ---- what is known in any case

module _ (folder : List ℕ) (o : OpenedQueue) (stated : AreStated o.state o.pages) where
  abbrev tails : List OpenPageView
  tails = tails_opened folder o.pages.tails.items o.pages.pages.items

  abbrev top : OpenPageView
  top = page_opened folder o.state.page o.turn o.state.first_open o.pages.top

  least_same : o.pages.top.state.least ≡ o.state.least
  least_same = ap (λ (s : PageState). s.least) stated.top.same

  pub unread_fits : unread_in tails + unread_of top < 2 ^ 64
  unread_fits =
      let f : Folder = λ role. None in
      let t : HeldPage = record { number = o.state.page; state = o.state; bytes = [] } in
      omega (arith, few_unread folder f t 0 o.pages.tails.items o.pages.pages.items stated.states (stated.rises f), stated.top.numbers, least_same)

-- ---- what the store tells

module _ {S : Type 0} (store : StoreWords S) (folder : List ℕ) (limits : Limits) (o : OpenedQueue) (old new : S) (stated : AreStated o.state o.pages) (was : WasOpened store (names_in folder) o old new) where
  abbrev v : QueueView
  v = queue_opened folder limits o

  pub is_ready : IsReady store v new
  is_ready told =
      let l = was.leaves told in
      record {
        climb = climbs folder (read_in (names_in folder) (store.seen new)) 0 o.state.page o.pages.tails.items o.pages.pages.items stated.states (omega arith) l.standing;
        tails = slotted folder (store.seen new) o.pages.tails.items o.pages.pages.items stated.states l.newest;
        top = slot_long folder (bytes_of (store.seen new (names_in folder head))) o.turn o.state l.head_is.is;
      }

  -- the head page has as many bytes as its rows say
  top_length : (queue : Queue) (read : PageRows) → IsQueue queue → queue.top ≡ page_of o.state.page o.turn o.state read → o.pages.top ≡ view_of o.state read → Held queue (read_in (names_in folder) (store.seen new))
      → length (bytes_of (store.seen new (names_in folder (page o.state.page)))) ≡ o.pages.top.state.length → read.length ≡ place_behind 1 read.rows
  top_length queue read is top_is view_is held exact =
      let now = read_in (names_in folder) (store.seen new) in
      let t = held.top in
      let whole = is_whole queue (now head) (now (page queue.top.number)) (rising_top 0 0 queue.tails queue.top is) t in
      sym (ap (λ (x : PageView). x.state.length) view_is) ∙ sym exact ∙ ap (λ (p : Page). length (bytes_of (now (page p.number)))) (sym top_is) ∙ ap (λ (f : Option (List ℕ)). length (bytes_of f)) t.stands
      ∙ page_length queue.top.version queue.top.least queue.top.rows (t.front ++ t.tail) whole ∙ ap (λ (p : Page). place_behind 1 p.rows) top_is

  opens_as : OpensReady store (names_in folder) o old new → IsTrue store.tells → OpensAs store v o old new
  opens_as ready told =
      let q = ready told in
      let l = was.leaves told in
      let queue = q.queue in
      let held = q.ready.held told in
      record {
        queue = queue;
        is = q.is;
        opens = record {
          ready = q.ready;
          tails = pages_are folder (store.seen new) 0 0 o.pages.tails.items o.pages.pages.items queue.tails queue.top q.ready.is stated.states q.is.tails held.tails l.newest;
          top = subst (λ (view : PageView). IsPageOf (page_opened folder o.state.page o.turn o.state.first_open view) queue.top) (sym q.is.top_is)
              (subst (λ (p : Page). IsPageOf (page_opened folder o.state.page o.turn o.state.first_open (view_of o.state q.is.read)) p) (sym q.is.top)
              (page_is folder o.state.page o.turn o.state q.is.read (subst (λ (p : Page). IsSound p) q.is.top (rising_top 0 0 queue.tails queue.top q.ready.is)).numbered
              (top_length queue q.is.read q.ready.is q.is.top q.is.top_is held l.exact)));
          files = λ told. record {
            tails = longs folder (store.seen new) o.pages.tails.items o.pages.pages.items queue.tails stated.states q.is.tails held.tails l.newest;
            top = l.exact;
            part = λ has. refl;
            within = first_within v.tails v.top (is_ready told).climb;
            kept = tt;
          };
        };
      }

  pub opens_folder : OpensReady store (names_in folder) o old new → OpensFolder store folder limits old new v
  opens_folder ready = record { opened = o; is = refl; reads = was.reads; ready = opens_as ready }

  -- ---- how many rows are unread

  abbrev the_top : Folder → HeldPage
  the_top f = record { number = o.state.page; state = o.state; bytes = bytes_of (f (page o.state.page)) }

  ok_same : {x y : Found} → ◌≡◌ {A = Result Found Damaged} (Ok x) (Ok y) → x ≡ y
  ok_same is = cc

  pub unread_found : IsTrue store.tells → (rows : Found) → found (read_in (names_in folder) (store.seen old)) ≡ Ok rows → v.unread ≡ length rows.rows
  unread_found told rows is = ⊎_elim (λ first. new_count first.0 first.1) (λ reads. read_count reads) (was.reads told)
    where
      f : Folder
      f = read_in (names_in folder) (store.seen old)

      new_count : is_new f ≡ true → IsFirst o → v.unread ≡ length rows.rows
      new_count new first =
          let none : rows.rows ≡ [] = ap (λ (x : Found). x.rows) (ok_same (sym is ∙ new_is_empty f new)) in
          let count : o.pages.top.state.count ≡ 0 = ap (λ (p : PageView). p.state.count) first.top ∙ ap (λ (s : PageState). s.count) first.state in
          let no_tails : unread_in (tails_opened folder o.pages.tails.items o.pages.pages.items) ≡ 0 = ap (λ ts. unread_in (tails_opened folder ts o.pages.pages.items)) first.tails in
          omega (arith, ap length none, count, no_tails)

      read_count : IsReadOf f o → v.unread ≡ length rows.rows
      read_count reads =
          let s = reads.scanned in
          let numbers = map (λ (t : SealedPage). t.number) o.pages.tails.items in
          let rises = stated.rises f in
          let r = found_rows f o.state numbers o.pages.tails.items s.tails rises o.pages.pages.items s.pages o.pages.top s.top in
          let same : rows ≡ r.rows = ok_same (sym is ∙ pages_are_found f o.state numbers reads.tells reads.standing ∙ rows_found f o.state numbers o.pages.tails.items s.tails rises o.pages.pages.items s.pages o.pages.top r) in
          sym (ap (λ (x : Found). length x.rows) same ∙ all_count folder f (the_top f) o.state.page o.turn o.pages.top s.top o.pages.tails.items o.pages.pages.items r.rows r.reads s.pages)
