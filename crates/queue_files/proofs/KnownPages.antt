-- What is known of the pages of a folder that were read.
use Rattle.std.proofs.Common.{◌≡◌, inl, inr, ℕ, suc, ◌+◌, ◌<◌, ◌≤◌, ◌^◌, nat_lt, true, false, IsTrue, List, [], ◌∷◌, ◌++◌, filter, drop, length, map, take, Option, Some, None, IsSome, option_map, Result, Ok, refl, sym, ◌∙◌, ap, subst, arith, append_assoc, append-nil, length-take, length-drop}
use Rattle.std.proofs.Math.Path.{ap₂}
use Rattle.std.proofs.lemmas.List.{map-append, drop_all}
use Rattle.io_traits.specs.Reads.{bytes_of}
use Rattle.io_traits.specs.Folders.{Content}
use Rattle.io_traits.specs.Moments.{ImagesTell}
use Rattle.io_traits.specs.declared.stores.Store.{Ghosts as StoreWords}
use Rattle.io_traits.specs.declared.pages.PageState.{PageState}
use Rattle.slot_files.proofs.CheckpointReads.{newest_says}
use Rattle.queue_page.specs.Elements.{and_then}
use Rattle.queue_page.specs.Pages.{PageRows, run_behind, room_of, opened, opened_view}
use Rattle.queue_page.specs.Views.{PageView}
use Rattle.queue_page.proofs.PageReads.{as_rows, recorded_took}
use Rattle.queue_page.proofs.RunLemmas.{run_took}
use Rattle.queue_files.specs.Folders.{head, page, checkpoint, Folder, Names, AreApart}
use Rattle.queue_files.specs.Checkpoints.{misfit}
use Rattle.queue_files.specs.Found.{Damaged, Held as HeldPage, told_at, found_in}
use Rattle.queue_files.specs.Resting.{Held}
use Rattle.queue_files.specs.Steps.{first_queue}
use Rattle.queue_files.specs.Known.{IsFirst, IsReadOf, IsOfFolder, IsLeft, WasOpened}
use Rattle.queue_files.specs.Marks.{read_in}
use Rattle.queue_files.specs.Opened.{IsBegun}
use Rattle.queue_files.specs.Opening.{held_tail, held_at, held_of, view_at, views_of}
use Rattle.queue_files.specs.Queues.{AreNewest, IsNewest, LeavesRead}
use Rattle.queue_files.specs.Reading.{AreStanding, IsScanned}
use Rattle.queue_files.specs.Ready.{FirstReady}
use Rattle.queue_files.specs.Unread.{IsRead, LeavesTidy}
use Rattle.queue_files.specs.declared.listing.Listing.{Listing}
use Rattle.queue_files.specs.declared.opening.OpenedQueue.{OpenedQueue}
use Rattle.queue_files.specs.declared.scanned.Scanned.{Scanned}
use Rattle.queue_files.specs.declared.sealed_pages.SealedPage.{SealedPage}
use Rattle.queue_files.proofs.QueueHead.{head_parts}
use Rattle.queue_files.proofs.QueueOpens.{listed}
use Rattle.queue_files.proofs.QueuePages.{damage_ok}
use Rattle.queue_files.proofs.Standings.{below_stand}
use Rattle.queue_files.proofs.TornMarks.{number_of}

-- ---- lists of which the same is said

module _ {X Y Z : Type 0} (f : X → Z) (g : Y → Z) (xs : List X) where
  -- one more of which the same is said
  pub mapped_more : (done items : List Y) (at : ℕ) (x : X) (y : Y) → drop at xs ≡ x ∷ drop (at + 1) xs → items ≡ done ++ y ∷ [] → g y ≡ f x → map f xs ≡ map g done ++ map f (drop at xs)
      → map f xs ≡ map g items ++ map f (drop (at + 1) xs)
  mapped_more done items at x y split more same so_far =
      let rest = map f (drop (at + 1) xs) in
      so_far ∙ ap (λ l. map g done ++ map f l) split ∙ ap (λ z. map g done ++ z ∷ rest) (sym same) ∙ sym (append_assoc (map g done) (g y ∷ []) rest)
      ∙ ap (λ l. l ++ rest) (sym (ap (map g) more ∙ map-append g done (y ∷ [])))

  pub mapped_end : (done : List Y) (at : ℕ) → length xs ≤ at → map f xs ≡ map g done ++ map f (drop at xs) → map f xs ≡ map g done
  mapped_end done at all so_far = so_far ∙ ap (λ l. map g done ++ map f l) (drop_all at xs all) ∙ append-nil (map g done)

-- ---- folders with the same pages below the head, and the same checkpoints of these

-- a page below the head, and the head page, by their files
abbrev held_with : ℕ → Option (List ℕ) → Option (List ℕ) → Result HeldPage Damaged
held_with n slots file = and_then (told_at (checkpoint n) slots) (λ s. Ok (record { number = n; state = s; bytes = bytes_of file }))

abbrev page_with : ℕ → PageState → Option (List ℕ) → HeldPage
page_with n s file = record { number = n; state = s; bytes = bytes_of file }

module _ (h : ℕ) (a m : Folder) (pages : (n : ℕ) → n < h → m (page n) ≡ a (page n)) (slots : (n : ℕ) → n < h → IsSome (a (page n)) → m (checkpoint n) ≡ a (checkpoint n)) where
  slots_of : (n : ℕ) → n < h → IsSome (m (page n)) → m (checkpoint n) ≡ a (checkpoint n)
  slots_of n below some = slots n below (subst (λ (o : Option (List ℕ)). IsSome o) (pages n below) some)

  pub standing_same : (from : ℕ) (numbers : List ℕ) → AreStanding from h m numbers → AreStanding from h a numbers
  standing_same from [] stand = λ n past below. sym (pages n below) ∙ stand n past below
  standing_same from (n ∷ numbers) stand =
      (stand.0, stand.1, subst (λ (o : Option (List ℕ)). IsSome o) (pages n stand.1) stand.2, (λ k past less. sym (pages k (omega (arith, less, stand.1))) ∙ stand.3 k past less), standing_same (suc n) numbers stand.4)

  held_same : (from : ℕ) (numbers : List ℕ) → AreStanding from h m numbers → held_of m numbers ≡ held_of a numbers
  held_same from [] stand = refl
  held_same from (n ∷ numbers) stand =
      ap₂ (λ (x : Result HeldPage Damaged) (r : Result (List HeldPage) Damaged). and_then x (λ y. and_then r (λ ys. Ok (y ∷ ys)))) one (held_same (suc n) numbers stand.4)
    where
      one : held_at m n ≡ held_at a n
      one = ap₂ (held_with n) (slots_of n stand.1 stand.2) (pages n stand.1)

  tails_same : (from : ℕ) (tails : List SealedPage) → AreStanding from h m (map (λ t. t.number) tails) → map (held_tail m) tails ≡ map (held_tail a) tails
  tails_same from [] stand = refl
  tails_same from (t ∷ tails) stand =
      ap₂ (λ (o : Option (List ℕ)) (rest : List HeldPage). page_with t.number t.state o ∷ rest) (pages t.number stand.1) (tails_same (suc t.number) tails stand.4)

  views_same : (from : ℕ) (tails : List SealedPage) → AreStanding from h m (map (λ t. t.number) tails) → views_of m tails ≡ views_of a tails
  views_same from [] stand = refl
  views_same from (t ∷ tails) stand =
      ap₂ (λ (o : Option (List ℕ)) (r : Result (List PageView) Damaged). and_then (view_at false (page_with t.number t.state o)) (λ y. and_then r (λ ys. Ok (y ∷ ys))))
      (pages t.number stand.1) (views_same (suc t.number) tails stand.4)

  pub newest_same : (from : ℕ) (tails : List SealedPage) → AreStanding from h m (map (λ t. t.number) tails) → AreNewest m tails → AreNewest a tails
  newest_same from [] stand are = tt
  newest_same from (t ∷ tails) stand are =
      (subst (λ (o : Option (List ℕ)). IsNewest (bytes_of o) t.turn t.state) (slots_of t.number stand.1 stand.2) are.0, newest_same (suc t.number) tails stand.4 are.1)

  -- what was read of one was read of the other
  pub scanned_same : (s : PageState) (numbers : List ℕ) (r : Scanned) → m (page s.page) ≡ a (page s.page) → AreStanding 0 h m numbers → AreStanding 0 h m (map (λ t. t.number) r.tails.items) → IsScanned m s numbers r → IsScanned a s numbers r
  scanned_same s numbers r top stand stand_tails scanned = record {
    tails = sym (held_same 0 numbers stand) ∙ scanned.tails ∙ ap Ok (tails_same 0 r.tails.items stand_tails);
    pages = sym (views_same 0 r.tails.items stand_tails) ∙ scanned.pages;
    top = ap (λ (o : Option (List ℕ)). view_at true (page_with s.page s o)) (sym top) ∙ scanned.top;
    rows = scanned.rows;
    is_found = ap₂ (λ (o : Option (List ℕ)) (held : Result (List HeldPage) Damaged). and_then held (found_in (page_with s.page s o))) (sym top) (sym (held_same 0 numbers stand)) ∙ scanned.is_found;
    next = scanned.next;
    recorded = scanned.recorded;
  }

-- ---- the head page

-- it has no more bytes than its file
pub top_within : (s : PageState) (file : List ℕ) (v : PageView) → opened_view true s file ≡ Ok v → v.state.length ≤ length file
top_within s file v opens =
    let read = as_rows s (opened true s file) v opens in
    let parts = head_parts s file read.rows read.is in
    let took = run_took (room_of s) parts.r0.version (s.least + s.count) s.length (drop s.length file) in
    let ends : v.state.length ≡ (run_behind s parts.r0.version file).end = ap (λ (p : PageView). p.state.length) (sym read.seen) ∙ ap (λ (x : PageRows). x.length) parts.is in
    omega (arith, ends, took.end_is, took.within, length-drop s.length file, (recorded_took s file parts.r0 parts.reads).long)

pub cut_length : (n : ℕ) (o : Option (List ℕ)) → n ≤ length (bytes_of o) → length (bytes_of (option_map (take n) o)) ≡ n
cut_length n None within = omega (arith, within)
cut_length n (Some bytes) within = omega (arith, within, length-take n bytes)

-- ---- an opening

module _ {S : Type 0} (store : StoreWords S) (tell : ImagesTell store) (names : Names) where
  abbrev pub now : S → Folder
  now s = read_in names (store.seen s)

  pub opens_pages : (l : Listing) (turn : ℕ) (s : PageState) (old mid new : S) (read : IsRead store names l s old) (tidy : LeavesTidy store names s old mid) → (IsTrue store.tells → IsNewest (bytes_of (store.seen old (names head))) turn s)
      → s.page < 2 ^ 32 → (numbers : List ℕ) → numbers ≡ filter (λ n. nat_lt n s.page) l.pages.items → (r : Scanned) → (IsTrue store.tells → IsScanned (now mid) s numbers r) → LeavesRead store names s r mid new
      → WasOpened store names (record { turn = turn; state = s; pages = r }) old new
  opens_pages l turn s old mid new read tidy newest fits numbers are r scanned leaves = record { reads = λ told_is. inr (reads told_is); leaves = left }
    where
      stand : IsTrue store.tells → AreStanding 0 s.page (now mid) numbers
      stand told_is =
          let t = tidy.tidied told_is in
          subst (AreStanding 0 s.page (now mid)) (sym are) (below_stand s.page (now old) (now mid) l.pages.items (read.listed told_is).pages (λ n less. t.pages n (omega (arith, less))) (omega (arith, fits)))

      stand_tails : IsTrue store.tells → AreStanding 0 s.page (now mid) (map (λ t. t.number) r.tails.items)
      stand_tails told_is = subst (AreStanding 0 s.page (now mid)) (sym (listed (now mid) numbers r.tails.items (scanned told_is).tails).numbers_are) (stand told_is)

      reads : IsTrue store.tells → IsReadOf (now old) (record { turn = turn; state = s; pages = r })
      reads told_is =
          let t = tidy.tidied told_is in
          let pages : (n : ℕ) → n < s.page → now mid (page n) ≡ now old (page n) = λ n less. t.pages n (omega (arith, less)) in
          record {
            tells = read.tells told_is;
            head_is = newest told_is;
            standing = standing_same s.page (now old) (now mid) pages t.slots 0 (map (λ t. t.number) r.tails.items) (stand_tails told_is);
            newest = newest_same s.page (now old) (now mid) pages t.slots 0 r.tails.items (stand_tails told_is) (leaves.newest told_is);
            scanned = subst (λ ns. IsScanned (now old) s ns r) (sym (listed (now mid) numbers r.tails.items (scanned told_is).tails).numbers_are)
                (scanned_same s.page (now old) (now mid) pages t.slots s numbers r (t.pages s.page (omega arith)) (stand told_is) (stand_tails told_is) (scanned told_is));
          }

      left : IsTrue store.tells → IsLeft (record { turn = turn; state = s; pages = r }) (now new)
      left told_is =
          let t = tidy.tidied told_is in
          let cut = leaves.cut told_is in
          let pages : (n : ℕ) → n < s.page → now mid (page n) ≡ now new (page n) = λ n less. sym (cut.others (page n) (λ is. absurd (omega (arith, less, ap number_of is)))) in
          let slots : (n : ℕ) → n < s.page → IsSome (now new (page n)) → now mid (checkpoint n) ≡ now new (checkpoint n) = λ n less some. sym (cut.others (checkpoint n) (λ is. absurd cc)) in
          record {
            head_is = subst (λ (o : Option (List ℕ)). IsNewest (bytes_of o) turn s) (sym (cut.others head (λ is. absurd cc) ∙ t.head_is)) (newest told_is);
            standing = standing_same s.page (now new) (now mid) pages slots 0 (map (λ t. t.number) r.tails.items) (stand_tails told_is);
            newest = newest_same s.page (now new) (now mid) pages slots 0 r.tails.items (stand_tails told_is) (leaves.newest told_is);
            exact = ap (λ (o : Option (List ℕ)). length (bytes_of o)) cut.top
                ∙ cut_length r.top.state.length (now mid (page s.page))
                (top_within s (bytes_of (now mid (page s.page))) r.top (damage_ok (opened_view true s (bytes_of (now mid (page s.page)))) (λ x. (page s.page, misfit x.place x.found x.expected)) r.top (scanned told_is).top));
          }

  -- a new folder
  first_left : (o : OpenedQueue) (folder : Folder) → IsFirst o → Held first_queue folder → IsLeft o folder
  first_left o folder is held =
      let records = held.top.records in
      let begins = held.top.is_page.begins in
      let front_long : length held.top.front ≡ 1 = ap length begins ∙ ap (λ (l : List ℕ). suc (length l)) held.top.is_page.are in
      let long : length (held.top.front ++ held.top.tail) ≡ 1 = ap (λ (l : List ℕ). length (held.top.front ++ l)) held.top.behind ∙ ap length (append-nil held.top.front) ∙ front_long in
      let said : IsNewest (bytes_of (folder head)) 0 (record { page = 0; first_open = 1; least = 1; count = 0; length = 1 }) =
      subst (λ (n : ℕ). IsNewest (bytes_of (folder head)) 0 (record { page = 0; first_open = 1; least = 1; count = 0; length = n })) front_long (
      record { fits = records.fits; is = newest_says (bytes_of (folder head)) records.slot records.bytes records.newest ∙ ap₂ (λ (t : ℕ) (s : PageState). Some (t, s)) records.turn_is records.says_is }) in
      record {
        head_is = subst (IsNewest (bytes_of (folder head)) o.turn) (sym is.state) (subst (λ (t : ℕ). IsNewest (bytes_of (folder head)) t (record { page = 0; first_open = 1; least = 1; count = 0; length = 1 })) (sym is.turn) said);
        standing = subst (λ (tails : List SealedPage). AreStanding 0 o.state.page folder (map (λ t. t.number) tails)) (sym is.tails) (λ n past below. absurd (omega (arith, below, ap (λ (s : PageState). s.page) is.state)));
        newest = subst (AreNewest folder) (sym is.tails) tt;
        exact = ap (λ (n : ℕ). length (bytes_of (folder (page n)))) (ap (λ (s : PageState). s.page) is.state) ∙ ap (λ (x : Option (List ℕ)). length (bytes_of x)) held.top.stands ∙ long
            ∙ sym (ap (λ (v : PageView). v.state.length) is.top ∙ ap (λ (s : PageState). s.length) is.state);
      }

  pub opens_first : (file slots : List ℕ) (o : OpenedQueue) (old new : S) → AreApart names → file ≡ names (page 0) → slots ≡ names head → IsBegun store names old → FirstReady store file slots old new → IsFirst o → WasOpened store names o old new
  opens_first file slots o old new apart file_is slots_are begun made is = record {
    reads = λ told_is. inl (begun.is told_is, is);
    leaves = λ told_is. first_left o (now new) is ((made names apart (record { is = begun.is; rests = begun.rests; file_is = file_is; slots_are = slots_are })).held told_is);
  }

  -- what reads gave before is what they give
  pub opened_from : (o : OpenedQueue) (old s2 new : S) → (IsTrue store.tells → store.seen s2 ≡ store.seen old) → WasOpened store names o s2 new → WasOpened store names o old new
  opened_from o old s2 new same opened = record {
    reads = λ told_is. subst (λ (c : Content). IsOfFolder (read_in names c) o) (same told_is) (opened.reads told_is);
    leaves = opened.leaves;
  }
