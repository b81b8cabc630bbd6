-- An opening, call by call.
use Rattle.std.proofs.Common.{◌≡◌, ◌⊎◌, inl, inr, ⊎_elim, ℕ, ◌+◌, ◌<◌, ◌^◌, nat_lt, Bool, true, false, IsTrue, List, filter, Result, Ok, Err, sym, ◌∙◌, ap, subst}
use Rattle.std.proofs.lemmas.Bool.{cond-false}
use Rattle.std.proofs.lemmas.Result.{err_from_is_err_and}
use Rattle.std.specs.Result.{IsErrAnd}
use Rattle.io_traits.specs.Reads.{bytes_of}
use Rattle.io_traits.specs.Images.{Image, IsAtRest}
use Rattle.io_traits.specs.Moments.{MayLeaveNow, ImagesTell}
use Rattle.io_traits.specs.declared.stores.Store.{Ghosts as StoreWords}
use Rattle.io_traits.proofs.Moments.{by_call, weaker, one_then_other}
use Rattle.io_traits.proofs.TailRuns.{Settles}
use Rattle.io_traits.proofs.Looking.{Nothing, nothing_left}
use Rattle.io_traits.specs.declared.queue_faults.QueueFault.{QueueFault}
use Rattle.io_traits.specs.declared.queue_faults.QueueFault.TheVariants as f
use Rattle.io_traits.specs.declared.pages.PageState.{PageState}
use Rattle.slot_files.specs.Checkpoints.{slots_of}
use Rattle.slot_files.specs.declared.checkpoint.Slots.{Slots}
use Rattle.queue_files.specs.Folders.{head, page, Folder, Names, AreApart, folder_in}
use Rattle.queue_files.specs.Checkpoints.{Mismatch, told, told_by}
use Rattle.queue_files.specs.Found.{Damaged, or_damage, told_at, is_new, nothing_found, of_head, found}
use Rattle.queue_files.specs.Kept.{Kept}
use Rattle.queue_files.proofs.NewFolders.{new_is_empty}
use Rattle.queue_page.specs.Elements.{and_then}
use Rattle.queue_files.specs.Collected.{IsLost, IsNoDamage}
use Rattle.queue_files.specs.Listing.{IsListed}
use Rattle.queue_files.specs.Marks.{read_in, NoChances}
use Rattle.queue_files.specs.Ready.{FirstKeeps}
use Rattle.queue_files.specs.Reading.{found_of, IsScanned, KeepsFound}
use Rattle.queue_files.specs.Unread.{IsRead, StaysFound, LeavesTidy}
use Rattle.queue_files.specs.Telling.{misfit_of, as_told}
use Rattle.queue_files.specs.Opened.{IsOpened, FindsOpened, IsLook, IsSeen, IsBegun, HoldsFound, KeepsOpened, OpeningKeeps}
use Rattle.queue_files.specs.declared.listing.Listing.{Listing}
use Rattle.queue_files.specs.declared.look.Look.{Look}
use Rattle.queue_files.specs.declared.opening.OpenedQueue.{OpenedQueue}
use Rattle.queue_files.specs.declared.checkpoint_state.Differing.{Differing}
use Rattle.queue_files.proofs.Standings.{found_tidied}
use Rattle.queue_files.proofs.Tidying.{rest_found}

-- ---- what is found

-- a fault that is handed on
pub hands_on : (names : Names) (folder : Folder) (result : Result OpenedQueue QueueFault) (lost : QueueFault) → IsErrAnd result (λ e. e ≡ lost) → IsLost names lost (found folder) → FindsOpened names folder result
hands_on names folder result lost err is_lost =
    let p = err_from_is_err_and result err in
    subst (λ r. FindsOpened names folder r) (sym (p.1 ∙ ap Err p.2)) is_lost

pub no_damage : {Y : Type 0} (names : Names) (fault : QueueFault) (found : Result Y Damaged) → IsNoDamage fault → IsLost names fault found
no_damage names (f.Damaged d) found none = absurd none
no_damage names f.Fault found none = tt
no_damage names f.Memory found none = tt

-- the head slot tells no page
pub head_damaged : (folder : Folder) (m : Mismatch) → is_new folder ≡ false → told (folder head) ≡ Err m → found folder ≡ Err (head, m)
head_damaged folder m other tells =
    cond-false (is_new folder) (Ok nothing_found) (and_then (told_at head (folder head)) (of_head folder)) other
    ∙ ap (λ (t : Result PageState Mismatch). and_then (or_damage t (λ m. (head, m))) (of_head folder)) tells

-- what is told of the slots is told of the file
pub told_as : (file : _) (slots : Slots) (result : Result (ℕ × PageState) Differing) → slots ≡ slots_of (bytes_of file) → as_told result ≡ told_by slots slots.newest → told file ≡ as_told result
told_as file slots result are says = sym (says ∙ ap (λ (s : Slots). told_by s s.newest) are)

-- ---- what a stop leaves

module _ {S : Type 0} (store : StoreWords S) (tell : ImagesTell store) (names : Names) where
  abbrev pub now : S → Folder
  now s = read_in names (store.seen s)

  -- nothing but looks
  pub only_looked : (old new : S) → ((i : Image) → MayLeaveNow store old i → IsAtRest (store.seen old) i) → Nothing store old new → HoldsFound store names old new
  only_looked old new rests nothing = weaker store tell old new (MayLeaveNow store old) (λ i. NoChances names i → found (folder_in names i) ≡ found (now old)) (nothing_left store old new nothing)
      (λ i told left chances. rest_found names (store.seen old) i (rests i left))

  -- a new folder
  pub first_made : (file slots : List ℕ) (old new : S) → AreApart names → file ≡ names (page 0) → slots ≡ names head → IsBegun store names old → FirstKeeps store file slots old new → HoldsFound store names old new
  first_made file slots old new apart file_is slots_are begun keeps =
      weaker store tell old new (λ i. NoChances names i → found (folder_in names i) ≡ Ok nothing_found) (λ i. NoChances names i → found (folder_in names i) ≡ found (now old))
      (keeps names apart (record { is = begun.is; rests = begun.rests; file_is = file_is; slots_are = slots_are }))
      (λ i told holds chances. holds chances ∙ sym (new_is_empty (now old) (begun.is told)))

  pub first_found : (old : S) (o : OpenedQueue) → IsBegun store names old → IsTrue store.tells → o.pages.top.state.least + o.pages.top.state.count ≡ 1 → IsOpened (now old) o
  first_found old o begun told next = record { rows = nothing_found; is_found = new_is_empty (now old) (begun.is told); next = sym next }

  -- pages of a folder without what isn't read
  module _ (l : Listing) (s : PageState) (old mid : S) (read : IsRead store names l s old) (go : StaysFound store names old mid) where
    pub gone_first : HoldsFound store names old mid
    gone_first = weaker store tell old mid (λ i. found (folder_in names i) ≡ found (now old)) (λ i. NoChances names i → found (folder_in names i) ≡ found (now old)) go (λ i told holds chances. holds)

    module _ (tidy : LeavesTidy store names s old mid) where
      head_told : IsTrue store.tells → told (store.seen mid (names head)) ≡ Ok s
      head_told told_is = ap told (tidy.tidied told_is).head_is ∙ read.tells told_is

      pub then_read : (new : S) → KeepsFound store names s mid new → HoldsFound store names old new
      then_read new keeps = one_then_other store tell old mid new (λ i. found (folder_in names i) ≡ found (now old)) (λ i. NoChances names i → found (folder_in names i) ≡ found (now mid))
          (λ i. NoChances names i → found (folder_in names i) ≡ found (now old)) go (keeps tidy.rests head_told) (λ i told_is holds chances. holds) (λ i told_is holds chances. holds chances ∙ (tidy.tidied told_is).found_is)

      pub found_here : s.page < 2 ^ 32 → IsTrue store.tells → found (now old) ≡ found_of (now mid) s (filter (λ n. nat_lt n s.page) l.pages.items)
      found_here fits told_is = found_tidied (now old) (now mid) s l.pages.items (read.listed told_is).pages (read.tells told_is) fits (tidy.tidied told_is)

      pub reads_pages : s.page < 2 ^ 32 → IsTrue store.tells → (numbers : List ℕ) → numbers ≡ filter (λ n. nat_lt n s.page) l.pages.items → (o : OpenedQueue) → IsScanned (now mid) s numbers o.pages → IsOpened (now old) o
      reads_pages fits told_is numbers are o scanned = record {
        rows = scanned.rows;
        is_found = found_here fits told_is ∙ ap (found_of (now mid) s) (sym are) ∙ scanned.is_found;
        next = scanned.next;
      }

      pub loses_pages : s.page < 2 ^ 32 → IsTrue store.tells → (numbers : List ℕ) → numbers ≡ filter (λ n. nat_lt n s.page) l.pages.items → (lost : QueueFault) → IsLost names lost (found_of (now mid) s numbers)
          → IsLost names lost (found (now old))
      loses_pages fits told_is numbers are lost is = subst (IsLost names lost) (ap (found_of (now mid) s) are ∙ sym (found_here fits told_is)) is

  -- a folder that was looked at
  pub sees_new : (look : Look) (s : S) → IsSeen store names look s → (result : Bool) → ((folder : Folder) → look.slots ≡ slots_of (bytes_of (folder head)) → IsListed folder look.listing → result ≡ is_new folder)
      → result ≡ true → IsBegun store names s
  sees_new look s seen result says is = record {
    rests = seen.rests;
    is = λ told_is. sym (says (now s) (seen.looked told_is).slots_are (seen.looked told_is).listed) ∙ is;
  }

  pub sees_pages : (look : Look) (s : S) (turn : ℕ) (state : PageState) (result : Result (ℕ × PageState) Differing) → IsSeen store names look s → as_told result ≡ told_by look.slots look.slots.newest → result ≡ Ok (turn, state)
      → IsRead store names look.listing state s
  sees_pages look s turn state result seen says is = record {
    rests = seen.rests;
    listed = λ told_is. (seen.looked told_is).listed;
    tells = λ told_is. told_as (store.seen s (names head)) look.slots result (seen.looked told_is).slots_are says ∙ ap as_told is;
  }

  pub sees_damage : (look : Look) (s : S) (result : Result (ℕ × PageState) Differing) (d : Differing) (new : Bool) (file : List ℕ) → IsSeen store names look s → IsTrue store.tells → as_told result ≡ told_by look.slots look.slots.newest
      → result ≡ Err d → ((folder : Folder) → look.slots ≡ slots_of (bytes_of (folder head)) → IsListed folder look.listing → new ≡ is_new folder) → new ≡ false → file ≡ names head
      → IsLost names (f.Damaged (record { file = file; place = 0; found = d.found; expected = d.expected })) (found (now s))
  sees_damage look s result d new file seen told_is says is newly other named = (
    head,
    named,
    head_damaged (now s) (misfit_of d) (sym (newly (now s) (seen.looked told_is).slots_are (seen.looked told_is).listed) ∙ other)
        (told_as (store.seen s (names head)) look.slots result (seen.looked told_is).slots_are says ∙ ap as_told is),
  )

  -- the whole
  abbrev pub Left : S → Image → Type 0
  Left s i = MayLeaveNow store s i ⊎ (IsTrue store.tells × (NoChances names i → found (folder_in names i) ≡ found (now s)))

  module _ (old s1 : S) (settles : Settles store old s1) where
    pub synced : KeepsOpened store names old s1
    synced = by_call store old s1 (Left old) settles.time (λ i left. inl left)
        (λ i left. ⊎_elim (λ still. inl still) (λ rest. inr (tell s1 (store.moment s1) i left, λ chances. rest_found names (store.seen old) i rest)) (settles.images i left))

    module _ (durable : (i : Image) → MayLeaveNow store s1 i → IsAtRest (store.seen old) i) (s2 : S) (nothing : Nothing store s1 s2) where
      at_rest_now : (i : Image) → IsTrue store.tells → MayLeaveNow store s1 i → Left old i
      at_rest_now i told_is left = inr (told_is, λ chances. rest_found names (store.seen old) i (durable i left))

      pub then_looked : KeepsOpened store names old s2
      then_looked = one_then_other store tell old s1 s2 (Left old) (MayLeaveNow store s1) (Left old) synced (nothing_left store s1 s2 nothing) (λ i told_is left. left) at_rest_now

      reads_same : IsTrue store.tells → store.seen s2 ≡ store.seen old
      reads_same told_is = nothing.reads told_is ∙ settles.reads told_is

      pub is_seen : (look : Look) → (IsTrue store.tells → IsLook names (store.seen s1) look) → IsSeen store names look s2
      is_seen look looked = record {
        rests = λ i left. subst (λ c. IsAtRest c i) (sym (reads_same (tell s2 (store.moment s2) i left))) (durable i (nothing.images i left));
        looked = λ told_is. subst (λ c. IsLook names c look) (sym (nothing.reads told_is)) (looked told_is);
      }

      pub then_opened : (new : S) → HoldsFound store names s2 new → KeepsOpened store names old new
      then_opened new holds = one_then_other store tell old s2 new (Left old) (λ i. NoChances names i → found (folder_in names i) ≡ found (now s2)) (Left old) then_looked holds (λ i told_is left. left)
          (λ i told_is is. inr (told_is, λ chances. is chances ∙ ap (λ c. found (read_in names c)) (reads_same told_is)))

      pub finds : (result : Result OpenedQueue QueueFault) → IsTrue store.tells → FindsOpened names (now s2) result → FindsOpened names (now old) result
      finds result told_is is = subst (λ c. FindsOpened names (read_in names c) result) (reads_same told_is) is

  pub opening_keeps : (old new : S) → KeepsOpened store names old new → OpeningKeeps store names old new
  opening_keeps old new run q now_kept images = weaker store tell old new (Left old) (λ i. NoChances names i → Kept q (folder_in names i)) run
      (λ i told_is left chances. ⊎_elim (λ still. images i still chances) (λ same. let k = now_kept told_is in record { held = k.held; is_found = same.1 chances ∙ k.is_found; kept = k.kept; recorded = k.recorded }) left)
