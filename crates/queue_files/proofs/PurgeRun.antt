-- A page below the head goes, call by call.
use Rattle.std.proofs.Common.{◌≡◌, ◌≢◌, ⊎_elim, ℕ, ◌<◌, IsTrue, List, ◌++◌, None, Result, Ok, Err, OnOk, refl, sym, ◌∙◌, ap, subst, arith}
use Rattle.std.proofs.lemmas.Bool.{cases_eq}
use Rattle.io_traits.specs.Folders.{Content}
use Rattle.io_traits.specs.Images.{Image, FileImage, RemovedFile, On, IsAtRest, at_rest}
use Rattle.io_traits.specs.Chance.{NoChance}
use Rattle.io_traits.specs.Tails.{passes}
use Rattle.io_traits.specs.Moments.{MayLeaveNow, EachMoment, ImagesTell}
use Rattle.io_traits.specs.declared.stores.Store.{Ghosts as StoreWords}
use Rattle.io_traits.proofs.Moments.{by_call, goes_on}
use Rattle.io_traits.proofs.TailRuns.{Changes, Settles}
use Rattle.queue_page.specs.Elements.{is_element}
use Rattle.queue_files.specs.Folders.{Role, head, page, checkpoint, Folder, Names, AreApart, folder_in}
use Rattle.queue_files.specs.Checkpoints.{told}
use Rattle.queue_files.specs.Kept.{Page, Queue, NoTail, IsQueue, Kept, Stands}
use Rattle.queue_files.specs.Resting.{Held, Rests}
use Rattle.queue_files.specs.Steps.{with_tails}
use Rattle.queue_files.specs.Changes.{SameFiles, IsPurged}
use Rattle.queue_files.proofs.Kept.{standing_is_kept}
use Rattle.queue_files.proofs.Whole.{resting_stands, resting_is_kept}
use Rattle.queue_files.proofs.FolderKeeping.{purged_keeps}
use Rattle.queue_files.proofs.SameFiles.{same_files_stand, held_stands}
use Rattle.queue_files.proofs.Purged.{among, none_here, purged_is_queue, purged_stands, purged_is_held}
use Rattle.queue_files.specs.Marks.{read_in, NoChances}
use Rattle.queue_files.specs.Ready.{Ready, IsSpentPage}
use Rattle.queue_files.proofs.TornMarks.{number_of}
use Rattle.queue_files.proofs.Keeping.{at_rest_rests, files_rest}

pub ok_then : {T E P : Type 0} (result : Result T E) → P → OnOk result P
ok_then (Ok x) p = p
ok_then (Err e) p = tt

-- a folder with all the same files
all_same : (q : Queue) (a b : Folder) → ((role : Role) → b role ≡ a role) → SameFiles q a b
all_same q a b same = record {
  tails = λ n tail. (same (checkpoint n), same (page n));
  gone = λ n less none. same (page n);
  told_same = ap told (same head);
  top = same (page q.top.number);
}

-- a removal that a stop has undone
undone : (names : Names) (apart : AreApart names) (n : ℕ) (d i : Image) → On (names (page n)) RemovedFile d i → (i (names (page n))).file ≡ (d (names (page n))).file
    → (role : Role) → folder_in names i role ≡ folder_in names d role
undone names apart n d i on same head = ap (λ (f : FileImage). f.file) (on.there (names head) (λ is. absurd (other (apart head (page n) is))))
  where
    other : head ≡ page n → ⊥
    other is = absurd cc
undone names apart n d i on same (checkpoint m) = ap (λ (f : FileImage). f.file) (on.there (names (checkpoint m)) (λ is. absurd (other (apart (checkpoint m) (page n) is))))
  where
    other : checkpoint m ≡ page n → ⊥
    other is = absurd cc
undone names apart n d i on same (page m) = ⊎_elim
    (λ (is : m ≡ n). subst (λ (k : ℕ). (i (names (page k))).file ≡ (d (names (page k))).file) (sym is) same)
    (λ (differs : m ≢ n). ap (λ (f : FileImage). f.file) (on.there (names (page m)) (λ is. differs (ap number_of (apart (page m) (page n) is)))))
    (cases_eq m n)

module _ {S : Type 0} (store : StoreWords S) (tell : ImagesTell store) (names : Names) (apart : AreApart names) (q : Queue) (front behind : List Page) (p : Page) (file slots : List ℕ) (s0 : S)
    (ready : Ready store names q s0) (goes : IsSpentPage names q front behind p file slots) where
  abbrev pub Holds : Image → Type 0
  Holds i = NoChances names i → Kept q (folder_in names i)

  abbrev less : Queue
  less = with_tails (front ++ behind) q

  abbrev before : Folder
  before = read_in names (store.seen s0)

  told_of : (s : S) (i : Image) → MayLeaveNow store s i → IsTrue store.tells
  told_of s i left = tell s (store.moment s) i left

  less_is : IsQueue less
  less_is = purged_is_queue q front behind p goes.parts ready.is

  below_top : p.number < q.top.number
  below_top = (among q front behind p goes.parts ready.is).below

  -- what keeps the queue without the page keeps the queue
  less_keeps : (folder : Folder) → Kept less folder → Kept q folder
  less_keeps folder kept = purged_keeps q front behind p folder goes.parts (among q front behind p goes.parts ready.is).sound goes.spent kept

  stands0 : (told : IsTrue store.tells) (d : Image) → MayLeaveNow store s0 d → NoChance (passes is_element) (d (names (page q.top.number))) → Stands q (folder_in names d)
  stands0 told d left chance = resting_stands q names before d ready.is (ready.held told) (ready.images told d left) chance

  holds0 : (i : Image) → MayLeaveNow store s0 i → Holds i
  holds0 i left chances = standing_is_kept q (folder_in names i) ready.is (stands0 (told_of s0 i left) i left (chances.elements (page q.top.number)))

  module _ (s1 : S) (change1 : Changes store s0 s1 file RemovedFile) where
    -- the page is gone, or its removal is undone
    holds1 : (i : Image) → MayLeaveNow store s1 i → Holds i
    holds1 i left chances =
        let told = told_of s1 i left in
        let d = change1.images i left in
        let on : On (names (page p.number)) RemovedFile d.0 i = subst (λ n. On n RemovedFile d.0 i) goes.file_is d.2 in
        let top_same : i (names (page q.top.number)) ≡ d.0 (names (page q.top.number)) = on.there (names (page q.top.number)) (λ same. absurd (omega (arith, below_top, ap number_of (apart (page q.top.number) (page p.number) same)))) in
        let stands = stands0 told d.0 d.1 (subst (NoChance (passes is_element)) top_same (chances.elements (page q.top.number))) in
        ⊎_elim
        (λ (gone : (i (names (page p.number))).file ≡ None).
        let purged : IsPurged p.number (folder_in names d.0) (folder_in names i) = record {
          page_gone = gone;
          others = λ role one two. ap (λ (f : FileImage). f.file) (on.there (names role) (λ same. one (apart role (page p.number) same)));
        } in
        less_keeps (folder_in names i)
        (standing_is_kept less (folder_in names i) less_is (purged_stands q front behind p (folder_in names d.0) (folder_in names i) goes.parts ready.is stands purged)))
        (λ (same : (i (names (page p.number))).file ≡ (d.0 (names (page p.number))).file).
        standing_is_kept q (folder_in names i) ready.is
        (same_files_stand q (folder_in names d.0) (folder_in names i) (all_same q (folder_in names d.0) (folder_in names i) (undone names apart p.number d.0 i on same)) stands))
        on.here.gone

    pub run_removed : EachMoment store s0 s1 Holds
    run_removed = by_call store s0 s1 Holds change1.time holds0 holds1

    module _ (removed : IsTrue store.tells → store.seen s1 file ≡ None) where
      -- folders in which the page is gone, and maybe its checkpoint
      gone_from : (told : IsTrue store.tells) (b : Folder) → ((role : Role) → role ≢ checkpoint p.number → b role ≡ store.seen s1 (names role)) → IsPurged p.number before b
      gone_from told b others = record {
        page_gone = others (page p.number) (λ same. absurd cc) ∙ subst (λ n. store.seen s1 n ≡ None) goes.file_is (removed told);
        others = λ role one two. others role two ∙ change1.beside told (names role) (λ same. one (apart role (page p.number) (same ∙ goes.file_is)));
      }

      held_from : (told : IsTrue store.tells) (b : Folder) → ((role : Role) → role ≢ checkpoint p.number → b role ≡ store.seen s1 (names role)) → Held less b
      held_from told b others = purged_is_held q front behind p before b goes.parts ready.is (ready.held told) (gone_from told b others)

      held1 : IsTrue store.tells → Held less (read_in names (store.seen s1))
      held1 told = held_from told (read_in names (store.seen s1)) (λ role two. refl)

      module _ (s2 : S) (settle2 : Settles store s1 s2) where
        pub run_gone : EachMoment store s0 s2 Holds
        run_gone = goes_on store s0 s1 s2 Holds run_removed settle2.time
            (λ i left. ⊎_elim
            (λ still. holds1 i still)
            (λ rests chances.
            let held = held1 (told_of s2 i left) in
            less_keeps (folder_in names i) (resting_is_kept less names (read_in names (store.seen s1)) i less_is held (at_rest_rests names less (store.seen s1) held i rests) (chances.elements (page q.top.number))))
            (settle2.images i left))

        module _ (durable2 : (i : Image) → MayLeaveNow store s2 i → IsAtRest (store.seen s1) i) (s3 : S) (change3 : Changes store s2 s3 slots RemovedFile) where
          -- all but its checkpoint is at rest
          others_rest : (i : Image) → MayLeaveNow store s3 i → (role : Role) → role ≢ checkpoint p.number → i (names role) ≡ at_rest (store.seen s1 (names role))
          others_rest i left role two =
              let d = change3.images i left in
              d.2.there (names role) (λ same. two (apart role (checkpoint p.number) (same ∙ goes.slots_are))) ∙ durable2 d.0 d.1 (names role)

          holds3 : (i : Image) → MayLeaveNow store s3 i → Holds i
          holds3 i left chances =
              let held = held_from (told_of s3 i left) (folder_in names i) (λ role two. ap (λ (f : FileImage). f.file) (others_rest i left role two)) in
              less_keeps (folder_in names i) (standing_is_kept less (folder_in names i) less_is (held_stands less (folder_in names i) less_is held))

          pub run_purged : EachMoment store s0 s3 Holds
          run_purged = goes_on store s0 s2 s3 Holds run_gone change3.time holds3

          pub is_purged : Ready store names less s3
          is_purged = record { is = less_is; held = held3; images = images3 }
            where
              reads3 : IsTrue store.tells → (role : Role) → role ≢ checkpoint p.number → store.seen s3 (names role) ≡ store.seen s1 (names role)
              reads3 told role two = change3.beside told (names role) (λ same. two (apart role (checkpoint p.number) (same ∙ goes.slots_are))) ∙ ap (λ (c : Content). c (names role)) (settle2.reads told)

              held3 : IsTrue store.tells → Held less (read_in names (store.seen s3))
              held3 told = held_from told (read_in names (store.seen s3)) (reads3 told)

              images3 : (told : IsTrue store.tells) (i : Image) → MayLeaveNow store s3 i → Rests less names (read_in names (store.seen s3)) (held3 told) i
              images3 told i left =
                  let rest : (role : Role) → role ≢ checkpoint p.number → i (names role) ≡ at_rest (store.seen s3 (names role)) = λ role two. others_rest i left role two ∙ ap at_rest (sym (reads3 told role two)) in
                  files_rest names less (read_in names (store.seen s3)) (held3 told) i (rest head (λ same. absurd cc)) (λ n. rest (page n) (λ same. absurd cc))
                  (λ n tail. rest (checkpoint n) (λ same. tail (subst (λ m. NoTail m (front ++ behind)) (sym (ap number_of same)) (none_here q front behind p goes.parts ready.is))))
