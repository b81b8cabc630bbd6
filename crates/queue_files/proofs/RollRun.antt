-- A new head page, call by call.
use Rattle.std.proofs.Common.{◌≡◌, ◌≢◌, ⊎_elim, inr, ℕ, suc, ◌<◌, ◌≤◌, ◌^◌, IsTrue, List, [], ◌∷◌, ◌++◌, length, take, Option, Some, refl, sym, ◌∙◌, ap, subst, arith, length-take}
use Rattle.io_traits.specs.Folders.{Content}
use Rattle.io_traits.specs.Reads.{bytes_of, file_length}
use Rattle.crc_frame.specs.Slots.{place_of, next_turn, with_slot}
use Rattle.crc_frame.proofs.TornSlots.{first_slot_is_read}
use Rattle.io_traits.specs.Images.{Image, FileImage, TornFile, On, IsAtRest, at_rest}
use Rattle.io_traits.specs.Chance.{NoChance}
use Rattle.io_traits.specs.Tails.{passes}
use Rattle.io_traits.specs.Moments.{MayLeaveNow, EachMoment, ImagesTell}
use Rattle.io_traits.specs.declared.stores.Store.{Ghosts as StoreWords}
use Rattle.io_traits.proofs.Moments.{by_call, goes_on}
use Rattle.io_traits.proofs.TailRuns.{Changes, Settles}
use Rattle.io_traits.specs.declared.pages.PageState.{PageState}
use Rattle.slot_files.specs.Checkpoints.{FitsSlot, slot_spelling}
use Rattle.slot_files.proofs.CheckpointBytes.{spelling_is_slot}
use Rattle.queue_page.specs.Elements.{is_element}
use Rattle.queue_files.specs.Folders.{Role, head, page, checkpoint, Folder, Names, AreApart, folder_in}
use Rattle.queue_files.specs.Checkpoints.{told}
use Rattle.queue_files.specs.Kept.{Queue, state_at, IsSound, IsQueue, Kept}
use Rattle.queue_files.specs.Resting.{Records, Held}
use Rattle.queue_files.specs.Steps.{next_top, rolled, CanRoll}
use Rattle.queue_files.specs.Changes.{SameFiles, IsRolled}
use Rattle.queue_files.proofs.Recording.{fits_slot, spelled_records, within_bounds, records_told, torn_records}
use Rattle.queue_files.proofs.Torn.{next_fits}
use Rattle.queue_files.proofs.Kept.{standing_is_kept}
use Rattle.queue_files.proofs.Whole.{rising_top, resting_stands, resting_is_kept}
use Rattle.queue_files.proofs.FolderKeeping.{rolled_keeps}
use Rattle.queue_files.proofs.SameFiles.{same_files_stand, held_stands, tail_below}
use Rattle.queue_files.proofs.Rolled.{rolled_is_queue, rolled_is_held}
use Rattle.queue_files.specs.Marks.{read_in, NoChances}
use Rattle.queue_files.specs.Ready.{Ready, IsNextPageOf}
use Rattle.queue_files.specs.declared.rolling.NextPage.{NextPage}
use Rattle.queue_files.proofs.TornMarks.{number_of}
use Rattle.queue_files.proofs.WholeMarks.{recorded}
use Rattle.queue_files.proofs.Keeping.{at_rest_rests}

-- the first slot of a file that is missing
first_recorded : (s : PageState) → FitsSlot 0 s → Records (with_slot 0 (slot_spelling 0 s) []) 0 s
first_recorded s fits =
    spelled_records (with_slot 0 (slot_spelling 0 s) []) 0 s fits (first_slot_is_read 48 [] (slot_spelling 0 s) (omega arith) (omega arith) (spelling_is_slot 0 s (omega arith)))

-- ---- folders

module _ (q : Queue) (is : IsQueue q) where
  -- the same files but for the two that come new
  abbrev pub Grows : Folder → Folder → Type 0
  Grows a b = (role : Role) → role ≢ checkpoint q.top.number → role ≢ page (suc q.top.number) → b role ≡ a role

  pub grown_same : (a b : Folder) → ((role : Role) → role ≢ head → role ≢ checkpoint q.top.number → role ≢ page (suc q.top.number) → b role ≡ a role) → told (b head) ≡ told (a head) → SameFiles q a b
  grown_same a b grows tells =
      let pages : (n : ℕ) → n ≤ q.top.number → b (page n) ≡ a (page n) = λ n within. grows (page n) (λ same. absurd cc) (λ same. absurd cc) (λ same. absurd (omega (arith, within, ap number_of same))) in
      record {
        tails = λ n tail.
            let less = tail_below n q is tail in
            (grows (checkpoint n) (λ same. absurd cc) (λ same. absurd (omega (arith, less, ap number_of same))) (λ same. absurd cc), pages n (omega (arith, less)));
        gone = λ n less none. pages n (omega (arith, less));
        told_same = tells;
        top = pages q.top.number (omega arith);
      }

  pub grows_same : (a b : Folder) → Grows a b → SameFiles q a b
  grows_same a b grows = grown_same a b (λ role not_head. grows role) (ap told (grows head (λ same. absurd cc) (λ same. absurd cc)))

  top_sound : IsSound q.top
  top_sound = rising_top 0 0 q.tails q.top is

  -- how the page was recorded that becomes one below the head
  pub sealed_fits : (len : ℕ) → len < 2 ^ 64 → FitsSlot 0 (state_at q.top q.top.from q.top.rows len)
  sealed_fits len short = fits_slot q.top 0 q.top.from len q.top.rows top_sound (omega arith) top_sound.from_fits (omega arith) short

  pub next_state_fits : CanRoll q → FitsSlot (next_turn q.top.turn) (state_at (next_top q.top) (next_top q.top).from [] 1)
  next_state_fits can =
      let sound = rising_top 0 0 (rolled q).tails (next_top q.top) (rolled_is_queue q is can) in
      fits_slot (next_top q.top) (next_turn q.top.turn) (next_top q.top).from 1 [] sound (next_fits q.top.turn) sound.from_fits (omega arith) (omega arith)

module _ {S : Type 0} (store : StoreWords S) (tell : ImagesTell store) (names : Names) (apart : AreApart names) (q : Queue) (can : CanRoll q) (next : NextPage) (s0 : S) (ready : Ready store names q s0)
    (are : IsNextPageOf store names q s0 ready next) (slots file at_head : List ℕ) (is_slots : slots ≡ next.checkpoint) (is_file : file ≡ next.file) (is_head : at_head ≡ next.head) where
  abbrev pub Holds : Image → Type 0
  Holds i = NoChances names i → Kept q (folder_in names i)

  abbrev before : Folder
  before = read_in names (store.seen s0)

  abbrev old_state : IsTrue store.tells → PageState
  old_state told = state_at q.top q.top.from (take q.marked q.top.rows) (length (ready.held told).top.front)

  abbrev new_state : PageState
  new_state = state_at (next_top q.top) (next_top q.top).from [] 1

  abbrev size : IsTrue store.tells → ℕ
  size told = length ((ready.held told).top.front ++ (ready.held told).top.tail)

  told_of : (s : S) (i : Image) → MayLeaveNow store s i → IsTrue store.tells
  told_of s i left = tell s (store.moment s) i left

  slots_are : IsTrue store.tells → slots ≡ names (checkpoint q.top.number)
  slots_are told = is_slots ∙ (are told).checkpoint_is

  file_are : IsTrue store.tells → file ≡ names (page (suc q.top.number))
  file_are told = is_file ∙ (are told).file_is

  head_are : IsTrue store.tells → at_head ≡ names head
  head_are told = is_head ∙ (are told).head_is

  -- ---- while the two new files are written

  abbrev Grew : Image → Type 0
  Grew i = (d : Image) × MayLeaveNow store s0 d × ((role : Role) → role ≢ checkpoint q.top.number → role ≢ page (suc q.top.number) → i (names role) ≡ d (names role))

  grew_none : (i : Image) → MayLeaveNow store s0 i → Grew i
  grew_none i left = (i, left, λ role one other. refl)

  grew_more : (role : Role) (name : List ℕ) (step : FileImage → FileImage → Type 0) (d i : Image) → name ≡ names role → ((other : Role) → other ≢ checkpoint q.top.number → other ≢ page (suc q.top.number) → other ≢ role)
      → Grew d → On name step d i → Grew i
  grew_more role name step d i is_name new grew on =
      (grew.0, grew.1, λ other one two. on.there (names other) (λ same. new other one two (apart other role (same ∙ is_name))) ∙ grew.2 other one two)

  grew_holds : (i : Image) → IsTrue store.tells → Grew i → Holds i
  grew_holds i told grew chances =
      let d = grew.0 in
      let top_same = grew.2 (page q.top.number) (λ same. absurd cc) (λ same. absurd (omega (arith, ap number_of same))) in
      let stands = resting_stands q names before d ready.is (ready.held told) (ready.images told d grew.1) (subst (NoChance (passes is_element)) top_same (chances.elements (page q.top.number))) in
      standing_is_kept q (folder_in names i) ready.is
      (same_files_stand q (folder_in names d) (folder_in names i) (grows_same q ready.is (folder_in names d) (folder_in names i) (λ role one other. ap (λ (f : FileImage). f.file) (grew.2 role one other))) stands)

  module _ (s1 : S) (change1 : Changes store s0 s1 slots (TornFile (place_of 48 0) (slot_spelling 0 next.sealed))) where
    grew1 : (i : Image) → MayLeaveNow store s1 i → Grew i
    grew1 i left =
        let d = change1.images i left in
        grew_more (checkpoint q.top.number) slots (TornFile (place_of 48 0) (slot_spelling 0 next.sealed)) d.0 i (slots_are (told_of s1 i left)) (λ other one two. one) (grew_none d.0 d.1) d.2

    pub run_sealed : EachMoment store s0 s1 Holds
    run_sealed = by_call store s0 s1 Holds change1.time (λ i left. grew_holds i (told_of s0 i left) (grew_none i left)) (λ i left. grew_holds i (told_of s1 i left) (grew1 i left))

    module _ (s2 : S) (change2 : Changes store s1 s2 file (TornFile (file_length (store.seen s1 file)) (2 ∷ []))) where
      grew2 : (i : Image) → MayLeaveNow store s2 i → Grew i
      grew2 i left =
          let d = change2.images i left in
          grew_more (page (suc q.top.number)) file (TornFile (file_length (store.seen s1 file)) (2 ∷ [])) d.0 i (file_are (told_of s2 i left)) (λ other one two. two) (grew1 d.0 d.1) d.2

      pub run_begun : EachMoment store s0 s2 Holds
      run_begun = goes_on store s0 s1 s2 Holds run_sealed change2.time (λ i left. grew_holds i (told_of s2 i left) (grew2 i left))

      -- ---- and when they are settled

      grows2 : IsTrue store.tells → Grows q ready.is before (read_in names (store.seen s2))
      grows2 told role one two =
          change2.beside told (names role) (λ same. two (apart role (page (suc q.top.number)) (same ∙ file_are told)))
          ∙ change1.beside told (names role) (λ same. one (apart role (checkpoint q.top.number) (same ∙ slots_are told)))

      module _ (s3 : S) (settle3 : Settles store s2 s3) where
        pub run_grown : EachMoment store s0 s3 Holds
        run_grown = goes_on store s0 s2 s3 Holds run_begun settle3.time
            (λ i left. let told = told_of s3 i left in ⊎_elim (λ still. grew_holds i told (grew2 i still)) (λ rests. rested i told rests) (settle3.images i left))
          where
            rested : (i : Image) → IsTrue store.tells → IsAtRest (store.seen s2) i → Holds i
            rested i told rests chances =
                standing_is_kept q (folder_in names i) ready.is
                (same_files_stand q before (folder_in names i)
                (grows_same q ready.is before (folder_in names i) (λ role one two. ap (λ (f : FileImage). f.file) (rests (names role)) ∙ grows2 told role one two))
                (held_stands q before ready.is (ready.held told)))

        module _ (wrote1 : IsTrue store.tells → store.seen s1 slots ≡ Some (with_slot (place_of 48 0) (slot_spelling 0 next.sealed) (bytes_of (store.seen s0 slots))))
            (wrote2 : IsTrue store.tells → store.seen s2 file ≡ Some (bytes_of (store.seen s1 file) ++ 2 ∷ [])) (durable3 : (i : Image) → MayLeaveNow store s3 i → IsAtRest (store.seen s2) i) where
          sealed2 : (told : IsTrue store.tells) → Records (bytes_of (store.seen s2 (names (checkpoint q.top.number)))) 0 (state_at q.top q.top.from q.top.rows (size told))
          sealed2 told =
              let held = ready.held told in
              let state = state_at q.top q.top.from q.top.rows (size told) in
              let at = names (checkpoint q.top.number) in
              let none : store.seen s0 at ≡ _ = held.no_checkpoints q.top.number (omega arith) (omega (arith, (rising_top 0 0 q.tails q.top ready.is).number)) in
              let first = first_recorded state (sealed_fits q ready.is (size told) held.top.short) in
              let now : store.seen s1 at ≡ Some (with_slot 0 (slot_spelling 0 state) []) =
              subst (λ n. store.seen s1 n ≡ Some (with_slot 0 (slot_spelling 0 next.sealed) (bytes_of (store.seen s0 n)))) (slots_are told) (wrote1 told)
              ∙ ap (λ (o : Option (List ℕ)). Some (with_slot 0 (slot_spelling 0 next.sealed) (bytes_of o))) none ∙ ap (λ (s : PageState). Some (with_slot 0 (slot_spelling 0 s) [])) (are told).sealed_is in
              let still : store.seen s2 at ≡ store.seen s1 at = change2.beside told at (λ same. absurd (not_page (apart (checkpoint q.top.number) (page (suc q.top.number)) (same ∙ file_are told)))) in
              subst (λ o. Records (bytes_of o) 0 state) (sym (still ∙ now)) first
            where
              not_page : checkpoint q.top.number ≡ page (suc q.top.number) → ⊥
              not_page same = absurd cc

          begun2 : IsTrue store.tells → store.seen s2 (names (page (suc q.top.number))) ≡ Some (2 ∷ [])
          begun2 told =
              let at = names (page (suc q.top.number)) in
              let still : store.seen s1 at ≡ store.seen s0 at = change1.beside told at (λ same. absurd (not_checkpoint (apart (page (suc q.top.number)) (checkpoint q.top.number) (same ∙ slots_are told)))) in
              subst (λ n. store.seen s2 n ≡ Some (bytes_of (store.seen s1 n) ++ 2 ∷ [])) (file_are told) (wrote2 told)
              ∙ ap (λ (o : Option (List ℕ)). Some (bytes_of o ++ 2 ∷ [])) (still ∙ (ready.held told).no_pages (suc q.top.number) (omega arith) (omega (arith, can.number)))
            where
              not_checkpoint : page (suc q.top.number) ≡ checkpoint q.top.number → ⊥
              not_checkpoint same = absurd cc

          -- a folder with the new files, and the head slot
          grown_rolled : (told : IsTrue store.tells) (b : Folder) → ((role : Role) → role ≢ head → b role ≡ store.seen s2 (names role)) → Records (bytes_of (b head)) (next_turn q.top.turn) new_state → IsRolled q (size told) before b
          grown_rolled told b others slot = record {
            head_slot = slot;
            sealed_slot = subst (λ o. Records (bytes_of o) 0 (state_at q.top q.top.from q.top.rows (size told))) (sym (others (checkpoint q.top.number) (λ same. absurd cc))) (sealed2 told);
            begun = others (page (suc q.top.number)) (λ same. absurd cc) ∙ begun2 told;
            pages = λ n other. others (page n) (λ same. absurd cc) ∙ grows2 told (page n) (λ same. absurd cc) (λ same. other (ap number_of same));
            checkpoints = λ n other. others (checkpoint n) (λ same. absurd cc) ∙ grows2 told (checkpoint n) (λ same. other (ap number_of same)) (λ same. absurd cc);
          }

          rolled_now : IsQueue (rolled q)
          rolled_now = rolled_is_queue q ready.is can

          head2 : IsTrue store.tells → store.seen s2 (names head) ≡ before head
          head2 told = grows2 told head (λ same. absurd cc) (λ same. absurd cc)

          -- ---- while the head slot is written

          module _ (s4 : S) (change4 : Changes store s3 s4 at_head (TornFile (place_of 48 next.turn) (slot_spelling next.turn next.state))) where
            head_torn : (told : IsTrue store.tells) (d i : Image) → IsAtRest (store.seen s2) d → On at_head (TornFile (place_of 48 next.turn) (slot_spelling next.turn next.state)) d i
                → TornFile (place_of 48 (next_turn q.top.turn)) (slot_spelling (next_turn q.top.turn) new_state) (at_rest (before head)) (i (names head))
            head_torn told d i rests on =
                let here : TornFile (place_of 48 next.turn) (slot_spelling next.turn next.state) (d (names head)) (i (names head)) =
                subst (λ (n : List ℕ). TornFile (place_of 48 next.turn) (slot_spelling next.turn next.state) (d n) (i n)) (head_are told) on.here in
                subst (λ (f : FileImage). TornFile (place_of 48 (next_turn q.top.turn)) (slot_spelling (next_turn q.top.turn) new_state) f (i (names head))) (rests (names head) ∙ ap at_rest (head2 told))
                (subst (λ (s : PageState). TornFile (place_of 48 (next_turn q.top.turn)) (slot_spelling (next_turn q.top.turn) s) (d (names head)) (i (names head))) (are told).state_is
                (subst (λ (t : ℕ). TornFile (place_of 48 t) (slot_spelling t next.state) (d (names head)) (i (names head))) (are told).turn_is here))

            head_holds : (i : Image) → MayLeaveNow store s4 i → Holds i
            head_holds i left chances =
                let told = told_of s4 i left in
                let d = change4.images i left in
                let rests = durable3 d.0 d.1 in
                let held = ready.held told in
                let others : (role : Role) → role ≢ head → folder_in names i role ≡ store.seen s2 (names role) =
                λ role not_head. ap (λ (f : FileImage). f.file) (d.2.there (names role) (λ same. not_head (apart role head (same ∙ head_are told))) ∙ rests (names role)) in
                let sound = rising_top 0 0 q.tails q.top ready.is in
                let tells : (slots : Option (List ℕ)) → Records (bytes_of slots) q.top.turn (old_state told) → _ =
                λ slots r. records_told slots q.top.turn (old_state told) r (within_bounds q.top q.top.from (length held.top.front) (take q.marked q.top.rows) sound (omega (arith, length-take q.marked q.top.rows))) in
                ⊎_elim
                (λ (was : Records (bytes_of (i (names head)).file) q.top.turn (old_state told)).
                standing_is_kept q (folder_in names i) ready.is
                (same_files_stand q before (folder_in names i)
                (grown_same q ready.is before (folder_in names i) (λ role not_head one two. others role not_head ∙ grows2 told role one two) (tells (i (names head)).file was ∙ sym (tells (before head) held.top.records)))
                (held_stands q before ready.is held)))
                (λ (new : Records (bytes_of (i (names head)).file) (next_turn q.top.turn) new_state).
                let now = rolled_is_held q before (folder_in names i) ready.is held (grown_rolled told (folder_in names i) others new) in
                rolled_keeps q (folder_in names i) held.top.marked (standing_is_kept (rolled q) (folder_in names i) rolled_now (held_stands (rolled q) (folder_in names i) rolled_now now)))
                (torn_records (before head) q.top.turn (old_state told) new_state (i (names head)) held.top.records (next_state_fits q ready.is can)
                (record { rests_or_torn = inr (head_torn told d.0 i rests d.2); no_chance = chances.slots head }))

            pub run_headed : EachMoment store s0 s4 Holds
            run_headed = goes_on store s0 s3 s4 Holds run_grown change4.time head_holds

            -- ---- and when it is settled

            module _ (wrote4 : IsTrue store.tells → store.seen s4 at_head ≡ Some (with_slot (place_of 48 next.turn) (slot_spelling next.turn next.state) (bytes_of (store.seen s3 at_head)))) (s5 : S) (settle5 : Settles store s4 s5) where
              held4 : IsTrue store.tells → Held (rolled q) (read_in names (store.seen s4))
              held4 told =
                  let held = ready.held told in
                  let same : store.seen s3 ≡ store.seen s2 = settle3.reads told in
                  let others : (role : Role) → role ≢ head → store.seen s4 (names role) ≡ store.seen s2 (names role) =
                  λ role not_head. change4.beside told (names role) (λ is. not_head (apart role head (is ∙ head_are told))) ∙ ap (λ (c : Content). c (names role)) same in
                  let now : store.seen s4 (names head) ≡ Some (with_slot (place_of 48 (next_turn q.top.turn)) (slot_spelling (next_turn q.top.turn) new_state) (bytes_of (before head))) =
                  subst (λ n. store.seen s4 n ≡ Some (with_slot (place_of 48 next.turn) (slot_spelling next.turn next.state) (bytes_of (store.seen s3 n)))) (head_are told) (wrote4 told)
                  ∙ ap (λ (o : Option (List ℕ)). Some (with_slot (place_of 48 next.turn) (slot_spelling next.turn next.state) (bytes_of o))) (ap (λ (c : Content). c (names head)) same ∙ head2 told)
                  ∙ ap (λ (t : ℕ). Some (with_slot (place_of 48 t) (slot_spelling t next.state) (bytes_of (before head)))) (are told).turn_is
                  ∙ ap (λ (s : PageState). Some (with_slot (place_of 48 (next_turn q.top.turn)) (slot_spelling (next_turn q.top.turn) s) (bytes_of (before head)))) (are told).state_is in
                  let slot = recorded (bytes_of (before head)) q.top.turn (old_state told) new_state held.top.records (next_state_fits q ready.is can) in
                  rolled_is_held q before (read_in names (store.seen s4)) ready.is held
                  (grown_rolled told (read_in names (store.seen s4)) others (subst (λ o. Records (bytes_of o) (next_turn q.top.turn) new_state) (sym now) slot))

              pub run_rolled : EachMoment store s0 s5 Holds
              run_rolled = goes_on store s0 s4 s5 Holds run_headed settle5.time
                  (λ i left. ⊎_elim
                  (λ still. head_holds i still)
                  (λ rests chances.
                  let told = told_of s5 i left in
                  rolled_keeps q (folder_in names i) (ready.held told).top.marked
                  (resting_is_kept (rolled q) names (read_in names (store.seen s4)) i rolled_now (held4 told) (at_rest_rests names (rolled q) (store.seen s4) (held4 told) i rests) (chances.elements (page (suc q.top.number)))))
                  (settle5.images i left))

              pub is_rolled : ((i : Image) → MayLeaveNow store s5 i → IsAtRest (store.seen s4) i) → Ready store names (rolled q) s5
              is_rolled durable5 = record {
                is = rolled_now;
                held = held5;
                images = λ told i left. at_rest_rests names (rolled q) (store.seen s5) (held5 told) i (subst (λ (c : Content). IsAtRest c i) (sym (settle5.reads told)) (durable5 i left));
              }
                where
                  held5 : IsTrue store.tells → Held (rolled q) (read_in names (store.seen s5))
                  held5 told = subst (λ (c : Content). Held (rolled q) (read_in names c)) (sym (settle5.reads told)) (held4 told)
