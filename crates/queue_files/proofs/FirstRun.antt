-- A new queue, call by call.
use Rattle.std.proofs.Common.{◌≡◌, ◌≢◌, inl, ⊎_elim, ℕ, ◌≤◌, IsTrue, List, [], ◌∷◌, ◌++◌, length, take, Option, Some, None, option_map, Ok, refl, sym, ◌∙◌, ap, subst, arith}
use Rattle.io_traits.specs.Folders.{Content}
use Rattle.io_traits.specs.Reads.{bytes_of, file_length}
use Rattle.crc_frame.specs.Slots.{place_of, slot_of, newest_slot, with_slot, MayHoldSlot, NewestIs, IsSlotOf}
use Rattle.crc_frame.proofs.TornSlots.{first_slot_is_none_or_new, first_slot_is_read}
use Rattle.io_traits.specs.Images.{Image, FileImage, TornFile, CutFile, On, IsAtRest, at_rest}
use Rattle.io_traits.specs.Moments.{MayLeaveNow, EachMoment, ImagesTell}
use Rattle.io_traits.specs.declared.stores.Store.{Ghosts as StoreWords}
use Rattle.io_traits.proofs.Moments.{by_call, goes_on}
use Rattle.io_traits.proofs.TailRuns.{Changes, Settles}
use Rattle.io_traits.specs.declared.pages.PageState.{PageState}
use Rattle.slot_files.specs.Checkpoints.{FitsSlot, slot_spelling}
use Rattle.slot_files.proofs.CheckpointBytes.{spelling_is_slot}
use Rattle.slot_files.proofs.SlotWrites.{may_hold}
use Rattle.queue_files.specs.Folders.{Role, head, page, checkpoint, Folder, Names, AreApart, folder_in}
use Rattle.queue_files.specs.Found.{nothing_found, found}
use Rattle.queue_files.specs.Kept.{state_at, IsSound, IsQueue}
use Rattle.queue_files.specs.Resting.{Held}
use Rattle.queue_files.specs.Steps.{first_page, first_queue}
use Rattle.queue_files.proofs.Recording.{fits_slot, spelled_records}
use Rattle.queue_files.proofs.Kept.{standing_is_kept}
use Rattle.queue_files.proofs.SameFiles.{held_stands}
use Rattle.queue_files.proofs.NewFolders.{NewHead, new_head, new_is_empty, stays_new, first_is_held, first_is_empty}
use Rattle.queue_files.specs.Marks.{read_in, NoChances}
use Rattle.queue_files.specs.Ready.{Ready, IsNewFolder}
use Rattle.queue_files.proofs.TornMarks.{number_of}
use Rattle.queue_files.proofs.Keeping.{at_rest_rests}

first_sound : IsSound first_page
first_sound = record { number = omega arith; turn = omega arith; least = omega arith; numbers = omega arith; count = omega arith; numbered = tt; each = refl; from_fits = omega arith; from = inl (omega arith) }

first_is : IsQueue first_queue
first_is = (omega arith, omega arith, first_sound)

abbrev first_state : PageState
first_state = state_at first_page 1 [] 1

abbrev first_slot : List ℕ
first_slot = slot_spelling 0 first_state

first_fits : FitsSlot 0 first_state
first_fits = fits_slot first_page 0 1 1 [] first_sound (omega arith) (omega arith) (omega arith) (omega arith)

is_first_slot : IsSlotOf 48 0 first_slot
is_first_slot = spelling_is_slot 0 first_state (omega arith)

nothing_left : (o : Option (List ℕ)) → bytes_of (option_map (take 0) o) ≡ []
nothing_left None = refl
nothing_left (Some bytes) = refl

module _ {S : Type 0} (store : StoreWords S) (tell : ImagesTell store) (names : Names) (apart : AreApart names) (file slots : List ℕ) (s0 : S) (new : IsNewFolder store names file slots s0) where
  abbrev pub Holds : Image → Type 0
  Holds i = NoChances names i → found (folder_in names i) ≡ Ok nothing_found

  abbrev before : Folder
  before = read_in names (store.seen s0)

  told_of : (s : S) (i : Image) → MayLeaveNow store s i → IsTrue store.tells
  told_of s i left = tell s (store.moment s) i left

  head_new : IsTrue store.tells → NewHead before
  head_new told = new_head before (new.is told)

  -- ---- while page 0 is made

  abbrev Still : Image → Type 0
  Still i = (role : Role) → role ≢ page 0 → i (names role) ≡ at_rest (before role)

  still_holds : (i : Image) → IsTrue store.tells → Still i → Holds i
  still_holds i told still chances =
      let same : (role : Role) → role ≢ page 0 → folder_in names i role ≡ before role = λ role other. ap (λ (f : FileImage). f.file) (still role other) in
      let at_head = same head (λ is. absurd cc) in
      new_is_empty (folder_in names i)
      (stays_new before (folder_in names i) (new.is told) (subst (λ (o : Option (List ℕ)). newest_slot 48 (bytes_of o) ≡ None) (sym at_head) (head_new told).none)
      (subst (λ (o : Option (List ℕ)). length (bytes_of o) ≤ 48) (sym at_head) (head_new told).short)
      (λ n past. same (page n) (λ is. absurd (omega (arith, past, ap number_of is)))) (λ n. same (checkpoint n) (λ is. absurd cc)))

  still_more : (step : FileImage → FileImage → Type 0) (d i : Image) → Still d → On file step d i → Still i
  still_more step d i still on role other = on.there (names role) (λ same. other (apart role (page 0) (same ∙ new.file_is))) ∙ still role other

  still0 : (i : Image) → MayLeaveNow store s0 i → Still i
  still0 i left role other = new.rests i left (names role)

  module _ (s1 : S) (change1 : Changes store s0 s1 file (CutFile 0)) where
    still1 : (i : Image) → MayLeaveNow store s1 i → Still i
    still1 i left = let d = change1.images i left in still_more (CutFile 0) d.0 i (still0 d.0 d.1) d.2

    pub run_cut : EachMoment store s0 s1 Holds
    run_cut = by_call store s0 s1 Holds change1.time (λ i left. still_holds i (told_of s0 i left) (still0 i left)) (λ i left. still_holds i (told_of s1 i left) (still1 i left))

    module _ (s2 : S) (change2 : Changes store s1 s2 file (TornFile (file_length (store.seen s1 file)) (2 ∷ []))) where
      still2 : (i : Image) → MayLeaveNow store s2 i → Still i
      still2 i left = let d = change2.images i left in still_more (TornFile (file_length (store.seen s1 file)) (2 ∷ [])) d.0 i (still1 d.0 d.1) d.2

      pub run_begun : EachMoment store s0 s2 Holds
      run_begun = goes_on store s0 s1 s2 Holds run_cut change2.time (λ i left. still_holds i (told_of s2 i left) (still2 i left))

      reads2 : IsTrue store.tells → (role : Role) → role ≢ page 0 → store.seen s2 (names role) ≡ before role
      reads2 told role other =
          let differs : names role ≢ file = λ same. other (apart role (page 0) (same ∙ new.file_is)) in
          change2.beside told (names role) differs ∙ change1.beside told (names role) differs

      module _ (s3 : S) (settle3 : Settles store s2 s3) where
        pub run_grown : EachMoment store s0 s3 Holds
        run_grown = goes_on store s0 s2 s3 Holds run_begun settle3.time
            (λ i left.
            let told = told_of s3 i left in
            ⊎_elim (λ old. still_holds i told (still2 i old)) (λ rests. still_holds i told (λ role other. rests (names role) ∙ ap at_rest (reads2 told role other))) (settle3.images i left))

        module _ (cut1 : IsTrue store.tells → store.seen s1 file ≡ option_map (take 0) (store.seen s0 file)) (wrote2 : IsTrue store.tells → store.seen s2 file ≡ Some (bytes_of (store.seen s1 file) ++ 2 ∷ []))
            (durable3 : (i : Image) → MayLeaveNow store s3 i → IsAtRest (store.seen s2) i) where
          begun2 : IsTrue store.tells → store.seen s2 (names (page 0)) ≡ Some (2 ∷ [])
          begun2 told =
              subst (λ n. store.seen s2 n ≡ Some (2 ∷ [])) new.file_is
              (wrote2 told ∙ ap (λ (o : Option (List ℕ)). Some (bytes_of o ++ 2 ∷ [])) (cut1 told) ∙ ap (λ (b : List ℕ). Some (b ++ 2 ∷ [])) (nothing_left (store.seen s0 file)))

          -- a folder with page 0 and the head slot
          first_from : IsTrue store.tells → (b : Folder) → ((role : Role) → role ≢ head → b role ≡ store.seen s2 (names role)) → NewestIs 48 (bytes_of (b head)) (slot_of 48 first_slot) first_slot → Held first_queue b
          first_from told b others newest = first_is_held before b (new.is told)
              (λ n past. others (page n) (λ is. absurd cc) ∙ reads2 told (page n) (λ is. absurd (omega (arith, past, ap number_of is))))
              (λ n. others (checkpoint n) (λ is. absurd cc) ∙ reads2 told (checkpoint n) (λ is. absurd cc))
              (others (page 0) (λ is. absurd cc) ∙ begun2 told) (spelled_records (bytes_of (b head)) 0 first_state first_fits newest)

          first_holds : (folder : Folder) → Held first_queue folder → found folder ≡ Ok nothing_found
          first_holds folder held = first_is_empty folder (standing_is_kept first_queue folder first_is (held_stands first_queue folder first_is held))

          head2 : IsTrue store.tells → store.seen s2 (names head) ≡ before head
          head2 told = reads2 told head (λ is. absurd cc)

          -- ---- while the head slot is written

          module _ (s4 : S) (change4 : Changes store s3 s4 slots (TornFile (place_of 48 0) first_slot)) where
            head_holds : (i : Image) → MayLeaveNow store s4 i → Holds i
            head_holds i left chances =
                let told = told_of s4 i left in
                let d = change4.images i left in
                let rests = durable3 d.0 d.1 in
                let others : (role : Role) → role ≢ head → folder_in names i role ≡ store.seen s2 (names role) =
                λ role not_head. ap (λ (f : FileImage). f.file) (d.2.there (names role) (λ same. not_head (apart role head (same ∙ new.slots_are))) ∙ rests (names role)) in
                let here : TornFile (place_of 48 0) first_slot (d.0 (names head)) (i (names head)) = subst (λ (n : List ℕ). TornFile (place_of 48 0) first_slot (d.0 n) (i n)) new.slots_are d.2.here in
                let torn : TornFile (place_of 48 0) first_slot (at_rest (before head)) (i (names head)) =
                subst (λ (f : FileImage). TornFile (place_of 48 0) first_slot f (i (names head))) (rests (names head) ∙ ap at_rest (head2 told)) here in
                let may : MayHoldSlot 48 0 first_slot (bytes_of (before head)) (bytes_of (i (names head)).file) = may_hold 0 first_state first_fits (before head) (i (names head)) torn (chances.slots head) in
                let old = head_new told in
                ⊎_elim
                (λ none. new_is_empty (folder_in names i)
                (stays_new before (folder_in names i) (new.is told) none (omega (arith, may.no_longer, old.short))
                (λ n past. others (page n) (λ is. absurd cc) ∙ reads2 told (page n) (λ is. absurd (omega (arith, past, ap number_of is))))
                (λ n. others (checkpoint n) (λ is. absurd cc) ∙ reads2 told (checkpoint n) (λ is. absurd cc))))
                (λ newest. first_holds (folder_in names i) (first_from told (folder_in names i) others newest))
                (first_slot_is_none_or_new 48 (bytes_of (before head)) (bytes_of (i (names head)).file) first_slot (omega arith) old.short old.none is_first_slot may)

            pub run_headed : EachMoment store s0 s4 Holds
            run_headed = goes_on store s0 s3 s4 Holds run_grown change4.time head_holds

            -- ---- and when it is settled

            module _ (wrote4 : IsTrue store.tells → store.seen s4 slots ≡ Some (with_slot (place_of 48 0) first_slot (bytes_of (store.seen s3 slots)))) (s5 : S) (settle5 : Settles store s4 s5) where
              newest4 : (told : IsTrue store.tells) → NewestIs 48 (bytes_of (store.seen s4 (names head))) (slot_of 48 first_slot) first_slot
              newest4 told =
                  let now : store.seen s4 (names head) ≡ Some (with_slot 0 first_slot (bytes_of (before head))) =
                  subst (λ n. store.seen s4 n ≡ Some (with_slot 0 first_slot (bytes_of (store.seen s3 n)))) new.slots_are (wrote4 told)
                  ∙ ap (λ (o : Option (List ℕ)). Some (with_slot 0 first_slot (bytes_of o))) (ap (λ (c : Content). c (names head)) (settle3.reads told) ∙ head2 told) in
                  subst (λ (o : Option (List ℕ)). NewestIs 48 (bytes_of o) (slot_of 48 first_slot) first_slot) (sym now) (first_slot_is_read 48 (bytes_of (before head)) first_slot (omega arith) (head_new told).short is_first_slot)

              first_in : (told : IsTrue store.tells) (b : Folder) → ((role : Role) → b role ≡ store.seen s4 (names role)) → Held first_queue b
              first_in told b same = first_from told b
                  (λ role not_head. same role ∙ change4.beside told (names role) (λ is. not_head (apart role head (is ∙ new.slots_are))) ∙ ap (λ (c : Content). c (names role)) (settle3.reads told))
                  (subst (λ (o : Option (List ℕ)). NewestIs 48 (bytes_of o) (slot_of 48 first_slot) first_slot) (sym (same head)) (newest4 told))

              pub run_made : EachMoment store s0 s5 Holds
              run_made = goes_on store s0 s4 s5 Holds run_headed settle5.time
                  (λ i left. ⊎_elim
                  (λ still. head_holds i still)
                  (λ rests chances. first_holds (folder_in names i) (first_in (told_of s5 i left) (folder_in names i) (λ role. ap (λ (f : FileImage). f.file) (rests (names role)))))
                  (settle5.images i left))

              pub is_made : ((i : Image) → MayLeaveNow store s5 i → IsAtRest (store.seen s4) i) → Ready store names first_queue s5
              is_made durable5 = record {
                is = first_is;
                held = held5;
                images = λ told i left. at_rest_rests names first_queue (store.seen s5) (held5 told) i (subst (λ (c : Content). IsAtRest c i) (sym (settle5.reads told)) (durable5 i left));
              }
                where
                  held5 : IsTrue store.tells → Held first_queue (read_in names (store.seen s5))
                  held5 told = first_in told (read_in names (store.seen s5)) (λ role. ap (λ (c : Content). c (names role)) (settle5.reads told))
