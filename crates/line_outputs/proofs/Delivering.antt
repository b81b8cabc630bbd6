-- A delivery to the file of a path: it is found or opened, and then appended to.
use Rattle.std.proofs.Common.{◌≡◌, ◌≢◌, ◌⊎◌, inl, inr, ⊎_elim, ℕ, IsTrue, List, [], ◌∷◌, ◌++◌, length, take, Option, Some, None, Ok, refl, sym, ap, ◌∙◌, subst, arith}
use Rattle.std.proofs.lemmas.List.{take_all}
use Rattle.crc_frame.specs.Bytes.{IsBytes}
use Rattle.crc_frame.specs.Slots.{is_slot}
use Rattle.io_traits.specs.Reads.{bytes_of}
use Rattle.io_traits.specs.Images.{Image, IsAtRest, at_rest}
use Rattle.io_traits.specs.Chance.{NoChance}
use Rattle.io_traits.specs.Tails.{passes}
use Rattle.io_traits.specs.Moments.{MayLeaveNow, EachMoment, LeavesBeside, ReadsBeside, ImagesTell}
use Rattle.io_traits.specs.declared.stores.Store.{Ghosts as StoreWords}
use Rattle.io_traits.proofs.Beside.{beside_none, resting}
use Rattle.io_traits.proofs.Moments.{holds_now, one_then_other, weaker}
use Rattle.slot_files.specs.Views.{Output, IsOwn}
use Rattle.slot_files.specs.Contents.{Holds, Stands, counted_in}
use Rattle.slot_files.specs.Outputs.{IsAppended, LeavesHeld, LeavesOldOrNew, content_of}
use Rattle.slot_files.proofs.Holding.{held_is_counted, holds_one}
use Rattle.slot_files.proofs.Staying.{stands_beside}
use Rattle.line_outputs.specs.OpenFiles.{EachReady, IsDelivered, IsFileOf, IsFileReady, IsOutside, LeavesDelivered, file_of, slot_in, without}
use Rattle.line_outputs.proofs.Keeping.{all_stay, found_with, its_ready, others_ready, paths_apart, with_ready}

-- no frame stands by chance in a file of which nothing is unsettled
rests_well : (IsFrame : ℕ → List ℕ → Type 0) (file : Option (List ℕ)) → NoChance IsFrame (at_rest file)
rests_well IsFrame file = record { each = λ place frame is stands. inl stands }

-- what is held is the front of the file
front_of : (path slot bytes : List ℕ) (i : Image) → Holds path slot bytes i → bytes ≡ take (length bytes) (bytes_of (i path).file)
front_of path slot bytes i (inl s) = sym s.front
front_of path slot bytes i (inr b) = sym (take_all (length bytes) bytes (omega arith)) ∙ ap (take (length bytes)) (sym b.whole)

module _ {S : Type 0} (store : StoreWords S) (folder path batch : List ℕ) (old : S) where
  abbrev slot : List ℕ
  slot = slot_in folder path

  abbrev Leaves : Image → Type 0
  Leaves = LeavesDelivered store folder path batch old

  pub held_leaves : (i : Image) → LeavesHeld store path slot old i → Leaves i
  held_leaves i h = record { from = h.from; was = h.was; own = λ content holds chance. inl (h.own content holds chance); beside = h.beside }

  pub leaves_beside : (i : Image) → Leaves i → LeavesBeside store (IsFileOf folder path) old i
  leaves_beside i l = (l.from, l.was, λ name other. l.beside name (λ is. other (inl is)) (λ is. other (inr is)))

  pub opening_leaves : ImagesTell store → (new : S) → EachMoment store old new (LeavesHeld store path slot old) → EachMoment store old new Leaves
  opening_leaves tell new run = weaker store tell old new (LeavesHeld store path slot old) Leaves run (λ i told h. held_leaves i h)

  -- the other files stay ready
  module _ (tell : ImagesTell store) (outside : IsOutside folder path) (bytes : IsBytes path) (new : S) (run : EachMoment store old new Leaves) (reads : ReadsBeside store (IsFileOf folder path) old new)
      (fs : List Output) (ready : EachReady store folder fs old) where
    rest : EachReady store folder (without path fs) old × (file_of path (without path fs) ≡ None)
    rest = others_ready store folder old path fs ready

    some_none : (x : Output) → Some x ≡ None → ⊥
    some_none x same = cc

    apart : (other : List ℕ) (f : Output) → file_of other (without path fs) ≡ Some f → (name : List ℕ) → IsFileOf folder other name → IsFileOf folder path name → ⊥
    apart other f is name own mine =
        let its = its_ready store folder old other (without path fs) f rest.0 is in
        paths_apart store folder path other outside (subst (IsOutside folder) its.1 its.0.outside) bytes (subst IsBytes its.1 its.0.bytes)
        (λ same. some_none f (sym is ∙ ap (λ p. file_of p (without path fs)) same ∙ rest.1)) name own mine

    pub rest_stays : EachReady store folder (without path fs) new
    rest_stays =
        all_stay store folder tell (IsFileOf folder path) old new (λ i left. leaves_beside i (holds_now store old new Leaves run i left)) reads (without path fs) rest.0 apart

    pub and_one : (f : Output) → IsFileReady store folder f new → f.path ≡ path → EachReady store folder (without path fs ++ f ∷ []) new
    and_one f is at = with_ready store folder new (without path fs) f rest_stays (ap (λ p. file_of p (without path fs)) at ∙ rest.1) is

  -- ---- behind the opening

  module _ (tell : ImagesTell store) (mid : S) (out : Output) (is : IsFileReady store folder out mid) (at : out.path ≡ path)
      (opening : EachMoment store old mid (LeavesHeld store path slot old)) (reads : ReadsBeside store (IsFileOf folder path) old mid)
      (counted : IsTrue store.tells → counted_in path slot (store.seen old) ≡ Ok out.position)
      (content : IsTrue store.tells → bytes_of (store.seen mid path) ≡ take out.position (bytes_of (store.seen old path))) where
    slot_is : out.slot ≡ slot
    slot_is = is.slot ∙ ap (slot_in folder) at

    abbrev held : List ℕ
    held = content_of store out mid

    moved : (bytes : List ℕ) (i : Image) → Stands out.path out.slot bytes i → Stands path slot bytes i
    moved bytes i s = subst (λ p. Stands p slot bytes i) at (subst (λ n. Stands out.path n bytes i) slot_is s)

    not_own : (name : List ℕ) → name ≢ path → name ≢ slot → IsOwn out name → ⊥
    not_own name not_path not_slot (inl p) = not_path (p ∙ at)
    not_own name not_path not_slot (inr s) = not_slot (s ∙ slot_is)

    pub own_of : (name : List ℕ) → (IsFileOf folder path name → ⊥) → IsOwn out name → ⊥
    own_of name other own = not_own name (λ p. other (inl p)) (λ s. other (inr s)) own

    module _ (i : Image) (told : IsTrue store.tells) (l : LeavesOldOrNew store out batch mid i) where
      grown : (bytes : List ℕ) → held ≡ bytes → NoChance (passes (is_slot 24)) (i slot) → Holds path slot bytes i ⊎ Holds path slot (bytes ++ batch) i
      grown bytes same chance = ⊎_elim
          (λ s. inl (inl (subst (λ x. Stands path slot x i) same (moved held i s))))
          (λ s. inr (inl (subst (λ x. Stands path slot (x ++ batch) i) same (moved (held ++ batch) i s))))
          (l.own (subst (λ n. NoChance (passes (is_slot 24)) (i n)) (sym slot_is) chance))

      from_now : (d : Image) → MayLeaveNow store mid d → ((name : List ℕ) → (IsOwn out name → ⊥) → i name ≡ d name) → Leaves i
      from_now d left there =
          let h = holds_now store old mid (LeavesHeld store path slot old) opening d left in
          let stands : Stands path slot held d = moved held d (stands_beside store out mid is.ready (λ n. ⊥) (λ n own m. m) d told (beside_none store (λ n. ⊥) mid d (inl left))) in
          let chance_at : NoChance (passes (is_slot 24)) (d slot)
          = subst (λ n. NoChance (passes (is_slot 24)) (d n)) slot_is
          (subst (NoChance (passes (is_slot 24))) (sym (is.ready.settled d left out.slot (inr refl))) (rests_well (passes (is_slot 24)) (store.seen mid out.slot))) in
          record {
            from = h.from;
            was = h.was;
            own = λ bytes holds chance. grown bytes (holds_one path slot held bytes d (inl stands) (h.own bytes holds chance_at)) chance;
            beside = λ name not_path not_slot. there name (not_own name not_path not_slot) ∙ h.beside name not_path not_slot;
          }

      held_before : (bytes : List ℕ) → Holds path slot bytes (resting (store.seen old)) → held ≡ bytes
      held_before bytes holds =
          let both : Ok (length bytes) ≡ Ok out.position = sym (held_is_counted path slot bytes (resting (store.seen old)) holds) ∙ counted told in
          let long : length bytes ≡ out.position = cc in
          ap (λ p. bytes_of (store.seen mid p)) at ∙ content told ∙ ap (λ n. take n (bytes_of (store.seen old path))) (sym long) ∙ sym (front_of path slot bytes (resting (store.seen old)) holds)

      from_synced : (d : Image) → IsAtRest (store.seen mid) d → ((name : List ℕ) → (IsOwn out name → ⊥) → i name ≡ d name) → Leaves i
      from_synced d rests there = record {
        from = resting (store.seen old);
        was = inr (told, λ n. refl);
        own = λ bytes holds chance. grown bytes (held_before bytes holds) chance;
        beside = λ name not_path not_slot. there name (not_own name not_path not_slot) ∙ rests name ∙ ap at_rest (reads told name (λ own. ⊎_elim not_path not_slot own));
      }

      while_appended : Leaves i
      while_appended = ⊎_elim (λ left. from_now l.beside.0 left l.beside.2) (λ synced. from_synced l.beside.0 synced.1 l.beside.2) l.beside.1

    module _ (new : S) (appending : EachMoment store mid new (LeavesOldOrNew store out batch mid)) (others : ReadsBeside store (IsOwn out) mid new) where
      pub run_leaves : EachMoment store old new Leaves
      run_leaves =
          one_then_other store tell old mid new (LeavesHeld store path slot old) (LeavesOldOrNew store out batch mid) Leaves opening appending (λ i told h. held_leaves i h) (λ i told l. while_appended i told l)

      pub run_reads : ReadsBeside store (IsFileOf folder path) old new
      run_reads told name other = others told name (own_of name other) ∙ reads told name other

      module _ (out' : Output) (path_is : out'.path ≡ out.path) (slot_same : out'.slot ≡ out.slot) (appended : IsAppended store out batch mid out' new) where
        pub still_ready : IsFileReady store folder out' new
        still_ready = record {
          ready = appended.ready;
          slot = slot_same ∙ is.slot ∙ ap (slot_in folder) (sym path_is);
          outside = subst (IsOutside folder) (sym path_is) is.outside;
          bytes = subst IsBytes (sym path_is) is.bytes;
        }

        pub is_delivered : (before after : List Output) → file_of path (without path before) ≡ None → after ≡ without path before ++ out' ∷ [] → IsDelivered store folder path batch before old after new
        is_delivered before after gone files = record {
          file = out';
          path_is = path_is ∙ at;
          files = files;
          is_open = ap (file_of path) files ∙ found_with path out' (without path before) (path_is ∙ at) gone;
          counted = out.position;
          counts = counted;
          content = λ told.
              ap (λ p. bytes_of (store.seen new p)) (sym (path_is ∙ at)) ∙ appended.content told ∙ ap (λ p. bytes_of (store.seen mid p) ++ batch) at ∙ ap (λ b. b ++ batch) (content told);
        }
