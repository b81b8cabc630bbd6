-- An opening: all files are settled and the position is read, and then the file is cut back, or its length is recorded.
use Rattle.std.proofs.Common.{◌≡◌, ◌≢◌, inl, inr, ⊎_elim, ℕ, IsTrue, List, length, take, refl, sym, ap, ◌∙◌, arith, subst}
use Rattle.std.proofs.lemmas.List.{take_all}
use Rattle.io_traits.specs.Reads.{bytes_of, file_length}
use Rattle.io_traits.specs.Images.{Image, FileImage, IsAtRest, at_rest}
use Rattle.io_traits.specs.Moments.{NowOrSynced, EachMoment, ImagesTell}
use Rattle.io_traits.specs.declared.stores.Store.{Ghosts as StoreWords}
use Rattle.io_traits.proofs.Beside.{resting}
use Rattle.io_traits.proofs.Moments.{started, weaker, one_then_other}
use Rattle.slot_files.specs.Changes.{AllRest, KeepsFirst, Alters}
use Rattle.slot_files.specs.Positions.{recorded_in}
use Rattle.slot_files.specs.PositionWrites.{IsNextTurn, OldOrNewPosition}
use Rattle.slot_files.specs.declared.recorded.Recorded.TheVariants.{Nothing, Position}
use Rattle.slot_files.specs.Outputs.{LeavesHeld}

position_is_some : (t p : ℕ) → Position t p ≡ Nothing → ⊥
position_is_some t p none = cc

module _ {S : Type 0} (store : StoreWords S) (tell : ImagesTell store) (path slot : List ℕ) (old mid : S) where
  abbrev Leaves : Image → Type 0
  Leaves = LeavesHeld store path slot old

  begun : (i : Image) → NowOrSynced store old i → Leaves i
  begun i was = record { from = i; was = was; own = λ bytes holds chance. holds; beside = λ name not_path not_slot. refl }

  -- nothing is called yet
  pub not_begun : EachMoment store old old Leaves
  not_begun = started store old Leaves (λ i left. begun i (inl left))

  -- the files are settled, and the position is read
  pub finding : EachMoment store old mid (NowOrSynced store old) → EachMoment store old mid Leaves
  finding run = weaker store tell old mid (NowOrSynced store old) Leaves run (λ i told was. begun i was)

  module _ (differ : path ≢ slot) (reads : IsTrue store.tells → store.seen mid ≡ store.seen old) (rests : AllRest store mid) (new : S) where
    mid_rests : IsTrue store.tells → (d : Image) → NowOrSynced store mid d → IsAtRest (store.seen old) d
    mid_rests told d (inl left) name = rests d left name ∙ ap (λ c. at_rest (c name)) (reads told)
    mid_rests told d (inr synced) name = synced.1 name ∙ ap (λ c. at_rest (c name)) (reads told)

    -- ---- the file is cut back

    module _ (turn position : ℕ) (recorded : IsTrue store.tells → recorded_in (bytes_of (store.seen old slot)) ≡ Position turn position) where
      abbrev Cuts : Image → Type 0
      Cuts = Alters store path (KeepsFirst position (store.seen mid path)) mid

      while_cut : (i : Image) → IsTrue store.tells → Cuts i → Leaves i
      while_cut i told a =
          let d_rests = mid_rests told a.0 a.1 in
          let slot_rests : i slot ≡ at_rest (store.seen old slot) = a.2.there slot (λ same. differ (sym same)) ∙ d_rests slot in
          let was : store.seen mid path ≡ store.seen old path = ap (λ c. c path) (reads told) in
          let kept = a.2.here (d_rests path ∙ ap at_rest (sym was)) in
          let front : take position (bytes_of (i path).file) ≡ take position (bytes_of (store.seen old path)) = kept.front ∙ ap (λ f. take position (bytes_of f)) was in
          record {
            from = resting (store.seen old);
            was = inr (told, λ n. refl);
            own = λ bytes holds chance. ⊎_elim
                (λ s.
                let same : Position turn position ≡ Position s.turn (length bytes) = sym (recorded told) ∙ s.recorded in
                let long : position ≡ length bytes = cc in
                inl (record {
                  turn = s.turn;
                  recorded = ap (λ (f : FileImage). recorded_in (bytes_of f.file)) slot_rests ∙ s.recorded;
                  front = subst (λ n. take n (bytes_of (i path).file) ≡ take n (bytes_of (store.seen old path))) long front ∙ s.front;
                }))
                (λ b. let none : Position turn position ≡ Nothing = sym (recorded told) ∙ b.nothing in absurd (position_is_some turn position none))
                holds;
            beside = λ name not_path not_slot. a.2.there name not_path ∙ d_rests name;
          }

      pub cutting : EachMoment store old mid (NowOrSynced store old) → EachMoment store mid new Cuts → EachMoment store old new Leaves
      cutting one other = one_then_other store tell old mid new (NowOrSynced store old) Cuts Leaves one other (λ i told was. begun i was) while_cut

    -- ---- the length is recorded

    module _ (nothing : IsTrue store.tells → recorded_in (bytes_of (store.seen old slot)) ≡ Nothing) where
      abbrev Begins : Image → Type 0
      Begins = Alters store slot (OldOrNewPosition 0 (file_length (store.seen mid path))) mid

      while_begun : (i : Image) → IsTrue store.tells → Begins i → Leaves i
      while_begun i told a =
          let d_rests = mid_rests told a.0 a.1 in
          let path_is : bytes_of (i path).file ≡ bytes_of (store.seen old path) = ap (λ (f : FileImage). bytes_of f.file) (a.2.there path differ ∙ d_rests path) in
          let first = subst (λ r. IsNextTurn r 0) (sym (nothing told)) refl in
          record {
            from = resting (store.seen old);
            was = inr (told, λ n. refl);
            own = λ bytes holds chance. ⊎_elim
                (λ s. let none : Position s.turn (length bytes) ≡ Nothing = sym s.recorded ∙ nothing told in absurd (position_is_some s.turn (length bytes) none))
                (λ b. ⊎_elim
                (λ same. inr (record { nothing = same ∙ nothing told; whole = path_is ∙ b.whole }))
                (λ is.
                let long : file_length (store.seen mid path) ≡ length bytes = ap (λ c. file_length (c path)) (reads told) ∙ ap length b.whole in
                inl (record {
                  turn = 0;
                  recorded = is ∙ ap (Position 0) long;
                  front = ap (take (length bytes)) (path_is ∙ b.whole) ∙ take_all (length bytes) bytes (omega arith);
                }))
                (a.2.here (store.seen old slot) (d_rests slot) first chance))
                holds;
            beside = λ name not_path not_slot. a.2.there name not_slot ∙ d_rests name;
          }

      pub beginning : EachMoment store old mid (NowOrSynced store old) → EachMoment store mid new Begins → EachMoment store old new Leaves
      beginning one other = one_then_other store tell old mid new (NowOrSynced store old) Begins Leaves one other (λ i told was. begun i was) while_begun
