-- What a stop leaves of the place that is recorded.
use Rattle.std.proofs.Common.{◌≡◌, inl, inr, ⊎_elim, ℕ, ◌≤◌, IsTrue, List, sym, ap, subst, ◌∙◌, arith, length}
use Rattle.io_traits.specs.Reads.{bytes_of}
use Rattle.crc_frame.specs.Slots.{place_of}
use Rattle.io_traits.specs.Images.{Image, FileImage, at_rest}
use Rattle.io_traits.specs.Moments.{EachMoment, ImagesTell, NowOrSynced}
use Rattle.io_traits.specs.declared.stores.Store.{Ghosts as StoreWords}
use Rattle.io_traits.proofs.Beside.{beside_none}
use Rattle.io_traits.proofs.Moments.{started, weaker}
use Rattle.slot_files.specs.Changes.{Alters}
use Rattle.slot_files.specs.Slots.{ComesNext}
use Rattle.dead_letters.specs.Segments.{OldOrNewSegments, counted_in, segments}
use Rattle.dead_letters.specs.declared.segments.Counted.{Counted}
use Rattle.dead_letters.specs.declared.segments.Counted.TheVariants.{Nothing, Count, Damaged}
use Rattle.dead_letters.specs.declared.rows.DeadRow.{DeadRow}
use Rattle.dead_letters.proofs.FirstVersion.{first_comes}
use Rattle.dead_letters.proofs.SegmentSlots.{comes_next, counted_have_room}
use Rattle.dead_letter_reader.specs.Places.{IsIntact, Passes}
use Rattle.dead_letter_reader.specs.Ready.{IsReady, LeavesEither, LeavesPlace, Says}
use Rattle.dead_letter_reader.specs.Steps.{TurnFits, recorded_at, turn_after}
use Rattle.dead_letter_reader.specs.Work.{Work}
use Rattle.dead_letter_reader.proofs.Passing.{passes_more}

-- ---- the slot that comes next

pub has_room : (file : List ℕ) (recorded : Counted) → IsIntact recorded → counted_in file ≡ recorded → place_of 32 (turn_after recorded) ≤ length file
has_room file Nothing intact is = omega arith
has_room file (Count turn s) intact is = (counted_have_room file turn s is).room (turn_after (Count turn s))
has_room file (Damaged found expected) intact is = let e = intact.1 in absurd cc

pub turn_comes : (file : List ℕ) (recorded : Counted) → TurnFits recorded → IsIntact recorded → counted_in file ≡ recorded → ComesNext 32 file (turn_after recorded)
turn_comes file Nothing fits intact is = first_comes file is
turn_comes file (Count turn s) fits intact is = comes_next file turn s fits is
turn_comes file (Damaged found expected) fits intact is = let e = intact.1 in absurd cc

module _ {S : Type 0} (store : StoreWords S) (tell : ImagesTell store) where
  -- ---- a write of the place

  module _ (file : List ℕ) (recorded : Counted) (old new : S) (says : Says store file recorded old) (intact : IsTrue store.tells → IsIntact recorded) (fits : TurnFits recorded) where
    at_rest_there : (d : Image) → NowOrSynced store old d → d file ≡ at_rest (store.seen old file)
    at_rest_there d (inl left) = says.rests d left
    at_rest_there d (inr synced) = synced.1 file

    pub comes : IsTrue store.tells → ComesNext 32 (bytes_of (store.seen old file)) (turn_after recorded)
    comes told = turn_comes (bytes_of (store.seen old file)) recorded fits (intact told) (says.said told)

    pub either_left : (r : DeadRow) → EachMoment store old new (Alters store file (OldOrNewSegments (turn_after recorded) (segments r.segment r.segment r.length)) old)
        → EachMoment store old new (LeavesEither store file recorded (recorded_at recorded r) old)
    either_left r run = weaker store tell old new _ _ run (λ i told altered. record {
      own = λ chance. ⊎_elim (λ same. inl (same ∙ says.said told)) (λ now. inr now) (altered.2.here (store.seen old file) (at_rest_there altered.0 altered.1) (comes told) chance);
      beside = (altered.0, altered.1, λ name other. altered.2.there name other);
    })

  -- ---- a reader

  pub ready_leaves : (w : Work) (s : S) (done : ℕ) → IsReady store w s → w.done ≤ done → EachMoment store s s (LeavesPlace store w.file w.rows done s)
  ready_leaves w s done ready less = started store s _ (λ i left.
      let told = tell s (store.moment s) i left in
      let is : counted_in (bytes_of (i w.file).file) ≡ w.recorded = ap (λ (f : FileImage). counted_in (bytes_of f.file)) (ready.file.rests i left) ∙ ready.file.said told in
      record {
        own = λ chance. subst (Passes w.rows done) (sym is) (passes_more w.rows w.done done w.recorded (ready.passes told) less);
        beside = beside_none store (λ name. name ≡ w.file) s i (inl left);
      })

  pub recorded_leaves : (file : List ℕ) (rows : List DeadRow) (done : ℕ) (one other : Counted) (old new : S) → (IsTrue store.tells → Passes rows done one) → (IsTrue store.tells → Passes rows done other)
      → EachMoment store old new (LeavesEither store file one other old) → EachMoment store old new (LeavesPlace store file rows done old)
  recorded_leaves file rows done one other old new first second run = weaker store tell old new _ _ run (λ i told either. record {
    own = λ chance. ⊎_elim (λ is. subst (Passes rows done) (sym is) (first told)) (λ is. subst (Passes rows done) (sym is) (second told)) (either.own chance);
    beside = either.beside;
  })
