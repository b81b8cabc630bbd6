-- A line that stands where its history does, behind one entry, and behind a call.
use Rattle.std.proofs.Common.{◌≡◌, ◌⊎◌, inl, inr, List, [], ◌∷◌, ◌++◌, refl, sym, ap, ◌∙◌, subst, append-nil}
use Rattle.io_traits.specs.Images.{Image}
use Rattle.event_flow.specs.Meaning.{Makes}
use Rattle.history_book.specs.Contents.{Bytes, FileAfter, DeadAfter, FileHolds, DeadHolds}
use Rattle.history_book.specs.Entries.{Entry}
use Rattle.history_book.specs.Holdings.{Holdings, HoldsTold, Follows}
use Rattle.history_book.specs.Legal.{Legal, Legal_at}
use Rattle.history_book.specs.Lists.{IsIn}
use Rattle.history_book.specs.Queues.{IsQueueAt}
use Rattle.history_book.specs.Sound.{FilePlace, Places, LineSound}
use Rattle.history_book.specs.States.{start, next, after}
use Rattle.history_book.proofs.Histories.{after_both}
use Rattle.history_book.proofs.Moments.{left_is_sound, following_stands}
use Rattle.line_machine.specs.Effects.{Effect, MayLeave, Before, Behind}
use Rattle.line_machine.specs.Laws.{FollowsAs}
use Rattle.line_machine.specs.Stands.{Knows, Stands}
use Rattle.line_machine.specs.Views.{LineView}

module _ (makes : Makes) (bytes : Bytes) (places : Places) where
  -- behind a call what its places hold is what its history says
  pub arrives : (told : List Entry) (i : LineView places) (e : Effect places) (well : Type 0) → HoldsTold makes bytes places told i.holds
      → HoldsTold makes bytes places (told ++ e.told) e.behind → (well → Stands makes bytes places (told ++ e.told) e.line) → FollowsAs makes bytes places told i e well
  arrives told i e well was now stands = record { legal = now.legal; holds = now; images = each; stands = stands }
    where
      each : (image : Image) → MayLeave makes bytes places told i e image → LineSound makes bytes places told image ⊎ LineSound makes bytes places (told ++ e.told) image
      each image (Before left) = inl (left_is_sound makes bytes places told i.holds image was left)
      each image (Behind left) = inr (left_is_sound makes bytes places (told ++ e.told) e.behind image now left)

  -- a call that tells nothing
  pub arrives_quietly : (told : List Entry) (i : LineView places) (e : Effect places) (well : Type 0) → Stands makes bytes places told i → e.told ≡ [] → e.behind ≡ i.holds
      → (well → (e.line.holds ≡ i.holds) × Knows (after makes start told) e.line) → FollowsAs makes bytes places told i e well
  arrives_quietly told i e well stands none same knows =
      let front : told ≡ told ++ e.told = sym (append-nil told) ∙ ap (λ l. told ++ l) (sym none) in
      arrives told i e well stands.holds
      (subst (λ l. HoldsTold makes bytes places l e.behind) front (subst (HoldsTold makes bytes places told) (sym same) stands.holds))
      (λ w. let k = knows w in
      subst (λ l. Stands makes bytes places l e.line) front (record { holds = subst (HoldsTold makes bytes places told) (sym k.0) stands.holds; knows = k.1 }))

  -- what one entry makes of what its places hold
  pub record Makes_one (told : List Entry) (e : Entry) (old new : Holdings places) : Type 0 where
    pub queue : IsQueueAt (next makes (after makes start told) e) new.queue
    pub files : (file : FilePlace) → (m : IsIn file places.files) → FileAfter makes bytes file.path (after makes start told) e (old.content file m) (new.content file m)
    pub dead : DeadAfter makes places.clock (after makes start told) e [] old.dead new.dead

  -- behind several entries
  pub entries : (told more : List Entry) (i now : LineView places) → Stands makes bytes places told i → Legal makes (after makes start told) more → IsQueueAt (after makes (after makes start told) more) now.holds.queue
      → ((file : FilePlace) → (m : IsIn file places.files) → FileHolds makes bytes file.path (after makes start told) (i.holds.content file m) more (now.holds.content file m))
      → DeadHolds makes places.clock (after makes start told) i.holds.dead more now.holds.dead → Knows (after makes (after makes start told) more) now → Stands makes bytes places (told ++ more) now
  entries told more i now stands legal queue files dead knows =
      let follows : Follows makes bytes places told more i.holds now.holds = record { whole = inl stands.knows.between; legal = legal; queue = queue; files = files; dead = dead } in
      record {
        holds = following_stands makes bytes places told more i.holds now.holds stands.holds follows;
        knows = subst (λ s. Knows s now) (sym (after_both makes start told more)) knows;
      }

  pub one_entry : (told : List Entry) (e : Entry) (i now : LineView places) → Stands makes bytes places told i → Legal_at makes (after makes start told) e → Makes_one told e i.holds now.holds
      → Knows (next makes (after makes start told) e) now → Stands makes bytes places (told ++ e ∷ []) now
  one_entry told e i now stands legal makes_it knows =
      entries told (e ∷ []) i now stands (legal, tt) makes_it.queue (λ file m. (now.holds.content file m, makes_it.files file m, refl)) (now.holds.dead, makes_it.dead, refl) knows
