-- Where a reading begins, and what an opening found.
use Rattle.std.proofs.Common.{◌≡◌, ℕ, IsTrue, List, [], refl, sym, ◌∙◌, arith, subst, pos, Result, Ok, Err, IfOk}
use Rattle.io_traits.specs.Reads.{bytes_of}
use Rattle.io_traits.specs.declared.files.Files.{Ghosts as FilesWords}
use Rattle.io_traits.specs.declared.stores.Store.{Ghosts as StoreWords}
use Rattle.io_traits.specs.declared.queue_faults.Damage.{Damage as Damages}
use Rattle.slot_files.specs.Positions.{recorded_in}
use Rattle.slot_files.specs.declared.recorded.Recorded.{Recorded}
use Rattle.slot_files.specs.declared.recorded.Recorded.TheVariants.{Damaged}
use Rattle.slot_files.proofs.PositionReads.{damages_differ}
use Rattle.in_lines.proofs.Reading.{begun}
use Rattle.in_file.specs.Views.{Watched}
use Rattle.in_file.specs.Looks.{HasRead}
use Rattle.in_file.specs.Openings.{IsBegun, IsOpened, IsDamaged, IsWhole, line_limit}
use Rattle.in_file.specs.declared.plan.FilePlan.{FilePlan}
use Rattle.in_file.specs.declared.faults.OpenFault.{OpenFault}
use Rattle.in_file.specs.declared.faults.OpenFault.TheVariants as o

pub ok_then : {T E : Type 0} (r : Result T E) (P Q : T → Type 0) → ((x : T) → P x → Q x) → IfOk r P → IfOk r Q
ok_then (Ok x) P Q then_so p = then_so x p
ok_then (Err e) P Q then_so p = tt

module _ {S F : Type 0} (store : StoreWords S) (files : FilesWords F) (path slot : List ℕ) (plan : FilePlan) (s : S) (f : F) where
  pub opened_so : {E : Type 0} (recorded : Recorded) (result : Result Watched E) → IsWhole recorded → (IsTrue store.tells → recorded ≡ recorded_in (bytes_of (store.seen s slot)))
      → IfOk result (IsBegun files path slot plan f recorded) → IfOk result (IsOpened store files path slot plan s f)
  opened_so recorded result whole told begins = ok_then result (IsBegun files path slot plan f recorded) (IsOpened store files path slot plan s f)
      (λ w b. record {
        recorded = recorded;
        told = told;
        whole = whole;
        begun = b;
        read = subst (HasRead [] []) (sym b.is) (record { reading = begun line_limit (pos 0) (omega arith); places = refl });
      }) begins

pub damaged_so : (slot file : List ℕ) (found expected : ℕ) (fault : OpenFault) (damage : Damages) → fault ≡ o.Damaged (record { file = slot; place = 0; found = found; expected = expected }) → fault ≡ o.Damaged damage
    → recorded_in file ≡ Damaged found expected → IsDamaged slot (recorded_in file) damage
damaged_so slot file found expected fault damage is same recorded =
    let these : o.Damaged (record { file = slot; place = 0; found = found; expected = expected }) ≡ o.Damaged damage = sym is ∙ same in
    let all : record { file = slot; place = 0; found = found; expected = expected } ≡ damage = cc in
    subst (IsDamaged slot (recorded_in file)) all (record { file = refl; place = refl; recorded_is = recorded; differ = damages_differ file found expected recorded })
