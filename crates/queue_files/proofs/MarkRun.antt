-- A mark, call by call.
use Rattle.std.proofs.Common.{⊎_elim, IsTrue, List, Result, Ok, Err, OnOk, sym, subst}
use Rattle.io_traits.specs.Folders.{Content}
use Rattle.io_traits.specs.Images.{Image, IsAtRest}
use Rattle.io_traits.specs.Moments.{MayLeaveNow, EachMoment, ImagesTell}
use Rattle.io_traits.specs.declared.stores.Store.{Ghosts as StoreWords}
use Rattle.io_traits.proofs.Moments.{by_call, goes_on, one_then_other, holds_now}
use Rattle.io_traits.proofs.TailRuns.{Settles}
use Rattle.queue_files.specs.Writes.{Write, Wrote, MayLeave, MayStop, before, writing, written, Settled}
use Rattle.queue_files.proofs.WriteLemmas.{made_none}

module _ {S : Type 0} (store : StoreWords S) (tell : ImagesTell store) (writes : List Write) (old first : S) (settles : Settles store old first) where
  abbrev Stops : Image → Type 0
  Stops = MayStop store old writes

  -- the first sync
  pub run_synced : EachMoment store old first Stops
  run_synced = by_call store old first Stops settles.time (λ i left. before left)
      (λ i left. ⊎_elim (λ still. before still) (λ rests. writing i rests (made_none writes i)) (settles.images i left))

  module _ (durable : (i : Image) → MayLeaveNow store first i → IsAtRest (store.seen old) i) (mid : S) (run : EachMoment store first mid (MayLeave store first writes)) where
    -- the writes
    pub run_written : EachMoment store old mid Stops
    run_written = one_then_other store tell old first mid Stops (MayLeave store first writes) Stops run_synced run (λ i told stops. stops)
        (λ i told d. writing d.0 (durable d.0 d.1) d.2)

    module _ (wrote : IsTrue store.tells → Wrote writes (store.seen first) (store.seen mid)) (new : S) (again : Settles store mid new) where
      all_wrote : IsTrue store.tells → Wrote writes (store.seen old) (store.seen mid)
      all_wrote told = subst (λ (c : Content). Wrote writes c (store.seen mid)) (settles.reads told) (wrote told)

      -- and the last sync
      pub run_settled : EachMoment store old new Stops
      run_settled = goes_on store old mid new Stops run_written again.time
          (λ i left. ⊎_elim (λ still. holds_now store old mid Stops run_written i still)
          (λ rests. written (store.seen mid) (all_wrote (tell new (store.moment new) i left)) rests)
          (again.images i left))

      pub is_settled : {A E : Type 0} (result : Result A E) → OnOk result ((i : Image) → MayLeaveNow store new i → IsAtRest (store.seen mid) i) → OnOk result (Settled store old writes new)
      is_settled (Ok x) rests = record {
        wrote = λ told. subst (Wrote writes (store.seen old)) (sym (again.reads told)) (all_wrote told);
        rests = λ i left. subst (λ (c : Content). IsAtRest c i) (sym (again.reads (tell new (store.moment new) i left))) (rests i left);
      }
      is_settled (Err e) rests = tt
