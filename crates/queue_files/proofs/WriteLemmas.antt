-- A run of writes, one write at a time.
use Rattle.std.proofs.Common.{◌≡◌, inl, ℕ, ◌≤◌, ◌<◌, ◌+◌, List, [], ◌∷◌, ◌++◌, length, drop, get_or, Option, Some, Result, Ok, Err, OnOk, refl, sym, ◌∙◌, ap, subst}
use Rattle.std.proofs.lemmas.List.{drop_more}
use Rattle.io_traits.specs.Folders.{Content}
use Rattle.io_traits.specs.Reads.{bytes_of, file_length}
use Rattle.crc_frame.specs.Slots.{with_slot}
use Rattle.io_traits.specs.Images.{Image, FileImage, TornFile, On, Follows, Beside}
use Rattle.io_traits.specs.Moments.{MayLeaveNow, EachMoment, ImagesTell}
use Rattle.io_traits.specs.Times.{Elapses}
use Rattle.io_traits.specs.declared.stores.Store.{Ghosts as StoreWords}
use Rattle.io_traits.proofs.Moments.{by_call, one_then_other, weaker, holds_now, started}
use Rattle.io_traits.proofs.Tearing.{Torn-none}
use Rattle.queue_files.specs.Writes.{Write, due_of, writes_of, IsBeside, CanWrite, MayChange, Wrote, MayLeave}
use Rattle.queue_files.specs.declared.marking.Mark.{Mark}

not_made : (w : Write) (d : Image) → On w.name (TornFile w.place w.bytes) d d
not_made w d = record {
  here = record { torn = Torn-none w.place (length w.bytes) (bytes_of (d w.name).file); stays = λ is. is; settled = refl; writes = λ v among. inl among };
  there = λ other differ. refl;
}

pub made_none : (writes : List Write) (d : Image) → MayChange writes d d
made_none [] d = λ name. refl
made_none (w ∷ writes) d = (d, not_made w d, made_none writes d)

same_on : (w : Write) (d e i : Image) → ((name : List ℕ) → e name ≡ d name) → On w.name (TornFile w.place w.bytes) e i → On w.name (TornFile w.place w.bytes) d i
same_on w d e i same on = record {
  here = subst (λ (f : FileImage). TornFile w.place w.bytes f (i w.name)) (same w.name) on.here;
  there = λ other differ. on.there other differ ∙ same other;
}

same_start : (writes : List Write) (d e i : Image) → ((name : List ℕ) → e name ≡ d name) → MayChange writes e i → MayChange writes d i
same_start [] d e i same change = λ name. change name ∙ same name
same_start (w ∷ writes) d e i same change = (change.0, same_on w d e change.0 same change.1, change.2)

-- writes behind others
may_append : (done more : List Write) (d e i : Image) → MayChange done d e → MayChange more e i → MayChange (done ++ more) d i
may_append [] more d e i same change = same_start more d e i same change
may_append (w ∷ done) more d e i change last = (change.0, change.1, may_append done more change.0 e i change.2 last)

same_wrote : (writes : List Write) (old mid new : Content) → ((name : List ℕ) → mid name ≡ old name) → Wrote writes mid new → Wrote writes old new
same_wrote [] old mid new same wrote = λ name. wrote name ∙ same name
same_wrote (w ∷ writes) old mid new same wrote =
    (wrote.0, wrote.1 ∙ ap (λ (f : Option (List ℕ)). Some (with_slot w.place w.bytes (bytes_of f))) (same w.name), (λ other differ. wrote.2 other differ ∙ same other), wrote.3)

pub wrote_append : (done more : List Write) (old mid new : Content) → Wrote done old mid → Wrote more mid new → Wrote (done ++ more) old new
wrote_append [] more old mid new same wrote = same_wrote more old mid new same wrote
wrote_append (w ∷ done) more old mid new wrote last = (wrote.0, wrote.1, wrote.2, wrote_append done more wrote.0 mid new wrote.3 last)

-- a file that no write is of
pub beside_still : (writes : List Write) (name : List ℕ) (old new : Content) → IsBeside name writes → Wrote writes old new → new name ≡ old name
beside_still [] name old new apart wrote = wrote name
beside_still (w ∷ writes) name old new apart wrote = beside_still writes name wrote.0 new apart.1 wrote.3 ∙ wrote.2 name apart.0

-- what can still be written when others were
pub can_still : (done more : List Write) (old new : Content) → Wrote done old new → CanWrite old (done ++ more) → CanWrite new more
can_still [] more old new wrote can = same_can more wrote can
  where
    same_can : (more : List Write) → ((name : List ℕ) → new name ≡ old name) → CanWrite old more → CanWrite new more
    same_can [] same can = tt
    same_can (w ∷ more) same can = (subst (λ (f : Option (List ℕ)). w.place ≤ file_length f) (sym (same w.name)) can.0, can.1, same_can more same can.2)
can_still (w ∷ done) more old new wrote can = can_still done more wrote.0 new wrote.3 (beside_can (done ++ more) can.1 can.2)
  where
    beside_can : (writes : List Write) → IsBeside w.name writes → CanWrite old writes → CanWrite wrote.0 writes
    beside_can [] apart can = tt
    beside_can (v ∷ writes) apart can =
        (subst (λ (f : Option (List ℕ)). v.place ≤ file_length f) (sym (wrote.2 v.name (λ same. apart.0 (sym same)))) can.0, can.1, beside_can writes apart.1 can.2)

module _ {S : Type 0} (store : StoreWords S) where
  -- no write
  pub left_none : (s : S) → EachMoment store s s (MayLeave store s [])
  left_none s = started store s (MayLeave store s []) (λ i left. (i, left, λ name. refl))

  -- one write
  pub left_one : (w : Write) (name : List ℕ) (old new : S) → name ≡ w.name → Elapses (store.moment old) (store.moment new) (store.may_leave old) (store.may_leave new)
      → Follows (On name (TornFile w.place w.bytes)) (MayLeaveNow store old) (MayLeaveNow store new) → EachMoment store old new (MayLeave store old (w ∷ []))
  left_one w name old new is time images = by_call store old new (MayLeave store old (w ∷ [])) time
      (λ i left. (i, left, made_none (w ∷ []) i))
      (λ i left.
      let d = images i left in
      let on : On w.name (TornFile w.place w.bytes) d.0 i = subst (λ n. On n (TornFile w.place w.bytes) d.0 i) is d.2 in
      (d.0, d.1, (i, on, λ name. refl)))

  module _ (tell : ImagesTell store) (done : List Write) (start old : S) (first : EachMoment store start old (MayLeave store start done)) where
    some_left : (rest : List Write) (i : Image) → MayLeave store start done i → MayLeave store start (done ++ rest) i
    some_left rest i d = (d.0, d.1, may_append done rest d.0 i i d.2 (made_none rest i))

    -- further writes, also where they were cut off
    pub left_more : (more : List Write) (new : S) → EachMoment store old new (MayLeave store old more) → EachMoment store start new (MayLeave store start (done ++ more))
    left_more more new last = one_then_other store tell start old new (MayLeave store start done) (MayLeave store old more) (MayLeave store start (done ++ more)) first last
        (λ i told d. some_left more i d)
        (λ i told e. let d = holds_now store start old (MayLeave store start done) first e.0 e.1 in (d.0, d.1, may_append done more d.0 e.0 i d.2 e.2))

    -- a run that was cut off
    pub left_cut : (rest : List Write) → EachMoment store start old (MayLeave store start (done ++ rest))
    left_cut rest = weaker store tell start old (MayLeave store start done) (MayLeave store start (done ++ rest)) first (λ i told d. some_left rest i d)

one_wrote : (w : Write) (name : List ℕ) (old new : Content) → name ≡ w.name → new name ≡ Some (with_slot w.place w.bytes (bytes_of (old name))) → Beside name old new → Wrote (w ∷ []) old new
one_wrote w name old new is now beside =
    (new, subst (λ n. new n ≡ Some (with_slot w.place w.bytes (bytes_of (old n)))) is now, subst (λ n. Beside n old new) is beside, λ other. refl)

pub wrote_one : {A E : Type 0} (result : Result A E) (told : Type 0) (w : Write) (name : List ℕ) (old new : Content) → name ≡ w.name
    → OnOk result (told → new name ≡ Some (with_slot w.place w.bytes (bytes_of (old name)))) → (told → Beside name old new) → OnOk result (told → Wrote (w ∷ []) old new)
wrote_one (Ok x) told w name old new is now beside = λ t. one_wrote w name old new is (now t) (beside t)
wrote_one (Err e) told w name old new is now beside = tt

-- the writes from one mark on
pub marks_on : (marks : List Mark) (i : ℕ) (m : Mark) → m ≡ get_or marks i m → i < length marks → writes_of (drop i marks) ≡ due_of m ++ writes_of (drop (i + 1) marks)
marks_on marks i m is within = ap writes_of (drop_more marks i m within) ∙ ap (λ q. due_of q ++ writes_of (drop (i + 1) marks)) (sym is)
