-- What an answered call of a store in memory is in terms of steps, of content and of images.
use Rattle.std.proofs.Common.{◌≡◌, ◌≢◌, ◌⊎◌, inl, inr, ℕ, Bool, true, false, List, [], ◌∷◌, ◌++◌, length, map, reverse, Option, if◌then◌else◌, refl, sym, ◌∙◌, ap, subst, arith, Result, Ok, Err, OnOk, is_ok}
use Rattle.std.proofs.lemmas.List.{reverse-append, map-append}
use Rattle.plain_data.specs.Keys.{same_key}
use Rattle.plain_data.proofs.KeyLemmas.{same_key-other}
use Rattle.plain_data.proofs.ChangeLemmas.{same_key-decides}
use Rattle.io_traits.specs.Reads.{bytes_of, file_length}
use Rattle.io_traits.specs.declared.faults.ListFault.{ListFault}
use Rattle.io_traits.specs.declared.faults.ListFault.TheVariants.{Failed, Memory}
use Rattle.io_traits.specs.Images.{Image, FileImage, IsAtRest, TornFile, CutFile, RemovedFile, On, Follows, Beside}
use Rattle.io_traits.specs.Times.{Elapses}
use Rattle.io_traits.specs.Calls.{ChangesNothing, ChangesOne, MaySettle}
use Rattle.io_traits.specs.Steps.{Step, synced, nothing, applied, held, MayLeave, LeavesAt}
use Rattle.io_traits.proofs.Tearing.{Torn-none}
use Rattle.io_traits.proofs.Leaving.{leaves_now, elapses_none, elapses_step}
use Rattle.store_memory.specs.Calls.{step_of, step_in, steps_of}
use Rattle.io_memory.specs.Tables.{Table, content_of}
use Rattle.store_memory.specs.Keeping.{Keeping, reads_of, moment_of, LeavesFrom, Answered, AnsweredUnless}
use Rattle.store_memory.specs.declared.calls.Logged.{Logged}
use Rattle.store_memory.specs.declared.calls.StoreCall.{StoreCall}

pub steps_more : (calls : List Logged) (logged : Logged) → steps_of (calls ++ logged ∷ []) ≡ step_in logged ∷ steps_of calls
steps_more calls logged = ap reverse (map-append step_in calls (logged ∷ [])) ∙ reverse-append (map step_in calls) (step_in logged ∷ [])

-- one step was made
pub record Stepped (step : Step) (old new : Keeping) : Type 0 where
  pub base : new.base ≡ old.base
  pub steps : steps_of new.calls ≡ step ∷ steps_of old.calls

-- none was made
pub record Stood (old new : Keeping) : Type 0 where
  pub base : new.base ≡ old.base
  pub steps : steps_of new.calls ≡ steps_of old.calls

pub did_step : (old new : Keeping) (call : StoreCall) → Answered old new call true → Stepped (step_of call) old new
did_step old new call is = record { base = ap (λ k. k.base) is; steps = ap (λ k. steps_of k.calls) is ∙ steps_more old.calls (record { call = call; worked = true }) }

pub did_nothing : (old new : Keeping) (call : StoreCall) → Answered old new call false → Stepped nothing old new ⊎ Stood old new
did_nothing old new call (inl is) = inl (record { base = ap (λ k. k.base) is; steps = ap (λ k. steps_of k.calls) is ∙ steps_more old.calls (record { call = call; worked = false }) })
did_nothing old new call (inr is) = inr (record { base = ap (λ k. k.base) is; steps = ap (λ k. steps_of k.calls) is })

-- time
stood_time : (old new : Keeping) → Stood old new → Elapses (moment_of old) (moment_of new) (LeavesFrom old) (LeavesFrom new)
stood_time old new is =
    subst (λ (b : Table). Elapses (moment_of old) (moment_of new) (LeavesFrom old) (LeavesAt (content_of b) (steps_of new.calls))) (sym is.base)
    (subst (λ (l : List Step). Elapses (moment_of old) (length l) (LeavesFrom old) (LeavesAt (content_of old.base) l)) (sym is.steps) (elapses_none (content_of old.base) (steps_of old.calls)))

stepped_time : (old new : Keeping) (step : Step) → Stepped step old new → Elapses (moment_of old) (moment_of new) (LeavesFrom old) (LeavesFrom new)
stepped_time old new step is =
    subst (λ (b : Table). Elapses (moment_of old) (moment_of new) (LeavesFrom old) (LeavesAt (content_of b) (steps_of new.calls))) (sym is.base)
    (subst (λ (l : List Step). Elapses (moment_of old) (length l) (LeavesFrom old) (LeavesAt (content_of old.base) l)) (sym is.steps) (elapses_step (content_of old.base) (steps_of old.calls) step))

time_of : (old new : Keeping) (call : StoreCall) (did : Bool) → Answered old new call did → Elapses (moment_of old) (moment_of new) (LeavesFrom old) (LeavesFrom new)
time_of old new call true is = stepped_time old new (step_of call) (did_step old new call is)
time_of old new call false is = elim (did_nothing old new call is) [ inl step ↦ stepped_time old new nothing step | inr stood ↦ stood_time old new stood ]

-- content
stepped_reads : (old new : Keeping) (step : Step) → Stepped step old new → (n : List ℕ) → reads_of new n ≡ applied step n (reads_of old n)
stepped_reads old new step is n = ap (λ (l : List Step). held (content_of new.base) l n) is.steps ∙ ap (λ (b : Table). applied step n (held (content_of b) (steps_of old.calls) n)) is.base

stood_reads : (old new : Keeping) → Stood old new → (n : List ℕ) → reads_of new n ≡ reads_of old n
stood_reads old new is n = ap (λ (l : List Step). held (content_of new.base) l n) is.steps ∙ ap (λ (b : Table). held (content_of b) (steps_of old.calls) n) is.base

failed_reads : (old new : Keeping) (call : StoreCall) → Answered old new call false → (n : List ℕ) → reads_of new n ≡ reads_of old n
failed_reads old new call is n = elim (did_nothing old new call is) [ inl step ↦ stepped_reads old new nothing step n | inr stood ↦ stood_reads old new stood n ]

-- a call whose step changes no file changes nothing that reads give
kept_reads : (old new : Keeping) (call : StoreCall) (did : Bool) → ((n : List ℕ) (f : Option (List ℕ)) → applied (step_of call) n f ≡ f) → Answered old new call did → reads_of new ≡ reads_of old
kept_reads old new call true none answered = λ i. λ n. one n i
  where
    one : (n : List ℕ) → reads_of new n ≡ reads_of old n
    one n = stepped_reads old new (step_of call) (did_step old new call answered) n ∙ none n (reads_of old n)
kept_reads old new call false none answered = λ i. λ n. failed_reads old new call answered n i

pub same_reads : (old new : Keeping) (call : StoreCall) (did : Bool) → step_of call ≡ nothing → Answered old new call did → reads_of new ≡ reads_of old
same_reads old new call did is = kept_reads old new call did (λ n f. ap (λ s. applied s n f) is)

-- what a call that did its work makes of each file
pub did_read : (old new : Keeping) (call : StoreCall) → Answered old new call true → (n : List ℕ) → reads_of new n ≡ applied (step_of call) n (reads_of old n)
did_read old new call is = stepped_reads old new (step_of call) (did_step old new call is)

-- files beside the one of a step
beside_of : (name : List ℕ) (old new : Keeping) (call : StoreCall) (did : Bool) → ((n : List ℕ) (f : Option (List ℕ)) → n ≢ name → applied (step_of call) n f ≡ f) → Answered old new call did → Beside name (reads_of old) (reads_of new)
beside_of name old new call true one is n other = did_read old new call is n ∙ one n (reads_of old n) other
beside_of name old new call false one is n other = failed_reads old new call is n

-- images
same_images : (old new : Keeping) → (Stepped nothing old new ⊎ Stood old new) → (i : Image) → LeavesFrom new (moment_of new) i → LeavesFrom old (moment_of old) i
same_images old new (inl is) i left =
    let now : MayLeave (content_of new.base) (steps_of new.calls) i = (leaves_now (content_of new.base) (steps_of new.calls) i).0 left in
    let earlier : MayLeave (content_of old.base) (steps_of old.calls) i = subst (λ (b : Table). MayLeave (content_of b) (steps_of old.calls) i) is.base (subst (λ (l : List Step). MayLeave (content_of new.base) l i) is.steps now) in
    (leaves_now (content_of old.base) (steps_of old.calls) i).1 earlier
same_images old new (inr is) i left =
    let now : MayLeave (content_of new.base) (steps_of new.calls) i = (leaves_now (content_of new.base) (steps_of new.calls) i).0 left in
    let earlier : MayLeave (content_of old.base) (steps_of old.calls) i = subst (λ (b : Table). MayLeave (content_of b) (steps_of old.calls) i) is.base (subst (λ (l : List Step). MayLeave (content_of new.base) l i) is.steps now) in
    (leaves_now (content_of old.base) (steps_of old.calls) i).1 earlier

pub failed_images : (old new : Keeping) (call : StoreCall) → Answered old new call false → (i : Image) → LeavesFrom new (moment_of new) i → LeavesFrom old (moment_of old) i
failed_images old new call is = same_images old new (did_nothing old new call is)

same_images_of : (old new : Keeping) (call : StoreCall) (did : Bool) → step_of call ≡ nothing → Answered old new call did → (i : Image) → LeavesFrom new (moment_of new) i → LeavesFrom old (moment_of old) i
same_images_of old new call true is answered = same_images old new (inl (subst (λ s. Stepped s old new) is (did_step old new call answered)))
same_images_of old new call false is answered = failed_images old new call answered

-- a step of one file that may also have done nothing
on_none : (name : List ℕ) (step : FileImage → FileImage → Type 0) → ((f : FileImage) → step f f) → (i : Image) → On name step i i
on_none name step same i = record { here = same (i name); there = λ other differ. refl }

follows_of : (old new : Keeping) (call : StoreCall) (did : Bool) (name : List ℕ) (step : FileImage → FileImage → Type 0) → ((f : FileImage) → step f f)
    → ((i : Image) → MayLeave (content_of old.base) (step_of call ∷ steps_of old.calls) i → (d : Image) × MayLeave (content_of old.base) (steps_of old.calls) d × On name step d i) → Answered old new call did
    → Follows (On name step) (LeavesFrom old (moment_of old)) (LeavesFrom new (moment_of new))
follows_of old new call true name step none one is i left =
    let s = did_step old new call is in
    let now : MayLeave (content_of new.base) (steps_of new.calls) i = (leaves_now (content_of new.base) (steps_of new.calls) i).0 left in
    let earlier : MayLeave (content_of old.base) (step_of call ∷ steps_of old.calls) i = subst (λ (b : Table). MayLeave (content_of b) (step_of call ∷ steps_of old.calls) i) s.base (subst (λ (l : List Step). MayLeave (content_of new.base) l i) s.steps now) in
    let d = one i earlier in
    (d.0, (leaves_now (content_of old.base) (steps_of old.calls) d.0).1 d.1, d.2)
follows_of old new call false name step none one is i left = (i, failed_images old new call is i left, on_none name step none i)

pub torn_none : (at : ℕ) (bytes : List ℕ) (f : FileImage) → TornFile at bytes f f
torn_none at bytes f = record { torn = Torn-none at (length bytes) (bytes_of f.file); stays = λ is. is; settled = refl; writes = λ w among. inl among }

pub removed_none : (f : FileImage) → RemovedFile f f
removed_none f = record { gone = inr refl; settled = refl; writes = refl }

-- a sync
pub synced_images : (old new : Keeping) (call : StoreCall) → step_of call ≡ synced → Answered old new call true → (i : Image) → LeavesFrom new (moment_of new) i → IsAtRest (reads_of old) i
synced_images old new call sync is i left =
    let s = did_step old new call is in
    let now : MayLeave (content_of new.base) (steps_of new.calls) i = (leaves_now (content_of new.base) (steps_of new.calls) i).0 left in
    let steps : steps_of new.calls ≡ synced ∷ steps_of old.calls = s.steps ∙ ap (λ x. x ∷ steps_of old.calls) sync in
    subst (λ (b : Table). MayLeave (content_of b) (synced ∷ steps_of old.calls) i) s.base (subst (λ (l : List Step). MayLeave (content_of new.base) l i) steps now)

-- at the name of a step, and at another
pub at_name : (name : List ℕ) (x y : Option (List ℕ)) → (if same_key name name then x else y) ≡ x
at_name name x y = ap (λ b. if b then x else y) ((same_key-decides name name).1 refl)

pub at_other : (name n : List ℕ) (x y : Option (List ℕ)) → n ≢ name → (if same_key name n then x else y) ≡ y
at_other name n x y differ = ap (λ b. if b then x else y) (same_key-other name n (λ same. differ (sym same)))

-- what holds where a call did its work
pub on_did : {E P : Type 0} (old new : Keeping) (call : StoreCall) (result : Result (Unit {0}) E) → (Answered old new call true → P) → Answered old new call (is_ok result) → OnOk result P
on_did old new call (Ok u) so is = so is
on_did old new call (Err e) so is = tt

synced_or : (old new : Keeping) (call : StoreCall) (did : Bool) → step_of call ≡ synced → Answered old new call did → (i : Image) → LeavesFrom new (moment_of new) i → LeavesFrom old (moment_of old) i ⊎ IsAtRest (reads_of old) i
synced_or old new call true sync is i left = inr (synced_images old new call sync is i left)
synced_or old new call false sync is i left = inl (failed_images old new call is i left)

-- what each kind of call leaves: one that makes no step, one that makes a step of one file, and a sync
pub changes_nothing : (old new : Keeping) (call : StoreCall) (did : Bool) → step_of call ≡ nothing → Answered old new call did → ChangesNothing true reads_of moment_of LeavesFrom old new
changes_nothing old new call did is answered = record {
  reads = λ told. same_reads old new call did is answered;
  images = same_images_of old new call did is answered;
  time = time_of old new call did answered;
}

pub changes_one : (old new : Keeping) (call : StoreCall) (did : Bool) (name : List ℕ) (step : FileImage → FileImage → Type 0) → ((n : List ℕ) (f : Option (List ℕ)) → n ≢ name → applied (step_of call) n f ≡ f) → ((f : FileImage) → step f f)
    → ((i : Image) → MayLeave (content_of old.base) (step_of call ∷ steps_of old.calls) i → (d : Image) × MayLeave (content_of old.base) (steps_of old.calls) d × On name step d i) → Answered old new call did
    → ChangesOne true reads_of moment_of LeavesFrom old new name step
changes_one old new call did name step beside none one answered = record {
  beside = λ told. beside_of name old new call did beside answered;
  images = follows_of old new call did name step none one answered;
  time = time_of old new call did answered;
}

pub may_settle : (old new : Keeping) (call : StoreCall) (did : Bool) → step_of call ≡ synced → Answered old new call did → MaySettle true reads_of moment_of LeavesFrom old new
may_settle old new call did is answered = record {
  reads = λ told. kept_reads old new call did (λ n f. ap (λ s. applied s n f) is) answered;
  images = synced_or old new call did is answered;
  time = time_of old new call did answered;
}

-- whatever a list answers, its call was answered
pub answered_unless : {T : Type 0} (old new : Keeping) (call : StoreCall) (result : Result T ListFault) → AnsweredUnless old new call result → (did : Bool) × Answered old new call did
answered_unless old new call (Ok names) is = (true, is)
answered_unless old new call (Err Memory) is = (true, is)
answered_unless old new call (Err Failed) is = (false, is)
