-- How tools end.
use Rattle.std.proofs.Common.{◌≡◌, inl, inr, ⊎_elim, List, ℕ, Bool, true, false, IsTrue, Result, Ok, Err, refl, sym, ◌∙◌, ap, subst}
use Rattle.io_traits.specs.declared.sinks.Sink.{Ghosts as SinkWords}
use Rattle.io_traits.specs.Counts.{HasCause}
use Rattle.io_traits.proofs.Causes.{cause_of}
use Rattle.io_traits.proofs.Growth.{grows_same}
use Rattle.io_traits.proofs.Moments.{weaker}
use Rattle.io_traits.specs.Images.{Image}
use Rattle.io_traits.specs.Moments.{EachMoment, ImagesTell, LeavesBeside}
use Rattle.io_traits.specs.declared.stores.Store.{Ghosts as StoreWords}
use Rattle.queue_files.specs.Folders.{IsOwn, names_in}
use Rattle.queue_files.specs.Marks.{read_in}
use Rattle.queue_files.specs.Others.{KeepsOthers}
use Rattle.logstash_settings.specs.Words.{Answer}
use Rattle.logstash_settings.specs.declared.fault.WordsFault.{WordsFault}
use Rattle.pq_tools.specs.Checks.{ChecksAs, PrintsOr, Said, Tells, line_of, status_of}
use Rattle.pq_tools.specs.Numbers.{spends_numbers}
use Rattle.pq_tools.specs.Orders.{Ordered, Orders, repaired}
use Rattle.pq_tools.specs.Repairs.{HasFile, IsOfRepair, IsRepaired, LeavesQueue, Repairs, RepairsAs, Salvages, failed, not_new, rows_told, spent, status_by}
use Rattle.pq_tools.specs.Statuses.{is_store_fault, rows_line}
use Rattle.pq_tools.specs.declared.fault.RepairFault.{RepairFault}
use Rattle.pq_tools.specs.declared.fault.RepairFault.TheVariants as r
use Rattle.pq_tools.specs.declared.orders.ToolOrder.{ToolOrder}
use Rattle.pq_tools.specs.declared.status.ToolStatus.{ToolStatus}
use Rattle.pq_tools.specs.declared.status.ToolStatus.TheVariants as s
use Rattle.pq_tools.proofs.OrderFolders.{AreApart, ordered_ok, repair_answered}

refusal_is : {x y : ToolStatus} → ◌≡◌ {A = Result ToolOrder ToolStatus} (Err x) (Err y) → x ≡ y
refusal_is is = cc

ok_err : {o : ToolOrder} {x : ToolStatus} → ◌≡◌ {A = Result ToolOrder ToolStatus} (Err x) (Ok o) → ⊥
ok_err is = absurd cc

-- ---- words that are refused

module _ {O : Type 0} (sink : SinkWords O) where
  pub refused : (ordered : Ordered) (says : ToolOrder → Said → Type 0) (out : O) (refusal : ToolStatus) → Orders ordered (Err refusal) → ChecksAs sink ordered says out out refusal
  refused (Ok order) says out refusal is = ⊎_elim (λ same. absurd (ok_err same)) (λ none. inl (inr (refusal_is none), grows_same (sink.taken out))) is
  refused (Err why) says out refusal is = ⊎_elim (λ same. (inl (refusal_is same), grows_same (sink.taken out))) (λ none. (inr (refusal_is none), grows_same (sink.taken out))) is

-- such a status is no fault
pub record IsNoFault (status : ToolStatus) : Type 0 where
  pub store : is_store_fault status ≡ true → ⊥
  pub out : status ≡ s.OutputFault → ⊥

true_false : ◌≡◌ {A = Bool} false true → ⊥
true_false is = absurd cc

words_are : (why : WordsFault) (status : ToolStatus) → status ≡ s.BadWords why → IsNoFault status
words_are why status is = record {
  store = λ fault. true_false (sym (ap is_store_fault is) ∙ fault);
  out = λ other. absurd cc;
}

memory_is : (status : ToolStatus) → status ≡ s.NoMemory → IsNoFault status
memory_is status is = record {
  store = λ fault. true_false (sym (ap is_store_fault is) ∙ fault);
  out = λ other. absurd cc;
}

pub no_fault : (ordered : Ordered) (refusal : ToolStatus) → Orders ordered (Err refusal) → IsNoFault refusal
no_fault (Ok order) refusal is = ⊎_elim (λ same. absurd (ok_err same)) (λ none. memory_is refusal (refusal_is none)) is
no_fault (Err why) refusal is = ⊎_elim (λ same. words_are why refusal (refusal_is same)) (λ none. memory_is refusal (refusal_is none)) is

-- ---- a queue that is checked

module _ {O : Type 0} (sink : SinkWords O) where
  pub told : (ordered : Ordered) (order : ToolOrder) (says : ToolOrder → Said → Type 0) (old new : O) (status : ToolStatus) → Orders ordered (Ok order) → Tells sink order.id (says order) old new status
      → ChecksAs sink ordered says old new status
  told ordered order says old new status is tells = subst (λ (o : Ordered). ChecksAs sink o says old new status) (sym (ordered_ok ordered order is)) tells

  pub said : (id : List ℕ) (IsSaid : Said → Type 0) (found : Said) (old new : O) (status : ToolStatus) → IsSaid found → PrintsOr sink (line_of id found) (status_of id found) old new status → Tells sink id IsSaid old new status
  said id IsSaid found old new status is prints = ⊎_elim (λ none. inl (inr none.0, none.1)) (λ printed. inr (found, is, printed)) prints

-- ---- a queue that is repaired

module _ {S O : Type 0} (store : StoreWords S) (sink : SinkWords O) where
  pub repair_refused : (ordered : Ordered) (old : S) (out : O) (refusal : ToolStatus) → Orders ordered (Err refusal) → RepairsAs store sink ordered old old out out refusal
  repair_refused (Ok order) old out refusal is = ⊎_elim (λ same. absurd (ok_err same)) (λ none. failed (inr (refusal_is none)) (grows_same (sink.taken out))) is
  repair_refused (Err why) old out refusal is = ⊎_elim (λ same. (inl (refusal_is same), grows_same (sink.taken out))) (λ none. (inr (refusal_is none), grows_same (sink.taken out))) is

  pub repair_told : (ordered : Ordered) (order : ToolOrder) (old new : S) (out_old out_new : O) (status : ToolStatus) → Orders ordered (Ok order) → Repairs store sink order old new out_old out_new status
      → RepairsAs store sink ordered old new out_old out_new status
  repair_told ordered order old new out_old out_new status is repairs = subst (λ (o : Ordered). RepairsAs store sink o old new out_old out_new status) (sym (ordered_ok ordered order is)) repairs

  pub repair_beside : (ordered : Ordered) (order : ToolOrder) (old new : S) → Orders ordered (Ok order) → KeepsOthers store (IsOwn (names_in order.repaired)) old new → KeepsOthers store (IsOfRepair ordered) old new
  repair_beside ordered order old new is beside = subst (λ (o : Ordered). KeepsOthers store (IsOfRepair o) old new) (sym (ordered_ok ordered order is)) beside

  leaves_queue : (ordered : Ordered) (old : S) (i : Image) → AreApart ordered → LeavesBeside store (IsOfRepair ordered) old i → LeavesQueue store ordered old i
  leaves_queue (Ok order) old i apart beside = (beside.0, beside.1, λ role. beside.2 (names_in order.folder role) (apart order refl role))
  leaves_queue (Err why) old i apart beside = (beside.0, beside.1, tt)

  -- so the queue that is to be repaired stays
  pub queue_moments : ImagesTell store → (answer : Answer) (old new : S) → KeepsOthers store (IsOfRepair (repaired answer)) old new → EachMoment store old new (LeavesQueue store (repaired answer) old)
  queue_moments tell answer old new kept =
      weaker store tell old new (LeavesBeside store (IsOfRepair (repaired answer)) old) (LeavesQueue store (repaired answer) old) kept.moments
      (λ i told beside. leaves_queue (repaired answer) old i (λ order is. (repair_answered answer order is).apart) beside)

  -- what was written is told
  pub repair_done : (order : ToolOrder) (old new : S) (out_old out_new : O) (status : ToolStatus) (count : ℕ)
      → (IsTrue store.tells
      → Salvages (HasFile order.repaired (store.seen old)) (spends_numbers order.repaired (read_in (names_in order.folder) (store.seen old)))
      (IsRepaired (read_in (names_in order.folder) (store.seen old)) (read_in (names_in order.repaired) (store.seen new))) (Ok count))
      → PrintsOr sink (rows_line count) s.Done out_old out_new status → Repairs store sink order old new out_old out_new status
  repair_done order old new out_old out_new status count is prints = ⊎_elim (λ none. failed (inr none.0) none.1) (λ printed. rows_told count (λ tells. (is tells).0) (λ tells. (is tells).1) (λ tells. (is tells).2) printed) prints

  -- or why nothing was
  pub repair_failed : (order : ToolOrder) (old new : S) (out : O) (status : ToolStatus) (fault : RepairFault) (Is : ℕ → Type 0)
      → (IsTrue store.tells → Salvages (HasFile order.repaired (store.seen old)) (spends_numbers order.repaired (read_in (names_in order.folder) (store.seen old))) Is (Err fault)) → status ≡ status_by order.id order.repaired fault → Repairs store sink order old new out out status
  repair_failed order old new out status r.Store Is is same = failed (inl same) (grows_same (sink.taken out))
  repair_failed order old new out status r.Memory Is is same = failed (inr same) (grows_same (sink.taken out))
  repair_failed order old new out status r.NumbersSpent Is is same = spent same (λ tells. (is tells).0) (λ tells. (is tells).1) (grows_same (sink.taken out))
  repair_failed order old new out status r.NotNew Is is same = not_new same is (grows_same (sink.taken out))

-- ---- what was counted

-- a status that says why a queue was not repaired is that of the store where the store failed
pub status_cause : {a b : ℕ} {X : Type 0} (id folder : List ℕ) (fault : RepairFault) (status : ToolStatus) → status ≡ status_by id folder fault → HasCause a b (◌≡◌ {A = Result X RepairFault} (Err fault) (Err r.Store))
    → HasCause a b (is_store_fault status ≡ true)
status_cause id folder r.Store status is cause = cause_of (λ fault. refl) (λ same. ap is_store_fault is) cause
status_cause id folder r.Memory status is cause = cause_of (λ fault. absurd (true_false (sym (ap is_store_fault is) ∙ fault))) (λ same. absurd cc) cause
status_cause id folder r.NumbersSpent status is cause = cause_of (λ fault. absurd (true_false (sym (ap is_store_fault is) ∙ fault))) (λ same. absurd cc) cause
status_cause id folder r.NotNew status is cause = cause_of (λ fault. absurd (true_false (sym (ap is_store_fault is) ∙ fault))) (λ same. absurd cc) cause

pub status_out : (id folder : List ℕ) (fault : RepairFault) (status : ToolStatus) → status ≡ status_by id folder fault → status ≡ s.OutputFault → ⊥
status_out id folder r.Store status is out = absurd (cc)
status_out id folder r.Memory status is out = absurd (cc)
status_out id folder r.NumbersSpent status is out = absurd (cc)
status_out id folder r.NotNew status is out = absurd (cc)

-- a line that is told is no fault of the store
pub done_cause : {O : Type 0} {a b : ℕ} (sink : SinkWords O) (line : List ℕ) (old new : O) (status : ToolStatus) (count : ℕ) → PrintsOr sink line s.Done old new status
    → HasCause a b (◌≡◌ {A = Result ℕ RepairFault} (Ok count) (Err r.Store)) → HasCause a b (is_store_fault status ≡ true)
done_cause sink line old new status count prints cause = cause_of
    (λ fault. absurd (true_false (sym (⊎_elim (λ none. ap is_store_fault none.0) (λ printed. ⊎_elim (λ done. ap is_store_fault done.0) (λ out. ap is_store_fault out.0) printed) prints) ∙ fault)))
    (λ same. absurd cc) cause
