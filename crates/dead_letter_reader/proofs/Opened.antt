-- What an opening finds, and what it leaves.
use Rattle.std.proofs.Common.{◌≡◌, ◌⊎◌, inl, inr, ⊎_elim, ℕ, zero, suc, ◌-◌, IsTrue, nat_eq, slice_get, unwrap_or, List, [], ◌∷◌, ◌++◌, length, Result, Ok, Err, IfOk, codes, get_or, refl, sym, ap, subst, ◌∙◌, arith, length-append}
use Rattle.std.specs.Fmt.{decimal}
use Rattle.std.proofs.lemmas.Bool.{cases_Bool, cond-false, eqb-true}
use Rattle.std.proofs.lemmas.List.{append_assoc}
use Rattle.io_traits.specs.Folders.{Content, folder_start}
use Rattle.io_traits.specs.Reads.{bytes_of}
use Rattle.io_traits.specs.Images.{Image, IsAtRest, at_rest}
use Rattle.io_traits.specs.Calls.{ChangesNothing}
use Rattle.io_traits.specs.Moments.{EachMoment, ImagesTell, NowOrSynced, ReadsBeside}
use Rattle.io_traits.specs.declared.stores.Store.{Ghosts as StoreWords}
use Rattle.io_traits.proofs.Beside.{beside_none}
use Rattle.io_traits.proofs.Moments.{goes_on, holds_now, one_then_other, started, weaker}
use Rattle.slot_files.specs.Changes.{AllRest}
use Rattle.io_traits.specs.declared.queue_faults.Damage.{Damage}
use Rattle.io_traits.specs.declared.queue_faults.QueueFault.{QueueFault}
use Rattle.io_traits.specs.declared.queue_faults.QueueFault.TheVariants as f
use Rattle.slot_files.specs.Contents.{damage}
use Rattle.pipeline_bus.specs.declared.link.LinkSender.{LinkSender}
use Rattle.dead_letters.specs.Found.{Held, found}
use Rattle.dead_letters.specs.Opening.{HoldsStill, LeavesHeld}
use Rattle.dead_letters.specs.Queues.{Role, segment, names, position, name_in}
use Rattle.dead_letters.specs.Rows.{Answers, rows_of}
use Rattle.dead_letters.specs.Segments.{counted_in}
use Rattle.dead_letters.specs.Views.{IsOwn}
use Rattle.dead_letters.specs.declared.segments.Counted.{Counted}
use Rattle.dead_letters.specs.declared.rows.DeadRow.{DeadRow}
use Rattle.dead_letter_reader.specs.Names.{place_file, without_slash}
use Rattle.dead_letter_reader.specs.Places.{place_in}
use Rattle.dead_letter_reader.specs.Ready.{Says}
use Rattle.dead_letter_reader.specs.Opening.{AreAll, IsDamaged, LeavesQueue, letter, place as place_of}

-- ---- letters

module _ (folder q_folder : List ℕ) (content : Content) (held : Held) (r : Result (List DeadRow) QueueFault) (same : q_folder ≡ folder) (found_is : found folder content ≡ Ok held) (answers : Answers r (rows_of q_folder held)) where
  pub all_found : (rows : List DeadRow) → r ≡ Ok rows → AreAll folder content rows
  all_found rows is = record { held = held; found_is = found_is; are = subst (λ n. rows_of n held ≡ Ok rows) same (subst (λ x. Answers x (rows_of q_folder held)) is answers) }

  pub one_damaged : (d : Damage) → r ≡ Err (f.Damaged d) → IsDamaged folder content d
  one_damaged d is = letter held found_is (subst (λ n. rows_of n held ≡ Err d) same (subst (λ x. Answers x (rows_of q_folder held)) is answers))

pub if_all : {X : Type 0} (P : List DeadRow → Type 0) (r : Result (List DeadRow) X) → ((rows : List DeadRow) → r ≡ Ok rows → P rows) → IfOk r P
if_all P (Ok rows) each = each rows refl
if_all P (Err e) each = tt

module _ {S : Type 0} (store : StoreWords S) where
  -- reading behind a run
  pub read_behind : (old mid new : S) (P : Image → Type 0) → EachMoment store old mid P → ChangesNothing store.tells store.seen store.moment store.may_leave mid new → EachMoment store old new P
  read_behind old mid new P run same = goes_on store old mid new P run same.time (λ i left. holds_now store old mid P run i (same.images i left))

-- ---- the file of the place is none of the queue's

-- what stands behind the folder without its slash
starts_at : (xs ys : List ℕ) → get_or (xs ++ ys) (length xs) 0 ≡ get_or ys 0 0
starts_at [] ys = refl
starts_at (x ∷ xs) ys = starts_at xs ys

abbrev behind : Role → List ℕ
behind (segment zero) = codes "dead.log"
behind (segment (suc k)) = codes "dead." ++ (decimal (suc k) ++ codes ".log")
behind names = codes "dead.seg"
behind position = codes "dead.pos"

named : (folder : List ℕ) (role : Role) → name_in folder role ≡ folder ++ behind role
named folder (segment zero) = refl
named folder (segment (suc k)) = refl
named folder names = refl
named folder position = refl

begins_so : (role : Role) → get_or (behind role) 0 0 ≡ 100
begins_so (segment zero) = refl
begins_so (segment (suc k)) = refl
begins_so names = refl
begins_so position = refl

-- the path of a folder is empty or ends with a slash
slashed_end : (xs : List ℕ) → unwrap_or (slice_get xs (length xs - 1)) 47 ≡ 47 → (xs ≡ []) ⊎ (xs ≡ without_slash xs ++ 47 ∷ [])
slashed_end [] is = inl refl
slashed_end (b ∷ []) is = inr (subst (λ y. y ∷ [] ≡ without_slash (y ∷ []) ++ 47 ∷ []) (sym is) refl)
slashed_end (b ∷ c ∷ xs) is =
    let less : length (b ∷ c ∷ xs) - 1 ≡ suc (length (c ∷ xs) - 1) = omega arith in
    let is_so : unwrap_or (slice_get (c ∷ xs) (length (c ∷ xs) - 1)) 47 ≡ 47 = sym (ap (λ n. unwrap_or (slice_get (b ∷ c ∷ xs) n) 47) less) ∙ is in
    ⊎_elim (λ (none : c ∷ xs ≡ []). absurd (let e = ap length none in omega (arith, e))) (λ (e : c ∷ xs ≡ without_slash (c ∷ xs) ++ 47 ∷ []). inr (ap (λ l. b ∷ l) e)) (slashed_end (c ∷ xs) is_so)

last_is_slash : (folder : List ℕ) → folder_start folder ≡ folder → unwrap_or (slice_get folder (length folder - 1)) 47 ≡ 47
last_is_slash folder start = ⊎_elim
    (λ is. eqb-true (unwrap_or (slice_get folder (length folder - 1)) 47) 47 is)
    (λ not. absurd (let longer : folder ++ 47 ∷ [] ≡ folder = sym (cond-false _ folder (folder ++ 47 ∷ []) not) ∙ start in
    let e = ap length longer in
    let l = length-append folder (47 ∷ []) in
    omega (arith, e, l)))
    (cases_Bool (nat_eq (unwrap_or (slice_get folder (length folder - 1)) 47) 47))

pub is_apart : (folder : List ℕ) → folder_start folder ≡ folder → IsOwn folder (place_file folder) → ⊥
is_apart folder start own =
    let base = without_slash folder in
    let pos = codes ".dlq/dlq.pos" in
    let role = own.0 in
    let same : base ++ pos ≡ folder ++ behind role = own.2 ∙ named folder role in
    let dot : get_or (base ++ pos) (length base) 0 ≡ 46 = starts_at base pos in
    ⊎_elim
    (λ (none : folder ≡ []).
    let e : codes ".dlq/dlq.pos" ≡ behind role = subst (λ l. without_slash l ++ codes ".dlq/dlq.pos" ≡ l ++ behind role) none same in
    let first : 46 ≡ 100 = ap (λ l. get_or l 0 0) e ∙ begins_so role in
    omega (arith, first))
    (λ (slashed : folder ≡ base ++ 47 ∷ []).
    let e : base ++ pos ≡ base ++ 47 ∷ behind role = same ∙ ap (λ l. l ++ behind role) slashed ∙ append_assoc base (47 ∷ []) (behind role) in
    let slash : 46 ≡ 47 = sym dot ∙ ap (λ l. get_or l (length base) 0) e ∙ starts_at base (47 ∷ behind role) in
    omega (arith, slash))
    (slashed_end folder (last_is_slash folder start))

-- ---- an opening, whole

module _ {S : Type 0} (store : StoreWords S) (tell : ImagesTell store) (folder : List ℕ) (old mid : S) (reads : IsTrue store.tells → store.seen mid ≡ store.seen old) (settled : EachMoment store old mid (NowOrSynced store old)) where
  pub settles_leave : EachMoment store old mid (LeavesQueue store folder old)
  settles_leave = weaker store tell old mid _ _ settled (λ i told now. record { own = inl now; beside = beside_none store (IsOwn folder) old i now })

  -- what may be left or is read at rest behind the sync was so before
  as_before : (d : Image) → NowOrSynced store mid d → NowOrSynced store old d
  as_before d (inl left) = holds_now store old mid (NowOrSynced store old) settled d left
  as_before d (inr synced) = inr (synced.0, subst (λ (c : Content). IsAtRest c d) (reads synced.0) synced.1)

  module _ (new : S) (opened : EachMoment store mid new (LeavesHeld store folder mid)) (beside : ReadsBeside store (IsOwn folder) mid new) where
    pub opening_leaves : EachMoment store old new (LeavesQueue store folder old)
    opening_leaves = one_then_other store tell old mid new _ _ _ settled opened
        (λ i told now. record { own = inl now; beside = beside_none store (IsOwn folder) old i now })
        (λ i told held. record {
          own = ⊎_elim (λ left. inl (as_before i (inl left))) (λ (h : IsTrue store.tells × HoldsStill folder (store.seen mid) i). inr (h.0, subst (λ (c : Content). HoldsStill folder c i) (reads h.0) h.1)) held.own;
          beside = (held.beside.0, as_before held.beside.0 held.beside.1, held.beside.2);
        })

    pub opening_beside : ReadsBeside store (IsOwn folder) old new
    opening_beside told name other = beside told name other ∙ ap (λ (c : Content). c name) (reads told)

    module _ (start : folder_start folder ≡ folder) (rests : AllRest store mid) where
      abbrev file : List ℕ
      file = place_file folder

      rested : (d : Image) → NowOrSynced store mid d → d file ≡ at_rest (store.seen mid file)
      rested d (inl left) = rests d left file
      rested d (inr synced) = synced.1 file

      pub still_says : (recorded : Counted) → (IsTrue store.tells → recorded ≡ counted_in (bytes_of (store.seen old file))) → Says store file recorded new
      still_says recorded is = record {
        said = λ told. ap (λ o. counted_in (bytes_of o)) (opening_beside told file (is_apart folder start)) ∙ sym (is told);
        rests = λ i left.
            let held = holds_now store mid new (LeavesHeld store folder mid) opened i left in
            let told = tell new (store.moment new) i left in
            held.beside.2 file (is_apart folder start) ∙ rested held.beside.0 held.beside.1 ∙ ap at_rest (sym (beside told file (is_apart folder start)));
      }

-- before the first call of the store
pub not_begun : {S : Type 0} (store : StoreWords S) (folder : List ℕ) (s : S) → EachMoment store s s (LeavesQueue store folder s)
not_begun store folder s = started store s _ (λ i left. record { own = inl (inl left); beside = beside_none store (IsOwn folder) s i (inl left) })

abbrev lost : (X : Type 0) → QueueFault → Result X QueueFault
lost X fault = Err fault

same_damage : (X : Type 0) (r : QueueFault) (d e : Damage) → lost X r ≡ lost X (f.Damaged d) → r ≡ f.Damaged e → d ≡ e
same_damage X r d e is are = cc

-- the file of the place says no place
pub place_damaged : (X : Type 0) (folder named_file : List ℕ) (old : Content) (recorded : Counted) (pair : ℕ × ℕ) (r : QueueFault) (d : Damage) → named_file ≡ place_file folder → recorded ≡ counted_in (bytes_of (old (place_file folder)))
    → place_in recorded ≡ Err pair → r ≡ f.Damaged (damage named_file 0 pair.0 pair.1) → lost X r ≡ lost X (f.Damaged d) → IsDamaged folder old d
place_damaged X folder named_file old recorded pair r d named_so is none made answer =
    let same : d ≡ damage named_file 0 pair.0 pair.1 = same_damage X r d (damage named_file 0 pair.0 pair.1) answer made in
    place_of pair (subst (λ c. place_in c ≡ Err pair) is none) (same ∙ ap (λ n. damage n 0 pair.0 pair.1) named_so)

-- a fault beside the end of the link that comes back
abbrev given_back : (X : Type 0) → LinkSender → QueueFault → Result X (LinkSender × QueueFault)
given_back X sender fault = Err (sender, fault)

pub fault_is : (X : Type 0) (a b : LinkSender) (r q : QueueFault) → given_back X a r ≡ given_back X b q → r ≡ q
fault_is X a b r q is = ap (λ (p : LinkSender × QueueFault). p.1) (errors_same is)
  where
    errors_same : given_back X a r ≡ given_back X b q → ◌≡◌ {A = LinkSender × QueueFault} (a, r) (b, q)
    errors_same e = cc
