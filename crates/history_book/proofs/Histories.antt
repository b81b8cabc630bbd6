-- What holds of legal histories.
use Rattle.std.proofs.Common.{◌≡◌, ◌⊎◌, inl, inr, ⊎_elim, ℕ, ◌≤◌, ◌<◌, nat_le, List, [], ◌∷◌, ◌++◌, Option, Some, None, refl, sym, ap, ◌∙◌, subst, arith, append-nil}
use Rattle.std.proofs.lemmas.Bool.{le-leb}
use Rattle.event_tree.specs.declared.lists.DeadPart.{DeadPart}
use Rattle.event_flow.specs.Meaning.{Makes, Due}
use Rattle.event_flow.specs.Meaning as due
use Rattle.history_book.specs.Entries.{Entry, Accept, Mark, Assure, Read, Back, Shed, Deliver, Letters, Ack, Purge, Adopt, Opened}
use Rattle.history_book.specs.Lists.{IsIn}
use Rattle.history_book.specs.States.{Plan, Written, Out, State, start, newest, numbers_out, out_of, left_of, reads, tells_letters, top_of, written, next, after}
use Rattle.history_book.specs.Legal.{IsBack, Legal_at, Legal}
use Rattle.history_book.specs.Laws.{PrefixesAreLegal, WasDelivered, AcknowledgedWereDelivered, SettledStand, AssuredStand}
use Rattle.history_book.proofs.Lists.{in_front, in_either, filter_keeps, filter_has}
use Rattle.history_book.proofs.Batches.{AsDue, AreDue, found_due, next_due}
use Rattle.history_book.proofs.Numbers.{IsSane, start_sane, numbers_have, next_sane}
use Rattle.history_book.proofs.Outs.{out_in}

module _ (makes : Makes) where
  pub after_both : (s : State) (told more : List Entry) → after makes s (told ++ more) ≡ after makes (after makes s told) more
  after_both s [] more = refl
  after_both s (e ∷ told) more = after_both (next makes s e) told more

  pub legal_first : (s : State) (told more : List Entry) → Legal makes s (told ++ more) → Legal makes s told
  legal_first s [] more legal = tt
  legal_first s (e ∷ told) more legal = (legal.0, legal_first (next makes s e) told more legal.1)

  pub legal_rest : (s : State) (told more : List Entry) → Legal makes s (told ++ more) → Legal makes (after makes s told) more
  legal_rest s [] more legal = legal
  legal_rest s (e ∷ told) more legal = legal_rest (next makes s e) told more legal.1

  -- ---- what is acknowledged

  -- it is a row, and acknowledged
  abbrev IsAcked : State → Written → Type 0
  IsAcked s w = IsIn w s.rows × IsIn w.number s.acknowledged

  acked_back : (s : State) (batch : ℕ) (told : List Entry) (w : Written) → IsSane s → AreDue makes s.out → (back : IsBack s batch []) → IsIn w s.rows
      → IsIn w.number (numbers_out (out_of batch s.out)) → WasDelivered makes s (Ack batch ∷ told) w
  acked_back s batch told w sane all back i acked =
      let row = numbers_have w.number back.out.rows (subst (λ (o : Option Out). IsIn w.number (numbers_out o)) back.has acked) in
      let same = sane.numbered.unique w row.0 i (sane.outs back.out row.0 (out_in batch back.out s.out back.has) row.1) row.2 in
      record {
        before = [];
        batch = batch;
        rest = told;
        parts = refl;
        out = back.out;
        was_out = back.has;
        has = subst (λ (v : Written). IsIn v back.out.rows) (sym same) row.1;
        verdicts = back.verdicts;
        back = back.back;
        all_told =
            sym (append-nil back.out.told) ∙ ap (λ (l : List Due). back.out.told ++ l) (sym back.left_is)
            ∙ subst (AsDue makes back.out) back.back (found_due makes batch s.out back.out all back.has);
      }

  acked_read : (s : State) (batch : ℕ) (numbers : List ℕ) (plan : Option Plan) (w : Written) → IsAcked (reads s batch numbers plan) w → IsAcked s w
  acked_read s batch numbers None w i = i
  acked_read s batch numbers (Some plan) w i = i

  acked_letters : (s : State) (batch : ℕ) (letters : List DeadPart) (left : List Due) (w : Written) → IsAcked (tells_letters s batch letters left) w → IsAcked s w
  acked_letters s batch letters [] w i = i
  acked_letters s batch letters (due.Letters ds ∷ rest) w i = i
  acked_letters s batch letters (due.Events id at es ∷ rest) w i = i

  -- a row that was just written isn't
  acked_before : (s : State) (x : Written) → s.low ≤ x.number → IsSane s → (w : Written) → IsIn w (s.rows ++ x ∷ []) → IsIn w.number s.acknowledged → IsAcked s w
  acked_before s x least sane w i acked = ⊎_elim (λ (j : IsIn w s.rows). (j, acked)) newest_one (in_either w s.rows (x ∷ []) i)
    where
      newest_one : IsIn w (x ∷ []) → IsAcked s w
      newest_one (inl e) = absurd (let less = sane.acked w.number acked in let same = ap (λ (v : Written). v.number) e in omega (arith, less, least, same))
      newest_one (inr never) = absurd never

  acked_by : (s : State) (e : Entry) (told : List Entry) (w : Written) → IsSane s → AreDue makes s.out → Legal_at makes s e → IsAcked (next makes s e) w
      → IsAcked s w ⊎ WasDelivered makes s (e ∷ told) w
  acked_by s (Accept input parcel number event) told w sane all legal i = inl (acked_before s (written s input number event) legal.1 sane w i.0 i.1)
  acked_by s (Mark front) told w sane all legal i = inl i
  acked_by s (Assure input front) told w sane all legal i = inl i
  acked_by s (Read batch generation numbers) told w sane all legal i = inl (acked_read s batch numbers (newest s.plans) w i)
  acked_by s (Back batch verdicts) told w sane all legal i = inl i
  acked_by s (Shed batch older newer) told w sane all legal i = inl i
  acked_by s (Deliver batch at events fates) told w sane all legal i = inl i
  acked_by s (Letters batch letters) told w sane all legal i = inl (acked_letters s batch letters (left_of (out_of batch s.out)) w i)
  acked_by s (Ack batch) told w sane all legal i =
      ⊎_elim (λ (j : IsIn w.number s.acknowledged). inl (i.0, j))
      (λ (j : IsIn w.number (numbers_out (out_of batch s.out))). inr (acked_back s batch told w sane all legal.1 i.0 j))
      (in_either w.number s.acknowledged (numbers_out (out_of batch s.out)) i.1)
  acked_by s (Purge page) told w sane all legal i = inl i
  acked_by s (Adopt generation config draws) told w sane all legal i = inl i
  acked_by s (Opened rows limit policy) told w sane all legal i = inl (filter_has w _ s.rows i.0, filter_has w.number _ s.acknowledged i.1)

  later : (s : State) (e : Entry) (told : List Entry) (row : Written) → WasDelivered makes (next makes s e) told row → WasDelivered makes s (e ∷ told) row
  later s e told row w = record {
    before = e ∷ w.before;
    batch = w.batch;
    rest = w.rest;
    parts = ap (λ (l : List Entry). e ∷ l) w.parts;
    out = w.out;
    was_out = w.was_out;
    has = w.has;
    verdicts = w.verdicts;
    back = w.back;
    all_told = w.all_told;
  }

  delivered : (s : State) (told : List Entry) → IsSane s → AreDue makes s.out → Legal makes s told → (w : Written) → IsAcked (after makes s told) w
      → IsAcked s w ⊎ WasDelivered makes s told w
  delivered s [] sane all legal w i = inl i
  delivered s (e ∷ told) sane all legal w i =
      ⊎_elim (acked_by s e told w sane all legal.0) (λ (d : WasDelivered makes (next makes s e) told w). inr (later s e told w d))
      (delivered (next makes s e) told (next_sane makes s e legal.0 sane) (next_due makes s e all) legal.1 w i)

  from_start : (told : List Entry) → Legal makes start told → (w : Written) → IsAcked (after makes start told) w → WasDelivered makes start told w
  from_start told legal w i =
      ⊎_elim (λ (never : IsAcked start w). absurd never.0) (λ (d : WasDelivered makes start told w). d) (delivered start told start_sane tt legal w i)

  -- ---- what is settled

  abbrev Ahead : State → Type 0
  Ahead s = s.front < s.low

  -- the row stays, and is settled
  abbrev Stays : Written → State → Type 0
  Stays w s = IsIn w s.rows × (w.number ≤ s.front)

  read_same : (P : State → Type 0) → ((s t : State) → t.rows ≡ s.rows → t.front ≡ s.front → t.low ≡ s.low → P s → P t) → (s : State) (batch : ℕ) (numbers : List ℕ) (plan : Option Plan)
      → P s → P (reads s batch numbers plan)
  read_same P same s batch numbers None is = is
  read_same P same s batch numbers (Some plan) is = same s _ refl refl refl is

  letters_same : (P : State → Type 0) → ((s t : State) → t.rows ≡ s.rows → t.front ≡ s.front → t.low ≡ s.low → P s → P t) → (s : State) (batch : ℕ) (letters : List DeadPart) (left : List Due)
      → P s → P (tells_letters s batch letters left)
  letters_same P same s batch letters [] is = is
  letters_same P same s batch letters (due.Letters ds ∷ rest) is = same s _ refl refl refl is
  letters_same P same s batch letters (due.Events id at es ∷ rest) is = same s _ refl refl refl is

  ahead_same : (s t : State) → t.rows ≡ s.rows → t.front ≡ s.front → t.low ≡ s.low → Ahead s → Ahead t
  ahead_same s t rows front low is = omega (arith, front, low, is)

  stays_same : (w : Written) (s t : State) → t.rows ≡ s.rows → t.front ≡ s.front → t.low ≡ s.low → Stays w s → Stays w t
  stays_same w s t rows front low is = (subst (IsIn w) (sym rows) is.0, omega (arith, front, is.1))

  next_ahead : (s : State) (e : Entry) → Legal_at makes s e → Ahead s → Ahead (next makes s e)
  next_ahead s (Accept input parcel number event) legal is = omega (arith, legal.1, is)
  next_ahead s (Mark front) legal is = omega arith
  next_ahead s (Assure input front) legal is = is
  next_ahead s (Read batch generation numbers) legal is = read_same Ahead ahead_same s batch numbers (newest s.plans) is
  next_ahead s (Back batch verdicts) legal is = is
  next_ahead s (Shed batch older newer) legal is = is
  next_ahead s (Deliver batch at events fates) legal is = is
  next_ahead s (Letters batch letters) legal is = letters_same Ahead ahead_same s batch letters (left_of (out_of batch s.out)) is
  next_ahead s (Ack batch) legal is = is
  next_ahead s (Purge page) legal is = is
  next_ahead s (Adopt generation config draws) legal is = is
  next_ahead s (Opened rows limit policy) legal is = omega arith

  next_stays : (w : Written) (s : State) (e : Entry) → Legal_at makes s e → Ahead s → Stays w s → Stays w (next makes s e)
  next_stays w s (Accept input parcel number event) legal ahead is = (in_front w s.rows _ is.0, is.1)
  next_stays w s (Mark front) legal ahead is = (is.0, omega (arith, legal.1, ahead, is.1))
  next_stays w s (Assure input front) legal ahead is = is
  next_stays w s (Read batch generation numbers) legal ahead is = read_same (Stays w) (stays_same w) s batch numbers (newest s.plans) is
  next_stays w s (Back batch verdicts) legal ahead is = is
  next_stays w s (Shed batch older newer) legal ahead is = is
  next_stays w s (Deliver batch at events fates) legal ahead is = is
  next_stays w s (Letters batch letters) legal ahead is = letters_same (Stays w) (stays_same w) s batch letters (left_of (out_of batch s.out)) is
  next_stays w s (Ack batch) legal ahead is = is
  next_stays w s (Purge page) legal ahead is = is
  next_stays w s (Adopt generation config draws) legal ahead is = is
  next_stays w s (Opened rows limit policy) legal ahead is =
      (filter_keeps w (λ (v : Written). nat_le v.number (top_of s rows)) s.rows is.0 (le-leb w.number (top_of s rows) (omega (arith, is.1))), is.1)

  all_ahead : (s : State) (told : List Entry) → Legal makes s told → Ahead s → Ahead (after makes s told)
  all_ahead s [] legal is = is
  all_ahead s (e ∷ told) legal is = all_ahead (next makes s e) told legal.1 (next_ahead s e legal.0 is)

  all_stay : (w : Written) (s : State) (told : List Entry) → Legal makes s told → Ahead s → Stays w s → Stays w (after makes s told)
  all_stay w s [] legal ahead is = is
  all_stay w s (e ∷ told) legal ahead is = all_stay w (next makes s e) told legal.1 (next_ahead s e legal.0 ahead) (next_stays w s e legal.0 ahead is)

pub prefixes_are_legal : PrefixesAreLegal
prefixes_are_legal makes told more legal = legal_first makes start told more legal

pub acknowledged_were_delivered : AcknowledgedWereDelivered
acknowledged_were_delivered makes told w legal has acked = from_start makes told legal w (has, acked)

-- a row that is settled stays one
pub settled_stays : (makes : Makes) (told more : List Entry) (w : Written) → Legal makes start (told ++ more) → IsIn w (after makes start told).rows → w.number ≤ (after makes start told).front
    → IsIn w (after makes start (told ++ more)).rows × (w.number ≤ (after makes start (told ++ more)).front)
settled_stays makes told more w legal has settled =
    let now = after makes start told in
    let ahead : now.front < now.low = all_ahead makes start told (legal_first makes start told more legal) (omega arith) in
    let stays = all_stay makes w now more (legal_rest makes start told more legal) ahead (has, settled) in
    subst (λ (s : State). IsIn w s.rows × (w.number ≤ s.front)) (sym (after_both makes start told more)) stays

pub settled_stand : SettledStand
settled_stand makes told more w found legal has settled fits =
    let stays = settled_stays makes told more w legal has settled in
    ⊎_elim (λ x. inl x) (λ (i : IsIn w.number (after makes start (told ++ more)).acknowledged). inr (from_start makes _ legal w (stays.0, i)))
    (fits.rows.settled w stays.0 stays.1)

pub assured_stand : AssuredStand
assured_stand makes told rest input front w found legal has settled fits =
    let assures = (legal_rest makes start told (Assure input front ∷ rest) legal).0.1 in
    settled_stand makes told (Assure input front ∷ rest) w found legal has (omega (arith, settled, assures)) fits
