-- The marks of a queue, of which each may be torn.
use Rattle.std.proofs.Common.{◌≡◌, ◌≢◌, ◌⊎◌, inl, inr, ℕ, suc, ◌+◌, ◌<◌, ◌≤◌, Bool, true, false, List, [], ◌∷◌, ◌++◌, length, refl, sym, ◌∙◌, ap, subst, arith, append-nil}
use Rattle.std.proofs.lemmas.Bool.{cond-true, cond-false}
use Rattle.crc_frame.specs.Slots.{place_of, next_turn}
use Rattle.io_traits.specs.Images.{Image, FileImage, TornFile, at_rest}
use Rattle.io_traits.specs.declared.pages.PageState.{PageState}
use Rattle.slot_files.specs.Checkpoints.{slot_spelling}
use Rattle.queue_files.specs.Folders.{Role, head, page, checkpoint, Folder, Names, AreApart}
use Rattle.queue_files.specs.Kept.{Page, first_open_of, state_at, Rising}
use Rattle.queue_files.specs.Resting.{MayRecord, TailsHeld, TailsMark}
use Rattle.queue_files.proofs.Whole.{marking_is_kept}
use Rattle.queue_files.specs.Writes.{Write, write_of, due_of, writes_of, IsBeside, MayChange}
use Rattle.queue_files.specs.Marks.{IsMarkOf, AreMarksOf, NoChances, MarksKeep}
use Rattle.queue_files.specs.declared.marking.Mark.{Mark}

-- a file that no write is of
untouched : (name : List ℕ) (writes : List Write) (d i : Image) → IsBeside name writes → MayChange writes d i → i name ≡ d name
untouched name [] d i apart same = same name
untouched name (w ∷ writes) d i apart change = untouched name writes change.0 i apart.1 change.2 ∙ change.1.there name apart.0

-- a mark that is due, and one that isn't
pub due_is : (m : Mark) → m.due ≡ true → due_of m ≡ write_of m ∷ []
due_is m is = cond-true m.due (write_of m ∷ []) [] is

pub not_due : (m : Mark) → m.due ≡ false → due_of m ≡ []
not_due m is = cond-false m.due (write_of m ∷ []) [] is

beside_due : (name : List ℕ) (m : Mark) (writes : List Write) → name ≢ m.file → IsBeside name writes → IsBeside name (due_of m ++ writes)
beside_due name m writes apart beside = at m.due refl
  where
    at : (b : Bool) → m.due ≡ b → IsBeside name (due_of m ++ writes)
    at true is = subst (λ (ws : List Write). IsBeside name (ws ++ writes)) (sym (due_is m is)) (apart, beside)
    at false is = subst (λ (ws : List Write). IsBeside name (ws ++ writes)) (sym (not_due m is)) beside

abbrev pub number_of : Role → ℕ
number_of head = 0
number_of (page n) = n
number_of (checkpoint n) = n

module _ (names : Names) (apart : AreApart names) (top : Page) (len : ℕ) (folder : Folder) where
  pub differs : (role other : Role) (name : List ℕ) → name ≡ names other → (role ≡ other → ⊥) → names role ≢ name
  differs role other name is apart_from same = apart_from (apart role other (same ∙ is))

  -- of a file that plays none of these parts there is no mark
  abbrev pub IsOther : Role → List Page → Type 0
  IsOther role [] = role ≡ head → ⊥
  IsOther role (p ∷ tails) = (role ≡ checkpoint p.number → ⊥) × IsOther role tails

  pub all_beside : (role : Role) (tails : List Page) (held : TailsHeld tails folder) (marks : List Mark) → IsOther role tails → AreMarksOf names top len tails folder held marks → IsBeside (names role) (writes_of marks)
  all_beside role [] held marks other are =
      let m = are.0 in
      subst (λ (ms : List Mark). IsBeside (names role) (writes_of ms)) (sym are.1) (beside_due (names role) m [] (differs role head m.file are.2.file other) tt)
  all_beside role (p ∷ tails) held marks other are =
      let m = are.0 in
      subst (λ (ms : List Mark). IsBeside (names role) (writes_of ms)) (sym are.2)
      (beside_due (names role) m (writes_of are.1) (differs role (checkpoint p.number) m.file are.3.file other.0) (all_beside role tails held.1 are.1 other.1 are.5))

  pub page_other : (n : ℕ) (tails : List Page) → IsOther (page n) tails
  page_other n [] = λ same. absurd cc
  page_other n (p ∷ tails) = ((λ same. absurd cc), page_other n tails)

  pub later_role : (n number end : ℕ) (tails : List Page) → n < number → Rising number end tails top → IsOther (checkpoint n) tails
  later_role n number end [] less rising = λ same. absurd cc
  later_role n number end (p ∷ tails) less rising =
      ((λ same. let is : n ≡ p.number = ap number_of same in absurd (omega (arith, less, rising.0, is))), later_role n (suc p.number) (p.least + length p.rows) tails (omega (arith, less, rising.0)) rising.4)

  -- from the head on there is no mark of a checkpoint
  pub above_role : (n number end : ℕ) (tails : List Page) → top.number ≤ n → Rising number end tails top → IsOther (checkpoint n) tails
  above_role n number end [] above rising = λ same. absurd cc
  above_role n number end (p ∷ tails) above rising =
      ((λ same. let is : n ≡ p.number = ap number_of same in absurd (omega (arith, above, rising.1, is))), above_role n (suc p.number) (p.least + length p.rows) tails above rising.4)

  -- the slot of a mark, torn
  torn_mark : (role : Role) (p : Page) (bytes : ℕ) (m : Mark) (d e f : FileImage) → IsMarkOf names role p bytes m → d ≡ at_rest (folder role) → TornFile (place_of 48 m.turn) (slot_spelling m.turn m.state) d e → f ≡ e
      → TornFile (place_of 48 (next_turn p.turn)) (slot_spelling (next_turn p.turn) (state_at p (first_open_of p) p.rows bytes)) (at_rest (folder role)) f
  torn_mark role p bytes m d e f is rests torn same =
      subst (λ (g : FileImage). TornFile (place_of 48 (next_turn p.turn)) (slot_spelling (next_turn p.turn) (state_at p (first_open_of p) p.rows bytes)) (at_rest (folder role)) g) (sym same)
      (subst (λ (g : FileImage). TornFile (place_of 48 (next_turn p.turn)) (slot_spelling (next_turn p.turn) (state_at p (first_open_of p) p.rows bytes)) g e) rests
      (subst (λ (s : PageState). TornFile (place_of 48 (next_turn p.turn)) (slot_spelling (next_turn p.turn) s) d e) is.state
      (subst (λ (t : ℕ). TornFile (place_of 48 t) (slot_spelling t m.state) d e) is.turn torn)))

  module _ (i : Image) (chances : NoChances names i) where
    may : (role : Role) (p : Page) (bytes : ℕ) → (i (names role) ≡ at_rest (folder role)) ⊎ TornFile (place_of 48 (next_turn p.turn)) (slot_spelling (next_turn p.turn) (state_at p (first_open_of p) p.rows bytes)) (at_rest (folder role)) (i (names role))
        → MayRecord (folder role) p.turn (state_at p (first_open_of p) p.rows bytes) (i (names role))
    may role p bytes how = record { rests_or_torn = how; no_chance = chances.slots role }

    head_marks : (held : TailsHeld [] folder) (marks : List Mark) (d : Image) → AreMarksOf names top len [] folder held marks → d (names head) ≡ at_rest (folder head) → MayChange (writes_of marks) d i
        → MayRecord (folder head) top.turn (state_at top (first_open_of top) top.rows len) (i (names head))
    head_marks held marks d are rests change =
        let m = are.0 in
        let writes : writes_of marks ≡ write_of m ∷ [] = ap writes_of are.1 ∙ append-nil (due_of m) ∙ due_is m are.3 in
        let c : MayChange (write_of m ∷ []) d i = subst (λ (ws : List Write). MayChange ws d i) writes change in
        let here : TornFile (place_of 48 m.turn) (slot_spelling m.turn m.state) (d (names head)) (c.0 (names head)) = subst (λ (n : List ℕ). TornFile (place_of 48 m.turn) (slot_spelling m.turn m.state) (d n) (c.0 n)) are.2.file c.1.here in
        may head top len (inr (torn_mark head top len m (d (names head)) (c.0 (names head)) (i (names head)) are.2 rests here (c.2 (names head))))

    -- the roles of marks that are still to come
    abbrev Pending : ℕ → Image → Type 0
    Pending number d = (d (names head) ≡ at_rest (folder head)) × ((n : ℕ) → number ≤ n → d (names (checkpoint n)) ≡ at_rest (folder (checkpoint n)))

    record All (tails : List Page) (held : TailsHeld tails folder) : Type 0 where
      each : TailsMark tails names folder held i
      last : MayRecord (folder head) top.turn (state_at top (first_open_of top) top.rows len) (i (names head))

    -- the first mark, and those behind it
    one_marks : (number end : ℕ) (p : Page) (tails : List Page) (held : TailsHeld (p ∷ tails) folder) (marks : List Mark) (d : Image) → Rising number end (p ∷ tails) top
        → (are : AreMarksOf names top len (p ∷ tails) folder held marks) → Pending number d → MayChange (writes_of marks) d i
        → ((e : Image) → Pending (suc p.number) e → MayChange (writes_of are.1) e i → All tails held.1) → All (p ∷ tails) held
    one_marks number end p tails held marks d rising are pending change again = at are.0.due refl
      where
        whole : MayChange (due_of are.0 ++ writes_of are.1) d i
        whole = subst (λ (ms : List Mark). MayChange (writes_of ms) d i) are.2 change

        beside : IsBeside (names (checkpoint p.number)) (writes_of are.1)
        beside = all_beside (checkpoint p.number) tails held.1 are.1 (later_role p.number (suc p.number) (p.least + length p.rows) tails (omega arith) rising.4) are.5

        at : (b : Bool) → are.0.due ≡ b → All (p ∷ tails) held
        at false none =
            let c : MayChange (writes_of are.1) d i = subst (λ (ws : List Write). MayChange (ws ++ writes_of are.1) d i) (not_due are.0 none) whole in
            let more = again d (pending.0, λ n from. pending.1 n (omega (arith, from, rising.0))) c in
            record {
              each = (may (checkpoint p.number) p (length held.0.bytes) (inl (untouched (names (checkpoint p.number)) (writes_of are.1) d i beside c ∙ pending.1 p.number rising.0)), more.each);
              last = more.last;
            }
        at true due =
            let c : MayChange (write_of are.0 ∷ writes_of are.1) d i = subst (λ (ws : List Write). MayChange (ws ++ writes_of are.1) d i) (due_is are.0 due) whole in
            let e = c.0 in
            let still : (role : Role) → (role ≡ checkpoint p.number → ⊥) → e (names role) ≡ d (names role) = λ role other. c.1.there (names role) (differs role (checkpoint p.number) are.0.file are.3.file other) in
            let more = again e
            (still head (λ same. absurd cc) ∙ pending.0, λ n from. still (checkpoint n) (λ same. absurd (omega (arith, from, ap number_of same))) ∙ pending.1 n (omega (arith, from, rising.0))) c.2 in
            let here : TornFile (place_of 48 are.0.turn) (slot_spelling are.0.turn are.0.state) (d (names (checkpoint p.number))) (e (names (checkpoint p.number))) =
            subst (λ (n : List ℕ). TornFile (place_of 48 are.0.turn) (slot_spelling are.0.turn are.0.state) (d n) (e n)) are.3.file c.1.here in
            record {
              each = (
                may (checkpoint p.number) p (length held.0.bytes) (inr (torn_mark (checkpoint p.number) p (length held.0.bytes) are.0 (d (names (checkpoint p.number))) (e (names (checkpoint p.number))) (i (names (checkpoint p.number))) are.3
                    (pending.1 p.number rising.0) here (untouched (names (checkpoint p.number)) (writes_of are.1) e i beside c.2))),
                more.each,
              );
              last = more.last;
            }

    all_mark : (number end : ℕ) (tails : List Page) (held : TailsHeld tails folder) (marks : List Mark) (d : Image) → Rising number end tails top → AreMarksOf names top len tails folder held marks
        → Pending number d → MayChange (writes_of marks) d i → All tails held
    all_mark number end [] held marks d rising are pending change = record { each = tt; last = head_marks held marks d are pending.0 change }
    all_mark number end (p ∷ tails) held marks d rising are pending change =
        one_marks number end p tails held marks d rising are pending change
        (λ e pending change. all_mark (suc p.number) (p.least + length p.rows) tails held.1 are.1 e rising.4 are.5 pending change)

pub marks_keep : MarksKeep
marks_keep names q folder marks d i apart is held are rests change chances =
    let len = length (held.top.front ++ held.top.tail) in
    let all = all_mark names apart q.top len folder i chances 0 0 q.tails held.tails marks d is are (rests head, λ n from. rests (checkpoint n)) change in
    marking_is_kept q names folder i is held (record {
      tails = all.each;
      head = all.last;
      pages = λ n within. untouched (names (page n)) (writes_of marks) d i (all_beside names apart q.top len folder (page n) q.tails held.tails marks (page_other names apart q.top len folder n q.tails) are) change ∙ rests (page n);
    })
