-- Marks cover what came before them, behind each step.
use Rattle.std.proofs.Common.{◌≡◌, inl, inr, ⊎_elim, ℕ, ◌≤◌, ◌==◌, suc, Bool, true, false, List, [], ◌∷◌, ◌++◌, length, map, Option, Some, None, if◌then◌else◌, refl, sym, ap, ◌∙◌, subst, arith}
use Rattle.std.specs.Prelude.{nat_lt}
use Rattle.std.proofs.lemmas.List.{length-append}
use Rattle.event_tree.specs.Events.{Ev}
use Rattle.pipeline_bus.specs.declared.parcel.Parcel.{Parcel}
use Rattle.foreign_parts.specs.declared.place.Place.TheVariants as place
use Rattle.event_flow.specs.Meaning.{Makes}
use Rattle.queue_page.specs.declared.row.PageRow.{PageRow}
use Rattle.queue_files.specs.Kept.{Queue}
use Rattle.queue_files.specs.Steps.{marked, rolled, with_row}
use Rattle.history_book.specs.Contents.{Bytes}
use Rattle.history_book.specs.Entries.{Entry, Accept, Deliver, Adopt}
use Rattle.history_book.specs.Inputs.{Input}
use Rattle.history_book.specs.Legal.{rejections}
use Rattle.history_book.specs.Steps.{NoOpening}
use Rattle.history_book.specs.Links.{Listening}
use Rattle.history_book.specs.Lists.{IsIn}
use Rattle.history_book.specs.Queues.{next_in}
use Rattle.history_book.specs.Sound.{Places}
use Rattle.history_book.proofs.Lists.{in_either, filter_has}
use Rattle.line_machine.specs.Covering.{IsCovered, MarksCover, number_accepted, RowsAreCovered, OpenedMarksCover, MarksCoverStill, OpenedRowsAreCovered, RowsAreCoveredStill}
use Rattle.line_machine.specs.Effects.{accepted_now, ended_now, assured_now, held_now, begun, view_of, carried}
use Rattle.line_machine.specs.Ends.{Waiting, TakerView, Taken, Takes, took, waits_for, with_row_of, row_made, change_taker, change_waiting, without_taker, assured, refused}
use Rattle.line_machine.specs.Finds.{ends_served, IsRowFor, IsEndBehind, AreEndsBehind, AreNew}
use Rattle.line_machine.specs.Since.{since, of_each}
use Rattle.line_machine.specs.Steps as m
use Rattle.line_machine.specs.Steps.{Step, effect, GoesOn}
use Rattle.line_machine.specs.Views.{RowAt, InputView, LineView, input_at, change_input}
use Rattle.line_machine.proofs.Since.{unopened, told_more, told_none, opened_each, letters_each, rejected_each}
use Rattle.line_machine.proofs.Takers.{taker_in}

differs : true ≡ false → ⊥
differs e = cc

-- ---- the number of the next row

pub next_with : (row : PageRow) (q : Queue) → next_in (with_row row q) ≡ suc (next_in q)
next_with row q = let more = length-append q.top.rows (row ∷ []) in omega (arith, more)

next_rolled : (q : Queue) → next_in (rolled (marked q)) ≡ next_in q
next_rolled q = omega arith

module _ (listening : Listening) {places : Places} (i : LineView places) (v : InputView) where
  pub next_before : (event : Ev) (r : IsRowFor listening i v event) → next_in r.before ≡ next_in i.holds.queue
  next_before event r = ⊎_elim (λ e. ap next_in e) (λ e. ap next_in e.new_is ∙ next_rolled i.holds.queue) r.room

-- ---- inputs and ends that are changed

module _ (Has : ℕ → Type 0) where
  abbrev RowsHave : InputView → Type 0
  RowsHave v = (r : RowAt) → IsIn r v.rows → Has r.number

  abbrev WaitsHave : TakerView → Type 0
  WaitsHave t = (w : Waiting) → IsIn w t.waits → (n : ℕ) → IsIn n w.rows → Has n

  abbrev AllRowsHave : List InputView → Type 0
  AllRowsHave vs = (v : InputView) → IsIn v vs → RowsHave v

  abbrev AllWaitsHave : List TakerView → Type 0
  AllWaitsHave ts = (t : TakerView) → IsIn t ts → WaitsHave t

  input_changed : (f : InputView → InputView) → ((v : InputView) → RowsHave v → RowsHave (f v)) → (n : ℕ) (vs : List InputView) → AllRowsHave vs → AllRowsHave (change_input f n vs)
  input_changed f keeps n [] have v has = absurd has
  input_changed f keeps n (u ∷ vs) have v has = by_test (n == u.number) (input_changed f keeps n vs (λ x j. have x (inr j)) v) has
    where
      by_test : (b : Bool) → (IsIn v (change_input f n vs) → RowsHave v) → IsIn v (if b then f u ∷ vs else u ∷ change_input f n vs) → RowsHave v
      by_test true rest (inl e) = subst RowsHave (sym e) (keeps u (have u (inl refl)))
      by_test true rest (inr i) = have v (inr i)
      by_test false rest (inl e) = have v (inl e)
      by_test false rest (inr i) = rest i

  taker_changed : (f : TakerView → TakerView) → ((t : TakerView) → WaitsHave t → WaitsHave (f t)) → (place : ℕ) (ts : List TakerView) → AllWaitsHave ts → AllWaitsHave (change_taker f place ts)
  taker_changed f keeps place [] have t has = absurd has
  taker_changed f keeps place (u ∷ ts) have t has = by_test (place == u.place) (taker_changed f keeps place ts (λ x j. have x (inr j)) t) has
    where
      by_test : (b : Bool) → (IsIn t (change_taker f place ts) → WaitsHave t) → IsIn t (if b then f u ∷ ts else u ∷ change_taker f place ts) → WaitsHave t
      by_test true rest (inl e) = subst WaitsHave (sym e) (keeps u (have u (inl refl)))
      by_test true rest (inr i) = have t (inr i)
      by_test false rest (inl e) = have t (inl e)
      by_test false rest (inr i) = rest i

  -- a parcel that is taken has no rows yet
  took_has : (p : Parcel) (t : TakerView) → WaitsHave t → WaitsHave (took p t)
  took_has p t have w has n i = ⊎_elim (λ (j : IsIn w t.waits). have w j n i) (λ (j : IsIn w (waits_for p)). none_new (length p.events == 0) j) (in_either w t.waits (waits_for p) has)
    where
      none_new : (b : Bool) → IsIn w (if b then [] else record { number = p.number; events = p.events; rows = [] } ∷ []) → Has n
      none_new true j = absurd j
      none_new false (inl e) = absurd (subst (λ (x : Waiting). IsIn n x.rows) e i)
      none_new false (inr never) = absurd never

  takes_have : (only : Option (List ℕ)) (input : ℕ) (xs : List Taken) (old new : List TakerView) → Takes only input xs old new → AllWaitsHave old → AllWaitsHave new
  takes_have only input [] old new same have = subst AllWaitsHave (sym same) have
  takes_have only input (x ∷ xs) old new takes have = takes_have only input xs (change_taker (took x.parcel) x.place old) new takes.1 (taker_changed (took x.parcel) (took_has x.parcel) x.place old have)

  -- a row is made of a parcel that waits
  row_made_has : (number row : ℕ) → Has row → (t : TakerView) → WaitsHave t → WaitsHave (row_made number row t)
  row_made_has number row its t have = each t.waits have
    where
      each : (ws : List Waiting) → ((w : Waiting) → IsIn w ws → (n : ℕ) → IsIn n w.rows → Has n) → (w : Waiting) → IsIn w (change_waiting (with_row_of row) number ws) → (n : ℕ) → IsIn n w.rows → Has n
      each [] all w has n i = absurd has
      each (x ∷ ws) all w has n i = by_test (number == x.number) (λ j. each ws (λ y k. all y (inr k)) w j n i) has
        where
          with_it : w ≡ with_row_of row x → Has n
          with_it e = ⊎_elim (λ (j : IsIn n x.rows). all x (inl refl) n j) (λ (j : IsIn n (row ∷ [])). ⊎_elim (λ (s : n ≡ row). subst Has (sym s) its) (λ (never : ⊥). absurd never) j)
              (in_either n x.rows (row ∷ []) (subst (λ (y : Waiting). IsIn n y.rows) e i))

          by_test : (b : Bool) → (IsIn w (change_waiting (with_row_of row) number ws) → Has n) → IsIn w (if b then with_row_of row x ∷ ws else x ∷ change_waiting (with_row_of row) number ws) → Has n
          by_test true rest (inl e) = with_it e
          by_test true rest (inr j) = all w (inr j) n i
          by_test false rest (inl e) = all w (inl e) n i
          by_test false rest (inr j) = rest j

  -- an adoption
  carried_has : (before : List InputView) → AllRowsHave before → (xs : List Input) → AllRowsHave (map (carried before) xs)
  carried_has before have [] v has = absurd has
  carried_has before have (x ∷ xs) v (inl e) = subst RowsHave (sym e) (view_has (input_at x.number before) (found before have))
    where
      found : (vs : List InputView) → AllRowsHave vs → (u : InputView) → input_at x.number vs ≡ Some u → RowsHave u
      found [] all u is = absurd (cc)
      found (y ∷ vs) all u is = by_test (x.number == y.number) (found vs (λ z j. all z (inr j)) u) is
        where
          of_first : Some y ≡ Some u → y ≡ u
          of_first e = cc

          by_test : (b : Bool) → (input_at x.number vs ≡ Some u → RowsHave u) → (if b then Some y else input_at x.number vs) ≡ Some u → RowsHave u
          by_test true rest is = subst RowsHave (of_first is) (all y (inl refl))
          by_test false rest is = rest is

      view_has : (u : Option InputView) → ((w : InputView) → u ≡ Some w → RowsHave w) → RowsHave (view_of x u)
      view_has None all r i = absurd i
      view_has (Some w) all r i = by_open x.is_open i
        where
          by_open : (b : Bool) → IsIn r (if b then w.rows else []) → Has r.number
          by_open true j = all w refl r j
          by_open false j = absurd j
  carried_has before have (x ∷ xs) v (inr i) = carried_has before have xs v i

  end_behind : (inputs : List Input) (t u : TakerView) → IsEndBehind inputs t u → WaitsHave t → WaitsHave u
  end_behind inputs t u (inl open_now) have = subst WaitsHave (sym open_now.1) have
  end_behind inputs t u (inr (inl closed)) have = subst WaitsHave (sym closed.2) have
  end_behind inputs t u (inr (inr closed)) have = subst WaitsHave (sym closed.4) have

  ends_behind : (inputs : List Input) (old new : List TakerView) → AreEndsBehind inputs old new → AllWaitsHave old → AllWaitsHave new
  ends_behind inputs [] new same have t has = absurd (subst (IsIn t) same has)
  ends_behind inputs (x ∷ old) new same have t has = of_parts (ends_behind inputs old same.1 same.4 (λ u j. have u (inr j)) t) (subst (IsIn t) same.2 has)
    where
      of_parts : (IsIn t same.1 → WaitsHave t) → IsIn t (same.0 ∷ same.1) → WaitsHave t
      of_parts rest (inl e) = subst WaitsHave (sym e) (end_behind inputs x same.0 same.3 (have x (inl refl)))
      of_parts rest (inr i) = rest i

  with_new : (old new : List TakerView) (from to : ℕ) (now : List TakerView) → AreNew old new from to → AllWaitsHave now → AllWaitsHave (now ++ new)
  with_new old new from to now are have t has = ⊎_elim (λ (j : IsIn t now). have t j) (λ (j : IsIn t new). λ w i. absurd (subst (IsIn w) (are.unused t j).2 i)) (in_either t now new has)

  without_has : (place : ℕ) (ts : List TakerView) → AllWaitsHave ts → AllWaitsHave (without_taker place ts)
  without_has place [] have t has = absurd has
  without_has place (u ∷ ts) have t has = by_test (place == u.place) (without_has place ts (λ x j. have x (inr j)) t) has
    where
      by_test : (b : Bool) → (IsIn t (without_taker place ts) → WaitsHave t) → IsIn t (if b then ts else u ∷ without_taker place ts) → WaitsHave t
      by_test true rest i = have t (inr i)
      by_test false rest (inl e) = have t (inl e)
      by_test false rest (inr i) = rest i

-- ---- the steps

module _ (makes : Makes) (listening : Listening) (bytes : Bytes) (places : Places) (i : LineView places) where
  -- what came since the last mark is the same
  same_cover : (now : LineView places) → next_in now.holds.queue ≡ next_in i.holds.queue → now.uncovered ≡ i.uncovered → now.mark ≡ i.mark → (n : ℕ) → IsCovered i n → IsCovered now n
  same_cover now same uncovered mark n covered =
      (let less = covered.0 in omega (arith, less, same), λ none. let c = covered.1 (sym uncovered ∙ none) in (c.0, mark ∙ c.1, c.2))

  -- something did
  no_cover : (now : LineView places) → next_in i.holds.queue ≤ next_in now.holds.queue → now.uncovered ≡ true → (n : ℕ) → IsCovered i n → IsCovered now n
  no_cover now more uncovered n covered = (let less = covered.0 in omega (arith, less, more), λ none. absurd (differs (sym uncovered ∙ none)))

  -- ---- rows that were accepted

  covered_still : (x : Step makes listening bytes i) → GoesOn makes listening bytes i x → (n : ℕ) → IsCovered i n → IsCovered (effect makes listening bytes i x).line n
  covered_still (m.Accepts k c r false) on n covered =
      let next = next_with r.row r.before in let before = next_before listening i c.by.input c.first.event r in no_cover (effect makes listening bytes i (m.Accepts k c r false)).line (omega (arith, next, before)) refl n covered
  covered_still (m.Accepts k c r true) on n covered = absurd on
  covered_still (m.Accepts_parcel k a r false) on n covered =
      let next = next_with r.row r.before in let before = next_before listening i a.by.input a.event r in no_cover (effect makes listening bytes i (m.Accepts_parcel k a r false)).line (omega (arith, next, before)) refl n covered
  covered_still (m.Accepts_parcel k a r true) on n covered = absurd on
  covered_still (m.Acknowledges_it k h queue a) on n covered = let count = a.more.count in let least = a.more.least in no_cover (effect makes listening bytes i (m.Acknowledges_it k h queue a)).line (omega (arith, count, least)) refl n covered
  covered_still (m.Marks front last is_queue) on n covered = let less = covered.0 in (omega (arith, less), λ none. (front, refl, omega (arith, less, last)))
  covered_still x on n covered = same_cover (effect makes listening bytes i x).line refl refl refl n covered

module _ (makes : Makes) (listening : Listening) (bytes : Bytes) (places : Places) (i : LineView places) (is : MarksCover i) where
  -- inputs and ends alone are others
  with_parts : (now : LineView places) → next_in now.holds.queue ≡ next_in i.holds.queue → now.uncovered ≡ i.uncovered → now.mark ≡ i.mark → now.written ≡ i.written → now.acknowledged ≡ i.acknowledged
      → AllRowsHave (IsCovered i) now.inputs → AllWaitsHave (IsCovered i) now.takers → MarksCover now
  with_parts now same uncovered mark written acknowledged inputs takers =
      let covers = same_cover makes listening bytes places i now same uncovered mark in
      record {
        counted = λ none. let c = is.counted (sym uncovered ∙ none) in (written ∙ c.0, acknowledged ∙ c.1);
        inputs = λ v has r j. covers r.number (inputs v has r j);
        takers = λ t has w j n k. covers n (takers t has w j n k);
      }

  with_held : (n : ℕ) (f : InputView → InputView) → ((v : InputView) → (f v).rows ≡ v.rows) → AllRowsHave (IsCovered i) (change_input f n i.inputs)
  with_held n f keeps = input_changed (IsCovered i) f (λ v have r j. have r (subst (IsIn r) (keeps v) j)) n i.inputs is.inputs

  pub cover_still : (x : Step makes listening bytes i) → GoesOn makes listening bytes i x → MarksCover (effect makes listening bytes i x).line
  cover_still (m.Accepts n c r false) on =
      let next = next_with r.row r.before in let before = next_before listening i c.by.input c.first.event r in let number = r.number in
      let now = (effect makes listening bytes i (m.Accepts n c r false)).line in
      let covers = no_cover makes listening bytes places i now (omega (arith, next, before)) refl in
      let new : RowAt = record { number = r.row.number; at = c.first.at } in
      record {
        counted = λ none. absurd (differs none);
        inputs = input_changed (IsCovered now) (accepted_now c.rest new)
            (λ v have x has. ⊎_elim (λ (j : IsIn x v.rows). have x j)
            (λ (j : IsIn x (new ∷ [])).
            ⊎_elim (λ (e : x ≡ new). (let same = ap (λ (y : RowAt). y.number) e in omega (arith, same, number, next), λ none. absurd (differs none))) (λ (never : ⊥). absurd never) j)
            (in_either x v.rows (new ∷ []) has)) n i.inputs (λ v has x j. covers x.number (is.inputs v has x j));
        takers = λ t has w j k l. covers k (is.takers t has w j k l);
      }
  cover_still (m.Accepts n c r true) on = absurd on
  cover_still (m.Accepts_parcel n a r false) on =
      let next = next_with r.row r.before in let before = next_before listening i a.by.input a.event r in let number = r.number in
      let now = (effect makes listening bytes i (m.Accepts_parcel n a r false)).line in
      let covers = no_cover makes listening bytes places i now (omega (arith, next, before)) refl in
      record {
        counted = λ none. absurd (differs none);
        inputs = λ v has x j. covers x.number (is.inputs v has x j);
        takers = taker_changed (IsCovered now) (row_made a.at.number r.row.number)
            (row_made_has (IsCovered now) a.at.number r.row.number (omega (arith, number, next), λ none. absurd (differs none))) a.at.place a.takers
            (takes_have (IsCovered now) (ends_served i) n a.taken i.takers a.takers a.takes (λ t has w j k l. covers k (is.takers t has w j k l)));
      }
  cover_still (m.Accepts_parcel n a r true) on = absurd on
  cover_still (m.Takes_alone n h address listens taken takers takes) on =
      with_parts _ refl refl refl refl refl is.inputs (takes_have (IsCovered i) (ends_served i) n taken i.takers takers takes is.takers)
  cover_still (m.Is_at_its_end n h opens lines none) on = with_parts _ refl refl refl refl refl (with_held n ended_now (λ v. refl)) is.takers
  cover_still (m.Holds_more n h reads came answer none) on = with_parts _ refl refl refl refl refl (with_held n (held_now (h.input.held ++ came)) (λ v. refl)) is.takers
  cover_still (m.Fails_to_deliver n left h f why printed out given took) on = absurd on
  cover_still (m.Acknowledges_it n h queue a) on =
      let count = a.more.count in let least = a.more.least in
      let covers = no_cover makes listening bytes places i (effect makes listening bytes i (m.Acknowledges_it n h queue a)).line (omega (arith, count, least)) refl in
      record {
        counted = λ none. absurd (differs none);
        inputs = λ v has r j. covers r.number (is.inputs v has r j);
        takers = λ t has w j k l. covers k (is.takers t has w j k l);
      }
  cover_still (m.Marks front last is_queue) on = record {
    counted = λ none. (refl, refl);
    inputs = λ v has r j. let less = (is.inputs v has r j).0 in (omega (arith, less), λ none. (front, refl, omega (arith, less, last)));
    takers = λ t has w j n k. let less = (is.takers t has w j n k).0 in (omega (arith, less), λ none. (front, refl, omega (arith, less, last)));
  }
  cover_still (m.Assures n front h marks) on =
      with_parts _ refl refl refl refl refl
      (input_changed (IsCovered i) (assured_now front) (λ v have r j. have r (filter_has r (λ (x : RowAt). nat_lt front x.number) v.rows j)) n i.inputs is.inputs) is.takers
  cover_still (m.Fails_to_assure n front h marks) on = absurd on
  cover_still (m.Answers place t has may) on =
      let its = is.takers t (taker_in place t i.takers has).0 in
      with_parts _ refl refl refl refl refl is.inputs
      (taker_changed (IsCovered i) (assured may.oldest.number may.rest) (λ u have w j n k. its w (subst (IsIn w) (sym may.waits) (inr j)) n k) place i.takers is.takers)
  cover_still (m.Refuses place t has may) on =
      with_parts _ refl refl refl refl refl is.inputs (taker_changed (IsCovered i) (refused may.rest) (λ u have. have) place i.takers is.takers)
  cover_still (m.Adopts c) on =
      with_parts _ refl refl refl refl refl (carried_has (IsCovered i) i.inputs is.inputs c.inputs)
      (with_new (IsCovered i) c.takers c.new_takers i.next_place c.next_place c.takers c.new (ends_behind (IsCovered i) c.inputs i.takers c.takers c.goes_on is.takers))
  cover_still (m.Connects takers next_place new listen senders unused) on =
      with_parts _ refl refl refl refl refl is.inputs (with_new (IsCovered i) i.takers takers i.next_place next_place i.takers new is.takers)
  cover_still (m.Releases place t has free) on = with_parts _ refl refl refl refl refl is.inputs (without_has (IsCovered i) place i.takers is.takers)
  cover_still (m.Only_fails x fails) on = absurd on
  cover_still x on = with_parts _ refl refl refl refl refl is.inputs is.takers

module _ (makes : Makes) (listening : Listening) (bytes : Bytes) (places : Places) (told : List Entry) (i : LineView places) (is : RowsAreCovered told i) where
  with_no_more : (now : LineView places) (more : List Entry) → NoOpening more → of_each number_accepted more ≡ [] → ((n : ℕ) → IsCovered i n → IsCovered now n) → RowsAreCovered (told ++ more) now
  with_no_more now more none nothing still n has = still n (is n (subst (IsIn n) (told_none number_accepted told more none nothing) has))

  with_row_more : (now : LineView places) (e : Entry) (row : ℕ) → NoOpening (e ∷ []) → of_each number_accepted (e ∷ []) ≡ row ∷ [] → IsCovered now row → ((n : ℕ) → IsCovered i n → IsCovered now n)
      → RowsAreCovered (told ++ e ∷ []) now
  with_row_more now e row none one its still n has =
      ⊎_elim (λ (j : IsIn n (of_each number_accepted (since told))). still n (is n j)) (λ (j : IsIn n (row ∷ [])). ⊎_elim (λ (s : n ≡ row). subst (IsCovered now) (sym s) its) (λ (never : ⊥). absurd never) j)
      (in_either n (of_each number_accepted (since told)) (row ∷ [])
      (subst (IsIn n) (told_more number_accepted told (e ∷ []) none ∙ ap (λ l. of_each number_accepted (since told) ++ l) one) has))

  rows_still : (covers : (x : Step makes listening bytes i) → GoesOn makes listening bytes i x → (n : ℕ) → IsCovered i n → IsCovered (effect makes listening bytes i x).line n) (x : Step makes listening bytes i)
      → GoesOn makes listening bytes i x → RowsAreCovered (told ++ (effect makes listening bytes i x).told) (effect makes listening bytes i x).line
  rows_still covers (m.Accepts n c r false) on =
      let next = next_with r.row r.before in let number = r.number in
      with_row_more (effect makes listening bytes i (m.Accepts n c r false)).line (Accept n None r.row.number r.row.event) r.row.number tt refl (omega (arith, number, next), λ none. absurd (differs none)) (covers (m.Accepts n c r false) on)
  rows_still covers (m.Accepts n c r true) on = absurd on
  rows_still covers (m.Accepts_parcel n a r false) on =
      let next = next_with r.row r.before in let number = r.number in
      with_row_more (effect makes listening bytes i (m.Accepts_parcel n a r false)).line (Accept n (Some a.at) r.row.number r.row.event) r.row.number tt refl (omega (arith, number, next), λ none. absurd (differs none))
      (covers (m.Accepts_parcel n a r false) on)
  rows_still covers (m.Accepts_parcel n a r true) on = absurd on
  rows_still covers (m.Tells n parts rest h a) on =
      with_no_more (effect makes listening bytes i (m.Tells n parts rest h a)).line _ (unopened makes listening bytes i (m.Tells n parts rest h a)) (letters_each number_accepted (λ b o w. refl) (λ b l. refl) n a.shed parts) (covers (m.Tells n parts rest h a) on)
  rows_still covers (m.Is_rejected n id number events rest h fates fit some a) on =
      with_no_more (effect makes listening bytes i (m.Is_rejected n id number events rest h fates fit some a)).line _ (unopened makes listening bytes i (m.Is_rejected n id number events rest h fates fit some a))
      (rejected_each number_accepted (λ b o w. refl) (λ b l. refl) n a.shed (rejections h.batch.plan.config id fates events) (Deliver n (place.Foreign number) events fates))
      (covers (m.Is_rejected n id number events rest h fates fit some a) on)
  rows_still covers x on = with_no_more (effect makes listening bytes i x).line (effect makes listening bytes i x).told (unopened makes listening bytes i x) refl (covers x on)

pub rows_are_covered_still : (makes : Makes) (listening : Listening) (bytes : Bytes) (places : Places) → RowsAreCoveredStill makes listening bytes places
rows_are_covered_still makes listening bytes places told i x is on = rows_still makes listening bytes places told i is (covered_still makes listening bytes places i) x on

pub opened_rows_are_covered : (makes : Makes) (listening : Listening) (bytes : Bytes) (places : Places) → OpenedRowsAreCovered makes listening bytes places
opened_rows_are_covered makes listening bytes places told image sound i is n has =
    absurd (subst (IsIn n) (opened_each number_accepted told sound.rows.rows i.limits.limit i.limits.policy (Adopt i.plan.generation i.plan.config i.plan.draws ∷ []) tt) has)

pub marks_cover_still : (makes : Makes) (listening : Listening) (bytes : Bytes) (places : Places) → MarksCoverStill makes listening bytes places
marks_cover_still makes listening bytes places i x is on = cover_still makes listening bytes places i is x on

pub opened_marks_cover : (makes : Makes) (listening : Listening) (bytes : Bytes) (places : Places) → OpenedMarksCover makes listening bytes places
opened_marks_cover makes listening bytes places told image sound i is = record {
  counted = λ none. (is.none_written, is.none_acknowledged);
  inputs = λ v has r j. absurd (no_rows is.inputs v (subst (IsIn v) is.begun_all has) r j);
  takers = λ t has w j. absurd (subst (IsIn w) (is.takers.unused t has).2 j);
}
  where
    no_rows : (xs : List Input) (v : InputView) → IsIn v (map begun xs) → (r : RowAt) → IsIn r v.rows → ⊥
    no_rows [] v has r j = has
    no_rows (x ∷ xs) v (inl e) r j = subst (λ (y : InputView). IsIn r y.rows) e j
    no_rows (x ∷ xs) v (inr k) r j = no_rows xs v k r j
