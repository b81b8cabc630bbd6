-- Positions that a line records are paid for by rows of their own files.
use Rattle.std.proofs.Common.{◌≡◌, ◌⊎◌, inl, inr, ⊎_elim, ℕ, zero, suc, ◌≤◌, ◌<◌, ◌==◌, Bool, true, false, List, [], ◌∷◌, ◌++◌, length, map, take, drop, Option, Some, None, if◌then◌else◌, refl, sym, ap, ap₂, ◌∙◌, subst, arith, append-nil, append_assoc}
use Rattle.std.specs.Prelude.{flat_map}
use Rattle.std.proofs.lemmas.Bool.{eqb-true}
use Rattle.std.proofs.lemmas.Grind.{flat_map-append}
use Rattle.std.proofs.lemmas.List.{length-append}
use Rattle.event_tree.specs.Events.{Ev}
use Rattle.event_tree.specs.declared.lists.DeadPart.{DeadPart}
use Rattle.config_tree.specs.declared.tree.Plugin.{Plugin}
use Rattle.io_traits.specs.Folders.{Content}
use Rattle.io_traits.specs.Images.{Image}
use Rattle.io_traits.specs.Reads.{bytes_of}
use Rattle.event_flow.specs.Meaning.{Makes, Due}
use Rattle.event_flow.specs.Meaning as due
use Rattle.in_lines.specs.Polls.{Poll}
use Rattle.slot_files.specs.Positions.{recorded_in}
use Rattle.history_book.specs.Contents.{Bytes}
use Rattle.history_book.specs.Deeds.{Deed, told_of}
use Rattle.history_book.specs.Entries.{Entry, Accept, Mark, Assure, Read, Back, Shed, Deliver, Letters, Ack, Purge, Adopt, Opened}
use Rattle.history_book.specs.Inputs.{Input, AreInputs, named_from}
use Rattle.history_book.specs.Legal.{MayCome, Legal_at, Legal}
use Rattle.history_book.specs.Links.{Listening, IsSettledRow}
use Rattle.history_book.specs.Lists.{IsIn, Rise, IsNone, Differ}
use Rattle.history_book.specs.Sound.{Places}
use Rattle.history_book.specs.Sources.{Sources}
use Rattle.history_book.specs.States.{Plan, Written, State, start, newest, reads, left_of, out_of, tells_letters, written, next, after}
use Rattle.history_book.specs.Steps.{NoOpening}
use Rattle.history_book.specs.Watched.{WatchedFile, Reading, IsPosition, look_at, CameBy, IsRead, PositionSound}
use Rattle.history_book.proofs.Histories.{after_both, legal_first, legal_rest, settled_stays}
use Rattle.history_book.proofs.InputLists.{inputs_one}
use Rattle.history_book.proofs.Lists.{in_front, in_behind, in_either}
use Rattle.history_book.proofs.Numbers.{IsSane, start_sane, all_sane}
use Rattle.history_book.proofs.Steps.{rest_unopened}
use Rattle.line_machine.specs.Coming.{RowIn, row_accepted, rows_by, AreRowsFor, IsSettledUpTo}
use Rattle.line_machine.specs.Effects.{is_of_file}
use Rattle.line_machine.specs.Lines.{LineStands}
use Rattle.line_machine.specs.Positions.{lines_of, IsReadUpTo, BeganAt, RecordedPositionsStand}
use Rattle.line_machine.specs.Since.{of_each}
use Rattle.line_machine.specs.Views as views
use Rattle.line_machine.specs.Views.{FileAt, Incoming, InputView, LineView, input_of}
use Rattle.line_machine.proofs.Coming.{recorded_are_settled}
use Rattle.line_machine.proofs.Inputs.{same_input, renumbered_keeps, inputs_apart, view_in}
use Rattle.line_machine.proofs.Since.{told_more}

-- ---- lists

split_at : {X : Type 0} (x : X) (xs : List X) → IsIn x xs → (before : List X) × (behind : List X) × (xs ≡ before ++ x ∷ behind)
split_at x [] has = absurd has
split_at x (y ∷ xs) (inl e) = ([], xs, ap (λ z. z ∷ xs) (sym e))
split_at x (y ∷ xs) (inr j) = let rest = split_at x xs j in (y ∷ rest.0, rest.1, ap (λ l. y ∷ l) rest.2)

from_each : {X : Type 0} (f : Entry → List X) (x : X) (es : List Entry) → IsIn x (of_each f es) → (e : Entry) × IsIn e es × IsIn x (f e)
from_each f x [] has = absurd has
from_each f x (e ∷ es) has =
    ⊎_elim (λ (here : IsIn x (f e)). (e, inl refl, here)) (λ (later : IsIn x (of_each f es)). let rest = from_each f x es later in (rest.0, inr rest.1, rest.2)) (in_either x (f e) (of_each f es) has)

map_all : {X Y : Type 0} (f : X → Y) (xs ys : List X) → map f (xs ++ ys) ≡ map f xs ++ map f ys
map_all f [] ys = refl
map_all f (x ∷ xs) ys = ap (λ l. f x ∷ l) (map_all f xs ys)

-- a part of a list up to one place, and the next up to a further one
pieces : (base from behind : ℕ) (c : List ℕ) → base ≤ from → from ≤ behind → behind ≤ length c → drop base (take from c) ++ drop from (take behind c) ≡ drop base (take behind c)
pieces zero zero behind c low high within = refl
pieces zero (suc from) zero c low high within = absurd (omega (arith, high))
pieces zero (suc from) (suc behind) [] low high within = absurd (omega (arith, within))
pieces zero (suc from) (suc behind) (x ∷ c) low high within = ap (λ l. x ∷ l) (pieces zero from behind c (omega arith) (omega (arith, high)) (omega (arith, within)))
pieces (suc base) zero behind c low high within = absurd (omega (arith, low))
pieces (suc base) (suc from) zero c low high within = absurd (omega (arith, high))
pieces (suc base) (suc from) (suc behind) [] low high within = absurd (omega (arith, within))
pieces (suc base) (suc from) (suc behind) (x ∷ c) low high within = pieces base from behind c (omega (arith, low)) (omega (arith, high)) (omega (arith, within))

-- ---- numbers that differ

none_both : (n : ℕ) (xs ys : List ℕ) → IsNone n xs → IsNone n ys → IsNone n (xs ++ ys)
none_both n [] ys first rest = rest
none_both n (x ∷ xs) ys first rest = (first.0, none_both n xs ys first.1 rest)

none_below : (n least : ℕ) (ys : List ℕ) → n < least → ((m : ℕ) → IsIn m ys → least ≤ m) → IsNone n ys
none_below n least [] less above = tt
none_below n least (m ∷ ys) less above = ((λ same. let most = above m (inl refl) in omega (arith, less, most, same)), none_below n least ys less (λ k j. above k (inr j)))

differ_both : (least : ℕ) (xs ys : List ℕ) → Differ xs → Differ ys → ((n : ℕ) → IsIn n xs → n < least) → ((m : ℕ) → IsIn m ys → least ≤ m) → Differ (xs ++ ys)
differ_both least [] ys first rest below above = rest
differ_both least (x ∷ xs) ys first rest below above =
    (none_both x xs ys first.0 (none_below x least ys (below x (inl refl)) above), differ_both least xs ys first.1 rest (λ n j. below n (inr j)) above)

rise_none : (n from : ℕ) (ns : List ℕ) → n < from → Rise from ns → IsNone n ns
rise_none n from [] less rise = tt
rise_none n from (m ∷ ns) less rise = let least = rise.0 in ((λ same. omega (arith, less, least, same)), rise_none n (suc m) ns (omega (arith, less, least)) rise.1)

rise_differ : (from : ℕ) (ns : List ℕ) → Rise from ns → Differ ns
rise_differ from [] rise = tt
rise_differ from (n ∷ ns) rise = (rise_none n (suc n) ns (omega arith) rise.1, rise_differ (suc n) ns rise.1)

rise_less : (low from : ℕ) (ns : List ℕ) → low ≤ from → Rise from ns → Rise low ns
rise_less low from [] less rise = tt
rise_less low from (n ∷ ns) less rise = let least = rise.0 in (omega (arith, less, least), rise.1)

rise_front : (from : ℕ) (xs ys : List ℕ) → Rise from (xs ++ ys) → Rise from xs
rise_front from [] ys rise = tt
rise_front from (x ∷ xs) ys rise = (rise.0, rise_front (suc x) xs ys rise.1)

-- ---- what goes on behind further entries

unopened_front : (xs ys : List Entry) → NoOpening (xs ++ ys) → NoOpening xs
unopened_front [] ys none = tt
unopened_front (Opened rows limit policy ∷ xs) ys none = absurd none
unopened_front (e ∷ xs) ys none = unopened_front xs ys none

unopened_rest : (xs ys : List Entry) → NoOpening (xs ++ ys) → NoOpening ys
unopened_rest [] ys none = none
unopened_rest (Opened rows limit policy ∷ xs) ys none = absurd none
unopened_rest (e ∷ xs) ys none = unopened_rest xs ys none

-- rows stay, the least number of the next row doesn't fall, and configurations come in front
record Grows (s t : State) : Type 0 where
  rows : (w : Written) → IsIn w s.rows → IsIn w t.rows
  low : s.low ≤ t.low
  newer : List Plan
  plans : t.plans ≡ newer ++ s.plans

grown : (s t : State) → t.rows ≡ s.rows → t.low ≡ s.low → t.plans ≡ s.plans → Grows s t
grown s t rows low plans = record { rows = λ w has. subst (IsIn w) (sym rows) has; low = omega (arith, low); newer = []; plans = plans }

both_grow : (s t u : State) → Grows s t → Grows t u → Grows s u
both_grow s t u first rest =
    let less = first.low in let more = rest.low in
    record {
      rows = λ w has. rest.rows w (first.rows w has);
      low = omega (arith, less, more);
      newer = rest.newer ++ first.newer;
      plans = rest.plans ∙ ap (λ l. rest.newer ++ l) first.plans ∙ sym (append_assoc rest.newer first.newer s.plans);
    }

reads_grow : (s : State) (batch : ℕ) (numbers : List ℕ) (plan : Option Plan) → Grows s (reads s batch numbers plan)
reads_grow s batch numbers None = grown s s refl refl refl
reads_grow s batch numbers (Some plan) = grown s (reads s batch numbers (Some plan)) refl refl refl

letters_grow : (s : State) (batch : ℕ) (letters : List DeadPart) (left : List Due) → Grows s (tells_letters s batch letters left)
letters_grow s batch letters [] = grown s s refl refl refl
letters_grow s batch letters (due.Letters ds ∷ rest) = grown s (tells_letters s batch letters (due.Letters ds ∷ rest)) refl refl refl
letters_grow s batch letters (due.Events id at es ∷ rest) = grown s (tells_letters s batch letters (due.Events id at es ∷ rest)) refl refl refl

module _ (makes : Makes) where
  next_grows : (s : State) (e : Entry) (es : List Entry) → NoOpening (e ∷ es) → Legal_at makes s e → Grows s (next makes s e)
  next_grows s (Accept input parcel number event) es none legal =
      let least = legal.1 in
      record { rows = λ w has. in_front w s.rows (written s input number event ∷ []) has; low = omega (arith, least); newer = []; plans = refl }
  next_grows s (Mark front) es none legal = let least = legal.1 in record { rows = λ w has. has; low = least; newer = []; plans = refl }
  next_grows s (Assure input front) es none legal = grown s s refl refl refl
  next_grows s (Read batch generation numbers) es none legal = reads_grow s batch numbers (newest s.plans)
  next_grows s (Back batch verdicts) es none legal = grown s (next makes s (Back batch verdicts)) refl refl refl
  next_grows s (Shed batch older newer) es none legal = grown s (next makes s (Shed batch older newer)) refl refl refl
  next_grows s (Deliver batch at events fates) es none legal = grown s (next makes s (Deliver batch at events fates)) refl refl refl
  next_grows s (Letters batch letters) es none legal = letters_grow s batch letters (left_of (out_of batch s.out))
  next_grows s (Ack batch) es none legal = grown s (next makes s (Ack batch)) refl refl refl
  next_grows s (Purge page) es none legal = grown s s refl refl refl
  next_grows s (Adopt generation config draws) es none legal =
      record { rows = λ w has. has; low = omega arith; newer = record { generation = generation; config = config; draws = draws } ∷ []; plans = refl }
  next_grows s (Opened rows limit policy) es none legal = absurd none

  all_grow : (s : State) (es : List Entry) → NoOpening es → Legal makes s es → Grows s (after makes s es)
  all_grow s [] none legal = grown s s refl refl refl
  all_grow s (e ∷ es) none legal = both_grow s (next makes s e) (after makes (next makes s e) es) (next_grows s e es none legal.0) (all_grow (next makes s e) es (rest_unopened e es none) legal.1)

-- an input keeps its number and its statement
inputs_kept : (newer plans : List Plan) (old now : List Input) → AreInputs plans old → AreInputs (newer ++ plans) now → (x : Input) → IsIn x old → (y : Input) × IsIn y now × (y.number ≡ x.number) × (y.statement ≡ x.statement)
inputs_kept [] plans old now were are x has = (x, subst (IsIn x) (inputs_one plans old now were are) has, refl, refl)
inputs_kept (plan ∷ newer) plans old now were are x has =
    let first = inputs_kept newer plans old are.0 were are.1 x has in
    let kept = renumbered_keeps (length are.0) are.0 (named_from 1 plan.config.inputs) now are.2 first.0 first.1 in
    (kept.0, kept.1, kept.2 ∙ first.2, kept.3 ∙ first.3)

-- ---- rows of an input, as they were written

record IsWrittenFor (makes : Makes) (told : List Entry) (p : Plugin) (least : ℕ) (r : RowIn) (w : Written) : Type 0 where
  has : IsIn w (after makes start told).rows
  number_is : w.number ≡ r.number
  event_is : w.event ≡ r.event
  came : CameBy p w
  above : least ≤ w.number

-- the entry by which a row was accepted
record IsAcceptOf (n : ℕ) (r : RowIn) (e : Entry) : Type 0 where
  event : Ev
  event_is : r.event ≡ event
  entry_is : e ≡ Accept n None r.number event

accept_of : (n : ℕ) (r : RowIn) (e : Entry) → IsIn r (row_accepted n e) → IsAcceptOf n r e
accept_of n r (Accept input None number event) has = by_test (n == input) refl has
  where
    by_test : (b : Bool) → (n == input) ≡ b → IsIn r (if b then record { number = number; event = event } ∷ [] else []) → IsAcceptOf n r (Accept input None number event)
    by_test true test (inl same) = record {
      event = event;
      event_is = ap (λ (x : RowIn). x.event) same;
      entry_is = ap₂ (λ (k m : ℕ). Accept k None m event) (sym (eqb-true n input test)) (sym (ap (λ (x : RowIn). x.number) same));
    }
    by_test true test (inr never) = absurd never
    by_test false test none = absurd none
accept_of n r (Accept input (Some at) number event) has = absurd has
accept_of n r (Mark front) has = absurd has
accept_of n r (Assure input front) has = absurd has
accept_of n r (Read batch generation numbers) has = absurd has
accept_of n r (Back batch verdicts) has = absurd has
accept_of n r (Shed batch older newer) has = absurd has
accept_of n r (Deliver batch at events fates) has = absurd has
accept_of n r (Letters batch letters) has = absurd has
accept_of n r (Ack batch) has = absurd has
accept_of n r (Purge page) has = absurd has
accept_of n r (Adopt generation config draws) has = absurd has
accept_of n r (Opened rows limit policy) has = absurd has

module _ (makes : Makes) (told first later : List Entry) (parts : told ≡ first ++ later) (unopened : NoOpening later) (legal : Legal makes start told) (v : InputView) (vs : List InputView) (there : IsIn v vs)
    (are : AreInputs (after makes start told).plans (views.inputs_of vs)) where
  abbrev began : State
  began = after makes start first

  told_is : after makes start told ≡ after makes began later
  told_is = ap (after makes start) parts ∙ after_both makes start first later

  later_legal : Legal makes began later
  later_legal = legal_rest makes start first later (subst (Legal makes start) parts legal)

  -- where an entry stands among those since then
  written_by : (r : RowIn) (e : Entry) → IsAcceptOf v.number r e → (before behind : List Entry) → later ≡ before ++ e ∷ behind → (w : Written) × IsWrittenFor makes told v.statement began.low r w
  written_by r e accepts before behind at = (
    w,
    record {
      has = subst (λ (t : State). IsIn w t.rows) (sym now_is) (goes.rows w (in_behind w s.rows (w ∷ []) (inl refl)));
      number_is = refl;
      event_is = sym accepts.event_is;
      came = (came.input, came.is_input, statement_is);
      above = let less = before_grows.low in let least = legal_here.0.1 in omega (arith, less, least);
    },
  )
    where
      entry : Entry
      entry = Accept v.number None r.number accepts.event

      later_is : later ≡ before ++ entry ∷ behind
      later_is = at ∙ ap (λ (x : Entry). before ++ x ∷ behind) accepts.entry_is

      none : NoOpening (before ++ entry ∷ behind)
      none = subst NoOpening later_is unopened

      s : State
      s = after makes began before

      w : Written
      w = written s v.number r.number accepts.event

      whole : Legal makes began (before ++ entry ∷ behind)
      whole = subst (Legal makes began) later_is later_legal

      legal_here : Legal makes s (entry ∷ behind)
      legal_here = legal_rest makes began before (entry ∷ behind) whole

      before_grows : Grows began s
      before_grows = all_grow makes began before (unopened_front before (entry ∷ behind) none) (legal_first makes began before (entry ∷ behind) whole)

      goes : Grows (next makes s entry) (after makes (next makes s entry) behind)
      goes = all_grow makes (next makes s entry) behind (rest_unopened entry behind (unopened_rest before (entry ∷ behind) none)) legal_here.1

      step : Grows s (next makes s entry)
      step = next_grows makes s entry behind (unopened_rest before (entry ∷ behind) none) legal_here.0

      now_is : after makes start told ≡ after makes (next makes s entry) behind
      now_is = told_is ∙ ap (after makes began) later_is ∙ after_both makes began before (entry ∷ behind)

      came : MayCome s.plans v.number None
      came = legal_here.0.3

      on : Grows s (after makes (next makes s entry) behind)
      on = both_grow s (next makes s entry) (after makes (next makes s entry) behind) step goes

      kept : (y : Input) × IsIn y (views.inputs_of vs) × (y.number ≡ came.input.number) × (y.statement ≡ came.input.statement)
      kept = inputs_kept on.newer s.plans came.is_input.inputs (views.inputs_of vs) came.is_input.are (subst (λ (plans : List Plan). AreInputs plans (views.inputs_of vs)) (ap (λ (t : State). t.plans) now_is ∙ on.plans) are)
          came.input came.is_input.has

      statement_is : came.input.statement ≡ v.statement
      statement_is =
          sym kept.3
          ∙ ap (λ (y : Input). y.statement) (same_input (views.inputs_of vs) (inputs_apart (after makes start told).plans (views.inputs_of vs) are).0 kept.0 (input_of v) kept.1 (view_in v vs there)
          (kept.2 ∙ came.is_input.number_is))

  written_for : rows_by v.number first ≡ [] → (r : RowIn) → IsIn r (rows_by v.number told) → (w : Written) × IsWrittenFor makes told v.statement began.low r w
  written_for none_yet r has = written_by r from.0 (accept_of v.number r from.0 from.2) at.0 at.1 at.2
    where
      rows_are : rows_by v.number told ≡ of_each (row_accepted v.number) later
      rows_are = ap (rows_by v.number) parts ∙ told_more (row_accepted v.number) first later unopened ∙ ap (λ l. l ++ of_each (row_accepted v.number) later) none_yet

      from : (e : Entry) × IsIn e later × IsIn r (row_accepted v.number e)
      from = from_each (row_accepted v.number) r later (subst (IsIn r) rows_are has)

      at : (before : List Entry) × (behind : List Entry) × (later ≡ before ++ from.0 ∷ behind)
      at = split_at from.0 later from.1

-- ---- rows of the lines of one file

abbrev number_of : RowIn → ℕ
number_of r = r.number

abbrev event_of : RowIn → Ev
event_of r = r.event

abbrev line_event : Incoming → Ev
line_event x = x.event

abbrev picked : List ℕ → List RowIn → List Incoming → List RowIn
picked path [] xs = []
picked path (r ∷ rs) [] = []
picked path (r ∷ rs) (x ∷ xs) = if is_of_file path x.at then r ∷ picked path rs xs else picked path rs xs

picked_events : (applies : Ev → Ev) (path : List ℕ) (rs : List RowIn) (xs : List Incoming) → AreRowsFor applies rs xs → map event_of (picked path rs xs) ≡ map applies (map line_event (lines_of path xs))
picked_events applies path [] [] are = refl
picked_events applies path [] (x ∷ xs) are = absurd are
picked_events applies path (r ∷ rs) [] are = absurd are
picked_events applies path (r ∷ rs) (x ∷ xs) are = by_test (picked_events applies path rs xs are.1) (is_of_file path x.at)
  where
    by_test : map event_of (picked path rs xs) ≡ map applies (map line_event (lines_of path xs)) → (b : Bool)
        → map event_of (if b then r ∷ picked path rs xs else picked path rs xs) ≡ map applies (map line_event (if b then x ∷ lines_of path xs else lines_of path xs))
    by_test rest true = ap₂ (λ (e : Ev) (l : List Ev). e ∷ l) are.0 rest
    by_test rest false = rest

picked_has : (path : List ℕ) (rs : List RowIn) (xs : List Incoming) (r : RowIn) → IsIn r (picked path rs xs) → IsIn r rs
picked_has path [] xs r has = absurd has
picked_has path (q ∷ rs) [] r has = absurd has
picked_has path (q ∷ rs) (x ∷ xs) r has = by_test (picked_has path rs xs r) (is_of_file path x.at) has
  where
    by_test : (IsIn r (picked path rs xs) → IsIn r rs) → (b : Bool) → IsIn r (if b then q ∷ picked path rs xs else picked path rs xs) → IsIn r (q ∷ rs)
    by_test rest true (inl e) = inl e
    by_test rest true (inr j) = inr (rest j)
    by_test rest false j = inr (rest j)

picked_rise : (path : List ℕ) (from : ℕ) (rs : List RowIn) (xs : List Incoming) → Rise from (map number_of rs) → Rise from (map number_of (picked path rs xs))
picked_rise path from [] xs rise = tt
picked_rise path from (r ∷ rs) [] rise = tt
picked_rise path from (r ∷ rs) (x ∷ xs) rise = by_test (picked_rise path (suc r.number) rs xs rise.1) (is_of_file path x.at)
  where
    by_test : Rise (suc r.number) (map number_of (picked path rs xs)) → (b : Bool) → Rise from (map number_of (if b then r ∷ picked path rs xs else picked path rs xs))
    by_test rest true = (rise.0, rest)
    by_test rest false = let least = rise.0 in rise_less from (suc r.number) (map number_of (picked path rs xs)) (omega (arith, least)) rest

parted : {X : Type 0} (x y : X) (xs ys : List X) → x ∷ xs ≡ y ∷ ys → (x ≡ y) × (xs ≡ ys)
parted x y xs ys e = (cc, cc)

-- rows of the first of some lines
front_rows : (applies : Ev → Ev) (rs rest : List RowIn) (accepted held xs ys : List Incoming) → AreRowsFor applies (rs ++ rest) accepted → accepted ++ held ≡ xs ++ ys → length rs ≡ length xs → AreRowsFor applies rs xs
front_rows applies [] rest accepted held [] ys are same as_many = tt
front_rows applies [] rest accepted held (x ∷ xs) ys are same as_many = absurd (omega (arith, as_many))
front_rows applies (r ∷ rs) rest accepted held [] ys are same as_many = absurd (omega (arith, as_many))
front_rows applies (r ∷ rs) rest [] held (x ∷ xs) ys are same as_many = absurd are
front_rows applies (r ∷ rs) rest (a ∷ accepted) held (x ∷ xs) ys are same as_many =
    let one = parted a x (accepted ++ held) (xs ++ ys) same in
    (are.0 ∙ ap (λ (z : Incoming). applies z.event) one.0, front_rows applies rs rest accepted held xs ys are.1 one.1 (omega (arith, as_many)))

-- ---- all of them

record AllWritten (makes : Makes) (told : List Entry) (p : Plugin) (least : ℕ) (rs : List RowIn) : Type 0 where
  rows : List Written
  numbers : map (λ (w : Written). w.number) rows ≡ map number_of rs
  events : map (λ (w : Written). w.event) rows ≡ map event_of rs
  each : (w : Written) → IsIn w rows → (r : RowIn) × IsIn r rs × IsWrittenFor makes told p least r w

all_written : (makes : Makes) (told : List Entry) (p : Plugin) (least : ℕ) (rs : List RowIn) → ((r : RowIn) → IsIn r rs → (w : Written) × IsWrittenFor makes told p least r w) → AllWritten makes told p least rs
all_written makes told p least [] find = record { rows = []; numbers = refl; events = refl; each = λ w has. absurd has }
all_written makes told p least (r ∷ rs) find =
    let here = find r (inl refl) in
    let rest = all_written makes told p least rs (λ q j. find q (inr j)) in
    record {
      rows = here.0 ∷ rest.rows;
      numbers = ap₂ (λ (n : ℕ) (l : List ℕ). n ∷ l) here.1.number_is rest.numbers;
      events = ap₂ (λ (e : Ev) (l : List Ev). e ∷ l) here.1.event_is rest.events;
      each = λ w has.
          ⊎_elim (λ (e : w ≡ here.0). (r, inl refl, subst (IsWrittenFor makes told p least r) (sym e) here.1)) (λ (j : IsIn w rest.rows). let its = rest.each w j in (its.0, inr its.1, its.2)) has;
    }

number_written : (n : ℕ) (ws : List Written) → IsIn n (map (λ (w : Written). w.number) ws) → (w : Written) × IsIn w ws × (n ≡ w.number)
number_written n [] has = absurd has
number_written n (w ∷ ws) (inl e) = (w, inl refl, e)
number_written n (w ∷ ws) (inr j) = let rest = number_written n ws j in (rest.0, inr rest.1, rest.2)

row_of_reading : (w : Written) (rs : List Reading) → IsIn w (flat_map (λ (r : Reading). r.rows) rs) → (r : Reading) × IsIn r rs × IsIn w r.rows
row_of_reading w [] has = absurd has
row_of_reading w (r ∷ rs) has =
    ⊎_elim (λ (here : IsIn w r.rows). (r, inl refl, here)) (λ (later : IsIn w (flat_map (λ (x : Reading). x.rows) rs)). let rest = row_of_reading w rs later in (rest.0, inr rest.1, rest.2))
    (in_either w r.rows (flat_map (λ (x : Reading). x.rows) rs) has)

-- ---- the position

module _ (makes : Makes) (listening : Listening) (bytes : Bytes) (places : Places) (sources : Sources) (earlier : List Entry) (deeds : List Deed) (came : ℕ → List Incoming) (i : LineView places) (f : FileAt)
    (files : Content) (begins : ℕ → List ℕ → ℕ) (file : WatchedFile) (image : Image) (line : LineStands makes listening bytes places earlier deeds came i) (same : file.path ≡ f.path)
    (recorded : IsPosition file.base (recorded_in (bytes_of (image file.slot).file)) f.behind) (v : InputView) (there : IsIn v i.inputs) (opens : v.is_open ≡ true) (lines : listening.address v.statement ≡ None)
    (settled : IsSettledUpTo makes (told_of deeds) v.number (came v.number) f)
    (reads : IsReadUpTo listening sources v.statement (bytes_of (files f.path)) (begins v.number f.path) (settled.before ++ settled.line ∷ []) f)
    (began : BeganAt listening sources makes (told_of deeds) v.number files file (begins v.number f.path)) where
  abbrev told : List Entry
  told = told_of deeds

  abbrev content : List ℕ
  content = bytes_of (files f.path)

  abbrev from : ℕ
  from = begins v.number f.path

  abbrev first_lines : List Incoming
  first_lines = settled.before ++ settled.line ∷ []

  abbrev mine : List RowIn
  mine = picked f.path settled.rows first_lines

  abbrev least : ℕ
  least = (after makes start began.first).low

  legal : Legal makes start told
  legal = line.stands.holds.legal

  first_legal : Legal makes start began.first
  first_legal = legal_first makes start began.first began.later (subst (Legal makes start) began.parts legal)

  sane : IsSane (after makes start began.first)
  sane = all_sane makes start began.first first_legal start_sane

  rows_for : AreRowsFor (listening.applies v.statement) settled.rows first_lines
  rows_for =
      let is = line.inputs.each v there opens lines in
      front_rows (listening.applies v.statement) settled.rows settled.rest is.accepted v.held first_lines settled.behind
      (subst (λ (rs : List RowIn). AreRowsFor (listening.applies v.statement) rs is.accepted) settled.rows_are is.rows_are)
      (sym is.came_is ∙ settled.came_is ∙ sym (append_assoc settled.before (settled.line ∷ []) settled.behind))
      (settled.as_many ∙ sym (length-append settled.before (settled.line ∷ []) ∙ (omega arith)))

  its_rows : AllWritten makes told v.statement least mine
  its_rows = all_written makes told v.statement least mine (λ r has.
      written_for makes told began.first began.later began.parts began.unopened legal v i.inputs there line.stands.knows.inputs began.none_yet r
      (subst (IsIn r) (sym settled.rows_are) (in_front r settled.rows settled.rest (picked_has f.path settled.rows first_lines r has))))

  abbrev new_reading : Reading
  new_reading = record { piece = drop from (take f.behind content); rows = its_rows.rows }

  is_read : IsRead listening sources file.path new_reading
  is_read = record {
    statement = v.statement;
    watches = subst (λ (path : List ℕ). sources.watches v.statement path ≡ true) (sym same) reads.watches;
    polls = reads.polls;
    bytes = reads.polls_are;
    ended = reads.ended;
    events = its_rows.events ∙ picked_events (listening.applies v.statement) f.path settled.rows first_lines rows_for ∙ ap (map (listening.applies v.statement)) (sym reads.gives)
        ∙ ap (λ (path : List ℕ). map (listening.applies v.statement) (sources.gives v.statement (map (λ (p : Poll). look_at path p) reads.polls))) (sym same);
    came = λ w has. (its_rows.each w has).2.came;
  }

  rise_mine : Rise 0 (map number_of mine)
  rise_mine =
      let is = line.inputs.each v there opens lines in
      picked_rise f.path 0 settled.rows first_lines
      (rise_front 0 (map number_of settled.rows) (map number_of settled.rest)
      (subst (Rise 0) (ap (map number_of) settled.rows_are ∙ map_all number_of settled.rows settled.rest) is.rise))

  abbrev old : List Reading
  old = began.sound.readings

  abbrev all : List Reading
  all = old ++ new_reading ∷ []

  all_rows : flat_map (λ (r : Reading). r.rows) all ≡ flat_map (λ (r : Reading). r.rows) old ++ its_rows.rows
  all_rows = flat_map-append (λ (r : Reading). r.rows) old (new_reading ∷ []) ∙ ap (λ l. flat_map (λ (r : Reading). r.rows) old ++ l) (append-nil its_rows.rows)

  all_pieces : flat_map (λ (r : Reading). r.piece) all ≡ flat_map (λ (r : Reading). r.piece) old ++ new_reading.piece
  all_pieces = flat_map-append (λ (r : Reading). r.piece) old (new_reading ∷ []) ∙ ap (λ l. flat_map (λ (r : Reading). r.piece) old ++ l) (append-nil new_reading.piece)

  -- rows that were there when the input began are older
  older : (n : ℕ) → IsIn n (map (λ (w : Written). w.number) (flat_map (λ (r : Reading). r.rows) old)) → n < least
  older n has =
      let w = number_written n (flat_map (λ (r : Reading). r.rows) old) has in
      let r = row_of_reading w.0 old w.1 in
      let less = sane.numbered.below w.0 (began.sound.settled r.0 r.1 w.0 r.2).0 in
      let is = w.2 in omega (arith, less, is)

  newer : (n : ℕ) → IsIn n (map (λ (w : Written). w.number) its_rows.rows) → least ≤ n
  newer n has =
      let w = number_written n its_rows.rows has in
      let above = (its_rows.each w.0 w.1).2.above in
      let is = w.2 in omega (arith, above, is)

  old_settled : (r : Reading) → IsIn r old → (w : Written) → IsIn w r.rows → IsSettledRow makes told w
  old_settled r has w row =
      let was = began.sound.settled r has w row in
      subst (λ (l : List Entry). IsSettledRow makes l w) (sym began.parts) (settled_stays makes began.first began.later w (subst (Legal makes start) began.parts legal) was.0 was.1)

  new_settled : (w : Written) → IsIn w its_rows.rows → IsSettledRow makes told w
  new_settled w has =
      let its = its_rows.each w has in
      let most = settled.settled its.0 (picked_has f.path settled.rows first_lines its.0 its.1) in
      let number = its.2.number_is in (its.2.has, omega (arith, most, number))

  path_bytes : bytes_of (files file.path) ≡ content
  path_bytes = ap (λ (path : List ℕ). bytes_of (files path)) same

  begins_at : began.sound.position ≡ from
  begins_at = began.place_is

  position_so : PositionSound listening sources makes told files image file
  position_so = record {
    position = f.behind;
    recorded = recorded;
    behind = let low = began.sound.behind in let here = reads.begins in omega (arith, low, here, begins_at);
    within = let inside = reads.within in let long = ap length path_bytes in omega (arith, inside, long);
    readings = all;
    cut = all_pieces ∙ ap (λ l. l ++ new_reading.piece) (began.sound.cut ∙ ap₂ (λ (n : ℕ) (c : List ℕ). drop file.base (take n c)) begins_at path_bytes)
        ∙ pieces file.base from f.behind content (let low = began.sound.behind in omega (arith, low, begins_at)) reads.begins reads.within
        ∙ ap (λ (c : List ℕ). drop file.base (take f.behind c)) (sym path_bytes);
    read = λ r has.
        ⊎_elim (λ (j : IsIn r old). began.sound.read r j) (λ (j : IsIn r (new_reading ∷ [])). ⊎_elim (λ (e : r ≡ new_reading). subst (IsRead listening sources file.path) (sym e) is_read) (λ (never : ⊥). absurd never) j)
        (in_either r old (new_reading ∷ []) has);
    settled = λ r has w row.
        ⊎_elim (λ (j : IsIn r old). old_settled r j w row)
        (λ (j : IsIn r (new_reading ∷ [])). ⊎_elim (λ (e : r ≡ new_reading). new_settled w (subst (λ (x : Reading). IsIn w x.rows) e row)) (λ (never : ⊥). absurd never) j)
        (in_either r old (new_reading ∷ []) has);
    differ = subst Differ (sym (ap (map (λ (w : Written). w.number)) all_rows ∙ map_all (λ (w : Written). w.number) (flat_map (λ (r : Reading). r.rows) old) its_rows.rows))
        (differ_both least (map (λ (w : Written). w.number) (flat_map (λ (r : Reading). r.rows) old)) (map (λ (w : Written). w.number) its_rows.rows) began.sound.differ
        (subst Differ (sym its_rows.numbers) (rise_differ 0 (map number_of mine) rise_mine)) older newer);
  }

pub recorded_positions_stand : (makes : Makes) (listening : Listening) (bytes : Bytes) (places : Places) → RecordedPositionsStand makes listening bytes places
recorded_positions_stand makes listening bytes places sources earlier deeds came i x f files begins file image line has read began same recorded =
    let its = recorded_are_settled makes listening bytes places (told_of deeds) came i x line.stands line.inputs f has in
    let v = its.0 in
    let settled = its.4 in
    let reads = read v its.1 its.2 its.3 settled.before settled.line settled.behind f settled.came_is settled.at_is in
    position_so makes listening bytes places sources earlier deeds came i f files begins file image line same recorded v its.1 its.2 its.3 settled reads (began v its.1 its.2 its.3 reads.watches)
