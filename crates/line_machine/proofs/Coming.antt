-- What came to inputs is what they accepted and what they hold, behind each step.
use Rattle.std.proofs.Common.{◌≡◌, ◌⊎◌, inl, inr, ⊎_elim, ℕ, suc, ◌+◌, ◌≤◌, ◌<◌, ◌==◌, Bool, true, false, List, [], ◌∷◌, ◌++◌, length, map, Option, Some, None, if◌then◌else◌, refl, sym, ap, ◌∙◌, subst, arith, append-nil, append_assoc}
use Rattle.std.specs.Prelude.{nat_lt, not}
use Rattle.std.specs.List.{list_any}
use Rattle.std.proofs.lemmas.Bool.{cases_Bool, eqb-true, eq-eqb, lt-ltb, ltb-true, ltb-false}
use Rattle.std.proofs.lemmas.List.{length-append, length-map}
use Rattle.std.proofs.lemmas.Option.{same_Some}
use Rattle.event_tree.specs.Events.{Ev}
use Rattle.config_tree.specs.declared.tree.Plugin.{Plugin}
use Rattle.event_flow.specs.Meaning.{Makes}
use Rattle.foreign_parts.specs.declared.place.Place.TheVariants as place
use Rattle.history_book.specs.Contents.{Bytes}
use Rattle.history_book.specs.Entries.{Entry, Accept, Assure, Deliver, Adopt}
use Rattle.history_book.specs.Inputs.{Input, named_from}
use Rattle.history_book.specs.Legal.{rejections}
use Rattle.history_book.specs.Links.{Listening}
use Rattle.history_book.specs.Lists.{IsIn, Rise}
use Rattle.history_book.specs.Queues.{next_in}
use Rattle.history_book.specs.Sound.{Places}
use Rattle.history_book.specs.States.{start, after}
use Rattle.history_book.specs.Steps.{NoOpening}
use Rattle.history_book.proofs.Lists.{in_behind, in_either, filter_has, filter_passes}
use Rattle.history_book.proofs.Unread.{rise_end}
use Rattle.line_machine.specs.Coming.{RowIn, row_accepted, rows_by, WasAssured, came_in, and_came, AreRowsFor, IsPlaced, InputStands, InputsStand, IsSettledUpTo, OpenedInputsStand, InputsStandStill, RecordedAreSettled}
use Rattle.line_machine.specs.Effects.{Came, accepted_now, held_now, ended_now, assured_now, rows_above, rows_up_to, is_of_file, unless_later, last_places, begun, gone_on, view_of, carried}
use Rattle.line_machine.specs.Finds.{HasInput, Comes, IsRowFor, Changes}
use Rattle.line_machine.specs.Openings.{opening}
use Rattle.line_machine.specs.Since.{since, of_each}
use Rattle.line_machine.specs.Stands.{Stands}
use Rattle.line_machine.specs.Steps as m
use Rattle.line_machine.specs.Steps.{Step, effect, GoesOn}
use Rattle.line_machine.specs.Views.{FileAt, Incoming, RowAt, InputView, LineView, input_of, inputs_of, input_at, change_input}
use Rattle.line_machine.proofs.Covering.{next_with, next_before}
use Rattle.line_machine.proofs.Inputs.{IsOld, AreViewsApart, views_apart, inputs_apart, renumbered_has, renumbered_length, view_in, in_view, inputs_same, found_view, view_found, view_changed, carried_from}
use Rattle.line_machine.proofs.Since.{unopened, since_more, told_more, told_none, in_since, opened_each, letters_each, rejected_each}

differs : false ≡ true → ⊥
differs e = cc

none_some : {X : Type 0} (x : X) → None ≡ Some x → ⊥
none_some x e = cc

-- ---- one input

module _ (listening : Listening) where
  -- what counts of an input is its number, its statement, what it holds and its rows
  same_stands : (told : List Entry) (came now : List Incoming) (u v : InputView) → u.number ≡ v.number → u.statement ≡ v.statement → u.held ≡ v.held → u.rows ≡ v.rows → now ≡ came
      → InputStands listening told came v → InputStands listening told now u
  same_stands told came now u v number statement held rows same is = record {
    accepted = is.accepted;
    came_is = same ∙ is.came_is ∙ ap (λ l. is.accepted ++ l) (sym held);
    rows_are = subst (λ (p : Plugin). AreRowsFor (listening.applies p) (rows_by u.number told) is.accepted) (sym statement)
        (subst (λ (n : ℕ). AreRowsFor (listening.applies v.statement) (rows_by n told) is.accepted) (sym number) is.rows_are);
    rise = subst (λ (n : ℕ). Rise 0 (map (λ (r : RowIn). r.number) (rows_by n told))) (sym number) is.rise;
    known = λ r has.
        subst (λ (n : ℕ). WasAssured told n r.number ⊎ IsIn r.number (map (λ (x : RowAt). x.number) u.rows)) (sym number)
        (subst (λ rs. WasAssured told v.number r.number ⊎ IsIn r.number (map (λ (x : RowAt). x.number) rs)) (sym rows) (is.known r (subst (λ (n : ℕ). IsIn r (rows_by n told)) number has)));
    placed = λ r has.
        subst (λ l. IsPlaced l (rows_by u.number told) r) (sym same)
        (subst (λ (n : ℕ). IsPlaced came (rows_by n told) r) (sym number) (is.placed r (subst (IsIn r) rows has)));
  }

  assured_still : (told more : List Entry) (n number : ℕ) → NoOpening more → WasAssured told n number → WasAssured (told ++ more) n number
  assured_still told more n number none was = (was.0, in_since (Assure n was.0) told more none was.1, was.2)

  -- more came, and more was accepted
  placed_more : (came more : List Incoming) (rows new : List RowIn) (r : RowAt) → IsPlaced came rows r → IsPlaced (came ++ more) (rows ++ new) r
  placed_more came more rows new r is = record {
    before = is.before;
    line = is.line;
    behind = is.behind ++ more;
    came_is = ap (λ l. l ++ more) is.came_is ∙ append_assoc is.before (is.line ∷ is.behind) more;
    rows_before = is.rows_before;
    row = is.row;
    rows_behind = is.rows_behind ++ new;
    rows_are = ap (λ l. l ++ new) is.rows_are ∙ append_assoc is.rows_before (is.row ∷ is.rows_behind) new;
    as_many = is.as_many;
    number_is = is.number_is;
    at_is = is.at_is;
  }

  -- behind entries that accept nothing of it, where more came that it holds
  held_stands : (told more : List Entry) (came new : List Incoming) (v : InputView) → NoOpening more → of_each (row_accepted v.number) more ≡ [] → InputStands listening told came v
      → InputStands listening (told ++ more) (came ++ new) (held_now (v.held ++ new) v)
  held_stands told more came new v none nothing is =
      let same = told_none (row_accepted v.number) told more none nothing in
      record {
        accepted = is.accepted;
        came_is = ap (λ l. l ++ new) is.came_is ∙ append_assoc is.accepted v.held new;
        rows_are = subst (λ rs. AreRowsFor (listening.applies v.statement) rs is.accepted) (sym same) is.rows_are;
        rise = subst (λ rs. Rise 0 (map (λ (r : RowIn). r.number) rs)) (sym same) is.rise;
        known = λ r has. ⊎_elim (λ (a : WasAssured told v.number r.number). inl (assured_still told more v.number r.number none a)) (λ (k : IsIn r.number (map (λ (x : RowAt). x.number) v.rows)). inr k)
            (is.known r (subst (IsIn r) same has));
        placed = λ r has.
            subst (λ rs. IsPlaced (came ++ new) rs r) (append-nil (rows_by v.number told) ∙ sym same) (placed_more came new (rows_by v.number told) [] r (is.placed r has));
      }

  -- where nothing came either
  quiet_stands : (told more : List Entry) (came now : List Incoming) (v : InputView) → NoOpening more → of_each (row_accepted v.number) more ≡ [] → now ≡ came → InputStands listening told came v
      → InputStands listening (told ++ more) now v
  quiet_stands told more came now v none nothing same is =
      same_stands (told ++ more) (came ++ []) now v (held_now (v.held ++ []) v) refl refl (sym (append-nil v.held)) refl (same ∙ sym (append-nil came)) (held_stands told more came [] v none nothing is)

-- rows for further events
rows_more : (applies : Ev → Ev) (rows : List RowIn) (xs : List Incoming) (r : RowIn) (x : Incoming) → AreRowsFor applies rows xs → r.event ≡ applies x.event → AreRowsFor applies (rows ++ r ∷ []) (xs ++ x ∷ [])
rows_more applies [] [] r x are is = (is, tt)
rows_more applies [] (y ∷ xs) r x are is = absurd are
rows_more applies (s ∷ rows) [] r x are is = absurd are
rows_more applies (s ∷ rows) (y ∷ xs) r x are is = (are.0, rows_more applies rows xs r x are.1 is)

rows_count : (applies : Ev → Ev) (rows : List RowIn) (xs : List Incoming) → AreRowsFor applies rows xs → length rows ≡ length xs
rows_count applies [] [] are = refl
rows_count applies [] (y ∷ xs) are = absurd are
rows_count applies (s ∷ rows) [] are = absurd are
rows_count applies (s ∷ rows) (y ∷ xs) are = ap suc (rows_count applies rows xs are.1)

numbers_with : (rows : List RowIn) (r : RowIn) → map (λ (x : RowIn). x.number) (rows ++ r ∷ []) ≡ map (λ (x : RowIn). x.number) rows ++ r.number ∷ []
numbers_with [] r = refl
numbers_with (x ∷ rows) r = ap (λ l. x.number ∷ l) (numbers_with rows r)

number_of : (n : ℕ) (rows : List RowIn) → IsIn n (map (λ (x : RowIn). x.number) rows) → (r : RowIn) × IsIn r rows × (n ≡ r.number)
number_of n [] has = absurd has
number_of n (x ∷ rows) (inl e) = (x, inl refl, e)
number_of n (x ∷ rows) (inr i) = let rest = number_of n rows i in (rest.0, inr rest.1, rest.2)

kept_number : (rows : List RowAt) (new : RowAt) (n : ℕ) → IsIn n (map (λ (x : RowAt). x.number) rows) → IsIn n (map (λ (x : RowAt). x.number) (rows ++ new ∷ []))
kept_number [] new n has = absurd has
kept_number (x ∷ rows) new n (inl e) = inl e
kept_number (x ∷ rows) new n (inr i) = inr (kept_number rows new n i)

new_number : (rows : List RowAt) (new : RowAt) → IsIn new.number (map (λ (x : RowAt). x.number) (rows ++ new ∷ []))
new_number [] new = inl refl
new_number (x ∷ rows) new = inr (new_number rows new)

-- a row with a number above this is kept, and another one is not
above_kept : (front : ℕ) (rows : List RowAt) (n : ℕ) → front < n → IsIn n (map (λ (x : RowAt). x.number) rows) → IsIn n (map (λ (x : RowAt). x.number) (rows_above front rows))
above_kept front [] n more has = absurd has
above_kept front (x ∷ rows) n more has = by_test (nat_lt front x.number) refl (above_kept front rows n more) has
  where
    above : n ≡ x.number → nat_lt front x.number ≡ true
    above e = lt-ltb front x.number (omega (arith, more, e))

    by_test : (b : Bool) → nat_lt front x.number ≡ b → (IsIn n (map (λ (y : RowAt). y.number) rows) → IsIn n (map (λ (y : RowAt). y.number) (rows_above front rows)))
        → IsIn n (x.number ∷ map (λ (y : RowAt). y.number) rows) → IsIn n (map (λ (y : RowAt). y.number) (if b then x ∷ rows_above front rows else rows_above front rows))
    by_test true test rest (inl e) = inl e
    by_test true test rest (inr i) = inr (rest i)
    by_test false test rest (inl e) = absurd (differs (sym test ∙ above e))
    by_test false test rest (inr i) = rest i

-- ---- the steps

module _ (makes : Makes) (listening : Listening) (bytes : Bytes) (places : Places) (told : List Entry) (came : ℕ → List Incoming) (i : LineView places) (stands : Stands makes bytes places told i)
    (is : InputsStand listening told came i) where
  apart : AreViewsApart i.inputs
  apart = views_apart i.inputs (inputs_apart (after makes start told).plans (inputs_of i.inputs) stands.knows.inputs).0

  -- behind entries that accept nothing from inputs, where nothing came and the inputs are the same
  quiet : (now : LineView places) (more : List Entry) → NoOpening more → ((n : ℕ) → of_each (row_accepted n) more ≡ []) → now.inputs ≡ i.inputs → next_in i.holds.queue ≤ next_in now.holds.queue
      → InputsStand listening (told ++ more) (and_came came []) now
  quiet now more none nothing inputs up = record {
    each = λ v has opens lines. quiet_stands listening told more (came v.number) (came v.number ++ []) v none (nothing v.number) (append-nil (came v.number)) (is.each v (subst (IsIn v) inputs has) opens lines);
    others = λ v has not_read. is.others v (subst (IsIn v) inputs has) not_read;
    none_yet = λ n least.
        let old = is.none_yet n (let same = ap length inputs in omega (arith, least, same)) in
        (append-nil (came n) ∙ old.0, told_none (row_accepted n) told more none (nothing n) ∙ old.1);
    below = λ n r has. let less = is.below n r (subst (IsIn r) (told_none (row_accepted n) told more none (nothing n)) has) in omega (arith, less, up);
  }

  -- behind entries that accept from one input alone, where that is changed
  one_changed : (now : LineView places) (more : List Entry) (fresh : List Came) (n : ℕ) (f : InputView → InputView) → NoOpening more → HasInput i n → now.inputs ≡ change_input f n i.inputs
      → ((v : InputView) → input_of (f v) ≡ input_of v) → ((k : ℕ) → (k ≡ n → ⊥) → (of_each (row_accepted k) more ≡ []) × (came_in k fresh ≡ []))
      → ((v : InputView) → input_at n i.inputs ≡ Some v → v.number ≡ n → v.is_open ≡ true → listening.address v.statement ≡ None → InputStands listening told (came v.number) v
      → InputStands listening (told ++ more) (and_came came fresh v.number) (f v))
      → ((v : InputView) → input_at n i.inputs ≡ Some v → ((v.is_open ≡ true) × (listening.address v.statement ≡ None) → ⊥) → v.rows ≡ [] → (f v).rows ≡ [])
      → ((k : ℕ) (r : RowIn) → IsIn r (rows_by k (told ++ more)) → r.number < next_in now.holds.queue) → InputsStand listening (told ++ more) (and_came came fresh) now
  one_changed now more fresh n f none h inputs keeps nothing stands_now rows_now below_now = record {
    each = λ u has opens lines. ⊎_elim
        (λ (o : IsIn u i.inputs × (u.number ≡ n → ⊥)).
        let no = nothing u.number o.1 in
        quiet_stands listening told more (came u.number) (and_came came fresh u.number) u none no.0 (ap (λ l. came u.number ++ l) no.1 ∙ append-nil (came u.number)) (is.each u o.0 opens lines))
        (λ (c : (v : InputView) × (input_at n i.inputs ≡ Some v) × IsIn v i.inputs × (u ≡ f v)).
        let v = c.0 in
        let same : input_of u ≡ input_of v = ap input_of c.3 ∙ keeps v in
        let was_open : v.is_open ≡ true = sym (ap (λ (x : Input). x.is_open) same) ∙ opens in
        let was_read : listening.address v.statement ≡ None = sym (ap (λ (x : Input). listening.address x.statement) same) ∙ lines in
        subst (InputStands listening (told ++ more) (and_came came fresh u.number)) (sym c.3)
        (subst (λ (k : ℕ). InputStands listening (told ++ more) (and_came came fresh k) (f v)) (sym (ap (λ (x : Input). x.number) same))
        (stands_now v c.1 (found_view n v i.inputs c.1).1 was_open was_read (is.each v c.2 was_open was_read))))
        (view_changed f n i.inputs apart u (subst (IsIn u) inputs has));
    others = λ u has not_read. ⊎_elim
        (λ (o : IsIn u i.inputs × (u.number ≡ n → ⊥)). is.others u o.0 not_read)
        (λ (c : (v : InputView) × (input_at n i.inputs ≡ Some v) × IsIn v i.inputs × (u ≡ f v)).
        let v = c.0 in
        let same : input_of u ≡ input_of v = ap input_of c.3 ∙ keeps v in
        let not_then : (v.is_open ≡ true) × (listening.address v.statement ≡ None) → ⊥ = λ read. not_read (ap (λ (x : Input). x.is_open) same ∙ read.0, ap (λ (x : Input). listening.address x.statement) same ∙ read.1) in
        ap (λ (x : InputView). x.rows) c.3 ∙ rows_now v c.1 not_then (is.others v c.2 not_then))
        (view_changed f n i.inputs apart u (subst (IsIn u) inputs has));
    none_yet = λ k least.
        let long = ap length inputs ∙ same_length in
        let other : k ≡ n → ⊥ = λ same. (let less = number_less in omega (arith, least, long, less, same)) in
        let no = nothing k other in
        let old = is.none_yet k (omega (arith, least, long)) in
        (ap (λ l. came k ++ l) no.1 ∙ append-nil (came k) ∙ old.0, told_none (row_accepted k) told more none no.0 ∙ old.1);
    below = below_now;
  }
    where
      same_length : length (change_input f n i.inputs) ≡ length i.inputs
      same_length = sym (length-map (change_input f n i.inputs) input_of) ∙ ap length (inputs_same f keeps n i.inputs) ∙ length-map i.inputs input_of

      number_less : n < length i.inputs
      number_less =
          let found = found_view n h.input i.inputs h.has in
          let less = (inputs_apart (after makes start told).plans (inputs_of i.inputs) stands.knows.inputs).1 (input_of h.input) (view_in h.input i.inputs found.0) in
          let same = found.1 in let long = length-map i.inputs input_of in omega (arith, less, same, long)

  none_for : (k n : ℕ) (new : List Incoming) → (k ≡ n → ⊥) → (if k == n then new else []) ++ [] ≡ []
  none_for k n new other = ap (λ (b : Bool). (if b then new else []) ++ []) (⊎_elim (λ (e : (k == n) ≡ true). absurd (other (eqb-true k n e))) (λ e. e) (cases_Bool (k == n)))

  all_for : (k n : ℕ) (new : List Incoming) → k ≡ n → (if k == n then new else []) ++ [] ≡ new
  all_for k n new same = ap (λ (b : Bool). (if b then new else []) ++ []) (eq-eqb k n same) ∙ append-nil new

  still_below : (more : List Entry) → NoOpening more → ((n : ℕ) → of_each (row_accepted n) more ≡ []) → (k : ℕ) (r : RowIn) → IsIn r (rows_by k (told ++ more)) → r.number < next_in i.holds.queue
  still_below more none nothing k r has = is.below k r (subst (IsIn r) (told_none (row_accepted k) told more none (nothing k)) has)

  -- more came to an input, which holds it
  more_held : (n : ℕ) (h : HasInput i n) (new : List Incoming)
      → InputsStand listening (told ++ []) (and_came came (record { input = n; events = new } ∷ [])) (record i { inputs = change_input (held_now (h.input.held ++ new)) n i.inputs })
  more_held n h new = one_changed (record i { inputs = change_input (held_now (h.input.held ++ new)) n i.inputs }) [] (record { input = n; events = new } ∷ []) n (held_now (h.input.held ++ new)) tt h refl (λ v. refl)
      (λ k other. (refl, none_for k n new other))
      (λ v found number opens lines old.
      let one = same_Some h.input v (sym h.has ∙ found) in
      same_stands listening (told ++ []) (came v.number ++ new) (and_came came (record { input = n; events = new } ∷ []) v.number) (held_now (h.input.held ++ new) v) (held_now (v.held ++ new) v) refl refl
      (ap (λ (x : InputView). x.held ++ new) one) refl (ap (λ l. came v.number ++ l) (all_for v.number n new number)) (held_stands listening told [] (came v.number) new v tt refl old))
      (λ v found not_read none. none) (still_below [] tt (λ k. refl))

  -- an event is accepted
  module _ (n : ℕ) (c : Comes listening i n) (r : IsRowFor listening i c.by.input c.first.event) where
    abbrev entry : Entry
    entry = Accept n None r.row.number r.row.event

    abbrev new_row : RowIn
    new_row = record { number = r.row.number; event = r.row.event }

    abbrev new_at : RowAt
    new_at = record { number = r.row.number; at = c.first.at }

    rows_of_others : (k : ℕ) → (k ≡ n → ⊥) → of_each (row_accepted k) (entry ∷ []) ≡ []
    rows_of_others k other = ap (λ (b : Bool). (if b then new_row ∷ [] else []) ++ []) (⊎_elim (λ (e : (k == n) ≡ true). absurd (other (eqb-true k n e))) (λ e. e) (cases_Bool (k == n)))

    rows_of_it : (k : ℕ) → k ≡ n → rows_by k (told ++ entry ∷ []) ≡ rows_by k told ++ new_row ∷ []
    rows_of_it k same = told_more (row_accepted k) told (entry ∷ []) tt ∙ ap (λ (b : Bool). rows_by k told ++ ((if b then new_row ∷ [] else []) ++ [])) (eq-eqb k n same)

    next_is : suc (next_in i.holds.queue) ≡ next_in (effect makes listening bytes i (m.Accepts n c r false)).line.holds.queue
    next_is = let next = next_with r.row r.before in let before = next_before listening i c.by.input c.first.event r in omega (arith, next, before)

    number_is : r.row.number ≡ next_in i.holds.queue
    number_is = r.number ∙ next_before listening i c.by.input c.first.event r

    accepted_below : (k : ℕ) (x : RowIn) → IsIn x (rows_by k (told ++ entry ∷ [])) → x.number < next_in (effect makes listening bytes i (m.Accepts n c r false)).line.holds.queue
    accepted_below k x has = ⊎_elim
        (λ (e : (k == n) ≡ true). ⊎_elim
        (λ (j : IsIn x (rows_by k told)). let less = is.below k x j in omega (arith, less, next_is))
        (λ (j : IsIn x (new_row ∷ [])). ⊎_elim (λ (s : x ≡ new_row). let same = ap (λ (y : RowIn). y.number) s in omega (arith, same, number_is, next_is)) (λ (never : ⊥). absurd never) j)
        (in_either x (rows_by k told) (new_row ∷ []) (subst (IsIn x) (rows_of_it k (eqb-true k n e)) has)))
        (λ (e : (k == n) ≡ false).
        let less = is.below k x (subst (IsIn x) (told_none (row_accepted k) told (entry ∷ []) tt (rows_of_others k (λ same. differs (sym e ∙ eq-eqb k n same)))) has) in omega (arith, less, next_is))
        (cases_Bool (k == n))

    module _ (v : InputView) (found : input_at n i.inputs ≡ Some v) (number : v.number ≡ n) (old : InputStands listening told (came v.number) v) where
      one : c.by.input ≡ v
      one = same_Some c.by.input v (sym c.by.has ∙ found)

      abbrev rows_then : List RowIn
      rows_then = rows_by v.number told

      rows_now : rows_by v.number (told ++ entry ∷ []) ≡ rows_then ++ new_row ∷ []
      rows_now = rows_of_it v.number number

      came_now : and_came came (record { input = n; events = c.came } ∷ []) v.number ≡ came v.number ++ c.came
      came_now = ap (λ l. came v.number ++ l) (all_for v.number n c.came number)

      all_came : came v.number ++ c.came ≡ old.accepted ++ c.first ∷ c.rest
      all_came =
          ap (λ l. l ++ c.came) old.came_is ∙ append_assoc old.accepted v.held c.came ∙ ap (λ l. old.accepted ++ l) (ap (λ (x : InputView). x.held ++ c.came) (sym one) ∙ c.next)

      accepted_stands : InputStands listening (told ++ entry ∷ []) (and_came came (record { input = n; events = c.came } ∷ []) v.number) (accepted_now c.rest new_at v)
      accepted_stands = record {
        accepted = old.accepted ++ c.first ∷ [];
        came_is = came_now ∙ all_came ∙ sym (append_assoc old.accepted (c.first ∷ []) c.rest);
        rows_are = subst (λ rs. AreRowsFor (listening.applies v.statement) rs (old.accepted ++ c.first ∷ [])) (sym rows_now)
            (rows_more (listening.applies v.statement) rows_then old.accepted new_row c.first old.rows_are (r.event_is ∙ ap (λ (x : InputView). listening.applies x.statement c.first.event) one));
        rise = subst (λ rs. Rise 0 (map (λ (x : RowIn). x.number) rs)) (sym rows_now)
            (subst (Rise 0) (sym (numbers_with rows_then new_row)) (rise_end 0 r.row.number (map (λ (x : RowIn). x.number) rows_then) old.rise (omega arith) below_it));
        known = λ x has. ⊎_elim (λ (j : IsIn x rows_then). known_still x (old.known x j))
            (λ (j : IsIn x (new_row ∷ [])). ⊎_elim (λ (e : x ≡ new_row). inr (subst (λ (y : RowIn). IsIn y.number (map (λ (z : RowAt). z.number) (v.rows ++ new_at ∷ []))) (sym e) (new_number v.rows new_at)))
            (λ (never : ⊥). absurd never) j) (in_either x rows_then (new_row ∷ []) (subst (IsIn x) rows_now has));
        placed = λ x has. ⊎_elim
            (λ (j : IsIn x v.rows). subst (λ l. IsPlaced l (rows_by v.number (told ++ entry ∷ [])) x) (sym came_now) (subst (λ rs. IsPlaced (came v.number ++ c.came) rs x) (sym rows_now)
            (placed_more listening (came v.number) c.came rows_then (new_row ∷ []) x (old.placed x j))))
            (λ (j : IsIn x (new_at ∷ [])). ⊎_elim (λ (e : x ≡ new_at). subst (IsPlaced _ _) (sym e) new_placed) (λ (never : ⊥). absurd never) j) (in_either x v.rows (new_at ∷ []) has);
      }
        where
          below_it : (k : ℕ) → IsIn k (map (λ (x : RowIn). x.number) rows_then) → k < r.row.number
          below_it k has = let x = number_of k rows_then has in let less = is.below v.number x.0 x.1 in let same = x.2 in omega (arith, less, same, number_is)

          known_still : (x : RowIn) → WasAssured told v.number x.number ⊎ IsIn x.number (map (λ (z : RowAt). z.number) v.rows)
              → WasAssured (told ++ entry ∷ []) v.number x.number ⊎ IsIn x.number (map (λ (z : RowAt). z.number) (v.rows ++ new_at ∷ []))
          known_still x (inl was) = inl (assured_still listening told (entry ∷ []) v.number x.number tt was)
          known_still x (inr kept) = inr (kept_number v.rows new_at x.number kept)

          new_placed : IsPlaced (and_came came (record { input = n; events = c.came } ∷ []) v.number) (rows_by v.number (told ++ entry ∷ [])) new_at
          new_placed = record {
            before = old.accepted;
            line = c.first;
            behind = c.rest;
            came_is = came_now ∙ all_came;
            rows_before = rows_then;
            row = new_row;
            rows_behind = [];
            rows_are = rows_now;
            as_many = rows_count (listening.applies v.statement) rows_then old.accepted old.rows_are;
            number_is = refl;
            at_is = refl;
          }

  -- an input is told
  module _ (n front : ℕ) where
    assured_stands : (v : InputView) → v.number ≡ n → InputStands listening told (came v.number) v → InputStands listening (told ++ Assure n front ∷ []) (and_came came [] v.number) (assured_now front v)
    assured_stands v number old =
        let same = told_none (row_accepted v.number) told (Assure n front ∷ []) tt refl in
        let came_same = append-nil (came v.number) in
        record {
          accepted = old.accepted;
          came_is = came_same ∙ old.came_is;
          rows_are = subst (λ rs. AreRowsFor (listening.applies v.statement) rs old.accepted) (sym same) old.rows_are;
          rise = subst (λ rs. Rise 0 (map (λ (r : RowIn). r.number) rs)) (sym same) old.rise;
          known = λ r has. now_known r (old.known r (subst (IsIn r) same has));
          placed = λ r has.
              subst (λ l. IsPlaced l (rows_by v.number (told ++ Assure n front ∷ [])) r) (sym came_same)
              (subst (λ rs. IsPlaced (came v.number) rs r) (sym same) (old.placed r (filter_has r (λ (x : RowAt). nat_lt front x.number) v.rows has)));
        }
      where
        told_now : WasAssured (told ++ Assure n front ∷ []) v.number front
        told_now = (
          front,
          subst (λ (k : ℕ). IsIn (Assure k front) (since (told ++ Assure n front ∷ []))) (sym number)
              (subst (IsIn (Assure n front)) (sym (since_more told (Assure n front ∷ []) tt)) (in_behind (Assure n front) (since told) (Assure n front ∷ []) (inl refl))),
          omega arith,
        )

        now_known : (r : RowIn) → WasAssured told v.number r.number ⊎ IsIn r.number (map (λ (x : RowAt). x.number) v.rows)
            → WasAssured (told ++ Assure n front ∷ []) v.number r.number ⊎ IsIn r.number (map (λ (x : RowAt). x.number) (rows_above front v.rows))
        now_known r (inl was) = inl (assured_still listening told (Assure n front ∷ []) v.number r.number tt was)
        now_known r (inr kept) = ⊎_elim
            (λ (above : nat_lt front r.number ≡ true). inr (above_kept front v.rows r.number (ltb-true front r.number above) kept))
            (λ (not_above : nat_lt front r.number ≡ false). inl (told_now.0, told_now.1, ltb-false front r.number not_above))
            (cases_Bool (nat_lt front r.number))

  -- an adoption: inputs that go on stand as they did, and others begin
  module _ (c : Changes listening i) where
    abbrev adopt : Entry
    adopt = Adopt c.plan.generation c.plan.config c.plan.draws

    abbrev names : List (Plugin × List ℕ)
    names = named_from 1 c.plan.config.inputs

    -- the view of an input, by whether it is an old one
    abbrev ViewOf : Input → InputView → Type 0
    ViewOf x v =
        ((w : InputView) × IsIn w i.inputs × (v ≡ gone_on x w) × (w.number ≡ x.number) × (w.statement ≡ x.statement) × (x.is_open ≡ true → w.is_open ≡ true))
        ⊎ ((v ≡ begun x) × (length i.inputs ≤ x.number))

    view_is_of : (x : Input) → IsIn x c.inputs → ViewOf x (carried i.inputs x)
    view_is_of x has = ⊎_elim
        (λ (o : IsOld x (inputs_of i.inputs)).
        let w = in_view o.was i.inputs o.has in
        let same_number : w.0.number ≡ x.number = sym (ap (λ (y : Input). y.number) w.2) ∙ o.number in
        inl (
          w.0,
          w.1,
          ap (view_of x) (ap (λ (k : ℕ). input_at k i.inputs) (sym same_number) ∙ view_found w.0 i.inputs apart w.1),
          same_number,
          sym (ap (λ (y : Input). y.statement) w.2) ∙ o.statement,
          λ opens. sym (ap (λ (y : Input). y.is_open) w.2) ∙ o.still_open opens,
        ))
        (λ (new : (length (inputs_of i.inputs) ≤ x.number) × (x.number + length (inputs_of i.inputs) < length (inputs_of i.inputs) + length c.inputs)).
        let least = new.0 in let long = length-map i.inputs input_of in
        inr (ap (view_of x) (none_at (omega (arith, least, long)) (input_at x.number i.inputs) refl), omega (arith, least, long)))
        (renumbered_has (length (inputs_of i.inputs)) (inputs_of i.inputs) names c.inputs c.renumbered x has)
      where
        none_at : length i.inputs ≤ x.number → (o : Option InputView) → input_at x.number i.inputs ≡ o → input_at x.number i.inputs ≡ None
        none_at least None e = e
        none_at least (Some w) e =
            let found = found_view x.number w i.inputs e in
            let less = (inputs_apart (after makes start told).plans (inputs_of i.inputs) stands.knows.inputs).1 (input_of w) (view_in w i.inputs found.0) in
            absurd (let same = found.1 in let long = length-map i.inputs input_of in omega (arith, less, same, long, least))

    adopted_each : (x : Input) (v : InputView) → ViewOf x v → v.is_open ≡ true → listening.address v.statement ≡ None → InputStands listening (told ++ adopt ∷ []) (and_came came [] v.number) v
    adopted_each x v (inl old) opens lines =
        let w = old.0 in
        let view = old.2 in
        let x_open : x.is_open ≡ true = sym (ap (λ (y : InputView). y.is_open) view) ∙ opens in
        let number : v.number ≡ w.number = ap (λ (y : InputView). y.number) view ∙ sym old.3 in
        let statement : v.statement ≡ w.statement = ap (λ (y : InputView). y.statement) view ∙ sym old.4 in
        same_stands listening (told ++ adopt ∷ []) (came w.number) (and_came came [] v.number) v w number statement
        (ap (λ (y : InputView). y.held) view ∙ ap (λ (b : Bool). if b then w.held else []) x_open)
        (ap (λ (y : InputView). y.rows) view ∙ ap (λ (b : Bool). if b then w.rows else []) x_open)
        (append-nil (came v.number) ∙ ap came number)
        (quiet_stands listening told (adopt ∷ []) (came w.number) (came w.number) w tt refl refl (is.each w old.1 (old.5 x_open) (sym (ap listening.address statement) ∙ lines)))
    adopted_each x v (inr new) opens lines =
        let number : v.number ≡ x.number = ap (λ (y : InputView). y.number) new.0 in
        let least = new.1 in
        let none = is.none_yet v.number (omega (arith, least, number)) in
        let rows : rows_by v.number (told ++ adopt ∷ []) ≡ [] = told_none (row_accepted v.number) told (adopt ∷ []) tt refl ∙ none.1 in
        let kept : v.rows ≡ [] = ap (λ (y : InputView). y.rows) new.0 in
        record {
          accepted = [];
          came_is = append-nil (came v.number) ∙ none.0 ∙ sym (ap (λ (y : InputView). y.held) new.0);
          rows_are = subst (λ rs. AreRowsFor (listening.applies v.statement) rs []) (sym rows) tt;
          rise = subst (λ rs. Rise 0 (map (λ (r : RowIn). r.number) rs)) (sym rows) tt;
          known = λ r has. absurd (subst (IsIn r) rows has);
          placed = λ r has. absurd (subst (IsIn r) kept has);
        }

    adopted_others : (x : Input) (v : InputView) → ViewOf x v → ((v.is_open ≡ true) × (listening.address v.statement ≡ None) → ⊥) → v.rows ≡ []
    adopted_others x v (inl old) not_read = ap (λ (y : InputView). y.rows) old.2 ∙ by_open x.is_open refl
      where
        by_open : (b : Bool) → x.is_open ≡ b → (if b then old.0.rows else []) ≡ []
        by_open true opens = is.others old.0 old.1
            (λ read. not_read (ap (λ (y : InputView). y.is_open) old.2 ∙ opens, ap listening.address (ap (λ (y : InputView). y.statement) old.2 ∙ sym old.4) ∙ read.1))
        by_open false closed = refl
    adopted_others x v (inr new) not_read = ap (λ (y : InputView). y.rows) new.0

    adopted_stand : (now : LineView places) → now.inputs ≡ map (carried i.inputs) c.inputs → next_in i.holds.queue ≤ next_in now.holds.queue → InputsStand listening (told ++ adopt ∷ []) (and_came came []) now
    adopted_stand now inputs up = record {
      each = λ v has opens lines.
          let x = carried_from i.inputs c.inputs v (subst (IsIn v) inputs has) in
          adopted_each x.0 v (subst (ViewOf x.0) (sym x.2) (view_is_of x.0 x.1)) opens lines;
      others = λ v has not_read.
          let x = carried_from i.inputs c.inputs v (subst (IsIn v) inputs has) in
          adopted_others x.0 v (subst (ViewOf x.0) (sym x.2) (view_is_of x.0 x.1)) not_read;
      none_yet = λ n least.
          let long = ap length inputs ∙ length-map c.inputs (carried i.inputs) in
          let more = renumbered_length (length (inputs_of i.inputs)) (inputs_of i.inputs) names c.inputs c.renumbered in
          let before = length-map i.inputs input_of in
          let old = is.none_yet n (omega (arith, least, long, more, before)) in
          (append-nil (came n) ∙ old.0, told_none (row_accepted n) told (adopt ∷ []) tt refl ∙ old.1);
      below = λ n r has. let less = still_below (adopt ∷ []) tt (λ k. refl) n r has in omega (arith, less, up);
    }

  inputs_stand : (x : Step makes listening bytes i) → GoesOn makes listening bytes i x
      → InputsStand listening (told ++ (effect makes listening bytes i x).told) (and_came came (effect makes listening bytes i x).came) (effect makes listening bytes i x).line
  inputs_stand (m.Accepts n c r false) on =
      one_changed (effect makes listening bytes i (m.Accepts n c r false)).line (entry n c r ∷ []) (record { input = n; events = c.came } ∷ []) n (accepted_now c.rest (new_at n c r)) tt c.by refl (λ v. refl)
      (λ k other. (rows_of_others n c r k other, none_for k n c.came other))
      (λ v found number opens lines old. accepted_stands n c r v found number old)
      (λ v found not_read none. absurd (not_read_now v found not_read)) (accepted_below n c r)
    where
      not_read_now : (v : InputView) → input_at n i.inputs ≡ Some v → ((v.is_open ≡ true) × (listening.address v.statement ≡ None) → ⊥) → ⊥
      not_read_now v found not_read =
          let one = same_Some c.by.input v (sym c.by.has ∙ found) in
          not_read (ap (λ (x : InputView). x.is_open) (sym one) ∙ c.reads.is_open, ap (λ (x : InputView). listening.address x.statement) (sym one) ∙ c.reads.no_address)
  inputs_stand (m.Accepts n c r true) on = absurd on
  inputs_stand (m.Accepts_parcel n a r false) on =
      let next = next_with r.row r.before in let before = next_before listening i a.by.input a.event r in
      quiet _ (Accept n (Some a.at) r.row.number r.row.event ∷ []) tt (λ k. refl) refl (omega (arith, next, before))
  inputs_stand (m.Accepts_parcel n a r true) on = absurd on
  inputs_stand (m.Is_at_its_end n h opens lines none) on =
      one_changed (record i { inputs = change_input ended_now n i.inputs }) [] [] n ended_now tt h refl (λ v. refl) (λ k other. (refl, refl))
      (λ v found number opens_v lines_v old.
      same_stands listening (told ++ []) (came v.number) (and_came came [] v.number) (ended_now v) v refl refl refl refl (append-nil (came v.number))
      (quiet_stands listening told [] (came v.number) (came v.number) v tt refl refl old))
      (λ v found not_read no_rows. no_rows) (still_below [] tt (λ k. refl))
  inputs_stand (m.Holds_more n h reads new answer none) on = more_held n h new
  inputs_stand (m.Tells n parts rest h a) on =
      quiet _ _ (unopened makes listening bytes i (m.Tells n parts rest h a)) (λ k. letters_each (row_accepted k) (λ b o w. refl) (λ b l. refl) n a.shed parts) refl (omega arith)
  inputs_stand (m.Is_rejected n id number events rest h fates fit some a) on =
      quiet _ _ (unopened makes listening bytes i (m.Is_rejected n id number events rest h fates fit some a))
      (λ k. rejected_each (row_accepted k) (λ b o w. refl) (λ b l. refl) n a.shed (rejections h.batch.plan.config id fates events) (Deliver n (place.Foreign number) events fates)) refl (omega arith)
  inputs_stand (m.Acknowledges_it n h queue a) on = let count = a.more.count in let least = a.more.least in quiet _ _ tt (λ k. refl) refl (omega (arith, count, least))
  inputs_stand (m.Assures n front h marks) on =
      one_changed (record i { inputs = change_input (assured_now front) n i.inputs }) (Assure n front ∷ []) [] n (assured_now front) tt h refl (λ v. refl) (λ k other. (refl, refl))
      (λ v found number opens lines old. assured_stands n front v number old) (λ v found not_read none. ap (rows_above front) none) (still_below (Assure n front ∷ []) tt (λ k. refl))
  inputs_stand (m.Adopts c) on = adopted_stand c _ refl (omega arith)
  inputs_stand x on = quiet _ _ (unopened makes listening bytes i x) (λ k. refl) refl (omega arith)

pub inputs_stand_still : (makes : Makes) (listening : Listening) (bytes : Bytes) (places : Places) → InputsStandStill makes listening bytes places
inputs_stand_still makes listening bytes places told came i x stands is on = inputs_stand makes listening bytes places told came i stands is x on

pub opened_inputs_stand : (makes : Makes) (listening : Listening) (bytes : Bytes) (places : Places) → OpenedInputsStand makes listening bytes places
opened_inputs_stand makes listening bytes places told image sound i is = record {
  each = λ v has opens lines.
      let x = begun_from is.inputs v (subst (IsIn v) is.begun_all has) in
      let kept : v.rows ≡ [] = ap (λ (y : InputView). y.rows) x.2 in
      record {
        accepted = [];
        came_is = sym (ap (λ (y : InputView). y.held) x.2);
        rows_are = subst (λ rs. AreRowsFor (listening.applies v.statement) rs []) (sym (none v.number)) tt;
        rise = subst (λ rs. Rise 0 (map (λ (r : RowIn). r.number) rs)) (sym (none v.number)) tt;
        known = λ r j. absurd (subst (IsIn r) (none v.number) j);
        placed = λ r j. absurd (subst (IsIn r) kept j);
      };
  others = λ v has not_read. ap (λ (y : InputView). y.rows) (begun_from is.inputs v (subst (IsIn v) is.begun_all has)).2;
  none_yet = λ n least. (refl, none n);
  below = λ n r has. absurd (subst (IsIn r) (none n) has);
}
  where
    none : (n : ℕ) → of_each (row_accepted n) (since (told ++ opening makes listening bytes places told image sound i)) ≡ []
    none n = opened_each (row_accepted n) told sound.rows.rows i.limits.limit i.limits.policy (Adopt i.plan.generation i.plan.config i.plan.draws ∷ []) tt

    begun_from : (xs : List Input) (v : InputView) → IsIn v (map begun xs) → (x : Input) × IsIn x xs × (v ≡ begun x)
    begun_from [] v has = absurd has
    begun_from (x ∷ xs) v (inl e) = (x, inl refl, e)
    begun_from (x ∷ xs) v (inr j) = let rest = begun_from xs v j in (rest.0, inr rest.1, rest.2)

-- ---- places that are recorded

-- it is the place of one of these rows
last_from : (rows : List RowAt) (f : FileAt) → IsIn f (last_places rows) → (r : RowAt) × IsIn r rows × (r.at ≡ Some f)
last_from [] f has = absurd has
last_from (x ∷ rows) f has = ⊎_elim (λ (j : IsIn f (unless_later rows x.at)). (x, inl refl, of_first x.at j)) (λ (j : IsIn f (last_places rows)). let rest = last_from rows f j in (rest.0, inr rest.1, rest.2))
    (in_either f (unless_later rows x.at) (last_places rows) has)
  where
    of_first : (at : Option FileAt) → IsIn f (unless_later rows at) → at ≡ Some f
    of_first None j = absurd j
    of_first (Some g) j = by_test (list_any (λ (r : RowAt). is_of_file g.path r.at) rows) j
      where
        by_test : (b : Bool) → IsIn f (if b then [] else g ∷ []) → Some g ≡ Some f
        by_test true k = absurd k
        by_test false (inl e) = ap Some (sym e)
        by_test false (inr never) = absurd never

-- numbers before one of a list that rises are smaller
rise_before : (from : ℕ) (before : List RowIn) (x : RowIn) (behind : List RowIn) → Rise from (map (λ (r : RowIn). r.number) (before ++ x ∷ behind)) → (from ≤ x.number) × ((r : RowIn) → IsIn r before → r.number < x.number)
rise_before from [] x behind rise = (rise.0, λ r has. absurd has)
rise_before from (y ∷ before) x behind rise =
    let rest = rise_before (suc y.number) before x behind rise.1 in
    let first = rise.0 in
    let less = rest.0 in (
      omega (arith, first, less),
      λ r has. ⊎_elim (λ (e : r ≡ y). let same = ap (λ (z : RowIn). z.number) e in omega (arith, same, less)) (λ (j : IsIn r before). rest.1 r j) has,
    )

module _ (makes : Makes) (listening : Listening) (bytes : Bytes) (places : Places) (told : List Entry) (came : ℕ → List Incoming) (i : LineView places) (stands : Stands makes bytes places told i)
    (is : InputsStand listening told came i) where
  settled_place : (n front : ℕ) (h : HasInput i n) → i.mark ≡ Some front → (f : FileAt) → IsIn f (last_places (rows_up_to front h.input.rows)) → (v : InputView) × IsIn v i.inputs × (v.is_open ≡ true) × (listening.address v.statement ≡ None) × IsSettledUpTo makes told v.number (came v.number) f
  settled_place n front h marks f has = by_read h.input.is_open refl (listening.address h.input.statement) refl
    where
      its : (r : RowAt) × IsIn r (rows_up_to front h.input.rows) × (r.at ≡ Some f)
      its = last_from (rows_up_to front h.input.rows) f has

      kept : IsIn its.0 h.input.rows
      kept = filter_has its.0 (λ (x : RowAt). not (nat_lt front x.number)) h.input.rows its.1

      up_to : its.0.number ≤ front
      up_to = passes_up (nat_lt front its.0.number) refl (filter_passes its.0 (λ (x : RowAt). not (nat_lt front x.number)) h.input.rows its.1)
        where
          passes_up : (b : Bool) → nat_lt front its.0.number ≡ b → not b ≡ true → its.0.number ≤ front
          passes_up true test passes = absurd (differs passes)
          passes_up false test passes = ltb-false front its.0.number test

      there : IsIn h.input i.inputs
      there = (found_view n h.input i.inputs h.has).0

      unread : ((h.input.is_open ≡ true) × (listening.address h.input.statement ≡ None) → ⊥) → ⊥
      unread not_read = subst (IsIn its.0) (is.others h.input there not_read) kept

      settled : h.input.is_open ≡ true → listening.address h.input.statement ≡ None → IsSettledUpTo makes told h.input.number (came h.input.number) f
      settled opens lines =
          let old = is.each h.input there opens lines in
          let at = old.placed its.0 kept in
          let rise = rise_before 0 at.rows_before at.row at.rows_behind (subst (λ rs. Rise 0 (map (λ (r : RowIn). r.number) rs)) at.rows_are old.rise) in
          let front_is = stands.knows.mark front marks in
          let number = at.number_is in
          record {
            before = at.before;
            line = at.line;
            behind = at.behind;
            came_is = at.came_is;
            at_is = at.at_is ∙ its.2;
            rows = at.rows_before ++ at.row ∷ [];
            rest = at.rows_behind;
            rows_are = at.rows_are ∙ sym (append_assoc at.rows_before (at.row ∷ []) at.rows_behind);
            as_many = length-append at.rows_before (at.row ∷ []) ∙ (let same = at.as_many in omega (arith, same));
            settled = λ r j. ⊎_elim (λ (k : IsIn r at.rows_before). let less = rise.1 r k in omega (arith, less, number, up_to, front_is))
                (λ (k : IsIn r (at.row ∷ [])). ⊎_elim (λ (e : r ≡ at.row). let same = ap (λ (x : RowIn). x.number) e in omega (arith, same, number, up_to, front_is)) (λ (never : ⊥). absurd never) k)
                (in_either r at.rows_before (at.row ∷ []) j);
          }

      by_read : (b : Bool) → h.input.is_open ≡ b → (address : Option (List ℕ)) → listening.address h.input.statement ≡ address → (v : InputView) × IsIn v i.inputs × (v.is_open ≡ true) × (listening.address v.statement ≡ None) × IsSettledUpTo makes told v.number (came v.number) f
      by_read true opens None lines = (h.input, there, opens, lines, settled opens lines)
      by_read true opens (Some address) listens = absurd (unread (λ read. none_some address (sym read.1 ∙ listens)))
      by_read false closed address listens = absurd (unread (λ read. differs (sym closed ∙ read.0)))

  recorded_settled : (x : Step makes listening bytes i) (f : FileAt) → IsIn f (effect makes listening bytes i x).recorded → (v : InputView) × IsIn v i.inputs × (v.is_open ≡ true) × (listening.address v.statement ≡ None) × IsSettledUpTo makes told v.number (came v.number) f
  recorded_settled (m.Assures n front h marks) f has = settled_place n front h marks f has
  recorded_settled (m.Fails_to_assure n front h marks) f has = settled_place n front h marks f has
  recorded_settled x f has = absurd has

pub recorded_are_settled : (makes : Makes) (listening : Listening) (bytes : Bytes) (places : Places) → RecordedAreSettled makes listening bytes places
recorded_are_settled makes listening bytes places told came i x stands is = recorded_settled makes listening bytes places told came i stands is x
