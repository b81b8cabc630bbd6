-- What a line took from links and answered stands beside what it told, behind each step.
use Rattle.std.proofs.Common.{◌≡◌, inl, inr, ⊎_elim, ℕ, zero, suc, ◌<◌, ◌≤◌, ◌==◌, ◌&&◌, Bool, true, false, List, [], ◌∷◌, ◌++◌, map, Option, Some, if◌then◌else◌, refl, sym, ap, ◌∙◌, subst, arith, append-nil}
use Rattle.std.proofs.lemmas.Bool.{cases_Bool, eqb-true}
use Rattle.std.proofs.lemmas.Option.{same_Some}
use Rattle.event_tree.specs.declared.lists.DeadPart.{DeadPart}
use Rattle.pipeline_bus.specs.declared.parcel.Heard.{Heard}
use Rattle.pipeline_bus.specs.declared.parcel.Heard.TheVariants.{Assured, NotListening}
use Rattle.pipeline_bus.specs.declared.parcel.Parcel.{Parcel}
use Rattle.event_flow.specs.Meaning.{Makes}
use Rattle.dead_letters.specs.Appends.{kept_from}
use Rattle.foreign_parts.specs.declared.place.Place.TheVariants as place
use Rattle.history_book.specs.Contents.{Bytes}
use Rattle.history_book.specs.Entries.{Entry, ParcelAt, Accept, Mark, Deliver, Letters}
use Rattle.history_book.specs.Inputs.{Input}
use Rattle.history_book.specs.Links.{Listening, IsMadeOf, MayAnswer, rows_of}
use Rattle.history_book.specs.Legal.{rejections}
use Rattle.history_book.specs.Lists.{IsIn, Rise}
use Rattle.history_book.specs.Sound.{Places}
use Rattle.history_book.specs.States.{Written, State, start, written, after}
use Rattle.history_book.proofs.Histories.{after_both}
use Rattle.history_book.proofs.Lists.{in_either}
use Rattle.line_machine.specs.Answering.{own_link, rows_at, TakerStands, LinksStand, AnswersStand, OpenedLinksStand}
use Rattle.line_machine.specs.Ends.{Waiting, TakerView, AreApart, Taken, Takes, taker_at, change_taker, without_taker, took, row_made, assured, refused}
use Rattle.line_machine.specs.Openings.{opening}
use Rattle.line_machine.specs.Stands.{Stands}
use Rattle.line_machine.specs.Steps as m
use Rattle.line_machine.specs.Effects.{shed_told, letters_told}
use Rattle.line_machine.specs.Finds.{AreNew, IsEndBehind, AreEndsBehind, ends_served, IsRowFor, Arrives}
use Rattle.line_machine.specs.Steps.{Step, effect, GoesOn}
use Rattle.line_machine.specs.Views.{LineView, input_of}
use Rattle.line_machine.proofs.Inputs.{is_input}
use Rattle.line_machine.proofs.Rows.{NoRows, NoMark, rows_same, mark_same, accept_row, front_same, opened_rows}
use Rattle.line_machine.proofs.Takers.{IsChangedTaker, taker_changed, place_before, apart_changed, taker_in, told_more, took_stands, assured_stands, refused_stands, row_made_stands}

-- ---- entries that name no parcel, and mark nothing

shed_none : (n older : ℕ) (newer : List ℕ) (rest : List Entry) → NoRows rest → NoMark rest → NoRows (shed_told n older newer ++ rest) × NoMark (shed_told n older newer ++ rest)
shed_none n zero [] rest rows mark = (rows, mark)
shed_none n zero (x ∷ newer) rest rows mark = (rows, mark)
shed_none n (suc older) newer rest rows mark = (rows, mark)

letters_none : (n older : ℕ) (newer : List ℕ) (letters : List DeadPart) (rest : List Entry) → NoRows rest → NoMark rest
    → NoRows ((shed_told n older newer ++ Letters n letters ∷ []) ++ rest) × NoMark ((shed_told n older newer ++ Letters n letters ∷ []) ++ rest)
letters_none n zero [] letters rest rows mark = (rows, mark)
letters_none n zero (x ∷ newer) letters rest rows mark = (rows, mark)
letters_none n (suc older) newer letters rest rows mark = (rows, mark)

module _ (makes : Makes) (listening : Listening) where
  -- the ends stand behind further entries
  carried_on : (told more : List Entry) (ts : List TakerView) (next_place : ℕ) → ((at : ParcelAt) → rows_of makes at (told ++ more) ≡ rows_of makes at told)
      → (after makes start told).front ≤ (after makes start (told ++ more)).front → LinksStand makes listening told ts next_place → LinksStand makes listening (told ++ more) ts next_place
  carried_on told more ts next_place same less is = record {
    each = λ t has. told_more makes listening told (told ++ more) t (λ number. same (record { place = t.place; number = number })) less (is.each t has);
    apart = is.apart;
    below = is.below;
    no_others = λ at least. same at ∙ is.no_others at least;
  }

  still : (told more : List Entry) (ts : List TakerView) (next_place : ℕ) → NoRows more → NoMark more → LinksStand makes listening told ts next_place → LinksStand makes listening (told ++ more) ts next_place
  still told more ts next_place rows mark is =
      carried_on told more ts next_place (λ at. rows_same makes at told more rows) (let same = front_same makes told more mark in omega (arith, same)) is

  quiet_still : (told : List Entry) (ts : List TakerView) (next_place : ℕ) → LinksStand makes listening told ts next_place → LinksStand makes listening (told ++ []) ts next_place
  quiet_still told ts next_place is = subst (λ l. LinksStand makes listening l ts next_place) (sym (append-nil told)) is

  -- one end is another
  one_changed : (told : List Entry) (ts : List TakerView) (f : TakerView → TakerView) (place next_place : ℕ) → ((t : TakerView) → (f t).place ≡ t.place) → LinksStand makes listening told ts next_place
      → ((t : TakerView) → IsIn t ts → taker_at place ts ≡ Some t → TakerStands makes listening told (f t)) → LinksStand makes listening told (change_taker f place ts) next_place
  one_changed told ts f place next_place keeps is stands = record {
    each = λ u has. ⊎_elim (λ (o : IsIn u ts × (u.place ≡ place → ⊥)). is.each u o.0)
        (λ (c : IsChangedTaker f keeps place ts u). subst (TakerStands makes listening told) (sym c.is) (stands c.was c.is_in c.has)) (taker_changed f keeps place ts is.apart u has);
    apart = apart_changed f keeps place ts is.apart;
    below = λ u has. let was = place_before f keeps place ts u has in let less = is.below was.0 was.1 in let same = was.2 in omega (arith, less, same);
    no_others = is.no_others;
  }

  -- parcels are taken
  taken_stand : (told : List Entry) (only : Option (List ℕ)) (n : ℕ) (xs : List Taken) (old new : List TakerView) (next_place : ℕ) → Takes only n xs old new → LinksStand makes listening told old next_place
      → LinksStand makes listening told new next_place
  taken_stand told only n [] old new next_place same is = subst (λ ts. LinksStand makes listening told ts next_place) (sym same) is
  taken_stand told only n (x ∷ xs) old new next_place takes is =
      taken_stand told only n xs (change_taker (took x.parcel) x.place old) new next_place takes.1
      (one_changed told old (took x.parcel) x.place next_place (λ t. refl) is
      (λ t has found.
      let one = same_Some takes.0.taker t (sym takes.0.has ∙ found) in
      took_stands makes listening told t (is.each t has) x.parcel (λ some. takes.0.next some ∙ ap (λ (u : TakerView). u.next) one)))

  -- an end whose input is closed
  closed_stands : (told : List Entry) (t : TakerView) (lost : List Parcel) → TakerStands makes listening told t → TakerStands makes listening told (record t { listens = false; lost = lost })
  closed_stands told t lost is = record {
    sound = record { made = is.sound.made; known = is.sound.known; answers = λ a has. answer a.number a.answer (is.sound.answers a has) };
    waits = λ w has.
        let was = is.waits w has in
        record { parcel = was.parcel; taken = was.taken; number = was.number; some = was.some; events = was.events; rows = was.rows };
    rise = is.rise;
    waits_next = is.waits_next;
    given_before = is.given_before;
    given_next = is.given_next;
    taken_next = is.taken_next;
    accounted = is.accounted;
    unique = is.unique;
  }
    where
      answer : (number : ℕ) (h : Heard) → MayAnswer makes listening told (own_link t) number h → MayAnswer makes listening told (own_link (record t { listens = false; lost = lost })) number h
      answer number Assured was = record { parcel = was.parcel; is_taken = was.is_taken; number_is = was.number_is; some = was.some; whole = was.whole; settled = was.settled }
      answer number NotListening was = was

module _ (makes : Makes) (listening : Listening) (bytes : Bytes) (places : Places) where
  end_behind : (told : List Entry) (inputs : List Input) (t u : TakerView) → IsEndBehind inputs t u → TakerStands makes listening told t → TakerStands makes listening told u
  end_behind told inputs t u (inl open_now) is = subst (TakerStands makes listening told) (sym open_now.1) is
  end_behind told inputs t u (inr (inl still_closed)) is = subst (TakerStands makes listening told) (sym still_closed.2) is
  end_behind told inputs t u (inr (inr closed)) is = subst (TakerStands makes listening told) (sym closed.4) (closed_stands makes listening told t closed.2 is)

  ends_behind : (told : List Entry) (inputs : List Input) (old new : List TakerView) → AreEndsBehind inputs old new → ((t : TakerView) → IsIn t old → TakerStands makes listening told t)
      → (t : TakerView) → IsIn t new → TakerStands makes listening told t
  ends_behind told inputs [] new same each t has = absurd (subst (IsIn t) same has)
  ends_behind told inputs (x ∷ old) new same each t has = of_parts (ends_behind told inputs old same.1 same.4 (λ u j. each u (inr j)) t) (subst (IsIn t) same.2 has)
    where
      of_parts : (IsIn t same.1 → TakerStands makes listening told t) → IsIn t (same.0 ∷ same.1) → TakerStands makes listening told t
      of_parts rest (inl e) = subst (TakerStands makes listening told) (sym e) (end_behind told inputs x same.0 same.3 (each x (inl refl)))
      of_parts rest (inr i) = rest i

  -- the places are the same
  place_behind : (inputs : List Input) (t u : TakerView) → IsEndBehind inputs t u → u.place ≡ t.place
  place_behind inputs t u (inl open_now) = ap (λ (x : TakerView). x.place) open_now.1
  place_behind inputs t u (inr (inl still_closed)) = ap (λ (x : TakerView). x.place) still_closed.2
  place_behind inputs t u (inr (inr closed)) = ap (λ (x : TakerView). x.place) closed.4

  same_place : (inputs : List Input) (old new : List TakerView) → AreEndsBehind inputs old new → (u : TakerView) → IsIn u new → (t : TakerView) × IsIn t old × (u.place ≡ t.place)
  same_place inputs [] new same u has = absurd (subst (IsIn u) same has)
  same_place inputs (x ∷ old) new same u has = of_parts (same_place inputs old same.1 same.4 u) (subst (IsIn u) same.2 has)
    where
      of_parts : (IsIn u same.1 → (t : TakerView) × IsIn t old × (u.place ≡ t.place)) → IsIn u (same.0 ∷ same.1) → (t : TakerView) × IsIn t (x ∷ old) × (u.place ≡ t.place)
      of_parts rest (inl e) = (x, inl refl, ap (λ (y : TakerView). y.place) e ∙ place_behind inputs x same.0 same.3)
      of_parts rest (inr i) = let r = rest i in (r.0, inr r.1, r.2)

  -- new ends stand, since no row names them
  new_stands : (told : List Entry) (t : TakerView) → (t.taken ≡ []) × (t.given ≡ []) × (t.waits ≡ []) × (t.lost ≡ []) → ((number : ℕ) → rows_at makes listening told t number ≡ []) → TakerStands makes listening told t
  new_stands told t none no_rows = record {
    sound = record {
      made = λ p has some. absurd (subst (IsIn p) none.0 has);
      known = λ number some. absurd (some (no_rows number));
      answers = λ a has. absurd (subst (IsIn a) none.1 has);
    };
    waits = λ w has. absurd (subst (IsIn w) none.2 has);
    rise = subst (λ (ws : List Waiting). Rise 0 (map (λ (w : Waiting). w.number) ws)) (sym none.2) tt;
    waits_next = λ w has. absurd (subst (IsIn w) none.2 has);
    given_before = λ a has w i. absurd (subst (IsIn a) none.1 has);
    given_next = λ a has. absurd (subst (IsIn a) none.1 has);
    taken_next = λ p has some. absurd (subst (IsIn p) none.0 has);
    accounted = λ p has some. absurd (subst (IsIn p) none.0 has);
    unique = λ p q i j some_p some_q same. absurd (subst (IsIn p) none.0 i);
  }

  with_new : (told : List Entry) (old now new : List TakerView) (from to : ℕ) → LinksStand makes listening told old from → ((t : TakerView) → IsIn t now → TakerStands makes listening told t)
      → ((t : TakerView) → IsIn t now → t.place < from) → AreNew now new from to → LinksStand makes listening told (now ++ new) to
  with_new told old now new from to is each below are = record {
    each = λ t i. ⊎_elim (λ (j : IsIn t now). each t j)
        (λ (j : IsIn t new). new_stands told t (are.unused t j) (λ number. is.no_others (record { place = t.place; number = number }) (are.places t j).0)) (in_either t now new i);
    apart = are.apart;
    below = λ t i. ⊎_elim (λ (j : IsIn t now). let less = below t j in let more = are.rise in omega (arith, less, more)) (λ (j : IsIn t new). (are.places t j).1) (in_either t now new i);
    no_others = λ at least. is.no_others at (let more = are.rise in omega (arith, least, more));
  }

  -- an end that leaves
  without_in : (place : ℕ) (ts : List TakerView) (u : TakerView) → IsIn u (without_taker place ts) → IsIn u ts
  without_in place [] u has = has
  without_in place (t ∷ ts) u has = by_test (without_in place ts u) (place == t.place) has
    where
      by_test : (IsIn u (without_taker place ts) → IsIn u ts) → (b : Bool) → IsIn u (if b then ts else t ∷ without_taker place ts) → IsIn u (t ∷ ts)
      by_test rest true i = inr i
      by_test rest false (inl e) = inl e
      by_test rest false (inr i) = inr (rest i)

  without_apart : (place : ℕ) (ts : List TakerView) → AreApart ts → AreApart (without_taker place ts)
  without_apart place [] apart = tt
  without_apart place (t ∷ ts) apart = by_test (without_apart place ts apart.1) (place == t.place)
    where
      by_test : AreApart (without_taker place ts) → (b : Bool) → AreApart (if b then ts else t ∷ without_taker place ts)
      by_test rest true = apart.1
      by_test rest false = (λ u i same. apart.0 u (without_in place ts u i) same, rest)

  released : (told : List Entry) (place : ℕ) (ts : List TakerView) (next_place : ℕ) → LinksStand makes listening told ts next_place → LinksStand makes listening told (without_taker place ts) next_place
  released told place ts next_place is =
      record { each = λ t i. is.each t (without_in place ts t i); apart = without_apart place ts is.apart; below = λ t i. is.below t (without_in place ts t i); no_others = is.no_others }

  module _ (told : List Entry) (i : LineView places) (stands : Stands makes bytes places told i) (is : LinksStand makes listening told i.takers i.next_place) where
    abbrev s : State
    s = after makes start told

    -- a row of a parcel is accepted
    module _ (n : ℕ) (a : Arrives listening i n) (r : IsRowFor listening i a.by.input a.event) where
      abbrev entry : Entry
      entry = Accept n (Some a.at) r.row.number r.row.event

      abbrev row : Written
      row = written s n r.row.number r.row.event

      taken_is : LinksStand makes listening told a.takers i.next_place
      taken_is = taken_stand makes listening told (ends_served i) n a.taken i.takers a.takers i.next_place a.takes is

      front_is : (after makes start (told ++ entry ∷ [])).front ≡ s.front
      front_is = ap (λ (x : State). x.front) (after_both makes start told (entry ∷ []))

      here : IsIn a.next.taker a.takers × (a.next.taker.place ≡ a.at.place)
      here = taker_in a.at.place a.next.taker a.takers a.next.has

      made : IsMadeOf listening a.next.taker.address row a.event
      made = record {
        input = input_of a.by.input;
        is_input = is_input n a.by.input s.plans i.inputs stands.knows.inputs a.by.has;
        listens = a.listens ∙ ap Some (sym a.next.address_is);
        event_is = r.event_is;
      }

      rows_now : (at : ParcelAt) → rows_of makes at (told ++ entry ∷ []) ≡ rows_of makes at told ++ (if (at.place == a.at.place) && (at.number == a.at.number) then row ∷ [] else [])
      rows_now at = accept_row makes at told n (Some a.at) r.row.number r.row.event

      -- of another place there is none more
      elsewhere : (at : ParcelAt) → (at.place ≡ a.at.place → ⊥) → rows_of makes at (told ++ entry ∷ []) ≡ rows_of makes at told
      elsewhere at other =
          rows_now at
          ∙ ap (λ (b : Bool). rows_of makes at told ++ (if b && (at.number == a.at.number) then row ∷ [] else []))
          (⊎_elim (λ (e : (at.place == a.at.place) ≡ true). absurd (other (eqb-true at.place a.at.place e))) (λ e. e) (cases_Bool (at.place == a.at.place)))
          ∙ append-nil (rows_of makes at told)

      pub accepted_stands : LinksStand makes listening (told ++ entry ∷ []) (change_taker (row_made a.at.number r.row.number) a.at.place a.takers) i.next_place
      accepted_stands = record {
        each = λ u has. ⊎_elim
            (λ (o : IsIn u a.takers × (u.place ≡ a.at.place → ⊥)).
            told_more makes listening told (told ++ entry ∷ []) u (λ number. elsewhere (record { place = u.place; number = number }) o.1) (omega (arith, front_is)) (taken_is.each u o.0))
            (λ (c : IsChangedTaker (row_made a.at.number r.row.number) (λ t. refl) a.at.place a.takers u). subst (TakerStands makes listening (told ++ entry ∷ [])) (sym c.is) (changed_stands c))
            (taker_changed (row_made a.at.number r.row.number) (λ t. refl) a.at.place a.takers taken_is.apart u has);
        apart = apart_changed (row_made a.at.number r.row.number) (λ t. refl) a.at.place a.takers taken_is.apart;
        below = λ u has.
            let was = place_before (row_made a.at.number r.row.number) (λ t. refl) a.at.place a.takers u has in
            let less = taken_is.below was.0 was.1 in let same = was.2 in omega (arith, less, same);
        no_others = λ at least.
            elsewhere at (λ same. let less = taken_is.below a.next.taker here.0 in let one = here.1 in omega (arith, least, less, one, same)) ∙ taken_is.no_others at least;
      }
        where
          changed_stands : {u : TakerView} → (c : IsChangedTaker (row_made a.at.number r.row.number) (λ t. refl) a.at.place a.takers u) → TakerStands makes listening (told ++ entry ∷ []) (row_made a.at.number r.row.number c.was)
          changed_stands c =
              let one = same_Some a.next.taker c.was (sym a.next.has ∙ c.has) in
              subst (λ t. TakerStands makes listening (told ++ entry ∷ []) (row_made a.at.number r.row.number t)) one
              (row_made_stands makes listening told a.next.taker (taken_is.each a.next.taker here.0) (told ++ entry ∷ []) a.at here.1 a.next.waiting a.next.waits a.event a.next.rest a.next.next row made
              (λ number. rows_now (record { place = a.next.taker.place; number = number })) front_is)

    pub answers_stand : (x : Step makes listening bytes i) → GoesOn makes listening bytes i x → LinksStand makes listening (told ++ (effect makes listening bytes i x).told) (effect makes listening bytes i x).line.takers (effect makes listening bytes i x).line.next_place
    answers_stand (m.Accepts n c r false) on = still makes listening told _ i.takers i.next_place tt tt is
    answers_stand (m.Accepts n c r true) on = absurd on
    answers_stand (m.Accepts_parcel n a r false) on = accepted_stands n a r
    answers_stand (m.Accepts_parcel n a r true) on = absurd on
    answers_stand (m.Takes_alone n h address listens taken takers takes) on = quiet_still makes listening told takers i.next_place (taken_stand makes listening told (ends_served i) n taken i.takers takers i.next_place takes is)
    answers_stand (m.Reads t k) on = still makes listening told _ i.takers i.next_place tt tt is
    answers_stand (m.Works t k verdicts uses) on = still makes listening told _ i.takers i.next_place tt tt is
    answers_stand (m.Collects n a verdicts uses) on = still makes listening told _ i.takers i.next_place tt tt is
    answers_stand (m.Tells n parts rest h a) on =
        let none = shed_none n a.shed.older a.shed.newer (Letters n (kept_from a.shed.newer 0 parts) ∷ []) tt tt in
        still makes listening told (letters_told n a.shed parts) i.takers i.next_place none.0 none.1 is
    answers_stand (m.Gives n id at events rest h plain) on = still makes listening told _ i.takers i.next_place tt tt is
    answers_stand (m.Is_taken n id number events rest h fates are none) on = still makes listening told _ i.takers i.next_place tt tt is
    answers_stand (m.Is_rejected n id number events rest h fates are some a) on =
        let letters = kept_from a.shed.newer 0 (rejections h.batch.plan.config id fates events) in
        let none = letters_none n a.shed.older a.shed.newer letters (Deliver n (place.Foreign number) events fates ∷ []) tt tt in
        still makes listening told (letters_told n a.shed (rejections h.batch.plan.config id fates events) ++ Deliver n (place.Foreign number) events fates ∷ []) i.takers i.next_place none.0 none.1 is
    answers_stand (m.Is_heard n id address events rest h number sent was) on = still makes listening told _ i.takers i.next_place tt tt is
    answers_stand (m.Fails_to_deliver n left h f why printed out given took) on = absurd on
    answers_stand (m.Acknowledges_it n h queue a) on = still makes listening told _ i.takers i.next_place tt tt is
    answers_stand (m.Marks front last marks) on =
        carried_on makes listening told (Mark front ∷ []) i.takers i.next_place (λ at. mark_same makes at told front)
        (let settled = stands.holds.queue.settled in let recorded = stands.holds.queue.recorded in let same = ap (λ (x : State). x.front) (after_both makes start told (Mark front ∷ [])) in omega (arith, settled, recorded, last, same)) is
    answers_stand (m.Assures n front h marks) on = still makes listening told _ i.takers i.next_place tt tt is
    answers_stand (m.Fails_to_assure n front h marks) on = absurd on
    answers_stand (m.Purges h) on = still makes listening told _ i.takers i.next_place tt tt is
    answers_stand (m.Answers place t has may) on = quiet_still makes listening told _ i.next_place (one_changed makes listening told i.takers (assured may.oldest.number may.rest) place i.next_place (λ u. refl) is
        (λ u found has_it.
        subst (λ v. TakerStands makes listening told (assured may.oldest.number may.rest v)) (same_Some t u (sym has ∙ has_it))
        (assured_stands makes listening told t (is.each t (taker_in place t i.takers has).0) i.mark may stands.knows.mark)))
    answers_stand (m.Refuses place t has may) on = quiet_still makes listening told _ i.next_place (one_changed makes listening told i.takers (refused may.rest) place i.next_place (λ u. refl) is
        (λ u found has_it.
        subst (λ v. TakerStands makes listening told (refused may.rest v)) (same_Some t u (sym has ∙ has_it))
        (refused_stands makes listening told t (is.each t (taker_in place t i.takers has).0) may.rest may.none)))
    answers_stand (m.Connects takers next_place are listen senders unused) on = quiet_still makes listening told _ next_place (with_new told i.takers i.takers takers i.next_place next_place is is.each is.below are)
    answers_stand (m.Releases place t has free) on = quiet_still makes listening told _ i.next_place (released told place i.takers i.next_place is)
    answers_stand (m.Adopts c) on =
        still makes listening told _ (c.takers ++ c.new_takers) c.next_place tt tt
        (with_new told i.takers c.takers c.new_takers i.next_place c.next_place is (ends_behind told c.inputs i.takers c.takers c.goes_on is.each)
        (λ t has. let was = same_place c.inputs i.takers c.takers c.goes_on t has in let less = is.below was.0 was.1 in let same = was.2 in omega (arith, less, same)) c.new)
    answers_stand (m.Only_fails x fails) on = absurd on
    answers_stand x on = quiet_still makes listening told i.takers i.next_place is

pub answers_all_stand : (makes : Makes) (listening : Listening) (bytes : Bytes) (places : Places) → AnswersStand makes listening bytes places
answers_all_stand makes listening bytes places told i x stands is on = answers_stand makes listening bytes places told i stands is x on

pub opened_links : (makes : Makes) (listening : Listening) (bytes : Bytes) (places : Places) → OpenedLinksStand makes listening bytes places
opened_links makes listening bytes places told image sound i is = record {
  each = λ t has. new_stands makes listening bytes places (told ++ opening makes listening bytes places told image sound i) t (is.takers.unused t has)
      (λ number. no_rows (record { place = t.place; number = number }));
  apart = is.takers.apart;
  below = λ t has. (is.takers.places t has).1;
  no_others = λ at least. no_rows at;
}
  where
    no_rows : (at : ParcelAt) → rows_of makes at (told ++ opening makes listening bytes places told image sound i) ≡ []
    no_rows at = opened_rows makes at told sound.rows.rows i.limits.limit i.limits.policy i.plan.generation i.plan.config i.plan.draws
