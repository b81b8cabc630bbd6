-- Rows that name a parcel, behind further entries.
use Rattle.std.proofs.Common.{◌≡◌, ℕ, ◌≤◌, List, [], ◌∷◌, ◌++◌, length, drop, Option, Some, None, refl, sym, ap, ◌∙◌, subst, arith, append-nil, append_assoc}
use Rattle.std.specs.Prelude.{⊤, flat_map}
use Rattle.std.proofs.lemmas.Grind.{flat_map-append}
use Rattle.std.proofs.lemmas.List.Concat.{flat_map-cons}
use Rattle.event_tree.specs.Events.{Ev}
use Rattle.event_tree.specs.declared.lists.DeadPart.{DeadPart}
use Rattle.config_tree.specs.declared.tree.Config.{Config}
use Rattle.settings_lines.specs.declared.settings.Policy.{Policy}
use Rattle.event_flow.specs.Places.{Draws}
use Rattle.queue_files.specs.Found.{Row}
use Rattle.event_flow.specs.Meaning.{Makes, Due}
use Rattle.event_flow.specs.Meaning as due
use Rattle.history_book.specs.Entries.{Entry, ParcelAt, Accept, Mark, Assure, Read, Back, Shed, Deliver, Letters, Ack, Purge, Adopt, Opened}
use Rattle.history_book.specs.Links.{Listening, row_of, rows_of, IsMadeOf, AreMadeOf, AreSettled}
use Rattle.history_book.specs.States.{Plan, Written, State, start, newest, reads, left_of, out_of, tells_letters, next, after}
use Rattle.history_book.specs.Steps.{Step, one_more, steps_of}
use Rattle.history_book.proofs.Histories.{after_both}
use Rattle.history_book.proofs.Steps.{steps_both}

-- no entry is of a parcel, or an opening
abbrev pub NoRows : List Entry → Type 0
NoRows [] = ⊤
NoRows (Accept input None number event ∷ es) = NoRows es
NoRows (Accept input (Some at) number event ∷ es) = ⊥
NoRows (Opened rows limit policy ∷ es) = ⊥
NoRows (e ∷ es) = NoRows es

module _ (makes : Makes) (at : ParcelAt) where
  abbrev row_in : Step → List Written
  row_in step = row_of at step.before step.entry

  -- one more entry
  one_row : (told : List Entry) (e : Entry) → one_more (steps_of makes told) (after makes start told) e ≡ steps_of makes told ++ record { before = after makes start told; entry = e } ∷ []
      → rows_of makes at (told ++ e ∷ []) ≡ rows_of makes at told ++ row_of at (after makes start told) e
  one_row told e one =
      let step : Step = record { before = after makes start told; entry = e } in
      ap (flat_map row_in) (steps_both makes start told (e ∷ []) [] ∙ one)
      ∙ flat_map-append row_in (steps_of makes told) (step ∷ [])
      ∙ ap (λ l. rows_of makes at told ++ l) (flat_map-cons row_in step [] ∙ append-nil (row_of at (after makes start told) e))

  pub accept_row : (told : List Entry) (input : ℕ) (parcel : Option ParcelAt) (number : ℕ) (event : Ev)
      → rows_of makes at (told ++ Accept input parcel number event ∷ []) ≡ rows_of makes at told ++ row_of at (after makes start told) (Accept input parcel number event)
  accept_row told input parcel number event = one_row told (Accept input parcel number event) refl

  none_more : (told : List Entry) (e : Entry) → one_more (steps_of makes told) (after makes start told) e ≡ steps_of makes told ++ record { before = after makes start told; entry = e } ∷ []
      → row_of at (after makes start told) e ≡ [] → rows_of makes at (told ++ e ∷ []) ≡ rows_of makes at told
  none_more told e one none = one_row told e one ∙ ap (λ l. rows_of makes at told ++ l) none ∙ append-nil (rows_of makes at told)

  one_same : (told : List Entry) (e : Entry) (es : List Entry) → NoRows (e ∷ es) → (rows_of makes at (told ++ e ∷ []) ≡ rows_of makes at told) × NoRows es
  one_same told (Accept input None number event) es none = (none_more told (Accept input None number event) refl refl, none)
  one_same told (Accept input (Some p) number event) es none = absurd none
  one_same told (Mark front) es none = (none_more told (Mark front) refl refl, none)
  one_same told (Assure input front) es none = (none_more told (Assure input front) refl refl, none)
  one_same told (Read batch generation numbers) es none = (none_more told (Read batch generation numbers) refl refl, none)
  one_same told (Back batch verdicts) es none = (none_more told (Back batch verdicts) refl refl, none)
  one_same told (Shed batch older newer) es none = (none_more told (Shed batch older newer) refl refl, none)
  one_same told (Deliver batch place events fates) es none = (none_more told (Deliver batch place events fates) refl refl, none)
  one_same told (Letters batch letters) es none = (none_more told (Letters batch letters) refl refl, none)
  one_same told (Ack batch) es none = (none_more told (Ack batch) refl refl, none)
  one_same told (Purge page) es none = (none_more told (Purge page) refl refl, none)
  one_same told (Adopt generation config draws) es none = (none_more told (Adopt generation config draws) refl refl, none)
  one_same told (Opened rows limit policy) es none = absurd none

  pub rows_same : (told more : List Entry) → NoRows more → rows_of makes at (told ++ more) ≡ rows_of makes at told
  rows_same told [] none = ap (rows_of makes at) (append-nil told)
  rows_same told (e ∷ more) none =
      let one = one_same told e more none in
      ap (rows_of makes at) (sym (append_assoc told (e ∷ []) more)) ∙ rows_same (told ++ e ∷ []) more one.1 ∙ one.0

  -- an opening leaves none
  pub opened_rows : (told : List Entry) (rows : List Row) (limit : ℕ) (policy : Policy) (generation : ℕ) (config : Config) (draws : Draws)
      → rows_of makes at (told ++ (Opened rows limit policy ∷ Adopt generation config draws ∷ [])) ≡ []
  opened_rows told rows limit policy generation config draws =
      let step : Step = record { before = next makes (after makes start told) (Opened rows limit policy); entry = Adopt generation config draws } in
      ap (flat_map row_in) (steps_both makes start told (Opened rows limit policy ∷ Adopt generation config draws ∷ []) []) ∙ flat_map-cons row_in step []

  pub mark_same : (told : List Entry) (front : ℕ) → rows_of makes at (told ++ Mark front ∷ []) ≡ rows_of makes at told
  mark_same told front = none_more told (Mark front) refl refl

-- ---- what is settled stays so

-- the front stays where no mark is told, and the pipeline isn't opened
abbrev pub NoMark : List Entry → Type 0
NoMark [] = ⊤
NoMark (Mark front ∷ es) = ⊥
NoMark (Opened rows limit policy ∷ es) = ⊥
NoMark (e ∷ es) = NoMark es

module _ (makes : Makes) where
  read_front : (s : State) (batch : ℕ) (numbers : List ℕ) (plan : Option Plan) → (reads s batch numbers plan).front ≡ s.front
  read_front s batch numbers None = refl
  read_front s batch numbers (Some plan) = refl

  letters_front : (s : State) (batch : ℕ) (letters : List DeadPart) (left : List Due) → (tells_letters s batch letters left).front ≡ s.front
  letters_front s batch letters [] = refl
  letters_front s batch letters (due.Letters ds ∷ rest) = refl
  letters_front s batch letters (due.Events id at es ∷ rest) = refl

  one_front : (s : State) (e : Entry) (es : List Entry) → NoMark (e ∷ es) → ((next makes s e).front ≡ s.front) × NoMark es
  one_front s (Accept input parcel number event) es none = (refl, none)
  one_front s (Mark front) es none = absurd none
  one_front s (Assure input front) es none = (refl, none)
  one_front s (Read batch generation numbers) es none = (read_front s batch numbers (newest s.plans), none)
  one_front s (Back batch verdicts) es none = (refl, none)
  one_front s (Shed batch older newer) es none = (refl, none)
  one_front s (Deliver batch place events fates) es none = (refl, none)
  one_front s (Letters batch letters) es none = (letters_front s batch letters (left_of (out_of batch s.out)), none)
  one_front s (Ack batch) es none = (refl, none)
  one_front s (Purge page) es none = (refl, none)
  one_front s (Adopt generation config draws) es none = (refl, none)
  one_front s (Opened rows limit policy) es none = absurd none

  fronts : (s : State) (more : List Entry) → NoMark more → (after makes s more).front ≡ s.front
  fronts s [] none = refl
  fronts s (e ∷ more) none = let one = one_front s e more none in fronts (next makes s e) more one.1 ∙ one.0

  pub front_same : (told more : List Entry) → NoMark more → (after makes start (told ++ more)).front ≡ (after makes start told).front
  front_same told more none = ap (λ (x : State). x.front) (after_both makes start told more) ∙ fronts (after makes start told) more none

-- ---- rows of a parcel's events

pub made_more : (listening : Listening) (address : List ℕ) (ws : List Written) (es : List Ev) (e : Ev) (rest : List Ev) (w : Written) → AreMadeOf listening address ws es → drop (length ws) es ≡ e ∷ rest
    → IsMadeOf listening address w e → AreMadeOf listening address (ws ++ w ∷ []) es
made_more listening address [] [] e rest w are left is = absurd (cc)
made_more listening address [] (x ∷ es) e rest w are left is = (subst (IsMadeOf listening address w) (first left) is, tt)
  where
    first : x ∷ es ≡ e ∷ rest → e ≡ x
    first same = cc
made_more listening address (v ∷ ws) [] e rest w are left is = absurd are
made_more listening address (v ∷ ws) (x ∷ es) e rest w are left is = (are.0, made_more listening address ws es e rest w are.1 left is)

pub settled_up : (a b : ℕ) → a ≤ b → (ws : List Written) → AreSettled a ws → AreSettled b ws
settled_up a b less [] are = tt
settled_up a b less (w ∷ ws) are = let first = are.0 in (omega (arith, first, less), settled_up a b less ws are.1)
