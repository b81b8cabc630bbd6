-- A text is cut at bytes of ASCII alone, so that each field of its rows is text.
use Rattle.std.proofs.Common.{ℕ, zero, suc, ◌+◌, ◌<◌, ◌≤◌, ◌==◌, ◌||◌, List, [], ◌∷◌, ◌++◌, length, take, drop, slice_index, ◌≡◌, ◌∙◌, refl, sym, ap, subst, Bool, true, false, if◌then◌else◌, ◌⊎◌, inl, inr, arith, append_assoc, append-nil, add-one, rules, length-append, Option, Some, None, IsUtf8, IsCharBoundary}
use Rattle.std.proofs.lemmas.Bool.{eqb-true}
use Rattle.std.proofs.lemmas.Option.{none-some, same_Some}
use Rattle.std.proofs.lemmas.Str.{IsUtf8-append, IsUtf8-nil, IsUtf8-take, IsUtf8-drop, IsUtf8-encode, IsCharBoundary-after_ascii, IsCharBoundary-from_take}
use Rattle.csv.specs.Machine.{Read, step, in_field, start_field, start_record, ends_at_end, is_end, fields_after, field_after, next_record}
use Rattle.csv.specs.Reading.{records_from, records_next, strip_bom, is_bom}
use Rattle.std.specs.Option.{option_and_then}
use Rattle.csv.specs.Records.{AllText}
use Rattle.csv.specs.declared.parser.Action.{Action}
use Rattle.csv.specs.declared.parser.Action.TheVariants as act
use Rattle.csv.specs.declared.parser.State.{State}
use Rattle.csv.specs.declared.parser.State.TheVariants as st
use Rattle.filters_text.specs.Rows.{Row, form, only, rows, text_row, one_row}
use Rattle.filters_text.proofs.Rowing.{text_row_of, both_of}

-- a machine without comments is never in one
abbrev Open : State → Type 0
Open st.InComment = ⊥
Open _ = Unit {0}

-- a byte that doesn't join the field at hand is of ASCII
abbrev Cuts : ℕ → State × Action → Type 0
Cuts c r = Open r.0 × ((r.1 ≡ act.Copy) ⊎ (c < 128))

by_test : (c : ℕ) (test : Bool) (x y : State × Action) → (test ≡ true → Cuts c x) → Cuts c y → Cuts c (if test then x else y)
by_test c true x y yes_cuts no_cuts = yes_cuts refl
by_test c false x y yes_cuts no_cuts = no_cuts

is_low : (c d : ℕ) → d < 128 → (c == d) ≡ true → c < 128
is_low c d low is = subst (λ n. n < 128) (sym (eqb-true c d is)) low

either_low : (c d e : ℕ) → d < 128 → e < 128 → ((c == d) || (c == e)) ≡ true → c < 128
either_low c d e low also is = by (c == d) refl
  where
    by : (test : Bool) → (c == d) ≡ test → c < 128
    by true same = is_low c d low same
    by false same = is_low c e also (rw same at is)

open_end : (test : Bool) → Open (if test then st.AfterCr else st.StartRecord)
open_end true = tt
open_end false = tt

module _ (separator quote : ℕ) (separator_low : separator < 128) (quote_low : quote < 128) where
  in_field_cuts : (c : ℕ) → Cuts c (in_field (form separator quote) c)
  in_field_cuts c =
      by_test c (c == separator) _ _ (λ is. (tt, inr (is_low c separator separator_low is)))
      (by_test c ((c == 13) || (c == 10)) _ _ (λ is. (open_end (c == 13), inr (either_low c 13 10 (omega arith) (omega arith) is))) (tt, inl refl))

  start_field_cuts : (c : ℕ) → Cuts c (start_field (form separator quote) c)
  start_field_cuts c = by_test c (c == quote) _ _ (λ is. (tt, inr (is_low c quote quote_low is))) (in_field_cuts c)

  start_record_cuts : (c : ℕ) → Cuts c (start_record (form separator quote) c)
  start_record_cuts c = by_test c ((c == 13) || (c == 10)) _ _ (λ is. (tt, inr (either_low c 13 10 (omega arith) (omega arith) is))) (start_field_cuts c)

  step_cuts : (s : State) (c : ℕ) → Open s → Cuts c (step (form separator quote) s c)
  step_cuts st.StartRecord c open_is = start_record_cuts c
  step_cuts st.StartField c open_is = start_field_cuts c
  step_cuts st.InField c open_is = in_field_cuts c
  step_cuts st.InQuoted c open_is = by_test c (c == quote) _ _ (λ is. (tt, inr (is_low c quote quote_low is))) (tt, inl refl)
  step_cuts st.InEscape c open_is = (tt, inl refl)
  step_cuts st.AfterQuote c open_is = by_test c (c == quote) _ _ (λ is. (tt, inl refl)) (in_field_cuts c)
  step_cuts st.InComment c open_is = elim open_is [ ]
  step_cuts st.AfterCr c open_is = by_test c (c == 10) _ _ (λ is. (tt, inr (is_low c 10 (omega arith) is))) (start_record_cuts c)

-- around a byte of ASCII both parts are text
index_behind : (field : List ℕ) (c : ℕ) (rest : List ℕ) → slice_index (field ++ c ∷ rest) (length field) ≡ c
index_behind [] c rest = refl
index_behind (f ∷ fs) c rest = index_behind fs c rest

take_front : (field rest : List ℕ) → take (length field) (field ++ rest) ≡ field
take_front [] rest = refl
take_front (f ∷ fs) rest = ap (λ x. f ∷ x) (take_front fs rest)

drop_front : (field : List ℕ) (c : ℕ) (rest : List ℕ) → drop (suc (length field)) (field ++ c ∷ rest) ≡ rest
drop_front [] c rest = refl
drop_front (f ∷ fs) c rest = drop_front fs c rest

around : (field : List ℕ) (c : ℕ) (rest : List ℕ) → c < 128 → IsUtf8 (field ++ c ∷ rest) → IsUtf8 field × IsUtf8 rest
around field c rest low text =
    let whole = field ++ c ∷ rest in
    let long : length whole ≡ length field + suc (length rest) = length-append field (c ∷ rest) in
    let front : IsCharBoundary whole (length field) = (omega (arith, long), λ below high. omega (arith, subst (λ n. 128 ≤ n) (index_behind field c rest) high, low)) in
    let behind : IsCharBoundary whole (length field + 1) =
    IsCharBoundary-after_ascii whole (length field) text (omega (arith, long)) (subst (λ n. n < 128) (sym (index_behind field c rest)) low) in (
      subst IsUtf8 (take_front field (c ∷ rest)) (IsUtf8-take whole (length field) text front),
      subst IsUtf8 (ap (λ n. drop n whole) (add-one (length field)) ∙ drop_front field c rest) (IsUtf8-drop whole (length field + 1) text behind),
    )

more_text : (fields : List (List ℕ)) (field : List ℕ) → AllText fields → IsUtf8 field → AllText (fields ++ field ∷ [])
unfolding AllText
more_text [] field texts text = (text, tt)
more_text (f ∷ fs) field texts text = (texts.0, more_text fs field texts.1 text)

-- a row of text, and text behind it
record Texts (p : Read) : Type 0 where
  row : AllText p.0
  opens : Open p.1
  behind : IsUtf8 p.2

no_fields : AllText []
unfolding AllText
no_fields = tt

abbrev AllRows : List Row → Type 0
AllRows [] = Unit {0}
AllRows (r ∷ rs) = AllText r × AllRows rs

abbrev Reads : ℕ → ℕ → State → List (List ℕ) → List ℕ → List ℕ → Type 0
Reads separator quote s fields field rest = (p : Read) → next_record (form separator quote) s fields field rest ≡ Some p → Texts p

module _ (separator quote : ℕ) (separator_low : separator < 128) (quote_low : quote < 128) where
  at_end : (test : Bool) (fields : List (List ℕ)) (field : List ℕ) → AllText fields → IsUtf8 field → (p : Read)
      → (if test then Some (fields ++ field ∷ [], st.StartRecord, []) else None) ≡ Some p → Texts p
  at_end true fields field texts text p is =
      subst Texts (same_Some _ _ is) (record { row = more_text fields field texts text; opens = tt; behind = IsUtf8-nil })
  at_end false fields field texts text p is = absurd (none-some p is)

  by_action : (r : State × Action) (c : ℕ) (fields : List (List ℕ)) (field rest : List ℕ) → Cuts c r → AllText fields → IsUtf8 (field ++ c ∷ rest)
      → ((s : State) (fs : List (List ℕ)) (f : List ℕ) → Open s → AllText fs → IsUtf8 (f ++ rest) → Reads separator quote s fs f rest) → (p : Read)
      → (if is_end r.1 then Some (fields_after r.1 fields field, r.0, rest)
      else next_record (form separator quote) r.0 (fields_after r.1 fields field) (field_after r.1 c field) rest) ≡ Some p
      → Texts p
  by_action (s, act.Copy) c fields field rest cuts texts text more p is =
      more s fields (field ++ c ∷ []) cuts.0 texts (subst IsUtf8 (sym (append_assoc field (c ∷ []) rest)) text) p is
  by_action (s, act.Skip) c fields field rest (opens, inl is_copy) texts text more p is = absurd (search (is_copy, rules))
  by_action (s, act.Skip) c fields field rest (opens, inr low) texts text more p is =
      let parts = around field c rest low text in more s fields field opens texts (IsUtf8-append field rest parts.0 parts.1) p is
  by_action (s, act.EndField) c fields field rest (opens, inl is_copy) texts text more p is = absurd (search (is_copy, rules))
  by_action (s, act.EndField) c fields field rest (opens, inr low) texts text more p is =
      let parts = around field c rest low text in more s (fields ++ field ∷ []) [] opens (more_text fields field texts parts.0) parts.1 p is
  by_action (s, act.EndRecord) c fields field rest (opens, inl is_copy) texts text more p is = absurd (search (is_copy, rules))
  by_action (s, act.EndRecord) c fields field rest (opens, inr low) texts text more p is =
      let parts = around field c rest low text in
      subst Texts (same_Some _ _ is) (record { row = more_text fields field texts parts.0; opens = opens; behind = parts.1 })

  reads_text : (rest : List ℕ) (s : State) (fields : List (List ℕ)) (field : List ℕ) → Open s → AllText fields → IsUtf8 (field ++ rest)
      → Reads separator quote s fields field rest
  unfolding next_record
  reads_text [] s fields field opens texts text p is = at_end (ends_at_end s) fields field texts (subst IsUtf8 (append-nil field) text) p is
  reads_text (c ∷ rest) s fields field opens texts text p is =
      by_action (step (form separator quote) s c) c fields field rest (step_cuts separator quote separator_low quote_low s c opens) texts text (reads_text rest) p is

  all_next : (n : ℕ) (found : Option Read) → ((s : State) (left : List ℕ) → Open s → IsUtf8 left → AllRows (records_from (form separator quote) n s left))
      → ((p : Read) → found ≡ Some p → Texts p) → AllRows (records_next (records_from (form separator quote) n) found)
  all_next n None more texts = tt
  all_next n (Some p) more texts = let t = texts p refl in (t.row, more p.1 p.2 t.opens t.behind)

  all_rows : (n : ℕ) (s : State) (left : List ℕ) → Open s → IsUtf8 left → AllRows (records_from (form separator quote) n s left)
  unfolding records_from
  all_rows zero s left opens text = tt
  all_rows (suc n) s left opens text = all_next n (next_record (form separator quote) s [] [] left) (all_rows n) (reads_text left s [] [] opens no_fields text)

-- without a byte order mark in front, too
marked : (rest : List ℕ) → IsUtf8 (239 ∷ 187 ∷ 191 ∷ rest) → IsUtf8 rest
unfolding lib.Utf8.encode
marked rest text =
    IsUtf8-drop (239 ∷ 187 ∷ 191 ∷ rest) 3 text (IsCharBoundary-from_take (239 ∷ 187 ∷ 191 ∷ rest) 3 text (omega arith) (IsUtf8-encode 65279 refl))

mark_gone : (a b c : ℕ) (rest : List ℕ) (test : Bool) → is_bom a b c ≡ test → IsUtf8 (a ∷ b ∷ c ∷ rest) → IsUtf8 (if test then rest else a ∷ b ∷ c ∷ rest)
mark_gone a b c rest false is text = text
mark_gone a b c rest true is text =
    let pair = both_of _ _ is in
    let two = both_of _ _ pair.0 in
    marked rest (rw (eqb-true a 239 two.0, eqb-true b 187 two.1, eqb-true c 191 pair.1) at text)

stripped : (s : List ℕ) → IsUtf8 s → IsUtf8 (strip_bom s)
unfolding strip_bom
stripped [] text = text
stripped (a ∷ []) text = text
stripped (a ∷ b ∷ []) text = text
stripped (a ∷ b ∷ c ∷ rest) text = mark_gone a b c rest (is_bom a b c) refl text

only_text : (rs : List Row) → AllRows rs → option_and_then text_row (only rs) ≡ only rs
only_text [] texts = refl
only_text (r ∷ []) texts = text_row_of r texts.0
only_text (r ∷ s ∷ rs) texts = refl

pub whole : (separator quote : ℕ) (s : List ℕ) → separator < 128 → quote < 128 → IsUtf8 s → one_row separator quote s ≡ only (rows separator quote s)
unfolding one_row rows
whole separator quote s separator_low quote_low text =
    only_text _ (all_rows separator quote separator_low quote_low (length (strip_bom s) + 1) st.StartRecord (strip_bom s) tt (stripped s text))
