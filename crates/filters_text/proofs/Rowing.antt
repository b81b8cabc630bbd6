-- The row that a text is, by what the reads of it find.
use Rattle.std.proofs.Common.{ℕ, zero, suc, List, [], ◌∷◌, ◌≡◌, ◌∙◌, refl, sym, ap, ap₂, subst, Bool, true, false, ◌&&◌, ◌⊎◌, inl, inr, length, add-one, Option, Some, None}
use Rattle.std.proofs.lemmas.Bool.{false_from_ne_true, false≢true}
use Rattle.std.proofs.lemmas.Option.{none-some}
use Rattle.std.proofs.lemmas.Str.{IsUtf8-from_is_utf8, is_utf8-from_IsUtf8}
use Rattle.std.specs.List.{list_all}
use Rattle.std.specs.Option.{option_and_then}
use Rattle.std.specs.Str.{is_utf8}
use Rattle.csv.specs.Machine.{Read, next_record}
use Rattle.csv.specs.Reading.{records, records_from, records_next, strip_bom}
use Rattle.csv.specs.Records.{AllText}
use Rattle.csv.specs.declared.parser.Config.{Config}
use Rattle.csv.specs.declared.parser.State.{State}
use Rattle.csv.specs.declared.parser.State.TheVariants as st
use Rattle.csv.specs.declared.reader.Reader.{Reader}
use Rattle.csv.specs.Reading.{reader_config, reader_state}
use Rattle.filters_text.specs.Readers.{Says, Behind}
use Rattle.filters_text.specs.declared.csv_row.NextRow.{NextRow}
use Rattle.filters_text.specs.declared.csv_row.NextRow.TheVariants as next
use Rattle.filters_text.specs.Rows.{Row, form, only, rows, text_row, one_row}

all_text : (row : Row) → AllText row → list_all is_utf8 row ≡ true
unfolding AllText
all_text [] text = refl
all_text (f ∷ fs) text = rw (is_utf8-from_IsUtf8 f text.0) (all_text fs text.1)

pub both_of : (a b : Bool) → (a && b) ≡ true → (a ≡ true) × (b ≡ true)
both_of true b is = (refl, is)
both_of false b is = absurd (false≢true is)

text_all : (row : Row) → list_all is_utf8 row ≡ true → AllText row
unfolding AllText
text_all [] is = tt
text_all (f ∷ fs) is = let parts = both_of _ _ is in (IsUtf8-from_is_utf8 f parts.0, text_all fs parts.1)

pub text_row_of : (row : Row) → AllText row → text_row row ≡ Some row
text_row_of row text = rw (all_text row text) refl

no_text_row : (row : Row) → ¬ (AllText row) → text_row row ≡ None
no_text_row row broken = rw (false_from_ne_true _ (λ is. broken (text_all row is))) refl

no_more : (cfg : Config) (n : ℕ) (s : State) (left : List ℕ) → next_record cfg s [] [] left ≡ None → records_from cfg n s left ≡ []
unfolding records_from
no_more cfg zero s left is = refl
no_more cfg (suc n) s left is = ap (records_next (records_from cfg n)) is

-- the first row, and the others
one_more : (cfg : Config) (left : List ℕ) (p : Read) → next_record cfg st.StartRecord [] [] left ≡ Some p → records cfg left ≡ p.0 ∷ records_from cfg (length left) p.1 p.2
unfolding records_from
one_more cfg left p is = ap (λ n. records_from cfg n st.StartRecord left) (add-one (length left)) ∙ ap (records_next (records_from cfg (length left))) is

nothing : (cfg : Config) → next_record cfg st.StartRecord [] [] [] ≡ None
unfolding next_record
nothing cfg = refl

-- a text with a row isn't empty, so that a second row is found where there is one
two_more : (cfg : Config) (left : List ℕ) (p q : Read) → next_record cfg st.StartRecord [] [] left ≡ Some p → next_record cfg p.1 [] [] p.2 ≡ Some q
    → (more : List Row) × (records cfg left ≡ p.0 ∷ q.0 ∷ more)
unfolding records_from
two_more cfg [] p q is then_is = absurd (none-some p (sym (nothing cfg) ∙ is))
two_more cfg (c ∷ left) p q is then_is =
    (records_from cfg (length left) q.1 q.2, one_more cfg (c ∷ left) p is ∙ ap (λ found. p.0 ∷ records_next (records_from cfg (length left)) found) then_is)

-- the first row of a text
abbrev first : ℕ → ℕ → List ℕ → Option Read
first separator quote s = next_record (form separator quote) st.StartRecord [] [] (strip_bom s)

no_row : (separator quote : ℕ) (s : List ℕ) → first separator quote s ≡ None → one_row separator quote s ≡ None
unfolding one_row rows
no_row separator quote s is = ap (λ rs. option_and_then text_row (only rs)) (no_more _ _ _ _ is)

no_text : (separator quote : ℕ) (s : List ℕ) (p : Read) → first separator quote s ≡ Some p → ¬ (AllText p.0) → one_row separator quote s ≡ None
unfolding one_row rows
no_text separator quote s p is broken = ap (λ rs. option_and_then text_row (only rs)) (one_more _ _ p is) ∙ by_rest (records_from _ _ p.1 p.2)
  where
    by_rest : (rest : List Row) → option_and_then text_row (only (p.0 ∷ rest)) ≡ None
    by_rest [] = no_text_row p.0 broken
    by_rest (r ∷ rs) = refl

several : (separator quote : ℕ) (s : List ℕ) (p q : Read) → first separator quote s ≡ Some p
    → next_record (form separator quote) p.1 [] [] p.2 ≡ Some q → one_row separator quote s ≡ None
unfolding one_row rows
several separator quote s p q is then_is = ap (λ rs. option_and_then text_row (only rs)) (two_more _ _ p q is then_is).1

single : (separator quote : ℕ) (s : List ℕ) (p : Read) → first separator quote s ≡ Some p
    → next_record (form separator quote) p.1 [] [] p.2 ≡ None → AllText p.0 → one_row separator quote s ≡ Some p.0
unfolding one_row rows
single separator quote s p is end text =
    ap (λ rs. option_and_then text_row (only rs)) (one_more _ _ p is ∙ ap (λ rest. p.0 ∷ rest) (no_more _ _ _ _ end)) ∙ text_row_of p.0 text

-- where the first read found a row of text
pub behind : {R : Type 0} (rem : R → Option (List ℕ)) (found : Option Read) (row : Row) (a b : Reader R) → Says rem next.Row found row a b
    → (p : Read) × (found ≡ Some p) × Behind rem p row a b
behind rem None row a b says = elim says [ ]
behind rem (Some p) row a b says = (p, refl, says)

refused_by : {R : Type 0} (rem : R → Option (List ℕ)) (separator quote : ℕ) (s : List ℕ) (row : Row) (a b : Reader R) (n : NextRow) (found : Option Read)
    → first separator quote s ≡ found → (n ≡ next.NoText) ⊎ (n ≡ next.End) → Says rem n found row a b → one_row separator quote s ≡ None
refused_by rem separator quote s row a b n None is (inl e) says = elim (rw e at says) [ ]
refused_by rem separator quote s row a b n (Some p) is (inl e) says = no_text separator quote s p is (rw e at says)
refused_by rem separator quote s row a b n None is (inr e) says = no_row separator quote s is
refused_by rem separator quote s row a b n (Some p) is (inr e) says = elim (rw e at says) [ ]

-- the first read found no row of text
pub refused : {R : Type 0} (rem : R → Option (List ℕ)) (separator quote : ℕ) (s : List ℕ) (row : Row) (a b : Reader R) (n : NextRow)
    → reader_config a ≡ form separator quote → reader_state a ≡ st.StartRecord → (n ≡ next.NoText) ⊎ (n ≡ next.End)
    → Says rem n (next_record (reader_config a) (reader_state a) [] [] (strip_bom s)) row a b → one_row separator quote s ≡ None
refused rem separator quote s row a b n config state no_row_is says = refused_by rem separator quote s row a b n _ refl no_row_is
    (subst (λ found. Says rem n found row a b) (ap₂ (λ cfg at. next_record cfg at [] [] (strip_bom s)) config state) says)

others_by : {R : Type 0} (rem : R → Option (List ℕ)) (row : Row) (b c : Reader R) (n : NextRow) (found : Option Read)
    → (n ≡ next.Row) ⊎ (n ≡ next.NoText) → Says rem n found row b c → (q : Read) × (found ≡ Some q)
others_by rem row b c n None (inl e) says = elim (rw e at says) [ ]
others_by rem row b c n None (inr e) says = elim (rw e at says) [ ]
others_by rem row b c n (Some q) is says = (q, refl)

end_by : {R : Type 0} (rem : R → Option (List ℕ)) (row : Row) (b c : Reader R) (n : NextRow) (found : Option Read)
    → n ≡ next.End → Says rem n found row b c → found ≡ None
end_by rem row b c n None e says = refl
end_by rem row b c n (Some q) e says = elim (rw e at says) [ ]

module _ {R : Type 0} (rem : R → Option (List ℕ)) (separator quote : ℕ) (s : List ℕ) (row other : Row) (a b c : Reader R) (p : Read) (n : NextRow)
    (config : reader_config a ≡ form separator quote) (state : reader_state a ≡ st.StartRecord)
    (is : next_record (reader_config a) (reader_state a) [] [] (strip_bom s) ≡ Some p) (found : Behind rem p row a b)
    (says : Says rem n (next_record (reader_config b) (reader_state b) [] [] p.2) other b c) where
  was : first separator quote s ≡ Some p
  was = sym (ap₂ (λ cfg at. next_record cfg at [] [] (strip_bom s)) config state) ∙ is

  then_says : Says rem n (next_record (form separator quote) p.1 [] [] p.2) other b c
  then_says = subst (λ o. Says rem n o other b c) (ap₂ (λ cfg at. next_record cfg at [] [] p.2) (found.config ∙ config) found.state) says

  pub others : (n ≡ next.Row) ⊎ (n ≡ next.NoText) → one_row separator quote s ≡ None
  others more = let second = others_by rem other b c n _ more then_says in several separator quote s p second.0 was second.1

  pub alone : n ≡ next.End → one_row separator quote s ≡ Some row
  alone end = single separator quote s p was (end_by rem other b c n _ end then_says) (rw found.fields at found.text) ∙ ap Some (sym found.fields)
