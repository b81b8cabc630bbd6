-- Places of letters rise, and a place that is recorded passes the letters up to its own.
use Rattle.std.proofs.Common.{◌≡◌, ⊎_elim, ℕ, zero, suc, ◌+◌, ◌-◌, ◌<◌, ◌≤◌, ◌==◌, true, false, List, [], ◌∷◌, ◌++◌, drop, Option, Some, slice_get, Result, Ok, Err, refl, sym, ap, subst, ◌∙◌, arith, eq-eqb}
use Rattle.std.proofs.lemmas.Bool.{cond-true, cond-false, cases_Bool}
use Rattle.std.proofs.lemmas.Bool.Decides.{nat_tests}
use Rattle.io_traits.specs.declared.queue_faults.Damage.{Damage}
use Rattle.dead_letters.specs.Letters.{letter_body, size_of}
use Rattle.dead_letters.specs.Queues.{segment, name_in}
use Rattle.dead_letters.specs.Records.{records_in}
use Rattle.dead_letters.specs.Found.{Held}
use Rattle.dead_letters.specs.Rows.{followed_by, in_file, placed, placed_in, row, rows_from, rows_of}
use Rattle.dead_letters.proofs.RecordReads.{length-record_of}
use Rattle.dead_letters.specs.declared.segments.Counted.{Counted}
use Rattle.dead_letters.specs.declared.letter.DeadLetter.{DeadLetter}
use Rattle.dead_letters.specs.declared.faults.RecordFault.{RecordFault}
use Rattle.dead_letters.specs.declared.rows.DeadRow.{DeadRow}
use Rattle.dead_letter_reader.specs.Places.{AllBehind, Passes, Rise, is_behind, place, place_at, place_in, rows_behind}
use Rattle.dead_letter_reader.specs.Steps.{recorded_at}
use Rattle.dead_letter_reader.specs.declared.place.LetterPosition.{LetterPosition}

-- ---- one letter behind another

-- in another segment behind, or in the same one behind
behind_by_segment : (p : LetterPosition) (r : DeadRow) → p.segment < r.segment → is_behind (Some p) r ≡ true
behind_by_segment p r less = grind (arith, nat_tests, less)

behind_by_length : (p : LetterPosition) (r : DeadRow) → p.segment ≡ r.segment → p.length < r.length → is_behind (Some p) r ≡ true
behind_by_length p r same less = grind (arith, nat_tests, same, less)

not_behind_itself : (r : DeadRow) → is_behind (Some (place_at r)) r ≡ false
not_behind_itself r = grind (arith, nat_tests)

not_both_behind : (x r : DeadRow) → is_behind (Some (place_at x)) r ≡ true → is_behind (Some (place_at r)) x ≡ false
not_both_behind x r behind = grind (arith, nat_tests, behind)

-- ---- the letters of a queue

-- in segments from a number on
abbrev StandFrom : ℕ → List DeadRow → Type 0
StandFrom n [] = Unit {0}
StandFrom n (r ∷ rows) = (n ≤ r.segment) × StandFrom n rows

far_behind : (p : LetterPosition) (n : ℕ) (rows : List DeadRow) → p.segment < n → StandFrom n rows → AllBehind (Some p) rows
far_behind p n [] less from = tt
far_behind p n (r ∷ rows) less from = (behind_by_segment p r (omega (arith, less, from.0)), far_behind p n rows less from.1)

from_before : (n : ℕ) (rows : List DeadRow) → StandFrom (suc n) rows → StandFrom n rows
from_before n [] from = tt
from_before n (r ∷ rows) from = (omega (arith, from.0), from_before n rows from.1)

size_some : (l : DeadLetter) → 0 < size_of l
size_some l = let e = length-record_of (letter_body l) in omega (arith, e)

-- letters of one segment, and then those of segments behind it
placed_behind : (p : LetterPosition) (n before : ℕ) (ls : List DeadLetter) (more : List DeadRow) → p.segment ≡ n → p.length ≤ before → AllBehind (Some p) more → AllBehind (Some p) (placed n before ls ++ more)
placed_behind p n before [] more same less behind = behind
placed_behind p n before (l ∷ ls) more same less behind =
    let some = size_some l in
    (behind_by_length p (row l n (before + size_of l)) same (omega (arith, less, some)), placed_behind p n (before + size_of l) ls more same (omega (arith, less)) behind)

placed_rise : (n before : ℕ) (ls : List DeadLetter) (more : List DeadRow) → StandFrom (suc n) more → Rise more → Rise (placed n before ls ++ more)
placed_rise n before [] more from rise = rise
placed_rise n before (l ∷ ls) more from rise =
    let end = before + size_of l in
    (placed_behind (place n end) n end ls more refl (omega arith) (far_behind (place n end) (suc n) more (omega arith) from), placed_rise n end ls more from rise)

placed_from : (n before : ℕ) (ls : List DeadLetter) (more : List DeadRow) → StandFrom (suc n) more → StandFrom n (placed n before ls ++ more)
placed_from n before [] more from = from_before n more from
placed_from n before (l ∷ ls) more from = (omega arith, placed_from n (before + size_of l) ls more from)

abbrev RiseFrom : ℕ → List DeadRow → Type 0
RiseFrom n rows = StandFrom n rows × Rise rows

then_rise : (n : ℕ) (file : List ℕ) (own : Result (List DeadLetter) RecordFault) (rest : Result (List DeadRow) Damage) (all : List DeadRow) → ((more : List DeadRow) → rest ≡ Ok more → RiseFrom (suc n) more)
    → followed_by (in_file file (placed_in n own)) rest ≡ Ok all → RiseFrom n all
then_rise n file (Ok ls) (Ok more) all later is =
    let r = later more refl in
    let same : placed n 0 ls ++ more ≡ all = cc in
    subst (RiseFrom n) same (placed_from n 0 ls more r.0, placed_rise n 0 ls more r.0 r.1)
then_rise n file (Ok ls) (Err d) all later is = absurd cc
then_rise n file (Err at) rest all later is = absurd cc

from_rise : (folder : List ℕ) (n : ℕ) (segments : List (List ℕ)) (all : List DeadRow) → rows_from folder n segments ≡ Ok all → RiseFrom n all
from_rise folder n [] all is = let same : [] ≡ all = cc in subst (RiseFrom n) same (tt, tt)
from_rise folder n (bytes ∷ rest) all is =
    then_rise n (name_in folder (segment n)) (records_in bytes) (rows_from folder (suc n) rest) all (from_rise folder (suc n) rest) is

pub letters_rise : (folder : List ℕ) (h : Held) (all : List DeadRow) → rows_of folder h ≡ Ok all → Rise all
letters_rise folder h all is = (from_rise folder h.first h.segments all is).1

-- ---- the letters behind a place

kept_one : (p : Option LetterPosition) (r : DeadRow) (rows : List DeadRow) → is_behind p r ≡ true → rows_behind p (r ∷ rows) ≡ r ∷ rows_behind p rows
kept_one p r rows is = cond-true (is_behind p r) (r ∷ rows_behind p rows) (rows_behind p rows) is

left_one : (p : Option LetterPosition) (r : DeadRow) (rows : List DeadRow) → is_behind p r ≡ false → rows_behind p (r ∷ rows) ≡ rows_behind p rows
left_one p r rows is = cond-false (is_behind p r) (r ∷ rows_behind p rows) (rows_behind p rows) is

keeps_all : (p : Option LetterPosition) (rows : List DeadRow) → AllBehind p rows → rows_behind p rows ≡ rows
keeps_all p [] behind = refl
keeps_all p (r ∷ rows) behind = kept_one p r rows behind.0 ∙ ap (λ l. r ∷ l) (keeps_all p rows behind.1)

all_kept : (p : Option LetterPosition) (rows : List DeadRow) → AllBehind p (rows_behind p rows)
all_kept p [] = tt
all_kept p (r ∷ rows) = ⊎_elim
    (λ is. let both : AllBehind p (r ∷ rows_behind p rows) = (is, all_kept p rows) in subst (AllBehind p) (sym (kept_one p r rows is)) both)
    (λ is. subst (AllBehind p) (sym (left_one p r rows is)) (all_kept p rows))
    (cases_Bool (is_behind p r))

still_behind : (p q : Option LetterPosition) (rows : List DeadRow) → AllBehind q rows → AllBehind q (rows_behind p rows)
still_behind p q [] behind = tt
still_behind p q (r ∷ rows) behind = ⊎_elim
    (λ is. let both : AllBehind q (r ∷ rows_behind p rows) = (behind.0, still_behind p q rows behind.1) in subst (AllBehind q) (sym (kept_one p r rows is)) both)
    (λ is. subst (AllBehind q) (sym (left_one p r rows is)) (still_behind p q rows behind.1))
    (cases_Bool (is_behind p r))

pub behind_rise : (p : Option LetterPosition) (rows : List DeadRow) → Rise rows → Rise (rows_behind p rows)
behind_rise p [] rise = tt
behind_rise p (r ∷ rows) rise = ⊎_elim
    (λ is. let both : Rise (r ∷ rows_behind p rows) = (still_behind p (Some (place_at r)) rows rise.0, behind_rise p rows rise.1) in subst Rise (sym (kept_one p r rows is)) both)
    (λ is. subst Rise (sym (left_one p r rows is)) (behind_rise p rows rise.1))
    (cases_Bool (is_behind p r))

-- at an opening nothing more is passed
pub passes_none : (recorded : Counted) (p : Option LetterPosition) (all : List DeadRow) → place_in recorded ≡ Ok p → Passes (rows_behind p all) 0 recorded
passes_none recorded p all is = record {
  recorded_at = p;
  is = is;
  passed = 0;
  within = omega arith;
  others = keeps_all p (rows_behind p all) (all_kept p all);
}

-- ---- the place of a letter

behind_at : (p : Option LetterPosition) (rows : List DeadRow) (k : ℕ) (r : DeadRow) → AllBehind p rows → slice_get rows k ≡ Some r → is_behind p r ≡ true
behind_at p [] zero r behind is = absurd cc
behind_at p [] (suc k) r behind is = absurd cc
behind_at p (x ∷ rows) zero r behind is = let same : x ≡ r = cc in subst (λ y. is_behind p y ≡ true) same behind.0
behind_at p (x ∷ rows) (suc k) r behind is = behind_at p rows k r behind.1 is

passes_to : (rows : List DeadRow) (k : ℕ) (r : DeadRow) → Rise rows → slice_get rows k ≡ Some r → rows_behind (Some (place_at r)) rows ≡ drop (suc k) rows
passes_to [] zero r rise is = absurd cc
passes_to [] (suc k) r rise is = absurd cc
passes_to (x ∷ rows) zero r rise is =
    let same : x ≡ r = cc in
    subst (λ y. rows_behind (Some (place_at y)) (x ∷ rows) ≡ rows) same (left_one (Some (place_at x)) x rows (not_behind_itself x) ∙ keeps_all (Some (place_at x)) rows rise.0)
passes_to (x ∷ rows) (suc k) r rise is = left_one (Some (place_at r)) x rows (not_both_behind x r (behind_at (Some (place_at x)) rows k r rise.0 is)) ∙ passes_to rows k r rise.1 is

-- what is recorded of the last of the first letters passes these
pub passes_those : (rows : List DeadRow) (done : ℕ) (r : DeadRow) (before : Counted) → Rise rows → 0 < done → slice_get rows (done - 1) ≡ Some r → Passes rows done (recorded_at before r)
passes_those rows done r before rise some is = record {
  recorded_at = Some (place_at r);
  is = cond-true (r.segment == r.segment) _ _ (eq-eqb r.segment r.segment refl);
  passed = done;
  within = omega arith;
  others = passes_to rows (done - 1) r rise is ∙ ap (λ n. drop n rows) (let e : suc (done - 1) ≡ done = omega (arith, some) in e);
}

pub passes_more : (rows : List DeadRow) (done more : ℕ) (recorded : Counted) → Passes rows done recorded → done ≤ more → Passes rows more recorded
passes_more rows done more recorded p less = record { recorded_at = p.recorded_at; is = p.is; passed = p.passed; within = omega (arith, p.within, less); others = p.others }
