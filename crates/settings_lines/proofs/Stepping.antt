-- What is read line by line is what the text says.
use Rattle.std.proofs.Common.{◌≡◌, ℕ, ◌+◌, List, [], ◌∷◌, ◌++◌, length, map, refl, sym, ap, ap₂, ◌∙◌, arith, append_assoc, append-nil, Bool, true, false, if◌then◌else◌, Option, Some, None, Ok, Err}
use Rattle.std.specs.Prelude.{Result}
use Rattle.std.proofs.lemmas.List.{length-append}
use Rattle.settings_lines.specs.Lines.{is_blank, begins_entry, pair_of, lines_of}
use Rattle.settings_lines.specs.Answers.{Refuses}
use Rattle.settings_lines.specs.Values.{with_line, settings_of}
use Rattle.settings_lines.specs.Entries.{Fault, or_else, EntryLines, Grouped, Numbered, with_first, grouped, values, values_behind, first_fault, faults_behind, front_fault, entries_fault, later_fault}
use Rattle.settings_lines.specs.Reading.{Opened, ReadSoFar, opened, with_later, unless, and_then, closed_with, closed, begun, added, added_to, taken}
use Rattle.settings_lines.specs.Pipelines.{Answer, concluded, check_unique_ids, first_twice, with_written, written, entries_answer}
use Rattle.settings_lines.specs.Steps.{read_behind, nothing, read}
use Rattle.settings_lines.specs.declared.fault.SettingsFault.{SettingsFault}
use Rattle.settings_lines.specs.declared.fault.SettingsFault.TheVariants as fault
use Rattle.settings_lines.specs.declared.orders.Orders.{Orders}
use Rattle.settings_lines.specs.declared.settings.PipelineSettings.{PipelineSettings}

or_none : (f : Fault) → or_else f None ≡ f
or_none None = refl
or_none (Some f) = refl

or_assoc : (a b c : Fault) → or_else a (or_else b c) ≡ or_else (or_else a b) c
or_assoc None b c = refl
or_assoc (Some f) b c = refl

length_more : (ps : List PipelineSettings) (p : PipelineSettings) → length (ps ++ p ∷ []) ≡ length ps + 1
length_more ps p = omega (arith, length-append ps (p ∷ []))

abbrev no_lines : Grouped
no_lines = record { front = []; entries = [] }

-- the fault of an entry that goes on with these lines
abbrev open_fault : ℕ → Opened → List Numbered → Fault
open_fault before o front = or_else (first_fault before o.number o.first (values_behind o.values front)) (or_else o.fault (faults_behind o.values front))

abbrev rest_fault : ℕ → Option Opened → Grouped → Fault
rest_fault before None g = or_else (front_fault g.front) (entries_fault before g.entries)
rest_fault before (Some o) g = or_else (open_fault before o g.front) (entries_fault (before + 1) g.entries)

module _ (orders : Orders) where
  abbrev settings : EntryLines → PipelineSettings
  settings e = settings_of orders (values e)

  abbrev rest_settings : Option Opened → Grouped → List PipelineSettings
  rest_settings None g = map settings g.entries
  rest_settings (Some o) g = settings_of orders (values_behind o.values g.front) ∷ map settings g.entries

  -- what the text says where so much was read and this is left
  abbrev rest_answer : List PipelineSettings → Option Opened → Grouped → Answer
  rest_answer done o g = concluded (rest_fault (length done) o g) (done ++ rest_settings o g)

  abbrev answered : Result ReadSoFar SettingsFault → Grouped → Answer
  answered (Ok r) g = rest_answer r.done r.open_entry g
  answered (Err f) g = Err f

  -- a line of the entry that goes on
  goes_on : (done : List PipelineSettings) (o : Option Opened) (n : ℕ) (l : List ℕ) (g : Grouped) → answered (added_to done o n (pair_of l)) g ≡ rest_answer done o (record { front = (n, l) ∷ g.front; entries = g.entries })
  goes_on done None n l g = refl
  goes_on done (Some o) n l g =
      ap (λ f. concluded (or_else (or_else (first_fault (length done) o.number o.first (values_behind (with_line o.values (pair_of l)) g.front)) f) (entries_fault (length done + 1) g.entries))
      (done ++ rest_settings (Some (with_later o n (pair_of l))) g))
      (sym (or_assoc o.fault (later_fault o.values n (pair_of l)) (faults_behind (with_line o.values (pair_of l)) g.front)))

  abbrev entry_at : ℕ → List ℕ → List Numbered → EntryLines
  entry_at n l front = record { first = (n, l); later = front }

  -- the entry that goes on is whole, and another begins
  next_entry : (done : List PipelineSettings) (f : Fault) (p : PipelineSettings) (n : ℕ) (l : List ℕ) (g : Grouped)
      → answered (and_then (λ ps. Ok (record { done = ps; open_entry = Some (opened n (pair_of l)) })) (and_then (λ s. Ok (done ++ s ∷ [])) (unless f p))) g
      ≡ concluded (or_else f (entries_fault (length done + 1) (entry_at n l g.front ∷ g.entries))) (done ++ p ∷ map settings (entry_at n l g.front ∷ g.entries))
  next_entry done (Some f) p n l g = refl
  next_entry done None p n l g = ap₂ (λ k ps. concluded (entries_fault k (entry_at n l g.front ∷ g.entries)) ps) (length_more done p) (append_assoc done (p ∷ []) (map settings (entry_at n l g.front ∷ g.entries)))

  begins : (done : List PipelineSettings) (o : Option Opened) (n : ℕ) (l : List ℕ) (g : Grouped)
      → answered (and_then (λ ps. Ok (record { done = ps; open_entry = Some (opened n (pair_of l)) })) (closed_with orders done o)) g
      ≡ rest_answer done o (record { front = []; entries = entry_at n l g.front ∷ g.entries })
  begins done None n l g = refl
  begins done (Some o) n l g =
      next_entry done (or_else (first_fault (length done) o.number o.first o.values) o.fault) (settings_of orders o.values) n l g
      ∙ ap (λ f. concluded (or_else (or_else (first_fault (length done) o.number o.first o.values) f) (entries_fault (length done + 1) (entry_at n l g.front ∷ g.entries))) (done ++ rest_settings (Some o) (record { front = []; entries = entry_at n l g.front ∷ g.entries })))
      (sym (or_none o.fault))

  by_entry : (r : ReadSoFar) (n : ℕ) (l : List ℕ) (g : Grouped) (b : Bool) → answered (if b then begun orders r n (pair_of l) else added r n (pair_of l)) g ≡ rest_answer r.done r.open_entry (with_first b (n, l) g)
  by_entry r n l g true = begins r.done r.open_entry n l g
  by_entry r n l g false = goes_on r.done r.open_entry n l g

  by_blank : (r : ReadSoFar) (n : ℕ) (l : List ℕ) (ls : List Numbered) (t : Bool) → answered (if t then Ok r else (if begins_entry l then begun orders r n (pair_of l) else added r n (pair_of l))) (grouped ls) ≡ rest_answer r.done r.open_entry (grouped (if t then ls else (n, l) ∷ ls))
  by_blank r n l ls true = refl
  by_blank r n l ls false = by_entry r n l (grouped ls) (begins_entry l)

  -- one line
  step : (r : ReadSoFar) (n : ℕ) (l : List ℕ) (ls : List Numbered) → answered (taken orders r n l) (grouped ls) ≡ rest_answer r.done r.open_entry (grouped (with_written n l ls))
  step r n l ls = by_blank r n l ls (is_blank l)

  behind : (t : Result ReadSoFar SettingsFault) (n : ℕ) (ls : List (List ℕ)) → ((r : ReadSoFar) → answered (read_behind orders r n ls) no_lines ≡ rest_answer r.done r.open_entry (grouped (written n ls))) → answered (and_then (λ more. read_behind orders more n ls) t) no_lines ≡ answered t (grouped (written n ls))
  behind (Ok r) n ls each = each r
  behind (Err f) n ls each = refl

  -- all lines
  all_lines : (r : ReadSoFar) (n : ℕ) (ls : List (List ℕ)) → answered (read_behind orders r n ls) no_lines ≡ rest_answer r.done r.open_entry (grouped (written n ls))
  all_lines r n [] = refl
  all_lines r n (l ∷ ls) = behind (taken orders r n l) (n + 1) ls (λ more. all_lines more (n + 1) ls) ∙ step r n l (written (n + 1) ls)

  -- what is concluded of entries that are all whole
  abbrev concluded_of : Result (List PipelineSettings) SettingsFault → Answer
  concluded_of (Ok ps) = check_unique_ids (first_twice [] ps) ps
  concluded_of (Err f) = Err f

  last_entry : (done : List PipelineSettings) (f : Fault) (p : PipelineSettings) → concluded_of (and_then (λ s. Ok (done ++ s ∷ [])) (unless f p)) ≡ concluded (or_else f None) (done ++ p ∷ [])
  last_entry done None p = refl
  last_entry done (Some f) p = refl

  whole : (done : List PipelineSettings) (o : Option Opened) → concluded_of (closed_with orders done o) ≡ rest_answer done o no_lines
  whole done None = ap (concluded None) (sym (append-nil done))
  whole done (Some o) =
      last_entry done (or_else (first_fault (length done) o.number o.first o.values) o.fault) (settings_of orders o.values)
      ∙ ap (λ f. concluded (or_else (or_else (first_fault (length done) o.number o.first o.values) f) None) (done ++ settings_of orders o.values ∷ [])) (sym (or_none o.fault))

  -- the text says what is concluded, or is refused as what was read
  abbrev pub says : List ℕ → Answer
  says text = entries_answer orders (grouped (written 1 (lines_of text)))

  pub said : (text : List ℕ) (r : ReadSoFar) → read orders text ≡ Ok r → concluded_of (closed orders r) ≡ says text
  said text r is = whole r.done r.open_entry ∙ sym (ap (λ t. answered t no_lines) is) ∙ all_lines nothing 1 (lines_of text)

  pub refused : (text : List ℕ) (why : SettingsFault) → Refuses why (read orders text) → Refuses why (says text)
  refused text fault.Memory is = tt
  refused text (fault.Line n k) is = sym (all_lines nothing 1 (lines_of text)) ∙ ap (λ t. answered t no_lines) is
  refused text (fault.Unknown n k) is = sym (all_lines nothing 1 (lines_of text)) ∙ ap (λ t. answered t no_lines) is
  refused text (fault.Range n k) is = sym (all_lines nothing 1 (lines_of text)) ∙ ap (λ t. answered t no_lines) is
  refused text (fault.Twice id) is = sym (all_lines nothing 1 (lines_of text)) ∙ ap (λ t. answered t no_lines) is

  pub not_closed : (text : List ℕ) (r : ReadSoFar) (why : SettingsFault) → read orders text ≡ Ok r → Refuses why (closed orders r) → Refuses why (says text)
  not_closed text r fault.Memory is no_end = tt
  not_closed text r (fault.Line n k) is no_end = sym (said text r is) ∙ ap concluded_of no_end
  not_closed text r (fault.Unknown n k) is no_end = sym (said text r is) ∙ ap concluded_of no_end
  not_closed text r (fault.Range n k) is no_end = sym (said text r is) ∙ ap concluded_of no_end
  not_closed text r (fault.Twice id) is no_end = sym (said text r is) ∙ ap concluded_of no_end

  pub whole_text : (text : List ℕ) (r : ReadSoFar) (ps : List PipelineSettings) → read orders text ≡ Ok r → closed orders r ≡ Ok ps → check_unique_ids (first_twice [] ps) ps ≡ says text
  whole_text text r ps is end = sym (ap concluded_of end) ∙ said text r is
