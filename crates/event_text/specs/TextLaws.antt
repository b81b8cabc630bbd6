-- Laws of texts that are paths, numbers, templates or formats, each a statement on all of them.
use Rattle.std.specs.Prelude.{◌≡◌, ◌≢◌, ◌<◌, ℕ, ℤ, false, List, [], ◌∷◌, ◌++◌, length, slice_index, ⊤, Option, Some, None, IfSome}
use Rattle.event_tree.specs.Number.{Num, IsLeast}
use Rattle.event_tree.specs.NumberTexts.{NumberReads, IsI64}
use Rattle.event_tree.specs.PathTexts.{IsPathText, IsPathFault}
use Rattle.event_tree.specs.declared.fault.PathFault.{PathFault}
use Rattle.event_tree.specs.declared.fault.PathFault.TheVariants.{Memory}
use Rattle.event_json.specs.Json.{number_text}
use Rattle.event_tree.specs.Characters.{plus, percent, opening_brace, closing_brace}
use Rattle.event_tree.specs.Events.{Ev, Way}
use Rattle.event_text.specs.PathReading.{parts_in, way_in, fault_in}
use Rattle.event_text.specs.DateFormats.{kind, runs, part_of, parts_of, format_of}
use Rattle.event_text.specs.Template.{opens, template_parts, template_part_of, date_part_of, as_written, plain_parts, with_plain, day_in, text}
use Rattle.event_text.specs.declared.date_format.DatePart.{DatePart}
use Rattle.event_text.specs.declared.template.TemplatePart.{TemplatePart}
use Rattle.event_text.specs.declared.template.TemplatePart.TheVariants as p

-- a text is a path in one way at most
abbrev pub PathsAreOne : Type 0
PathsAreOne = (ps qs : List (List ℕ)) (text : List ℕ) → IsPathText ps text → IsPathText qs text → ps ≡ qs

abbrev pub PathsAreComputed : Type 0
PathsAreComputed = (ps : List (List ℕ)) (text : List ℕ) → IsPathText ps text → parts_in text ≡ Some ps

-- where a fault stands in a text, it is no path
abbrev pub FaultyTextsAreNoPaths : Type 0
FaultyTextsAreNoPaths = (fault : PathFault) (text : List ℕ) → fault ≢ Memory → IsPathFault fault text → parts_in text ≡ None

-- a text has one first fault at most
abbrev pub FaultsAreOne : Type 0
FaultsAreOne = (fault other : PathFault) (text : List ℕ) → fault ≢ Memory → other ≢ Memory
    → IsPathFault fault text → IsPathFault other text → fault ≡ other

abbrev pub FaultsAreComputed : Type 0
FaultsAreComputed = (fault : PathFault) (text : List ℕ) → fault ≢ Memory → IsPathFault fault text → fault_in text ≡ Some fault

abbrev pub PathsHaveNoFault : Type 0
PathsHaveNoFault = (ps : List (List ℕ)) (text : List ℕ) → IsPathText ps text → fault_in text ≡ None

-- a text writes one number at most, in least form
abbrev pub NumbersAreOne : Type 0
NumbersAreOne = (n m : Num) (text : List ℕ)
    → IsLeast n.mantissa n.scale → IsLeast m.mantissa m.scale
    → NumberReads (Some n) text → NumberReads (Some m) text → n ≡ m

-- the text of a number reads as no other
abbrev pub NumberTextsReadAsNoOther : Type 0
NumberTextsReadAsNoOther = (n : Num) (r : Option Num)
    → IsLeast n.mantissa n.scale → IsI64 n.mantissa → IfSome r (λ m. IsLeast m.mantissa m.scale)
    → NumberReads r (number_text n) → r ≡ Some n

-- the byte stands nowhere in these
abbrev pub HasNo : ℕ → List ℕ → Type 0
HasNo b [] = ⊤
HasNo b (c ∷ bytes) = (c ≢ b) × HasNo b bytes

-- `%{+`, a format and `}` are a date, and reading goes on behind them
abbrev pub DatesAreRead : Type 0
DatesAreRead = (format rest : List ℕ) (parts : List DatePart) → HasNo closing_brace format → format_of format ≡ Some parts
    → template_parts (as_written (plus ∷ format) ++ rest) ≡ p.Date parts (plus ∷ format) ∷ template_parts rest

-- `%{`, a path that is no format, and `}` are a field
abbrev pub FieldsAreRead : Type 0
FieldsAreRead = (inner rest : List ℕ) (way : Way) → HasNo closing_brace inner → date_part_of inner ≡ None → way_in inner ≡ Some way
    → template_parts (as_written inner ++ rest) ≡ p.Field way inner ∷ template_parts rest

-- where what stands between is neither, the `%` is plain text, and reading goes on behind it
abbrev pub OthersStay : Type 0
OthersStay = (inner rest : List ℕ) → HasNo closing_brace inner → template_part_of inner ≡ None
    → template_parts (as_written inner ++ rest) ≡ with_plain percent (template_parts (opening_brace ∷ ((inner ++ closing_brace ∷ []) ++ rest)))

-- where no `%{` stands, or one with no `}` behind it, the first byte is plain text, and reading goes on behind it
abbrev pub UnopenedStays : Type 0
UnopenedStays = (b : ℕ) (rest : List ℕ) → opens (b ∷ rest) ≡ false → template_parts (b ∷ rest) ≡ with_plain b (template_parts rest)

abbrev pub UnclosedStays : Type 0
UnclosedStays = (rest : List ℕ) → HasNo closing_brace rest
    → template_parts (percent ∷ opening_brace ∷ rest) ≡ with_plain percent (template_parts (opening_brace ∷ rest))

-- a text with no `%` is one piece of plain text, or none where it is empty
abbrev pub PlainTextsAreOnePiece : Type 0
PlainTextsAreOnePiece = (text : List ℕ) → HasNo percent text → template_parts text ≡ plain_parts text

-- a run of one letter, or of bytes that are no letters
pub record IsOneRun (run : List ℕ) : Type 0 where
  pub some : 0 < length run
  pub same : (k : ℕ) → k < length run → kind (slice_index run k) ≡ kind (slice_index run 0)

-- the rest begins with another letter, or with none
abbrev pub BeginsOther : List ℕ → List ℕ → Type 0
BeginsOther run rest = 0 < length rest → kind (slice_index rest 0) ≢ kind (slice_index run 0)

-- a run at the front of a format is a part of it, and then come those of the rest
abbrev pub RunsAreParts : Type 0
RunsAreParts = (run rest : List ℕ) (part : DatePart) (parts : List DatePart) → IsOneRun run → BeginsOther run rest
    → part_of run ≡ Some part → parts_of (runs rest) ≡ Some parts → format_of (run ++ rest) ≡ Some (part ∷ parts)

-- a text that begins with a run which is no part is no format
abbrev pub OtherRunsAreRefused : Type 0
OtherRunsAreRefused = (run rest : List ℕ) → IsOneRun run → BeginsOther run rest → part_of run ≡ None → format_of (run ++ rest) ≡ None

-- events with the same day fill parts for which the day alone counts to the same text
abbrev pub DaysHaveOneText : Type 0
DaysHaveOneText = (pieces : List TemplatePart) (event other : Ev) (day : ℤ)
    → day_in pieces event ≡ Some day → day_in pieces other ≡ Some day → text pieces event ≡ text pieces other
