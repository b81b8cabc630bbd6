-- The rests behind blanks, numbers and literals.
use Rattle.std.proofs.Common.{◌≡◌, ℕ, List, subst, sym, Result, Ok}
use Rattle.std.specs.Str.{IsAscii}
use Rattle.event_json.specs.Reading as r
use Rattle.event_json.specs.Reading.{Fault}
use Rattle.event_json.proofs.GrammarFronts.{Read, Fronts, IsNumberText, skip_front, number_read, word_read}
use Rattle.event_json.proofs.Ascii.{space_ascii, number_ascii}
use Rattle.event_json.specs.Stops.{IsRest}

pub space_rest : (bytes : List ℕ) → IsRest bytes (r.skip bytes)
space_rest bytes = let f = skip_front bytes in (f.0, space_ascii f.0 f.1, f.2)

read_rest : (P : List ℕ → Type 0) (bytes rest : List ℕ) (read : Result (List ℕ) Fault) → ((front : List ℕ) → P front → IsAscii front) → Read P bytes read → read ≡ Ok rest → IsRest bytes rest
read_rest P bytes rest read ascii h e = let f : Fronts P bytes rest = rw e at h in (f.0, ascii f.0 f.1, f.2)

pub number_rest : (bytes rest : List ℕ) → r.after_number bytes ≡ Ok rest → IsRest bytes rest
number_rest bytes rest e = read_rest IsNumberText bytes rest (r.after_number bytes) (λ front h. subst (λ (ys : List ℕ). IsAscii ys) (sym h.2) (number_ascii h.0 h.1)) (number_read bytes) e

pub word_rest : (word bytes rest : List ℕ) → IsAscii word → r.after_word word bytes ≡ Ok rest → IsRest bytes rest
word_rest word bytes rest a e = read_rest (λ front. front ≡ word) bytes rest (r.after_word word bytes) (λ front h. subst (λ (ys : List ℕ). IsAscii ys) (sym h) a) (word_read word bytes) e
