-- One line of a text, and the last one.
use Rattle.std.proofs.Common.{Bool, true, false, cond, suc, arith, ◌≡◌, ℕ, ◌+◌, ◌<◌, List, [], ◌∷◌, length, refl, sym, ap, ◌∙◌, Ok, Err}
use Rattle.std.specs.Prelude.{Result, ◌==◌, not}
use Rattle.std.specs.List.{position_or_len, before_first, after_first, onto_first}
use Rattle.std.proofs.lemmas.List.Splits.{slice_split_first}
use Rattle.settings_lines.specs.Lines.{lines_of}
use Rattle.settings_lines.specs.Answers.{Refuses}
use Rattle.settings_lines.specs.Reading.{ReadSoFar, and_then, taken}
use Rattle.settings_lines.specs.Steps.{read_behind}
use Rattle.settings_lines.specs.declared.fault.SettingsFault.{SettingsFault}
use Rattle.settings_lines.specs.declared.fault.SettingsFault.TheVariants as fault
use Rattle.settings_lines.specs.declared.orders.Orders.{Orders}

pub first_line : (s line behind : List ℕ) → position_or_len (λ b. b == 10) s < length s → line ≡ before_first (λ b. b == 10) s → behind ≡ after_first (λ b. b == 10) s → lines_of s ≡ line ∷ lines_of behind
first_line s line behind within is rest =
    slice_split_first (λ b. b == 10) s 0 within ∙ (λ i. sym is i ∷ lines_of (sym rest i))

-- a text without a line feed is one line
pub only_line : (s : List ℕ) → position_or_len (λ b. b == 10) s ≡ length s → lines_of s ≡ s ∷ []
only_line [] none = refl
only_line (b ∷ s) none = by (b == 10) (λ end. only_line s end) none
  where
    by : (t : Bool) → (position_or_len (λ c. c == 10) s ≡ length s → lines_of s ≡ s ∷ []) → cond (not t) (1 + position_or_len (λ c. c == 10) s) 0 ≡ suc (length s) → cond t ([] ∷ lines_of s) (onto_first b (lines_of s)) ≡ (b ∷ s) ∷ []
    by true rest end = absurd (omega arith)
    by false rest end = ap (onto_first b) (rest (omega arith))

module _ (orders : Orders) (r : ReadSoFar) (n : ℕ) (s line behind : List ℕ) where
  pub turn : (more : ReadSoFar) → lines_of s ≡ line ∷ lines_of behind → taken orders r n line ≡ Ok more → read_behind orders more (n + 1) (lines_of behind) ≡ read_behind orders r n (lines_of s)
  turn more is took = sym (ap (and_then (λ m. read_behind orders m (n + 1) (lines_of behind))) took) ∙ ap (read_behind orders r n) (sym is)

  stops : (why : SettingsFault) → lines_of s ≡ line ∷ lines_of behind → taken orders r n line ≡ Err why → read_behind orders r n (lines_of s) ≡ Err why
  stops why is took = ap (read_behind orders r n) is ∙ ap (and_then (λ m. read_behind orders m (n + 1) (lines_of behind))) took

  pub turn_refused : (why : SettingsFault) → lines_of s ≡ line ∷ lines_of behind → Refuses why (taken orders r n line) → Refuses why (read_behind orders r n (lines_of s))
  turn_refused fault.Memory is no_line = tt
  turn_refused (fault.Line m k) is no_line = stops (fault.Line m k) is no_line
  turn_refused (fault.Unknown m k) is no_line = stops (fault.Unknown m k) is no_line
  turn_refused (fault.Range m k) is no_line = stops (fault.Range m k) is no_line
  turn_refused (fault.Twice id) is no_line = stops (fault.Twice id) is no_line

and_ok : (t : Result ReadSoFar SettingsFault) → t ≡ and_then (λ m. Ok m) t
and_ok (Ok r) = refl
and_ok (Err f) = refl

pub last_line : (orders : Orders) (r : ReadSoFar) (n : ℕ) (s : List ℕ) → lines_of s ≡ s ∷ [] → taken orders r n s ≡ read_behind orders r n (lines_of s)
last_line orders r n s is = and_ok (taken orders r n s) ∙ ap (read_behind orders r n) (sym is)
