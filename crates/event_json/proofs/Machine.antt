-- A text byte by byte: what may come next, and where a text stops being the front of one.
use Rattle.std.specs.Prelude.{ℕ, zero, suc, List, [], ◌∷◌, length, Bool, true, false, ◌||◌, Option, Some, None, nat_lt, ◌==◌, if◌then◌else◌}
use Rattle.event_tree.specs.NumberTexts.{is_digit}
use Rattle.event_json.specs.Strings.{short_of, hex_of}
use Rattle.event_json.specs.Grammar.{is_space}
use Rattle.event_json.specs.Reading.{Fault, At, Deep}

pub data Frame : Type 0 where
  in_list : Frame
  in_object : Frame

-- where in a string
pub data Place : Type 0 where
  plain : Place
  escape : Place
  hex : (wanted : ℕ) → Place

pub data Mode : Type 0 where
  want : Mode
  opened : Mode
  after : Mode
  opened_object : Mode
  key : Mode
  colon : Mode
  text : (is_key : Bool) → Place → Mode
  word : (letter : ℕ) → (others : List ℕ) → Mode
  minus : Mode
  nought : Mode
  digits : Mode
  point : Mode
  decimals : Mode
  exponent : Mode
  sign : Mode
  power : Mode

pub data Move : Type 0 where
  fails : Move
  passes : Move
  moves : Mode → List Frame → Move

abbrev pub others : List Frame → List Frame
others [] = []
others (f ∷ fs) = fs

-- what follows a string
abbrev pub behind : Bool → Mode
behind true = colon
behind false = after

abbrev pub step_after : List Frame → ℕ → Move
step_after [] b = if is_space b then moves after [] else fails
step_after (in_list ∷ fs) b = if is_space b then moves after (in_list ∷ fs) else (if b == 93 then moves after fs else (if b == 44 then moves want (in_list ∷ fs) else fails))
step_after (in_object ∷ fs) b = if is_space b then moves after (in_object ∷ fs) else (if b == 125 then moves after fs else (if b == 44 then moves key (in_object ∷ fs) else fails))

abbrev pub step_number : List Frame → ℕ → Move
step_number fs b = if b == 48 then moves nought fs else (if is_digit b then moves digits fs else fails)

abbrev pub step_signed : List Frame → ℕ → Move
step_signed fs b = if b == 45 then moves minus fs else step_number fs b

abbrev pub step_scalar : List Frame → ℕ → Move
step_scalar fs b = if b == 110 then moves (word 117 (108 ∷ 108 ∷ [])) fs else (if b == 116 then moves (word 114 (117 ∷ 101 ∷ [])) fs else (if b == 102 then moves (word 97 (108 ∷ 115 ∷ 101 ∷ [])) fs else step_signed fs b))

-- at most so many levels
abbrev pub open_if : Bool → Mode → List Frame → Move
open_if room m fs = if room then moves m fs else passes

abbrev pub step_value : ℕ → List Frame → ℕ → Move
step_value levels fs b = if b == 34 then moves (text false plain) fs else (if b == 91 then open_if (nat_lt (length fs) levels) opened (in_list ∷ fs) else (if b == 123 then open_if (nat_lt (length fs) levels) opened_object (in_object ∷ fs) else step_scalar fs b))

abbrev pub step_exponent : List Frame → ℕ → Move
step_exponent fs b = if b == 101 || b == 69 then moves exponent fs else step_after fs b

abbrev pub step_fraction : List Frame → ℕ → Move
step_fraction fs b = if b == 46 then moves point fs else step_exponent fs b

abbrev pub step_short : Bool → List Frame → Option ℕ → Move
step_short is_key fs None = fails
step_short is_key fs (Some c) = moves (text is_key plain) fs

abbrev pub step_hex : Bool → List Frame → ℕ → Option ℕ → Move
step_hex is_key fs n None = fails
step_hex is_key fs zero (Some d) = moves (text is_key plain) fs
step_hex is_key fs (suc n) (Some d) = moves (text is_key (hex n)) fs

abbrev pub step_text : Bool → Place → List Frame → ℕ → Move
step_text is_key plain fs b = if b == 34 then moves (behind is_key) fs else (if b == 92 then moves (text is_key escape) fs else (if nat_lt b 32 then fails else moves (text is_key plain) fs))
step_text is_key escape fs b = if b == 117 then moves (text is_key (hex 3)) fs else step_short is_key fs (short_of b)
step_text is_key (hex n) fs b = step_hex is_key fs n (hex_of b)

abbrev pub step_word : List ℕ → List Frame → Move
step_word [] fs = moves after fs
step_word (w ∷ ws) fs = moves (word w ws) fs

abbrev pub step : ℕ → Mode → List Frame → ℕ → Move
step levels want fs b = if is_space b then moves want fs else step_value levels fs b
step levels opened fs b = if is_space b then moves opened fs else (if b == 93 then moves after (others fs) else step_value levels fs b)
step levels after fs b = step_after fs b
step levels opened_object fs b = if is_space b then moves opened_object fs else (if b == 125 then moves after (others fs) else (if b == 34 then moves (text true plain) fs else fails))
step levels key fs b = if is_space b then moves key fs else (if b == 34 then moves (text true plain) fs else fails)
step levels colon fs b = if is_space b then moves colon fs else (if b == 58 then moves want fs else fails)
step levels (text is_key place) fs b = step_text is_key place fs b
step levels (word letter others) fs b = if b == letter then step_word others fs else fails
step levels minus fs b = step_number fs b
step levels nought fs b = step_fraction fs b
step levels digits fs b = if is_digit b then moves digits fs else step_fraction fs b
step levels point fs b = if is_digit b then moves decimals fs else fails
step levels decimals fs b = if is_digit b then moves decimals fs else step_exponent fs b
step levels exponent fs b = if b == 45 || b == 43 then moves sign fs else (if is_digit b then moves power fs else fails)
step levels sign fs b = if is_digit b then moves power fs else fails
step levels power fs b = if is_digit b then moves power fs else step_after fs b

-- where a value may end, a text does if nothing is open
abbrev pub ends_value : List Frame → Option Fault
ends_value [] = None
ends_value (f ∷ fs) = Some (At 0)

abbrev pub ends : Mode → List Frame → Option Fault
ends want fs = Some (At 0)
ends opened fs = Some (At 0)
ends after fs = ends_value fs
ends opened_object fs = Some (At 0)
ends key fs = Some (At 0)
ends colon fs = Some (At 0)
ends (text is_key place) fs = Some (At 0)
ends (word letter others) fs = Some (At 0)
ends minus fs = Some (At 0)
ends nought fs = ends_value fs
ends digits fs = ends_value fs
ends point fs = Some (At 0)
ends decimals fs = ends_value fs
ends exponent fs = Some (At 0)
ends sign fs = Some (At 0)
ends power fs = ends_value fs

-- the fault that is met; none where the bytes end a text
abbrev pub fate_from : Move → (Mode → List Frame → Option Fault) → ℕ → Option Fault
fate_from fails on left = Some (At left)
fate_from passes on left = Some (Deep left)
fate_from (moves m fs) on left = on m fs

unfoldable pub fate : ℕ → List ℕ → Mode → List Frame → Option Fault
fate levels [] m fs = ends m fs
fate levels (b ∷ bs) m fs = fate_from (step levels m fs b) (fate levels bs) (suc (length bs))
