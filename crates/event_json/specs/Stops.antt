-- What a reader returned, beside what reading on lists gives.
use Rattle.std.specs.Prelude.{◌≡◌, ◌<◌, ◌≤◌, false, ◌+◌, ◌-◌, ◌*◌, ℕ, suc, List, [], ◌∷◌, ◌++◌, length, if◌then◌else◌, true, Option, Some, None, Result, Ok, Err, String, string_bytes}
use Rattle.std.specs.Str.{IsAscii}
use Rattle.event_tree.specs.Characters.{closing_bracket, closing_brace}
use Rattle.event_tree.specs.Values.{Members}
use Rattle.event_tree.specs.declared.value.Value.{Value}
use Rattle.event_json.specs.Strings.{is_plain, is_high, hex_of}
use Rattle.event_json.specs.Reading.{Fault, At, Deep, ◌>>=◌, Inside, plainly, inside_at, elements_at, item_at, member_at, node_at}
use Rattle.event_json.specs.declared.fault.JsonFault.{JsonFault}
use Rattle.event_json.specs.declared.fault.JsonFault.TheVariants as faults
use Rattle.event_json.specs.declared.fault.JsonStop.{JsonStop}
use Rattle.event_json.specs.declared.fault.JsonStop.TheVariants as stops

-- reading stops there too, unless memory ran out
abbrev pub Fails : {Y : Type 0} → JsonStop → Result Y Fault → Type 0
Fails stops.Memory read = Unit {0}
Fails (stops.At left) read = read ≡ Err (At left)
Fails (stops.Deep left) read = read ≡ Err (Deep left)

-- what was returned, seen by view, is what reading gives, unless memory ran out
abbrev pub Gives : {X Y : Type 0} → (X → Y) → Result X JsonStop → Result Y Fault → Type 0
Gives view (Ok x) read = read ≡ Ok (view x)
Gives view (Err stop) read = Fails stop read

-- the rest is what follows some ASCII in front
abbrev pub IsRest : List ℕ → List ℕ → Type 0
IsRest text rest = (front : List ℕ) × IsAscii front × (text ≡ front ++ rest)

-- the text doesn't begin with the byte
abbrev pub BeginsOther : ℕ → List ℕ → Type 0
BeginsOther byte text = (rest : List ℕ) → text ≡ byte ∷ rest → ⊥

-- what waits is a high surrogate
abbrev pub IsHeld : Option ℕ → Type 0
IsHeld None = Unit {0}
IsHeld (Some h) = is_high h ≡ true

-- the plain bytes in front, and what follows them
abbrev pub plain_run : List ℕ → List ℕ
plain_run [] = []
plain_run (b ∷ bs) = if is_plain b then b ∷ plain_run bs else []

abbrev pub after_plain_run : List ℕ → List ℕ
after_plain_run [] = []
after_plain_run (b ∷ bs) = if is_plain b then after_plain_run bs else b ∷ bs

-- the rest of a string is read on from here, with the surrogate that waits and the text so far, and some of it was read
abbrev pub GoesOn : {Z : Type 0} → Inside → Option ℕ → List ℕ → String Z → String Z → Option ℕ → List ℕ → Type 0
GoesOn place waits text old new waiting rest =
    (inside_at text place waits (string_bytes old) ≡ inside_at rest plainly waiting (string_bytes new))
    × (length rest < length text)

-- the same where none of it may have been read
abbrev pub Passes : {Z : Type 0} → Inside → Option ℕ → List ℕ → String Z → String Z → Option ℕ → List ℕ → Type 0
Passes place waits text old new waiting rest =
    (inside_at text place waits (string_bytes old) ≡ inside_at rest plainly waiting (string_bytes new))
    × (length rest ≤ length text)

-- the string can't be read on so
abbrev pub FailsInside : {Z : Type 0} → Inside → Option ℕ → List ℕ → String Z → JsonStop → Type 0
FailsInside place waits text found stop = Fails stop (inside_at text place waits (string_bytes found))

-- no plain byte stands in front
abbrev pub IsSpecial : List ℕ → Type 0
IsSpecial [] = Unit {0}
IsSpecial (b ∷ bs) = is_plain b ≡ false

-- a digit in base 16, and what follows it
abbrev pub hex_behind : Option ℕ → List ℕ → Result (ℕ × List ℕ) Fault
hex_behind None bs = Err (At (suc (length bs)))
hex_behind (Some d) bs = Ok (d, bs)

abbrev pub hex_at : List ℕ → Result (ℕ × List ℕ) Fault
hex_at [] = Err (At 0)
hex_at (b ∷ bs) = hex_behind (hex_of b) bs

-- four of them
unfoldable pub unit_at : List ℕ → Result (ℕ × List ℕ) Fault
unit_at bytes = hex_at bytes >>= λ a. hex_at a.1 >>= λ b. hex_at b.1 >>= λ c. hex_at c.1 >>= λ d. Ok (16 * (16 * (16 * a.0 + b.0) + c.0) + d.0, d.1)

-- the fault whose place is counted from the front of so many bytes
abbrev pub fault_at : JsonStop → ℕ → JsonFault
fault_at stops.Memory n = faults.Memory
fault_at (stops.At left) n = faults.At (n - left)
fault_at (stops.Deep left) n = faults.Deep (n - left)

-- items up to the bracket that ends them, and members up to the brace, with values of at most so many levels
abbrev pub items_at : ℕ → List ℕ → Result (List Value × List ℕ) Fault
items_at levels text = elements_at closing_bracket (item_at (node_at levels)) (length text) [] text

abbrev pub members_at : ℕ → List ℕ → Result (Members × List ℕ) Fault
members_at levels text = elements_at closing_brace (member_at (node_at levels)) (length text) [] text
