-- Reading bytes from left to right, with the first fault that is met.
use Rattle.std.specs.Prelude.{ℕ, zero, suc, ◌-◌, List, [], ◌∷◌, ◌++◌, length, take, true, false, ◌||◌, ◌+◌, ◌*◌, Option, Some, None, Result, Ok, Err, nat_lt, ◌==◌, if◌then◌else◌, codes}
use Rattle.event_tree.specs.Characters.{backslash, capital_e, closing_brace, closing_bracket, colon, comma, digit_zero, minus, opening_brace, opening_bracket, plus, point, quote, small_e}
use Rattle.event_json.specs.Characters.{small_f, small_n, small_t, small_u}
use Rattle.plain_data.specs.Members.{insert_member}
use Rattle.event_tree.specs.Values.{Members}
use Rattle.event_tree.specs.NumberTexts.{is_digit}
use Rattle.event_tree.specs.declared.value.Value.{Value}
use Rattle.event_tree.specs.declared.value.Value.TheVariants as v
use Rattle.event_json.specs.Numbers.{number_value}
use Rattle.event_json.specs.Strings.{short_of, hex_of, lone, joined, held}
use Rattle.event_json.specs.Grammar.{is_space}

-- a fault, by how many bytes are left from its place on
pub data Fault : Type 0 where
  At : (left : ℕ) → Fault
  Deep : (left : ℕ) → Fault

infixl 10 ◌>>=◌
abbrev pub ◌>>=◌ : {A B : Type 0} → Result A Fault → (A → Result B Fault) → Result B Fault
(Ok x) >>= f = f x
(Err e) >>= f = Err e

abbrev pub Reads : Type 0 → Type 0
Reads A = List ℕ → Result (A × List ℕ) Fault

abbrev pub skip : List ℕ → List ℕ
skip [] = []
skip (b ∷ bs) = if is_space b then skip bs else b ∷ bs

-- ---- numbers

abbrev pub skip_digits : List ℕ → List ℕ
skip_digits [] = []
skip_digits (b ∷ bs) = if is_digit b then skip_digits bs else b ∷ bs

-- at least one digit
abbrev pub digits : List ℕ → Result (List ℕ) Fault
digits [] = Err (At 0)
digits (b ∷ bs) = if is_digit b then Ok (skip_digits bs) else Err (At (length (b ∷ bs)))

abbrev pub after_minus : List ℕ → List ℕ
after_minus [] = []
after_minus (b ∷ bs) = if b == minus then bs else b ∷ bs

abbrev pub after_sign : List ℕ → List ℕ
after_sign [] = []
after_sign (b ∷ bs) = if b == minus || b == plus then bs else b ∷ bs

abbrev pub whole : List ℕ → Result (List ℕ) Fault
whole [] = Err (At 0)
whole (b ∷ bs) = if b == digit_zero then Ok bs else digits (b ∷ bs)

abbrev pub fraction : List ℕ → Result (List ℕ) Fault
fraction [] = Ok []
fraction (b ∷ bs) = if b == point then digits bs else Ok (b ∷ bs)

abbrev pub exponent : List ℕ → Result (List ℕ) Fault
exponent [] = Ok []
exponent (b ∷ bs) = if b == small_e || b == capital_e then digits (after_sign bs) else Ok (b ∷ bs)

-- what follows a number
unfoldable pub after_number : List ℕ → Result (List ℕ) Fault
after_number bytes = whole (after_minus bytes) >>= λ a. fraction a >>= λ b. exponent b

unfoldable pub number_at : Reads Value
number_at bytes = after_number bytes >>= λ rest. Ok (number_value (take (length bytes - length rest) bytes), rest)

-- ---- literals

-- what follows the letters
abbrev pub after_word : List ℕ → List ℕ → Result (List ℕ) Fault
after_word [] bytes = Ok bytes
after_word (w ∷ ws) [] = Err (At 0)
after_word (w ∷ ws) (b ∷ bs) = if b == w then after_word ws bs else Err (At (length (b ∷ bs)))

abbrev pub word_at : List ℕ → Value → Reads Value
word_at word d bytes = after_word word bytes >>= λ rest. Ok (d, rest)

-- ---- strings

-- where in a string: among plain bytes, behind a backslash, or among the digits of a unit, with so many still wanted behind the next and the number so far
pub data Inside : Type 0 where
  plainly : Inside
  escaped : Inside
  digits_in : (wanted : ℕ) → (so_far : ℕ) → Inside

-- what a byte in a string leads to: a fault, the end with the text, or a place in the string, with the surrogate that waits and the text so far
pub data Turn : Type 0 where
  halt : Turn
  closed : (text : List ℕ) → Turn
  go : (place : Inside) → (waits : Option ℕ) → (found : List ℕ) → Turn

abbrev pub plain_turn : Option ℕ → List ℕ → ℕ → Turn
plain_turn waits found b =
    if b == quote then closed (found ++ lone waits)
    else (if b == backslash then go escaped waits found
    else (if nat_lt b 32 then halt
    else go plainly None (found ++ (lone waits ++ b ∷ []))))

abbrev pub short_turn : Option ℕ → Option ℕ → List ℕ → Turn
short_turn None waits found = halt
short_turn (Some c) waits found = go plainly None (found ++ (lone waits ++ c ∷ []))

abbrev pub digit_turn : Option ℕ → ℕ → ℕ → Option ℕ → List ℕ → Turn
digit_turn None wanted so_far waits found = halt
digit_turn (Some d) zero so_far waits found = go plainly (held (16 * so_far + d)) (found ++ joined waits (16 * so_far + d))
digit_turn (Some d) (suc wanted) so_far waits found = go (digits_in wanted (16 * so_far + d)) waits found

abbrev pub turn : Inside → Option ℕ → List ℕ → ℕ → Turn
turn plainly waits found b = plain_turn waits found b
turn escaped waits found b = if b == small_u then go (digits_in 3 0) waits found else short_turn (short_of b) waits found
turn (digits_in wanted so_far) waits found b = digit_turn (hex_of b) wanted so_far waits found

abbrev pub Strings : Type 0
Strings = Inside → Option ℕ → List ℕ → Result (List ℕ × List ℕ) Fault

abbrev pub turned : Turn → Strings → List ℕ → Result (List ℕ × List ℕ) Fault
turned halt more bs = Err (At (suc (length bs)))
turned (closed text) more bs = Ok (text, bs)
turned (go place waits found) more bs = more place waits found

-- the rest of a string, up to its quote
unfoldable pub inside_at : List ℕ → Strings
inside_at [] place waits found = Err (At 0)
inside_at (b ∷ bs) place waits found = turned (turn place waits found b) (inside_at bs) bs

-- what follows the quote that opens a string
abbrev pub string_at : Reads (List ℕ)
string_at bytes = inside_at bytes plainly None []

-- ---- arrays and objects

-- a value with blanks round it
abbrev pub spaced_at : Reads Value → Reads Value
spaced_at node bytes = node (skip bytes) >>= λ x. Ok (x.0, skip x.1)

-- behind an element: the bracket or brace that closes, or a comma and another
abbrev pub after_element : {A : Type 0} → ℕ → (A → Reads A) → A → Reads A
after_element close more found [] = Err (At 0)
after_element close more found (b ∷ bs) = if b == close then Ok (found, bs) else (if b == comma then more found bs else Err (At (length (b ∷ bs))))

-- elements up to the end, each put to what was found: the number bounds them, and that of the bytes is enough
unfoldable pub elements_at : {A : Type 0} → ℕ → (A → Reads A) → ℕ → A → Reads A
elements_at close element zero found bytes = Err (At (length bytes))
elements_at close element (suc n) found bytes = element found bytes >>= λ x. after_element close (elements_at close element n) x.0 x.1

abbrev pub group_from : {A : Type 0} → ℕ → (ℕ → A → Reads A) → A → Reads A
group_from close elements found [] = Err (At 0)
group_from close elements found (b ∷ bs) = if b == close then Ok (found, bs) else elements (length (b ∷ bs)) found (b ∷ bs)

-- what follows the bracket or brace that opens
abbrev pub group_at : {A : Type 0} → ℕ → (A → Reads A) → A → Reads A
group_at close element found bytes = group_from close (elements_at close element) found (skip bytes)

abbrev pub item_at : Reads Value → List Value → Reads (List Value)
item_at node found bytes = spaced_at node bytes >>= λ x. Ok (found ++ x.0 ∷ [], x.1)

abbrev pub key_at : Reads (List ℕ)
key_at [] = Err (At 0)
key_at (b ∷ bs) = if b == quote then string_at bs else Err (At (length (b ∷ bs)))

abbrev pub after_colon : List ℕ → Result (List ℕ) Fault
after_colon [] = Err (At 0)
after_colon (b ∷ bs) = if b == colon then Ok bs else Err (At (length (b ∷ bs)))

abbrev pub entry_at : Reads Value → Reads (List ℕ × Value)
entry_at node bytes = key_at (skip bytes) >>= λ k. after_colon (skip k.1) >>= λ rest. spaced_at node rest >>= λ x. Ok ((k.0, x.0), x.1)

abbrev pub member_at : Reads Value → Members → Reads Members
member_at node found bytes = entry_at node bytes >>= λ x. Ok (insert_member x.0.0 x.0.1 found, x.1)

abbrev pub list_at : Reads Value → Reads Value
list_at node bytes = group_at closing_bracket (item_at node) [] bytes >>= λ x. Ok (v.List x.0, x.1)

abbrev pub object_at : Reads Value → Reads Value
object_at node bytes = group_at closing_brace (member_at node) [] bytes >>= λ x. Ok (v.Object x.0, x.1)

abbrev pub text_at : Reads Value
text_at bytes = string_at bytes >>= λ x. Ok (v.Text x.0, x.1)

-- ---- values

-- a literal or a number, by its first byte
abbrev pub scalar_at : Reads Value
scalar_at [] = Err (At 0)
scalar_at (b ∷ bs) =
    if b == small_n then word_at (codes "null") v.Null (b ∷ bs)
    else (if b == small_t then word_at (codes "true") (v.Bool true) (b ∷ bs)
    else (if b == small_f then word_at (codes "false") (v.Bool false) (b ∷ bs)
    else number_at (b ∷ bs)))

abbrev pub node_with : Reads Value → Reads Value → Reads Value
node_with lists objects [] = Err (At 0)
node_with lists objects (b ∷ bs) =
    if b == quote then text_at bs
    else (if b == opening_bracket then lists bs
    else (if b == opening_brace then objects bs
    else scalar_at (b ∷ bs)))

abbrev pub too_deep : Reads Value
too_deep bs = Err (Deep (suc (length bs)))

-- a value of at most so many levels
unfoldable pub node_at : ℕ → Reads Value
node_at zero = node_with too_deep too_deep
node_at (suc levels) = node_with (list_at (node_at levels)) (object_at (node_at levels))

abbrev pub if_last : Value → List ℕ → Result Value Fault
if_last d [] = Ok d
if_last d (b ∷ bs) = Err (At (length (b ∷ bs)))

unfoldable pub read : ℕ → List ℕ → Result Value Fault
read levels bytes = spaced_at (node_at levels) bytes >>= λ x. if_last x.0 x.1
