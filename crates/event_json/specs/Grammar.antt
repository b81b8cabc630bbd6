-- The grammar of JSON texts (RFC 8259, sections 2 to 7) as trees over bytes.
use Rattle.std.specs.Prelude.{◌≡◌, ◌≤◌, ◌<◌, ℕ, suc, ◌==◌, ◌||◌, Bool, true, List, [], ◌∷◌, ◌++◌, length, ◌⊎◌, max, codes}
use Rattle.event_tree.specs.Characters.{capital_e, closing_brace, closing_bracket, colon, comma, digit_zero, minus, opening_brace, opening_bracket, plus, point, quote, small_e}
use Rattle.event_json.specs.Characters.{blank, carriage_return, line_feed, tab}
use Rattle.event_tree.specs.NumberTexts.{is_digit}
use Rattle.event_json.specs.Strings.{Piece, ArePieces, pieces_bytes}

-- a number (section 6): its sign, its whole part, its fraction and its exponent
pub record Number : Type 0 where
  pub minus : List ℕ
  pub whole : List ℕ
  pub fraction : List ℕ
  pub exponent : List ℕ

-- section 2: a text is a value with blanks round it. Sections 3 to 7: the values. An array or an object with something in it has elements, or pairs of a key, with blanks round it, and a text
mutual
  pub data Text : Type 0 where
    spaced : (before : List ℕ) → Node → (behind : List ℕ) → Text

  pub data Node : Type 0 where
    null_word : Node
    true_word : Node
    false_word : Node
    number : Number → Node
    string : List Piece → Node
    no_items : (blanks : List ℕ) → Node
    items : Elements → Node
    no_members : (blanks : List ℕ) → Node
    members : Pairs → Node

  pub data Elements : Type 0 where
    last : Text → Elements
    more : Text → Elements → Elements

  pub data Pairs : Type 0 where
    last_pair : (before : List ℕ) → (key : List Piece) → (behind : List ℕ) → Text → Pairs
    more_pairs : (before : List ℕ) → (key : List Piece) → (behind : List ℕ) → Text → Pairs → Pairs

-- a blank, a tab, a line feed or a carriage return
abbrev pub is_space : ℕ → Bool
is_space b = b == blank || b == tab || b == line_feed || b == carriage_return

abbrev pub AreSpace : List ℕ → Type 0
AreSpace [] = Unit {0}
AreSpace (b ∷ bs) = (is_space b ≡ true) × AreSpace bs

abbrev pub AreDigits : List ℕ → Type 0
AreDigits [] = Unit {0}
AreDigits (b ∷ bs) = (is_digit b ≡ true) × AreDigits bs

abbrev pub AreSomeDigits : List ℕ → Type 0
AreSomeDigits bs = (0 < length bs) × AreDigits bs

-- no zero stands before another digit
abbrev pub IsWhole : List ℕ → Type 0
IsWhole [] = ⊥
IsWhole (b ∷ bs) = ((b ≡ digit_zero) × (bs ≡ [])) ⊎ ((49 ≤ b) × (b ≤ 57) × AreDigits bs)

abbrev pub IsMinus : List ℕ → Type 0
IsMinus s = (s ≡ []) ⊎ (s ≡ minus ∷ [])

abbrev pub IsFraction : List ℕ → Type 0
IsFraction [] = Unit {0}
IsFraction (b ∷ bs) = (b ≡ point) × AreSomeDigits bs

abbrev pub IsPower : List ℕ → Type 0
IsPower [] = ⊥
IsPower (b ∷ bs) = (((b ≡ plus) ⊎ (b ≡ minus)) × AreSomeDigits bs) ⊎ AreSomeDigits (b ∷ bs)

abbrev pub IsExponent : List ℕ → Type 0
IsExponent [] = Unit {0}
IsExponent (b ∷ bs) = ((b ≡ small_e) ⊎ (b ≡ capital_e)) × IsPower bs

pub record IsNumber (x : Number) : Type 0 where
  pub minus : IsMinus x.minus
  pub whole : IsWhole x.whole
  pub fraction : IsFraction x.fraction
  pub exponent : IsExponent x.exponent

abbrev pub number_bytes : Number → List ℕ
number_bytes x = x.minus ++ (x.whole ++ (x.fraction ++ x.exponent))

-- a string with its quotes
abbrev pub string_bytes : List Piece → List ℕ
string_bytes ps = quote ∷ (pieces_bytes ps ++ quote ∷ [])

abbrev mutual
  pub IsText : Text → Type 0
  IsText (spaced before x behind) = AreSpace before × IsNode x × AreSpace behind

  pub IsNode : Node → Type 0
  IsNode null_word = Unit {0}
  IsNode true_word = Unit {0}
  IsNode false_word = Unit {0}
  IsNode (number x) = IsNumber x
  IsNode (string ps) = ArePieces ps
  IsNode (no_items blanks) = AreSpace blanks
  IsNode (items es) = AreElements es
  IsNode (no_members blanks) = AreSpace blanks
  IsNode (members ms) = ArePairs ms

  pub AreElements : Elements → Type 0
  AreElements (last t) = IsText t
  AreElements (more t es) = IsText t × AreElements es

  pub ArePairs : Pairs → Type 0
  ArePairs (last_pair before key behind t) = AreSpace before × ArePieces key × AreSpace behind × IsText t
  ArePairs (more_pairs before key behind t ms) = AreSpace before × ArePieces key × AreSpace behind × IsText t × ArePairs ms

-- a key with the blanks round it and its colon
abbrev pub key_bytes : List ℕ → List Piece → List ℕ → List ℕ
key_bytes before key behind = before ++ (string_bytes key ++ (behind ++ colon ∷ []))

abbrev mutual
  pub text_bytes : Text → List ℕ
  text_bytes (spaced before x behind) = before ++ (node_bytes x ++ behind)

  pub node_bytes : Node → List ℕ
  node_bytes null_word = codes "null"
  node_bytes true_word = codes "true"
  node_bytes false_word = codes "false"
  node_bytes (number x) = number_bytes x
  node_bytes (string ps) = string_bytes ps
  node_bytes (no_items blanks) = opening_bracket ∷ (blanks ++ closing_bracket ∷ [])
  node_bytes (items es) = opening_bracket ∷ (elements_bytes es ++ closing_bracket ∷ [])
  node_bytes (no_members blanks) = opening_brace ∷ (blanks ++ closing_brace ∷ [])
  node_bytes (members ms) = opening_brace ∷ (pairs_bytes ms ++ closing_brace ∷ [])

  pub elements_bytes : Elements → List ℕ
  elements_bytes (last t) = text_bytes t
  elements_bytes (more t es) = text_bytes t ++ comma ∷ elements_bytes es

  pub pairs_bytes : Pairs → List ℕ
  pairs_bytes (last_pair before key behind t) = key_bytes before key behind ++ text_bytes t
  pairs_bytes (more_pairs before key behind t ms) = key_bytes before key behind ++ (text_bytes t ++ comma ∷ pairs_bytes ms)

-- how deep arrays and objects nest
abbrev mutual
  pub text_levels : Text → ℕ
  text_levels (spaced before x behind) = node_levels x

  pub node_levels : Node → ℕ
  node_levels null_word = 0
  node_levels true_word = 0
  node_levels false_word = 0
  node_levels (number x) = 0
  node_levels (string ps) = 0
  node_levels (no_items blanks) = 1
  node_levels (items es) = suc (elements_levels es)
  node_levels (no_members blanks) = 1
  node_levels (members ms) = suc (pairs_levels ms)

  pub elements_levels : Elements → ℕ
  elements_levels (last t) = text_levels t
  elements_levels (more t es) = max (text_levels t) (elements_levels es)

  pub pairs_levels : Pairs → ℕ
  pairs_levels (last_pair before key behind t) = text_levels t
  pairs_levels (more_pairs before key behind t ms) = max (text_levels t) (pairs_levels ms)
