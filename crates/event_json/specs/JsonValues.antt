-- The values of JSON texts, and the place where bytes stop being the front of one.
use Rattle.std.specs.Prelude.{◌≡◌, ◌≤◌, ◌<◌, ℕ, suc, List, [], ◌∷◌, ◌++◌, length, take, true, false}
use Rattle.std.specs.Str.{IsUtf8}
use Rattle.plain_data.specs.Members.{insert_member}
use Rattle.event_tree.specs.Values.{Members}
use Rattle.event_tree.specs.declared.value.Value.{Value}
use Rattle.event_tree.specs.declared.value.Value.TheVariants as v
use Rattle.event_json.specs.Numbers.{number_value}
use Rattle.event_json.specs.Strings.{pieces_text}
use Rattle.event_json.specs.Grammar.{Text, spaced, Node, null_word, true_word, false_word, number, string, no_items, items, no_members, members, Elements, last, more, Pairs, last_pair, more_pairs, IsText, text_bytes, text_levels, number_bytes}

-- the value of a text; of two equal keys the last one's value stands
abbrev mutual
  pub text_value : Text → Value
  text_value (spaced before x behind) = node_value x

  pub node_value : Node → Value
  node_value null_word = v.Null
  node_value true_word = v.Bool true
  node_value false_word = v.Bool false
  node_value (number x) = number_value (number_bytes x)
  node_value (string ps) = v.Text (pieces_text ps)
  node_value (no_items blanks) = v.List []
  node_value (items es) = v.List (elements_values es)
  node_value (no_members blanks) = v.Object []
  node_value (members ms) = v.Object (pairs_members [] ms)

  pub elements_values : Elements → List Value
  elements_values (last t) = text_value t ∷ []
  elements_values (more t es) = text_value t ∷ elements_values es

  -- with the pairs put one after the other into the members
  pub pairs_members : Members → Pairs → Members
  pairs_members found (last_pair before key behind t) = insert_member (pieces_text key) (text_value t) found
  pairs_members found (more_pairs before key behind t ms) = pairs_members (insert_member (pieces_text key) (text_value t) found) ms

-- the bytes are a JSON text of the value d, with at most so many levels, in UTF-8 (section 8.1)
abbrev pub JsonWithin : ℕ → List ℕ → Value → Type 0
JsonWithin levels bytes d = (t : Text) × IsText t × (text_levels t ≤ levels)
    × (bytes ≡ text_bytes t) × (text_value t ≡ d) × IsUtf8 bytes

-- the bytes are a JSON text of the value d
abbrev pub Json : List ℕ → Value → Type 0
Json bytes d = (levels : ℕ) × JsonWithin levels bytes d

-- some JSON text begins with the bytes
abbrev pub IsFront : List ℕ → Type 0
IsFront bytes = (more : List ℕ) × (d : Value) × Json (bytes ++ more) d

-- one of at most so many levels does
abbrev pub IsFrontWithin : ℕ → List ℕ → Type 0
IsFrontWithin levels bytes = (more : List ℕ) × (d : Value) × JsonWithin levels (bytes ++ more) d

-- the first k bytes begin a JSON text of at most so many levels, and the byte at k is the first that none has after them; or they are all there are, and end early
abbrev pub StopsAt : ℕ → List ℕ → ℕ → Type 0
StopsAt levels bytes k = (k ≤ length bytes) × IsFrontWithin levels (take k bytes)
    × (k < length bytes → IsFront (take (suc k) bytes) → ⊥)
    × (k ≡ length bytes → (d : Value) → Json bytes d → ⊥)

-- the byte at k opens a level more than so many: texts that begin as the bytes do up to it have more levels, and before it there are some that have not
abbrev pub PassesAt : ℕ → List ℕ → ℕ → Type 0
PassesAt levels bytes k = (k < length bytes) × IsFrontWithin levels (take k bytes)
    × IsFront (take (suc k) bytes) × (IsFrontWithin levels (take (suc k) bytes) → ⊥)
