-- What a value and an event are, in full: what the types of their parts hold of them too.
use Rattle.std.specs.Prelude.{◌≡◌, ℕ, zero, suc, ◌<◌, ◌^◌, List, [], ◌∷◌, length, ⊤, Option, Some, None}
use Rattle.std.proofs.Common.{w64, SFits}
use Rattle.std.specs.Str.{IsUtf8}
use Rattle.std.specs.declared.cmp.Ordering.TheVariants.{Less}
use Rattle.plain_data.specs.Keys.{text_cmp}
use Rattle.plain_data.specs.Calendar.{IsMoment}
use Rattle.event_tree.specs.Number.{Num, IsLeast}
use Rattle.event_tree.specs.Values.{Members}
use Rattle.event_tree.specs.Events.{Ev}
use Rattle.event_tree.specs.declared.value.Value.{Value, out-Value}
use Rattle.event_tree.specs.declared.value.Value.TheOpen.{Value-F}
use Rattle.event_tree.specs.declared.value.Value.TheVariants as v

-- a mantissa of 64 bits, and the least form
pub record IsNumber (n : Num) : Type 0 where
  pub fits : SFits w64 n.mantissa
  pub least : IsLeast n.mantissa n.scale

-- UTF-8, with a length of 32 bits
pub record IsText (bytes : List ℕ) : Type 0 where
  pub utf8 : IsUtf8 bytes
  pub short : length bytes < 2 ^ 32

-- the key is above this one, if there is one
abbrev pub IsAbove : Option (List ℕ) → List ℕ → Type 0
IsAbove None k = ⊤
IsAbove (Some last) k = text_cmp last k ≡ Less

abbrev pub AreValues : (Value → Type 0) → List Value → Type 0
AreValues is [] = ⊤
AreValues is (d ∷ ds) = is d × AreValues is ds

-- each key is above the one before it, the first above `last`, and each value is one
abbrev pub AreMembers : (Value → Type 0) → Option (List ℕ) → Members → Type 0
AreMembers is last [] = ⊤
AreMembers is last (m ∷ ms) = IsText m.0 × IsAbove last m.0 × is m.1 × AreMembers is (Some m.0) ms

pub record AreItemsOf (is : Value → Type 0) (vs : List Value) : Type 0 where
  pub few : length vs < 2 ^ 32
  pub each : AreValues is vs

pub record AreMembersOf (is : Value → Type 0) (ms : Members) : Type 0 where
  pub few : length ms < 2 ^ 32
  pub each : AreMembers is None ms

-- what lists and objects hold, if they may stand at all
abbrev pub IsValueIn : (List Value → Type 0) → (Members → Type 0) → Value-F Value → Type 0
IsValueIn items members Value-F.Null = ⊤
IsValueIn items members (Value-F.Bool b) = ⊤
IsValueIn items members (Value-F.Num n) = IsNumber n
IsValueIn items members (Value-F.Text s) = IsText s
IsValueIn items members (Value-F.Time t) = IsMoment t
IsValueIn items members (Value-F.List vs) = items vs
IsValueIn items members (Value-F.Object ms) = members ms

-- a value in which lists and objects nest at most so many levels deep
abbrev pub IsValue : ℕ → Value → Type 0
IsValue zero d = IsValueIn (λ _. ⊥) (λ _. ⊥) (out-Value d)
IsValue (suc levels) d = IsValueIn (AreItemsOf (IsValue levels)) (AreMembersOf (IsValue levels)) (out-Value d)

pub record IsEventObject (d : Value) : Type 0 where
  pub members : Members
  pub is : d ≡ v.Object members
  pub each : AreMembersOf (IsValue 127) members

-- an event of any size, with `fields` and `meta` as the first of at most 128 levels
pub record IsWhole (event : Ev) : Type 0 where
  pub fields : IsEventObject event.fields
  pub meta : IsEventObject event.meta
