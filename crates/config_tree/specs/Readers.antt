-- What the readers of settings answer: which values each takes, and as what.
use Rattle.std.specs.Prelude.{◌≡◌, ℕ, List, [], ◌∷◌, Bool, true, false, if◌then◌else◌, Option, Some, None, Result, MatchResult, IsSome, ⊤, bytes_eq, codes}
use Rattle.event_tree.specs.Number.{Num}
use Rattle.event_tree.specs.NumberTexts.{NumberReads}
use Rattle.config_tree.specs.declared.tree.SettingValue.{SettingValue, out-SettingValue}
use Rattle.config_tree.specs.declared.tree.SettingValue.TheOpen.{SettingValue-F}
use Rattle.config_tree.specs.declared.tree.Plugin.{Plugin}
use Rattle.config_tree.specs.declared.tree.Settings.{Settings}
use Rattle.config_tree.specs.declared.fault.FromFault.{FromFault}
use Rattle.config_tree.specs.declared.fault.FromFault.TheVariants as from
use Rattle.config_tree.specs.declared.fault.SettingFault.TheVariants as setting
use Rattle.config_tree.specs.Joining.{Entries}

abbrev pub Open : Type 0
Open = SettingValue-F SettingValue Plugin Settings

-- the value that stands at a name, the first where several do
abbrev pub value_at : List ℕ → Entries → Option SettingValue
value_at k [] = None
value_at k (e ∷ entries) = if bytes_eq e.0 k then Some e.1 else value_at k entries

-- a text, as it is
abbrev text_in : Open → Option (List ℕ)
text_in (SettingValue-F.Text s) = Some s
text_in _ = None

-- a flag: the texts `true` and `false`
abbrev pub flag_of : List ℕ → Option Bool
flag_of s = if bytes_eq s (codes "true") then Some true else (if bytes_eq s (codes "false") then Some false else None)

abbrev flag_in : Open → Option Bool
flag_in (SettingValue-F.Text s) = flag_of s
flag_in _ = None

-- a number: a number, or a text that writes one
abbrev pub NumberIn : Open → Option Num → Type 0
NumberIn (SettingValue-F.Number n) found = found ≡ Some n
NumberIn (SettingValue-F.Text s) found = NumberReads found s
NumberIn _ found = found ≡ None

-- a list: an array, and a single text or number as a list of one
abbrev list_in : SettingValue → Open → Option (List SettingValue)
list_in x (SettingValue-F.Array xs) = Some xs
list_in x (SettingValue-F.Text s) = Some (x ∷ [])
list_in x (SettingValue-F.Number n) = Some (x ∷ [])
list_in x _ = None

-- a hash, with its entries in the order of the text
abbrev hash_in : Open → Option Entries
hash_in (SettingValue-F.Hash entries) = Some entries
hash_in _ = None

-- What each reader takes a value as; none where the value is of another kind.
abbrev pub AsText : SettingValue → Option (List ℕ) → Type 0
AsText x found = found ≡ text_in (out-SettingValue x)

abbrev pub AsFlag : SettingValue → Option Bool → Type 0
AsFlag x found = found ≡ flag_in (out-SettingValue x)

abbrev pub AsNumber : SettingValue → Option Num → Type 0
AsNumber x found = NumberIn (out-SettingValue x) found

abbrev pub AsList : SettingValue → Option (List SettingValue) → Type 0
AsList x found = found ≡ list_in x (out-SettingValue x)

abbrev pub AsHash : SettingValue → Option Entries → Type 0
AsHash x found = found ≡ hash_in (out-SettingValue x)

-- the refusal of a value of another kind. It has the name, for which memory may run out.
abbrev pub IsWrongKind : List ℕ → FromFault → Type 0
IsWrongKind k (from.Bad fault) = fault ≡ setting.WrongKind k
IsWrongKind k from.Memory = ⊤

-- What a reader answers: none exactly where no value stands at the name, the refusal exactly where one of another kind does, and what it
-- takes the value as otherwise.
abbrev pub Answers : {A R : Type 0} → (SettingValue → Option A → Type 0) → (R → Option A) → List ℕ → Option SettingValue → Result R FromFault → Type 0
Answers As view k None result = MatchResult result (λ r. view r ≡ None) (λ _. ⊥)
Answers As view k (Some x) result = MatchResult result (λ r. IsSome (view r) × As x (view r)) (λ fault. IsWrongKind k fault × As x None)

-- what a reader answers at a name of these settings
abbrev pub AnswersAt : {A R : Type 0} → (SettingValue → Option A → Type 0) → (R → Option A) → List ℕ → Entries → Result R FromFault → Type 0
AnswersAt As view k settings result = Answers As view k (value_at k settings) result
