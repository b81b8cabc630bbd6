-- What the settings of a filter are read as: each in the order of the text, up to the first that is at fault.
use Rattle.std.specs.Prelude.{◌≡◌, ℕ, List, [], ◌∷◌, if◌then◌else◌, Option, Some, None, Result, Ok, Err, ⊤}
use Rattle.config_tree.specs.Joining.{Entries, has}
use Rattle.config_tree.specs.declared.tree.SettingValue.{SettingValue}
use Rattle.config_tree.specs.declared.fault.FromFault.{FromFault}
use Rattle.config_tree.specs.declared.fault.FromFault.TheVariants as from
use Rattle.config_tree.specs.declared.fault.SettingFault.{SettingFault}
use Rattle.config_tree.specs.declared.fault.SettingFault.TheVariants as fault

-- what is made of settings, or the fault for which they are refused
abbrev pub Made : Type 0 → Type 0
Made A = Result A SettingFault

-- the answer is this fault; memory may run out in its place
abbrev pub IsFault : SettingFault → FromFault → Type 0
IsFault f (from.Bad g) = g ≡ f
IsFault f from.Memory = ⊤

-- the refusal is this one; memory may run out in its place, and in the place of any answer
abbrev pub Refuses : {A : Type 0} → FromFault → Made A → Type 0
Refuses (from.Bad f) said = said ≡ Err f
Refuses from.Memory said = ⊤

-- what is made, or the refusal
abbrev pub Gives : {A : Type 0} → Result A FromFault → Made A → Type 0
Gives (Ok x) said = said ≡ Ok x
Gives (Err fault) said = Refuses fault said

-- the same of a change in place
abbrev pub Leaves : {A : Type 0} → Result (Unit {0}) FromFault → Made A → A → Type 0
Leaves (Ok u) said new = said ≡ Ok new
Leaves (Err fault) said new = Refuses fault said

-- a value of the kind that is wanted at a name
abbrev pub wanted : {A : Type 0} → List ℕ → Option A → Made A
wanted k None = Err (fault.WrongKind k)
wanted k (Some x) = Ok x

-- where there is no fault, a change of it, or what comes next
abbrev pub with_made : {A B : Type 0} → (A → B) → Made A → Made B
with_made f (Ok x) = Ok (f x)
with_made f (Err fault) = Err fault

abbrev pub next : {A B : Type 0} → (A → Made B) → Made A → Made B
next f (Ok x) = f x
next f (Err fault) = Err fault

-- what settings make of a filter, one after another in the order of the text: the first that is at fault is the fault
abbrev pub all_set : {F : Type 0} → (List ℕ → SettingValue → F → Made F) → Entries → F → Made F
all_set set [] f = Ok f
all_set set (e ∷ es) f = next (all_set set es) (set e.0 e.1 f)

-- a setting that the filter can't do without
abbrev pub needed : {F : Type 0} → List ℕ → Entries → F → Made F
needed k es f = if has k es then Ok f else Err (fault.Missing k)

-- what was read, with a change of it
abbrev pub read_as : {A B : Type 0} → (A → B) → Result A FromFault → Result B FromFault
read_as f (Ok x) = Ok (f x)
read_as f (Err fault) = Err fault

-- what was read stands in the place, or its fault is handed on
abbrev pub Assigned : {A : Type 0} → Result (Unit {0}) FromFault → Result A FromFault → A → Type 0
Assigned (Ok u) read new = read ≡ Ok new
Assigned (Err fault) read new = read ≡ Err fault
