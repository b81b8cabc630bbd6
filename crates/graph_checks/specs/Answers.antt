-- What checks answer.
use Rattle.std.specs.Prelude.{◌≡◌, ℕ, List, [], ◌∷◌, Result, Ok, Err, ⊤}
use Rattle.filter_settings.specs.Settings.{Made}
use Rattle.graph_checks.specs.declared.fault.GraphFault.{GraphFault}
use Rattle.graph_checks.specs.declared.fault.GraphFault.TheVariants as fault

-- what is known once a check found no fault, or the fault
abbrev pub Checked : Type 0 → Type 0
Checked A = Result A GraphFault

-- the refusal is this one; memory may run out in its place, and in the place of any answer
abbrev pub Refuses : {A : Type 0} → GraphFault → Checked A → Type 0
Refuses (fault.UnknownPlugin name) said = said ≡ Err (fault.UnknownPlugin name)
Refuses (fault.Setting id f) said = said ≡ Err (fault.Setting id f)
Refuses (fault.TwiceId id) said = said ≡ Err (fault.TwiceId id)
Refuses (fault.TwicePath path) said = said ≡ Err (fault.TwicePath path)
Refuses (fault.TwiceAddress address) said = said ≡ Err (fault.TwiceAddress address)
Refuses fault.TwiceStdin said = said ≡ Err fault.TwiceStdin
Refuses (fault.PathLong path) said = said ≡ Err (fault.PathLong path)
Refuses fault.NoInput said = said ≡ Err fault.NoInput
Refuses fault.NoOutput said = said ≡ Err fault.NoOutput
Refuses (fault.NoSpare name wanted left) said = said ≡ Err (fault.NoSpare name wanted left)
Refuses fault.Memory said = ⊤

-- the answer is what is said, or memory ran out
abbrev pub Gives : {A : Type 0} → Result A GraphFault → Checked A → Type 0
Gives (Ok x) said = said ≡ Ok x
Gives (Err f) said = Refuses f said

-- no fault was found, or the refusal is that of the first
abbrev pub Passes : {A : Type 0} → Result A GraphFault → Checked (Unit {0}) → Type 0
Passes (Ok x) said = said ≡ Ok tt
Passes (Err f) said = Refuses f said

-- the same of a change in place
abbrev pub Leaves : {A : Type 0} → Result (Unit {0}) GraphFault → Checked A → A → Type 0
Leaves (Ok u) said new = said ≡ Ok new
Leaves (Err f) said new = Refuses f said

-- where there is no fault, what comes next
abbrev pub next : {A B : Type 0} → (A → Checked B) → Checked A → Checked B
next f (Ok x) = f x
next f (Err e) = Err e

-- one after another, up to the first fault
abbrev pub all_checked : {X A : Type 0} → (X → A → Checked A) → List X → A → Checked A
all_checked one [] a = Ok a
all_checked one (x ∷ xs) a = next (all_checked one xs) (one x a)

-- what is made of settings, whose fault is told with the id of the plugin
abbrev pub of_plugin : {A : Type 0} → List ℕ → Made A → Checked A
of_plugin id (Ok x) = Ok x
of_plugin id (Err f) = Err (fault.Setting id f)
