-- Answers, in whose place memory may run out.
use Rattle.std.specs.Prelude.{◌≡◌, Result, Ok, Err, ⊤}
use Rattle.settings_lines.specs.declared.fault.SettingsFault.{SettingsFault}
use Rattle.settings_lines.specs.declared.fault.SettingsFault.TheVariants as fault

-- the refusal is that one; memory may run out in its place
abbrev pub Refuses : {A : Type 0} → SettingsFault → Result A SettingsFault → Type 0
Refuses fault.Memory said = ⊤
Refuses why said = said ≡ Err why

-- the answer is that one
abbrev pub Gives : {A : Type 0} → Result A SettingsFault → Result A SettingsFault → Type 0
Gives (Ok x) said = said ≡ Ok x
Gives (Err why) said = Refuses why said

-- the answer is seen as that one
abbrev pub Shows : {A B : Type 0} → (A → B) → Result A SettingsFault → Result B SettingsFault → Type 0
Shows view (Ok x) said = said ≡ Ok (view x)
Shows view (Err why) said = Refuses why said
