-- Names and keys that stand once.
use Rattle.std.specs.Prelude.{◌≡◌, false, [], ◌∷◌, ◌++◌, ⊤}
use Rattle.config_tree.specs.Joining.{Entries, has}

-- each stands neither in front nor before its place
abbrev pub Fresh : Entries → Entries → Type 0
Fresh front [] = ⊤
Fresh front (e ∷ es) = (has e.0 front ≡ false) × Fresh (front ++ e ∷ []) es

-- no two entries have one name
abbrev pub StandOnce : Entries → Type 0
StandOnce es = Fresh [] es
