-- A text that has no value is not read.
use Rattle.std.proofs.Common.{◌≡◌, List, ℕ, None, Result, Ok, Err, refl}
use Rattle.std.specs.Str.{IsUtf8}
use Rattle.event_tree.specs.declared.value.Value.{Value}
use Rattle.event_json.specs.JsonValues.{JsonWithin}
use Rattle.event_json.specs.Reading.{Fault, read}
use Rattle.event_json.proofs.Whole.{read_found}
use Rattle.event_times.specs.Decoded.{found, json_in}

none_found : (r : Result Value Fault) → ((d : Value) → r ≡ Ok d → ⊥) → None ≡ found r
none_found (Ok d) never = absurd (never d refl)
none_found (Err fault) never = refl

pub unread : (s : List ℕ) → IsUtf8 s → ((d : Value) → JsonWithin 100 s d → ⊥) → None ≡ json_in s
unread s u never = none_found (read 100 s) (λ d is. never d (read_found 100 s d u is))
