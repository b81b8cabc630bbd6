-- What reading gives, beside the values of texts.
use Rattle.std.proofs.Common.{◌≡◌, ℕ, List, Result, Ok, ap, ◌∙◌, subst}
use Rattle.std.specs.Str.{IsUtf8}
use Rattle.event_tree.specs.declared.value.Value.{Value}
use Rattle.event_json.specs.JsonValues.{JsonWithin}
use Rattle.event_json.specs.Reading as r
use Rattle.event_json.specs.Reading.{Fault}
use Rattle.event_json.proofs.NodeReads.{IsReadWithin, read_sound}
use Rattle.event_json.proofs.OnlyNodes.{read_only}

-- what is read is a text of that value
pub read_found : (levels : ℕ) (bytes : List ℕ) (d : Value) → IsUtf8 bytes → r.read levels bytes ≡ Ok d → JsonWithin levels bytes d
read_found levels bytes d u e = let t = subst (λ (read : Result Value Fault). IsReadWithin levels bytes read) e (read_sound levels bytes) in (t.0, t.1, t.2, t.3, t.4, u)

-- each text is read, with its value
pub read_each : (levels : ℕ) (bytes : List ℕ) (d : Value) → JsonWithin levels bytes d → r.read levels bytes ≡ Ok d
read_each levels bytes d (t, is, le, e, value, u) = ap (r.read levels) e ∙ read_only t levels is le ∙ ap (λ (x : Value). Ok x) value
