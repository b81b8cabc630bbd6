-- The ids of planned inputs have 1 to 255 bytes.
use Rattle.std.specs.Prelude.{codes, nat_le, nat_lt, option_and_then, unwrap_or, ◌&&◌, ◌^◌, IfSome}
use Rattle.std.specs.Fmt.{decimal}
use Rattle.std.proofs.Common.{◌≡◌, ◌<◌, ◌≤◌, ◌+◌, ℕ, Bool, true, false, Option, Some, None, List, [], ◌∷◌, ◌++◌, length, if◌then◌else◌, refl, arith}
use Rattle.std.proofs.lemmas.Bool.{false≢true}
use Rattle.std.proofs.lemmas.Bool.Decides.{nat_tests}
use Rattle.std.proofs.lemmas.Fmt.{length-decimal-le}
use Rattle.std.proofs.lemmas.List.{length-append}
use Rattle.config_tree.specs.declared.tree.Plugin.{Plugin}
use Rattle.config_tree.specs.Readers.{value_at}
use Rattle.filter_settings.specs.Readers.{id_of, text_of}
use Rattle.event_flow.specs.Ids.{given_id, plugin_id}
use Rattle.plugin_settings.specs.Read.{input_of}
use Rattle.plugin_settings.specs.declared.read.Input.{Input}
use Rattle.graph_checks.specs.Planned.{input_at, inputs_from, unless_refused, with_id}
use Rattle.line_core.specs.Openings.{AreShort, IsShort, PlannedAreShort}
use Rattle.line_core.proofs.EachOf.{each_joined}

abbrev HasFew : List ℕ → Type 0
HasFew id = (1 ≤ length id) × (length id ≤ 255)

abbrev GivesFew : Option (List ℕ) → Type 0
GivesFew found = IfSome found HasFew

-- what a test of the length lets pass
passed : (id : List ℕ) (b : Bool) → (nat_lt 0 (length id) && nat_le (length id) 255) ≡ b → GivesFew (if b then Some id else None)
passed id false is = tt
passed id true is = by (nat_lt 0 (length id)) (nat_le (length id) 255) refl refl is
  where
    by : (one other : Bool) → nat_lt 0 (length id) ≡ one → nat_le (length id) 255 ≡ other → (one && other) ≡ true → HasFew id
    by true true one other both = (grind (arith, nat_tests, one), grind (arith, nat_tests, other))
    by true false one other both = absurd (false≢true both)
    by false other one is both = absurd (false≢true both)

found_few : {X : Type 0} (f : X → Option (List ℕ)) → ((x : X) → GivesFew (f x)) → (found : Option X) → GivesFew (option_and_then f found)
found_few f few None = tt
found_few f few (Some x) = few x

either_few : (found : Option (List ℕ)) (other : List ℕ) → GivesFew found → HasFew other → HasFew (unwrap_or found other)
either_few None other few is = is
either_few (Some id) other few is = few

given_few : (p : Plugin) → GivesFew (given_id p.settings.list)
given_few p =
    found_few id_of (λ x. found_few (λ id. if nat_lt 0 (length id) && nat_le (length id) 255 then Some id else None) (λ id. passed id (nat_lt 0 (length id) && nat_le (length id) 255) refl) (text_of x)) (value_at (codes "id") p.settings.list)

named_few : (k : ℕ) → k < 2 ^ 64 → HasFew (codes "input" ++ codes "_" ++ decimal k)
named_few k lt =
    let digits : length (decimal k) ≤ 20 = length-decimal-le 20 k (omega arith) (omega (arith, lt)) lt in
    let long : length (codes "input" ++ codes "_" ++ decimal k) ≡ 6 + length (decimal k) = length-append (codes "input_") (decimal k) in
    (omega (arith, long), omega (arith, long, digits))

with_few : (id : List ℕ) → HasFew id → (made : Option Input) → AreShort (with_id id made)
with_few id few None = tt
with_few id few (Some x) = (few, tt)

at_few : (k : ℕ) (p : Plugin) → k < 2 ^ 64 → AreShort (input_at k p)
at_few k p lt = with_few (plugin_id (codes "input") k p) (either_few (given_id p.settings.list) (codes "input" ++ codes "_" ++ decimal k) (given_few p) (named_few k lt)) (unless_refused (input_of p.name p.settings.list))

from_few : (k : ℕ) (ps : List Plugin) → k + length ps < 2 ^ 64 + 1 → AreShort (inputs_from k ps)
from_few k [] lt = tt
from_few k (p ∷ ps) lt =
    let here : k < 2 ^ 64 = omega (arith, lt) in
    let later : (k + 1) + length ps < 2 ^ 64 + 1 = omega (arith, lt) in
    each_joined IsShort (input_at k p) (inputs_from (k + 1) ps) (at_few k p here) (from_few (k + 1) ps later)

pub planned_are_short : PlannedAreShort
planned_are_short plugins lt = from_few 1 plugins (omega (arith, lt))
