-- Laws of JSON texts and of their faults, each a statement on all of them.
use Rattle.std.specs.Prelude.{◌≡◌, ◌≢◌, ◌↔◌, ℕ, List, Ok}
use Rattle.std.specs.Str.{IsUtf8}
use Rattle.event_tree.specs.declared.value.Value.{Value}
use Rattle.event_json.specs.JsonValues.{JsonWithin}
use Rattle.event_json.specs.Reading.{read}
use Rattle.event_json.specs.declared.fault.JsonFault.{JsonFault}
use Rattle.event_json.specs.declared.fault.JsonFault.TheVariants.{Memory}
use Rattle.event_json.specs.Faults.{IsFault}

-- bytes are a text of one value at most
abbrev pub TextsHaveOneValue : Type 0
TextsHaveOneValue = (levels more : ℕ) (bytes : List ℕ) (value other : Value)
    → JsonWithin levels bytes value → JsonWithin more bytes other → value ≡ other

-- reading on lists gives the value of each text of so many levels, and of no other bytes
abbrev pub TextsAreComputed : Type 0
TextsAreComputed = (levels : ℕ) (bytes : List ℕ) (value : Value)
    → IsUtf8 bytes → (read levels bytes ≡ Ok value) ↔ JsonWithin levels bytes value

-- a text of so many levels has no fault
abbrev pub TextsHaveNoFault : Type 0
TextsHaveNoFault = (levels : ℕ) (bytes : List ℕ) (value : Value) (fault : JsonFault)
    → fault ≢ Memory → JsonWithin levels bytes value → IsFault levels bytes fault → ⊥

-- bytes have one fault at most, at one place
abbrev pub FaultsAreOne : Type 0
FaultsAreOne = (levels : ℕ) (bytes : List ℕ) (fault other : JsonFault)
    → fault ≢ Memory → other ≢ Memory
    → IsFault levels bytes fault → IsFault levels bytes other → fault ≡ other
