-- What the answers of the reader come to.
use Rattle.std.proofs.Common.{◌≡◌, ℕ, List, length, Result, Ok, Err, sym, ◌∙◌, ap}
use Rattle.std.specs.Str.{IsUtf8}
use Rattle.event_tree.specs.declared.value.Value.{Value}
use Rattle.event_json.specs.JsonValues.{JsonWithin}
use Rattle.event_json.specs.Reading.{Fault, At, Deep, read}
use Rattle.event_json.proofs.Whole.{read_found, read_each}
use Rattle.event_json.proofs.Places.{stops_at, passes_at}
use Rattle.event_json.specs.declared.fault.JsonFault.{JsonFault}
use Rattle.event_json.specs.declared.fault.JsonStop.{JsonStop}
use Rattle.event_json.specs.declared.fault.JsonStop.TheVariants as stops
use Rattle.event_json.specs.Stops.{Fails, fault_at}
use Rattle.event_json.specs.Faults.{IsFault, IsOnly}

pub same_ok : (d e : Value) → ◌≡◌ {A = Result Value Fault} (Ok d) (Ok e) → d ≡ e
same_ok d e h = cc

no_fault : (d : Value) (f : Fault) → ◌≡◌ {A = Result Value Fault} (Ok d) (Err f) → ⊥
no_fault d f h = cc

pub found_in : (levels : ℕ) (bytes text : List ℕ) (d : Value) → text ≡ bytes → IsUtf8 bytes → read levels text ≡ Ok d → JsonWithin levels bytes d
found_in levels bytes text d is u e = read_found levels bytes d u (ap (read levels) (sym is) ∙ e)

pub only_ok : (levels : ℕ) (bytes text : List ℕ) (d e : Value) → text ≡ bytes → read levels text ≡ Ok d → JsonWithin levels bytes e → d ≡ e
only_ok levels bytes text d e is r j = same_ok d e (sym r ∙ ap (read levels) is ∙ read_each levels bytes e j)

pub only_err : (levels : ℕ) (bytes text : List ℕ) (d : Value) (stop : JsonStop) (n : ℕ) (fault : JsonFault) → text ≡ bytes → Fails stop (read levels text) → fault ≡ fault_at stop n → JsonWithin levels bytes d → IsOnly d (Err fault)
only_err levels bytes text d stops.Memory n fault is r e j = rw e tt
only_err levels bytes text d (stops.At k) n fault is r e j = absurd (no_fault d (At k) (sym (read_each levels bytes d j) ∙ ap (read levels) (sym is) ∙ r))
only_err levels bytes text d (stops.Deep k) n fault is r e j = absurd (no_fault d (Deep k) (sym (read_each levels bytes d j) ∙ ap (read levels) (sym is) ∙ r))

pub fault_is : (levels : ℕ) (bytes text : List ℕ) (stop : JsonStop) (fault : JsonFault) → text ≡ bytes → IsUtf8 bytes → Fails stop (read levels text) → fault ≡ fault_at stop (length bytes) → IsFault levels bytes fault
fault_is levels bytes text stops.Memory fault is u r e = rw e tt
fault_is levels bytes text (stops.At left) fault is u r e = rw e (u, stops_at levels bytes left u (ap (read levels) (sym is) ∙ r))
fault_is levels bytes text (stops.Deep left) fault is u r e = rw e (u, passes_at levels bytes left u (ap (read levels) (sym is) ∙ r))
