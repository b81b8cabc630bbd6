-- Files that become longer.
use Rattle.std.proofs.Common.{◌≡◌, ⊎_elim, ℕ, ◌+◌, ◌≤◌, List, [], ◌∷◌, ◌++◌, length, take, drop, Some, Result, Ok, Err, OnOk, sym, ◌∙◌, ap, subst, arith, length-append, length-drop, length-take}
use Rattle.io_traits.specs.Folders.{Content}
use Rattle.io_traits.specs.Reads.{bytes_of, file_length}
use Rattle.crc_frame.specs.Slots.{with_slot}
use Rattle.io_traits.specs.Images.{Beside}
use Rattle.queue_files.specs.Writes.{Write, Wrote, NoneShorter}
use Rattle.queue_files.proofs.Removals.{is_or_not}

long_slot : (place : ℕ) (slot file : List ℕ) → length (with_slot place slot file) ≡ length (take place file) + length slot + length (drop (place + length slot) file)
long_slot place slot file =
    length-append (take place file ++ slot) (drop (place + length slot) file) ∙ ap (λ n. n + length (drop (place + length slot) file)) (length-append (take place file) slot)

pub slot_grows : (place : ℕ) (slot file : List ℕ) → length file ≤ length (with_slot place slot file)
slot_grows place slot file = omega (arith, long_slot place slot file, length-take place file, length-drop (place + length slot) file)

pub slot_stands : (place : ℕ) (slot file : List ℕ) → length slot ≤ length (with_slot place slot file)
slot_stands place slot file = omega (arith, long_slot place slot file)

pub none_yet : (old new : Content) → new ≡ old → NoneShorter old new
none_yet old new same name = omega (arith, ap (λ (c : Content). file_length (c name)) same)

pub longer_then : (old mid new : Content) → NoneShorter old mid → NoneShorter mid new → NoneShorter old new
longer_then old mid new one other name = omega (arith, one name, other name)

-- one file that became longer
pub longer_one : (name bytes : List ℕ) (old new : Content) → new name ≡ Some bytes → file_length (old name) ≤ length bytes → Beside name old new → NoneShorter old new
longer_one name bytes old new is more beside other = ⊎_elim
    (λ (same : other ≡ name). subst (λ n. file_length (old n) ≤ file_length (new n)) (sym same) (omega (arith, more, ap file_length is)))
    (λ differs. omega (arith, ap file_length (beside other differs.0)))
    (is_or_not other name)

pub longer_slot : (name : List ℕ) (place : ℕ) (slot : List ℕ) (old new : Content) → new name ≡ Some (with_slot place slot (bytes_of (old name))) → Beside name old new → NoneShorter old new
longer_slot name place slot old new is beside = longer_one name (with_slot place slot (bytes_of (old name))) old new is (slot_grows place slot (bytes_of (old name))) beside

pub longer_tail : (name more : List ℕ) (old new : Content) → new name ≡ Some (bytes_of (old name) ++ more) → Beside name old new → NoneShorter old new
longer_tail name more old new is beside = longer_one name (bytes_of (old name) ++ more) old new is (omega (arith, length-append (bytes_of (old name)) more)) beside

-- a run of slots
pub longer_wrote : (writes : List Write) (old new : Content) → Wrote writes old new → NoneShorter old new
longer_wrote [] old new wrote = λ name. omega (arith, ap file_length (wrote name))
longer_wrote (w ∷ writes) old new wrote = longer_then old wrote.0 new (longer_slot w.name w.place w.bytes old wrote.0 wrote.1 wrote.2) (longer_wrote writes wrote.0 new wrote.3)

pub on_ok : {T E P : Type 0} (result : Result T E) → P → OnOk result P
on_ok (Ok x) p = p
on_ok (Err e) p = tt

-- the calls of a new head page behind its first slot
pub behind : (s1 s2 s3 s4 s5 : Content) (page head more : List ℕ) (place : ℕ) (slot : List ℕ) → s2 page ≡ Some (bytes_of (s1 page) ++ more) → Beside page s1 s2 → s3 ≡ s2 → s4 head ≡ Some (with_slot place slot (bytes_of (s3 head)))
    → Beside head s3 s4 → s5 ≡ s4 → NoneShorter s1 s5
behind s1 s2 s3 s4 s5 page head more place slot appended one synced written other settled =
    longer_then s1 s2 s5 (longer_tail page more s1 s2 appended one)
    (longer_then s2 s3 s5 (none_yet s2 s3 synced) (longer_then s3 s4 s5 (longer_slot head place slot s3 s4 written other) (none_yet s4 s5 settled)))

pub slotted_there : (name checkpoint slot old : List ℕ) (s1 s5 : Content) (place : ℕ) → length slot ≡ 48 → s1 name ≡ Some (with_slot place slot old) → NoneShorter s1 s5 → name ≡ checkpoint → 48 ≤ file_length (s5 checkpoint)
slotted_there name checkpoint slot old s1 s5 place wide written longer is =
    subst (λ n. 48 ≤ file_length (s5 n)) is (omega (arith, ap file_length written, slot_stands place slot old, wide, longer name))
