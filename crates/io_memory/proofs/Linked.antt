-- What the calls of connections in memory leave of each of them.
use Rattle.std.proofs.Common.{◌≡◌, ◌≢◌, ◌⊎◌, ◌≤◌, ◌<◌, ◌+◌, ◌-◌, ℕ, List, [], ◌∷◌, ◌++◌, Bool, true, false, inl, inr, Result, Ok, Err, Some, length, length-append, take, take_at, min, refl, sym, ap, subst, ◌∙◌, arith}
use Rattle.std.specs.Prelude.{IfOk, OnOk, nat_lt, if◌then◌else◌}
use Rattle.std.proofs.lemmas.Bool.{cases_eq}
use Rattle.std.proofs.lemmas.Option.{same_Some}
use Rattle.std.proofs.lemmas.Bool.Decides.{nat_tests}
use Rattle.std.proofs.lemmas.List.{get_or-set_same, get_or-set_other, length-take, take_min}
use Rattle.io_traits.specs.Connections.{brought, Lessens, IsOver, KeepsOthers}
use Rattle.io_traits.specs.Pieces.{Piece, Came, End, Nothing, bytes_in, gave}
use Rattle.io_traits.specs.Telling.{Shrinks}
use Rattle.io_traits.specs.declared.faults.Failed.{Failed}
use Rattle.io_traits.specs.declared.links.Come.{Come}
use Rattle.io_traits.specs.declared.links.Come.TheVariants.{Conn, NotYet, Ended}
use Rattle.io_traits.specs.declared.sources.Step.{Step}
use Rattle.io_traits.specs.declared.sources.Step.TheVariants.{Bytes}
use Rattle.io_traits.specs.declared.sources.Step.TheVariants.{NotYet as NoneYet, End as AtEnd}
use Rattle.io_memory.specs.Scripts.{waits_next}
use Rattle.io_memory.specs.Sources.{written_over}
use Rattle.io_memory.specs.Links.{Linking, fresh, state_of, faults_of, waits_of, coming_of, next_come, after_accept, with_state, left_of, bytes_left, without, first_from, taken_off, found, step_of, shut, after_read, after_step}
use Rattle.io_memory.specs.declared.memory_links.ConnState.{ConnState}
use Rattle.io_memory.proofs.Pieces.{none_left, others_left, next_taken, others_taken}
use Rattle.io_memory.proofs.Taking.{shrinks}

-- nothing is left of a connection that is shut, and all of each other one
pub none_of_shut : (s : Linking) (conn : ℕ) → left_of (shut s conn) conn ≡ []
none_of_shut s conn = none_either (state_of (shut s conn) conn).is_open (bytes_left conn (without conn s.left)) (none_left conn s.left)
  where
    none_either : (b : Bool) (bytes : List ℕ) → bytes ≡ [] → (if b then bytes else []) ≡ []
    none_either true bytes none = none
    none_either false bytes none = refl

pub others_of_shut : (s : Linking) (conn other : ℕ) → other ≢ conn → left_of (shut s conn) other ≡ left_of s other
others_of_shut s conn other differ = λ i. if (get_or-set_other s.came conn other (record (state_of s conn) { is_open = false }) fresh differ i).is_open then others_left conn other s.left differ i else []

-- a change of its counts leaves of each connection what was left
pub same_counted : (s : Linking) (conn other : ℕ) (state : ConnState) → conn < length s.came → state.is_open ≡ (state_of s conn).is_open → left_of (with_state s conn state) other ≡ left_of s other
same_counted s conn other state inside same = same_either (cases_eq other conn)
  where
    same_either : (other ≡ conn) ⊎ (other ≡ conn → ⊥) → left_of (with_state s conn state) other ≡ left_of s other
    same_either (inl is) = λ i. if opened is i then bytes_left other s.left else []
      where
        opened : other ≡ conn → (state_of (with_state s conn state) other).is_open ≡ (state_of s other).is_open
        opened is = subst (λ n. (state_of (with_state s conn state) n).is_open ≡ (state_of s n).is_open) (sym is) (ap (λ t. t.is_open) (get_or-set_same s.came conn state fresh inside) ∙ same)
    same_either (inr differ) = λ i. if (get_or-set_other s.came conn other state fresh differ i).is_open then bytes_left other s.left else []

found_open : (s : Linking) (conn : ℕ) (bytes : List ℕ) → found s conn ≡ Came bytes → ((state_of s conn).is_open ≡ true) × (first_from conn s.left ≡ Came bytes)
found_open s conn bytes is = by_tests (waits_next s.script) (state_of s conn).is_open refl is
  where
    by_tests : (waits opened : Bool) → (state_of s conn).is_open ≡ opened → (if waits then Nothing else if opened then first_from conn s.left else End) ≡ Came bytes → ((state_of s conn).is_open ≡ true) × (first_from conn s.left ≡ Came bytes)
    by_tests true opened same is = cc
    by_tests false true same is = (same, is)
    by_tests false false same is = cc

none_at_end : (conn : ℕ) (left : List (ℕ × Piece)) → first_from conn left ≡ End → bytes_left conn left ≡ []
none_at_end conn [] is = refl
none_at_end conn ((from, Came bytes) ∷ left) is = grind (arith, nat_tests)
none_at_end conn ((from, End) ∷ left) is = grind (arith, nat_tests)
none_at_end conn ((from, Nothing) ∷ left) is = grind (arith, nat_tests)

found_end : (s : Linking) (conn : ℕ) → found s conn ≡ End → left_of s conn ≡ []
found_end s conn is = by_tests (waits_next s.script) (state_of s conn).is_open is
  where
    by_tests : (waits opened : Bool) → (if waits then Nothing else if opened then first_from conn s.left else End) ≡ End → (if opened then bytes_left conn s.left else []) ≡ []
    by_tests true opened is = cc
    by_tests false true is = none_at_end conn s.left is
    by_tests false false is = refl

step_bytes : (room n : ℕ) (p : Piece) → Bytes n ≡ step_of room p → (bytes : List ℕ) × (p ≡ Came bytes) × (n ≡ min room (length bytes))
step_bytes room n (Came bytes) is = (bytes, refl, cc)
step_bytes room n End is = cc
step_bytes room n Nothing is = cc

step_end : (room : ℕ) (p : Piece) → AtEnd ≡ step_of room p → p ≡ End
step_end room (Came bytes) is = cc
step_end room End is = refl
step_end room Nothing is = cc

-- the bytes that a read gave were the next ones of its connection
came_left : (s : Linking) (conn room n : ℕ) (into old bytes : List ℕ) → length old ≡ room → found s conn ≡ Came bytes → n ≡ min room (length bytes) → into ≡ written_over (take room (bytes_in (found s conn))) old → left_of s conn ≡ take n into ++ left_of (after_step s conn (Bytes n)) conn
came_left s conn room n into old bytes size is count wrote =
    let seen : ((state_of s conn).is_open ≡ true) × (first_from conn s.left ≡ Came bytes) = found_open s conn bytes is in
    let front : take n into ≡ take n bytes =
    ap (take n) (wrote ∙ ap (λ p. written_over (take room (bytes_in p)) old) is) ∙ take_at (take room bytes) _ n (length-take room bytes ∙ sym count) ∙ sym (take_min room bytes) ∙ ap (λ m. take m bytes) (sym count) in
    let next : bytes_left conn s.left ≡ take n bytes ++ bytes_left conn (taken_off n s.left) = next_taken conn n s.left bytes seen.1 (subst (λ m. m ≤ length bytes) (sym count) (omega arith)) in
    subst (λ b. (if b then bytes_left conn s.left else []) ≡ take n into ++ (if b then bytes_left conn (taken_off n s.left) else [])) (sym seen.0) (next ∙ ap (λ t. t ++ bytes_left conn (taken_off n s.left)) (sym front))

pub read_left : (s : Linking) (conn : ℕ) (result : Result Step Failed) (into old : List ℕ) → conn < length s.came → IfOk result (λ step. step ≡ step_of (length old) (found s conn)) → OnOk result (into ≡ written_over (take (length old) (bytes_in (found s conn))) old) → Shrinks (Some (left_of s conn)) (Some (left_of (after_read s conn result) conn)) (bytes_in (gave result into))
read_left s conn (Err e) into old inside answer wrote = shrinks _ _ [] (sym (same_counted s conn conn _ inside refl))
read_left s conn (Ok NoneYet) into old inside answer wrote = shrinks _ _ [] (sym (same_counted s conn conn _ inside refl))
read_left s conn (Ok AtEnd) into old inside answer wrote = shrinks _ _ [] (found_end s conn (step_end _ _ answer) ∙ sym (none_of_shut s conn))
read_left s conn (Ok (Bytes n)) into old inside answer wrote =
    let p : (bytes : List ℕ) × (found s conn ≡ Came bytes) × (n ≡ min (length old) (length bytes)) = step_bytes _ _ _ answer in
    shrinks _ _ (take n into) (came_left s conn (length old) n into old p.0 refl p.1 p.2 wrote)

-- of each other connection all is left
pub read_others : (s : Linking) (conn other : ℕ) (result : Result Step Failed) (room : ℕ) → other ≢ conn → conn < length s.came → IfOk result (λ step. step ≡ step_of room (found s conn)) → left_of (after_read s conn result) other ≡ left_of s other
read_others s conn other (Err e) room differ inside answer = same_counted s conn other _ inside refl
read_others s conn other (Ok NoneYet) room differ inside answer = same_counted s conn other _ inside refl
read_others s conn other (Ok AtEnd) room differ inside answer = others_of_shut s conn other differ
read_others s conn other (Ok (Bytes n)) room differ inside answer =
    let p : (bytes : List ℕ) × (found s conn ≡ Came bytes) × (n ≡ min room (length bytes)) = step_bytes _ _ _ answer in
    let seen : ((state_of s conn).is_open ≡ true) × (first_from conn s.left ≡ Came p.0) = found_open s conn p.0 p.1 in
    λ i. if (state_of s other).is_open then others_taken conn other n s.left p.0 differ seen.1 i else []

pub read_states : (s : Linking) (conn other : ℕ) (result : Result Step Failed) → other ≢ conn → state_of (after_read s conn result) other ≡ state_of s other
read_states s conn other (Err e) differ = get_or-set_other s.came conn other _ fresh differ
read_states s conn other (Ok NoneYet) differ = get_or-set_other s.came conn other _ fresh differ
read_states s conn other (Ok AtEnd) differ = get_or-set_other s.came conn other _ fresh differ
read_states s conn other (Ok (Bytes n)) differ = refl

-- so a read of a connection, and its end, leave the others as they were
abbrev KeepsRest : ℕ → Linking → Linking → Type 0
KeepsRest = KeepsOthers (λ s other. Some (left_of s other)) faults_of waits_of

pub read_keeps_others : (old new : Linking) (conn : ℕ) (result : Result Step Failed) (room : ℕ) → conn < length old.came → IfOk result (λ step. step ≡ step_of room (found old conn)) → new ≡ after_read old conn result → KeepsRest conn old new
read_keeps_others old new conn result room inside answer is = subst (KeepsRest conn old) (sym is) (record {
  left = λ other differ. ap Some (read_others old conn other result room differ inside answer);
  faults = λ other differ. ap (λ t. t.faults) (read_states old conn other result differ);
  waits = λ other differ. ap (λ t. t.waits) (read_states old conn other result differ);
})

pub shut_keeps_others : (old new : Linking) (conn : ℕ) → new ≡ shut old conn → KeepsRest conn old new
shut_keeps_others old new conn is = subst (KeepsRest conn old) (sym is) (record {
  left = λ other differ. ap Some (others_of_shut old conn other differ);
  faults = λ other differ. ap (λ t. t.faults) (get_or-set_other old.came conn other (record (state_of old conn) { is_open = false }) fresh differ);
  waits = λ other differ. ap (λ t. t.waits) (get_or-set_other old.came conn other (record (state_of old conn) { is_open = false }) fresh differ);
})

none_came : (rest : ℕ) → rest ≡ 0 + rest
none_came rest = omega arith

-- of the connections that are still to come a look brought what it says
pub come_less : (s : Linking) (result : Result Come Failed) → IfOk result (λ come. come ≡ next_come s) → Lessens (Some (coming_of s)) (Some (coming_of (after_accept s result))) (brought result)
come_less s (Err e) is = record { each = λ rest told. told ∙ ap Some (none_came rest) }
come_less s (Ok NotYet) is = record { each = λ rest told. told ∙ ap Some (none_came rest) }
come_less s (Ok Ended) is = record { each = λ rest told. told ∙ ap Some (none_came rest) }
come_less s (Ok (Conn n)) is = record { each = λ rest told. ap Some (one_less rest (same_Some _ _ told)) }
  where
    more_come : (waits more : Bool) → nat_lt (length s.came) s.connections ≡ more → Conn n ≡ (if waits then NotYet else if more then Conn (length s.came) else Ended) → length s.came < s.connections
    more_come true more same is = cc
    more_come false true same is = grind (arith, nat_tests)
    more_come false false same is = cc

    one_less : (rest : ℕ) → s.connections - length (s.came ++ fresh ∷ []) ≡ rest → s.connections - length s.came ≡ 1 + rest
    one_less rest told = omega (arith, more_come (waits_next s.script) (nat_lt (length s.came) s.connections) refl is, length-append s.came (fresh ∷ []), told)

pub come_over : (s : Linking) (result : Result Come Failed) → IfOk result (λ come. come ≡ next_come s) → result ≡ Ok Ended → IsOver (Some (coming_of (after_accept s result)))
come_over s (Err e) is ended = absurd cc
come_over s (Ok (Conn n)) is ended = absurd cc
come_over s (Ok NotYet) is ended = absurd cc
come_over s (Ok Ended) is ended = record { none = λ rest told. omega (arith, all_came (waits_next s.script) (nat_lt (length s.came) s.connections) refl is, same_Some _ _ told) }
  where
    all_came : (waits more : Bool) → nat_lt (length s.came) s.connections ≡ more → Ended ≡ (if waits then NotYet else if more then Conn (length s.came) else Ended) → s.connections ≤ length s.came
    all_came true more same is = cc
    all_came false true same is = cc
    all_came false false same is = grind (arith, nat_tests)
