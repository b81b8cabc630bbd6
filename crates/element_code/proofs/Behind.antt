-- Reading of which nothing is kept, one thing after the other.
use Rattle.std.proofs.Common.{◌≡◌, ℕ, suc, ◌+◌, ◌-◌, ◌<◌, ◌==◌, true, false, List, [], ◌∷◌, length, Result, Ok, Err, Option, Some, refl, sym, ap, ◌∙◌, arith, rules}
use Rattle.event_tree.specs.Values.{Members}
use Rattle.event_tree.specs.declared.value.Value.{Value}
use Rattle.crc_frame.specs.declared.stop.Stop.{Stop}
use Rattle.crc_frame.specs.declared.stop.Stop.TheVariants.{Left, Memory}
use Rattle.crc_frame.specs.Gives.{StopsAs}
use Rattle.crc_frame.specs.Fronts.{◌>>=◌, Reads, repeated}
use Rattle.crc_frame.proofs.Fronts.{ok_is}
use Rattle.element_code.specs.Behind.{behind, done}
use Rattle.element_code.specs.Reading.{key_at, members_at, object_at, as_list, as_object, value_at, whole, event_at}
use Rattle.element_code.specs.RowBodies.{origin_at, short_event_at, row, row_at}

pub done_ok : {X : Type 0} (read : Result X ℕ) → done read ≡ Ok tt → (x : X) × (read ≡ Ok x)
done_ok (Ok x) h = (x, refl)
done_ok (Err left) h = absurd (search (h, rules))

pub done_err : {X : Type 0} (read : Result X ℕ) (left : ℕ) → done read ≡ Err left → read ≡ Err left
done_err (Ok x) left h = absurd (search (h, rules))
done_err (Err other) left h = let same : other ≡ left = search (h, rules) in ap Err same

done_as : {X Y : Type 0} (read : Result X ℕ) (f : X → Y) → done (read >>= λ x. Ok (f x)) ≡ done read
done_as (Ok x) f = refl
done_as (Err left) f = refl

behind_ok : {X : Type 0} (read : Result (X × List ℕ) ℕ) (rest : List ℕ) → behind read ≡ Ok rest → (x : X) × (read ≡ Ok (x, rest))
behind_ok (Ok x) rest h = (x.0, ap (λ b. Ok (x.0, b)) (ok_is x.1 rest h))
behind_ok (Err left) rest h = absurd (search (h, rules))

behind_err : {X : Type 0} (read : Result (X × List ℕ) ℕ) (left : ℕ) → behind read ≡ Err left → read ≡ Err left
behind_err (Ok x) left h = absurd (search (h, rules))
behind_err (Err other) left h = let same : other ≡ left = search (h, rules) in ap Err same

behind_as : {X Y : Type 0} (read : Result (X × List ℕ) ℕ) (f : X → Y) → behind (read >>= λ x. Ok (f x.0, x.1)) ≡ behind read
behind_as (Ok x) f = refl
behind_as (Err left) f = refl

pub behind-as_list : (read : Result (List Value × List ℕ) ℕ) → behind (as_list read) ≡ behind read
behind-as_list (Ok x) = refl
behind-as_list (Err left) = refl

pub behind-as_object : (read : Result (Members × List ℕ) ℕ) → behind (as_object read) ≡ behind read
behind-as_object (Ok x) = refl
behind-as_object (Err left) = refl

pub ruleset nested = (behind-as_list, behind-as_object)

-- ---- so many of one kind, and members, as a loop tests them

module _ {X : Type 0} (read : Reads X) (count i : ℕ) (bytes : List ℕ) (total : Result (List ℕ) ℕ) (lt : i < count) (so_far : behind (repeated read (count - i) bytes) ≡ total) where
  more_items : count - i ≡ suc (count - (i + 1))
  more_items = omega arith

  pub items_on : (after : List ℕ) → behind (read bytes) ≡ Ok after → behind (repeated read (count - (i + 1)) after) ≡ total
  items_on after h =
      let r = behind_ok (read bytes) after h in
      let rest = repeated read (count - (i + 1)) after in
      let one : behind (repeated read (suc (count - (i + 1))) bytes) ≡ behind rest = rw (r.1) (behind_as rest (λ xs. r.0 ∷ xs)) in
      sym one ∙ ap (λ n. behind (repeated read n bytes)) (sym more_items) ∙ so_far

  pub items_stop : (stop : Stop) → StopsAs stop (behind (read bytes)) → StopsAs stop total
  items_stop Memory h = tt
  items_stop (Left left) h =
      let one : behind (repeated read (suc (count - (i + 1))) bytes) ≡ Err left = rw (behind_err (read bytes) left h) refl in
      sym so_far ∙ ap (λ n. behind (repeated read n bytes)) more_items ∙ one

module _ (read : Reads Value) (count i : ℕ) (last : Option (List ℕ)) (bytes : List ℕ) (total : Result (List ℕ) ℕ) (lt : i < count) (so_far : behind (members_at read last (count - i) bytes) ≡ total) where
  more_members : count - i ≡ suc (count - (i + 1))
  more_members = omega arith

  pub members_on : (key own after : List ℕ) → key_at last bytes ≡ Ok (key, own) → behind (read own) ≡ Ok after → behind (members_at read (Some key) (count - (i + 1)) after) ≡ total
  members_on key own after k h =
      let r = behind_ok (read own) after h in
      let rest = members_at read (Some key) (count - (i + 1)) after in
      let one : behind (members_at read last (suc (count - (i + 1))) bytes) ≡ behind rest = rw (k, r.1) (behind_as rest (λ ms. (key, r.0) ∷ ms)) in
      sym one ∙ ap (λ n. behind (members_at read last n bytes)) (sym more_members) ∙ so_far

  pub members_stop_key : (stop : Stop) → StopsAs stop (key_at last bytes) → StopsAs stop total
  members_stop_key Memory h = tt
  members_stop_key (Left left) h =
      let one : behind (members_at read last (suc (count - (i + 1))) bytes) ≡ Err left = rw h refl in
      sym so_far ∙ ap (λ n. behind (members_at read last n bytes)) more_members ∙ one

  pub members_stop_value : (key own : List ℕ) (stop : Stop) → key_at last bytes ≡ Ok (key, own) → StopsAs stop (behind (read own)) → StopsAs stop total
  members_stop_value key own Memory k h = tt
  members_stop_value key own (Left left) k h =
      let one : behind (members_at read last (suc (count - (i + 1))) bytes) ≡ Err left = rw (k, behind_err (read own) left h) refl in
      sym so_far ∙ ap (λ n. behind (members_at read last n bytes)) more_members ∙ one

-- ---- an event and a row

pub not_whole : (rest : List ℕ) → (length rest == 0) ≡ false → done (whole [] [] rest) ≡ Err (length rest)
not_whole [] h = absurd (search (h, rules))
not_whole (b ∷ bs) h = ap Err (omega arith)

pub is_whole : (rest : List ℕ) → (length rest == 0) ≡ true → done (whole [] [] rest) ≡ Ok tt
is_whole [] h = refl
is_whole (b ∷ bs) h = absurd (search (h, rules))

done-whole : (fields meta : Members) (rest : List ℕ) → done (whole fields meta rest) ≡ done (whole [] [] rest)
done-whole fields meta [] = refl
done-whole fields meta (b ∷ bs) = refl

module _ (bytes : List ℕ) where
  pub stops_first : (stop : Stop) → StopsAs stop (behind (object_at (value_at 127) bytes)) → StopsAs stop (done (event_at bytes))
  unfolding event_at
  stops_first Memory h = tt
  stops_first (Left left) h = rw (behind_err (object_at (value_at 127) bytes) left h) refl

  pub stops_second : (rest : List ℕ) (stop : Stop) → behind (object_at (value_at 127) bytes) ≡ Ok rest → StopsAs stop (behind (object_at (value_at 127) rest)) → StopsAs stop (done (event_at bytes))
  unfolding event_at
  stops_second rest Memory one h = tt
  stops_second rest (Left left) one h = rw ((behind_ok (object_at (value_at 127) bytes) rest one).1, behind_err (object_at (value_at 127) rest) left h) refl

  pub ends_so : (rest end : List ℕ) → behind (object_at (value_at 127) bytes) ≡ Ok rest → behind (object_at (value_at 127) rest) ≡ Ok end → done (event_at bytes) ≡ done (whole [] [] end)
  unfolding event_at
  ends_so rest end one two =
      let f = behind_ok (object_at (value_at 127) bytes) rest one in
      let m = behind_ok (object_at (value_at 127) rest) end two in
      rw (f.1, m.1) (done-whole f.0 m.0 end)

  pub row_done : (origin rest : List ℕ) → origin_at bytes ≡ Ok (origin, rest) → done (row_at bytes) ≡ done (short_event_at rest)
  row_done origin rest h = rw h (done_as (short_event_at rest) (row origin))
