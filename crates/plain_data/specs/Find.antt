-- Where a key stands among members, and what that says of them.
use Rattle.std.specs.Prelude.{◌≡◌, ℕ, ◌<◌, ◌≤◌, List, Some, None, length, slice_index_or, slice_set, insert, remove}
use Rattle.plain_data.specs.Members.{get_member, set_member, insert_member, remove_member}

-- the key k stands at place i, where a change of the list is a change at k
pub record IsFoundAt {V : Type 0} (k : List ℕ) (ms : List (List ℕ × V)) (i : ℕ) : Type 0 where
  pub within : i < length ms
  pub get : (m : List ℕ × V) → m ≡ slice_index_or ms i m → get_member k ms ≡ Some m.1
  pub set : (m : List ℕ × V) (v : V) → m ≡ slice_index_or ms i m → slice_set ms i (m.0, v) ≡ set_member k v ms
  pub inserted : (m : List ℕ × V) (v : V) → m ≡ slice_index_or ms i m → slice_set ms i (m.0, v) ≡ insert_member k v ms
  pub removed : remove ms i ≡ remove_member k ms

-- the key k stands nowhere, and would go at place i
pub record IsAbsentAt {V : Type 0} (k : List ℕ) (ms : List (List ℕ × V)) (i : ℕ) : Type 0 where
  pub within : i ≤ length ms
  pub get : get_member k ms ≡ None
  pub inserted : (v : V) → insert ms i (k, v) ≡ insert_member k v ms
  pub removed : remove_member k ms ≡ ms
