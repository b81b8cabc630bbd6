-- What comes over connections, each with its number.
use Rattle.std.specs.Prelude.{◌≡◌, ◌≢◌, ℕ, ◌+◌, List, [], Option, Some, Result, Ok, Err, map}
use Rattle.io_traits.specs.Pieces.{Piece, piece_list}
use Rattle.io_traits.specs.Telling.{Grows}
use Rattle.io_traits.specs.declared.faults.Failed.{Failed}
use Rattle.io_traits.specs.declared.links.Come.{Come}
use Rattle.io_traits.specs.declared.links.Come.TheVariants.{Conn, NotYet, Ended}

-- a fact for the number of the connection that came, or one where none came
abbrev pub OnCome : Result Come Failed → (ℕ → Type 0) → Type 0 → Type 0
OnCome (Ok (Conn n)) P Q = P n
OnCome (Ok NotYet) P Q = Q
OnCome (Ok Ended) P Q = Q
OnCome (Err e) P Q = Q

-- a connection that came has the next number and is counted, and where none came the count stays
abbrev pub IsNumbered : Result Come Failed → ℕ → ℕ → Type 0
IsNumbered result before now = OnCome result (λ n. (n ≡ before) × (now ≡ before + 1)) (now ≡ before)

-- how many connections a look brought
abbrev pub brought : Result Come Failed → ℕ
brought (Ok (Conn n)) = 1
brought (Ok NotYet) = 0
brought (Ok Ended) = 0
brought (Err e) = 0

-- of those that were still to come so many came
pub record Lessens (old new : Option ℕ) (came : ℕ) : Type 0 where
  pub each : (rest : ℕ) → new ≡ Some rest → old ≡ Some (came + rest)

-- none is still to come
pub record IsOver (coming : Option ℕ) : Type 0 where
  pub none : (rest : ℕ) → coming ≡ Some rest → rest ≡ 0

-- a piece with the number of its connection
abbrev pub pieces_from : ℕ → Piece → List (ℕ × Piece)
pieces_from conn piece = map (λ p. (conn, p)) (piece_list piece)

-- of each connection but this one it is the same as before
abbrev pub SameBut : {X : Type 0} → ℕ → (ℕ → X) → (ℕ → X) → Type 0
SameBut conn old new = (other : ℕ) → other ≢ conn → new other ≡ old other

-- what a look for a connection leaves as it was: what the connections gave and what is left of each, and its counts
pub record KeepsReads {S : Type 0} (gave_of : S → Option (List (ℕ × Piece))) (left_of : S → ℕ → Option (List ℕ)) (faults_of waits_of : S → ℕ → ℕ) (old new : S) : Type 0 where
  pub given : Grows (gave_of old) (gave_of new) []
  pub left : (conn : ℕ) → left_of new conn ≡ left_of old conn
  pub faults : (conn : ℕ) → faults_of new conn ≡ faults_of old conn
  pub waits : (conn : ℕ) → waits_of new conn ≡ waits_of old conn

-- what a call of one connection leaves as it was: what is left of each other one, and its counts
pub record KeepsOthers {S : Type 0} (left_of : S → ℕ → Option (List ℕ)) (faults_of waits_of : S → ℕ → ℕ) (conn : ℕ) (old new : S) : Type 0 where
  pub left : SameBut conn (left_of old) (left_of new)
  pub faults : SameBut conn (faults_of old) (faults_of new)
  pub waits : SameBut conn (waits_of old) (waits_of new)

-- and where looks were made, what they brought, and their counts
pub record KeepsLooks {S : Type 0} (looks_of : S → Option (List (List ℕ × ℕ))) (came_to : S → ℕ) (coming_to : S → Option ℕ) (faults_of waits_of : S → ℕ) (old new : S) : Type 0 where
  pub looks : looks_of new ≡ looks_of old
  pub came : came_to new ≡ came_to old
  pub coming : coming_to new ≡ coming_to old
  pub faults : faults_of new ≡ faults_of old
  pub waits : waits_of new ≡ waits_of old
