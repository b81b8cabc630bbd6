-- What the reads of connections find, and what they leave.
use Rattle.std.specs.Prelude.{◌≡◌, ◌≤◌, ◌<◌, ℕ, ℤ, Bool, true, false, Option, List, [], ◌∷◌, ◌++◌, length, map, if◌then◌else◌}
use Rattle.std.specs.List.{AllByRecursion, flat_map}
use Rattle.io_traits.specs.Connections.{KeepsLooks, KeepsOthers, pieces_from}
use Rattle.io_traits.specs.Counts.{Rose}
use Rattle.io_traits.specs.Pieces.{Piece, Came, End, Nothing, bytes_in}
use Rattle.io_traits.specs.Telling.{Grows, IsAtEnd, Shrinks}
use Rattle.io_traits.specs.declared.links.Links.{Ghosts as LinksWords}
use Rattle.in_lines.specs.Sources.{Look, of_source}

-- bytes came, or the end; nothing came yet, or the read failed
pub data Found : Type 0 where
  Bytes : List ℕ → Found
  Ends : Found
  Waits : Found
  Fails : Found

-- what came, as the connections tell it
abbrev pub told : Found → Piece
told (Bytes bytes) = Came bytes
told Ends = End
told Waits = Nothing
told Fails = Nothing

-- what it is for the lines: a connection of which a read failed is at its end
abbrev pub piece_found : Found → Piece
piece_found (Bytes bytes) = Came bytes
piece_found Ends = End
piece_found Waits = Nothing
piece_found Fails = End

-- a look of a connection at this moment; nothing is no look
abbrev pub looks_with : ℕ → ℤ → Piece → List Look
looks_with conn moment (Came bytes) = (conn, record { moment = moment; piece = Came bytes }) ∷ []
looks_with conn moment End = (conn, record { moment = moment; piece = End }) ∷ []
looks_with conn moment Nothing = []

-- whether the connection is closed
abbrev pub closes : Piece → Bool
closes (Came bytes) = false
closes End = true
closes Nothing = false

-- What a read that found this says of its connection: what is left of it, how often a read failed, and how often one found nothing yet. Where it closed
-- the connection the counts are those of a closed one.
pub record FoundIn (left_old left_new : Option (List ℕ)) (faults_old faults_new waits_old waits_new : ℕ) (found : Found) : Type 0 where
  pub some : (bytes : List ℕ) → found ≡ Bytes bytes → 0 < length bytes
  pub left : closes (piece_found found) ≡ false → Shrinks left_old left_new (bytes_in (told found))
  pub closed : closes (piece_found found) ≡ true → IsAtEnd left_new
  pub fails : found ≡ Fails → Rose faults_old faults_new
  pub waits : found ≡ Waits → Rose waits_old waits_new
  pub no_fault : closes (piece_found found) ≡ false → faults_new ≡ faults_old
  pub no_wait : (bytes : List ℕ) → found ≡ Bytes bytes → waits_new ≡ waits_old
  pub faults_later : faults_old ≤ faults_new
  pub waits_later : waits_old ≤ waits_new

-- a read: the number of its connection, and what it found
abbrev pub ReadOf : Type 0
ReadOf = ℕ × Found

-- what the connections tell of some reads
abbrev pub told_by : List ReadOf → List (ℕ × Piece)
told_by reads = flat_map (λ r. pieces_from r.0 (told r.1)) reads

-- the looks that they are, at a moment
abbrev pub looks_by : ℤ → List ReadOf → List Look
looks_by moment reads = flat_map (λ r. looks_with r.0 moment (piece_found r.1)) reads

-- the connections that they left open
abbrev pub left_open : List ReadOf → List ℕ
left_open [] = []
left_open (r ∷ reads) = if closes (piece_found r.1) then left_open reads else r.0 ∷ left_open reads

abbrev pub numbers : List ReadOf → List ℕ
numbers reads = map (λ r. r.0) reads

-- the numbers rise, so that none stands twice
abbrev pub Rising : List ℕ → Type 0
Rising [] = Unit {0}
Rising (n ∷ ns) = AllByRecursion (λ m. n < m) ns × Rising ns

-- each of these connections came
abbrev pub AllCame : ℕ → List ℕ → Type 0
AllCame came ns = AllByRecursion (λ n. n < came) ns

module _ {L : Type 0} (links : LinksWords L) where
  abbrev pub IsFoundIn : L → L → ReadOf → Type 0
  IsFoundIn old new r = FoundIn (links.left old r.0) (links.left new r.0) (links.faults old r.0) (links.faults new r.0) (links.waits old r.0) (links.waits new r.0) r.1

  -- a connection was read, with this found
  pub record IsRead (conn : ℕ) (old new : L) (found : Found) : Type 0 where
    pub given : Grows (links.given old) (links.given new) (pieces_from conn (told found))
    pub found_in : IsFoundIn old new (conn, found)
    pub others : KeepsOthers links.left links.faults links.waits conn old new
    pub looks : KeepsLooks links.looks links.came links.coming links.accept_faults links.accept_waits old new

  -- connections were read, each once, with this found
  pub record AreRead (old new : L) (reads : List ReadOf) : Type 0 where
    pub given : Grows (links.given old) (links.given new) (told_by reads)
    pub each : AllByRecursion (IsFoundIn old new) reads
    pub left : (n : ℕ) → of_source n reads ≡ [] → links.left new n ≡ links.left old n
    pub faults : (n : ℕ) → of_source n reads ≡ [] → links.faults new n ≡ links.faults old n
    pub waits : (n : ℕ) → of_source n reads ≡ [] → links.waits new n ≡ links.waits old n

  -- one read, and what it added to the pieces
  pub record TookRead (conn : ℕ) (moment : ℤ) (pieces_old pieces_new : List Look) (old new : L) (closed : Bool) : Type 0 where
    pub found : Found
    pub read : IsRead conn old new found
    pub looks : pieces_new ≡ pieces_old ++ looks_with conn moment (piece_found found)
    pub closed_is : closed ≡ closes (piece_found found)

  -- Open connections were read at a moment, in their order, but for the last of them where memory ran out.
  pub record ReadEach (moment : ℤ) (opened open_new : List ℕ) (pieces_old pieces_new : List Look) (old new : L) (all : Type 0) : Type 0 where
    pub reads : List ReadOf
    pub unread : List ℕ
    pub order : opened ≡ numbers reads ++ unread
    pub whole : all → unread ≡ []
    pub still : open_new ≡ left_open reads ++ unread
    pub read : AreRead old new reads
    pub keeps : KeepsLooks links.looks links.came links.coming links.accept_faults links.accept_waits old new
    pub looks : pieces_new ≡ pieces_old ++ looks_by moment reads
