-- Bytes read once from the front: what was read and the bytes behind it, or how many bytes are left at the place of the fault.
use Rattle.std.specs.Prelude.{◌≡◌, ◌<◌, ◌^◌, ℕ, zero, suc, List, [], ◌∷◌, ◌++◌, length, take, drop, if◌then◌else◌, nat_lt, Result, Ok, Err}
use Rattle.byteorder.specs.Endian.{big_bytes, big_number}
use Rattle.crc_frame.specs.Bytes.{IsBytes}

infixl 10 ◌>>=◌
abbrev pub ◌>>=◌ : {A B : Type 0} → Result A ℕ → (A → Result B ℕ) → Result B ℕ
(Ok x) >>= f = f x
(Err left) >>= f = Err left

abbrev pub Reads : Type 0 → Type 0
Reads X = List ℕ → Result (X × List ℕ) ℕ

-- the front of so many bytes, if they are there
abbrev pub front_at : ℕ → Reads (List ℕ)
front_at n bytes = if nat_lt (length bytes) n then Err 0 else Ok (take n bytes, drop n bytes)

-- a number of so many bytes, the highest first
abbrev pub number_at : ℕ → Reads ℕ
number_at width bytes = front_at width bytes >>= λ x. Ok (big_number width x.0, x.1)

-- as many bytes as their length says, which has four bytes
abbrev pub run_at : Reads (List ℕ)
run_at bytes = number_at 4 bytes >>= λ n. front_at n.0 n.1

-- so many of one kind, one behind the other
abbrev pub repeated : {X : Type 0} → Reads X → ℕ → Reads (List X)
repeated read zero bytes = Ok ([], bytes)
repeated read (suc n) bytes = read bytes >>= λ x. (repeated read n x.1 >>= λ xs. Ok (x.0 ∷ xs.0, xs.1))

-- a count or a length as it is written
unfoldable pub count_bytes : ℕ → List ℕ
count_bytes n = big_bytes 4 n

-- bytes behind their length
abbrev pub run_bytes : List ℕ → List ℕ
run_bytes bytes = count_bytes (length bytes) ++ bytes

-- so many bytes, a number that they hold, and bytes whose length four bytes hold
abbrev pub HasLength : ℕ → List ℕ → Type 0
HasLength width bytes = length bytes ≡ width

abbrev pub FitsIn : ℕ → ℕ → Type 0
FitsIn width n = n < 256 ^ width

abbrev pub IsRun : List ℕ → Type 0
IsRun bytes = length bytes < 2 ^ 32

abbrev pub as_it_is : List ℕ → List ℕ
as_it_is bytes = bytes

-- what is such is read from what is written of it, whatever stands behind
abbrev pub IsReadBack : {X : Type 0} → Reads X → (X → List ℕ) → (X → Type 0) → Type 0
IsReadBack {X} read written Is = (x : X) (rest : List ℕ) → Is x → read (written x ++ rest) ≡ Ok (x, rest)

-- what is read is such, and stands in front as it is written
abbrev pub WasWritten : {X : Type 0} → Reads X → (X → List ℕ) → (X → Type 0) → Type 0
WasWritten {X} read written Is = (bytes : List ℕ) (x : X) (rest : List ℕ) → IsBytes bytes → read bytes ≡ Ok (x, rest) → Is x × (bytes ≡ written x ++ rest)

-- the bytes end before these do
abbrev pub EndIn : List ℕ → List ℕ → Type 0
EndIn whole bytes = (b : ℕ) × (more : List ℕ) × (bytes ++ b ∷ more ≡ whole)
