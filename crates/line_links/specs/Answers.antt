-- Answers to the parcels of one link, and its last parcels.
use Rattle.std.specs.Prelude.{◌≡◌, ◌==◌, ◌&&◌, ◌+◌, ℕ, zero, suc, Bool, true, if◌then◌else◌, List, [], ◌∷◌, ◌++◌, Option, Some, None}
use Rattle.pipeline_bus.specs.declared.parcel.Answer.{Answer}
use Rattle.pipeline_bus.specs.declared.parcel.Heard.{Heard}
use Rattle.pipeline_bus.specs.declared.parcel.Heard.TheVariants.{Assured, NotListening}
use Rattle.pipeline_bus.specs.declared.parcel.Parcel.{Parcel}

-- a last parcel to an address
abbrev pub IsLastParcel : List ℕ → Parcel → Type 0
IsLastParcel address p = p ≡ record { number = 0; address = address; events = [] }

-- the n-th answer is of the parcel with the number n
unfoldable pub are_in_turn : ℕ → List Answer → Bool
are_in_turn n [] = true
are_in_turn n (a ∷ answers) = (a.number == n + 1) && are_in_turn (n + 1) answers

abbrev pub if_refused : Heard → ℕ → List ℕ
if_refused Assured n = []
if_refused NotListening n = n ∷ []

-- the numbers of the parcels that were answered NotListening
abbrev pub refused_of : List Answer → List ℕ
refused_of [] = []
refused_of (a ∷ answers) = if_refused a.answer a.number ++ refused_of answers

-- the answer to the parcel of a number
abbrev pub answer_to : ℕ → List Answer → Option Heard
answer_to n [] = None
answer_to n (a ∷ answers) = if n == a.number then Some a.answer else answer_to n answers

-- so many numbers, from one on
abbrev pub numbers_from : ℕ → ℕ → List ℕ
numbers_from n zero = []
numbers_from n (suc k) = n ∷ numbers_from (n + 1) k

-- one where there is a value, and else none
abbrev pub one_if_some : {A : Type 0} → Option A → ℕ
one_if_some None = 0
one_if_some (Some x) = 1
