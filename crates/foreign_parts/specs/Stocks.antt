-- What a rack holds: of each name the numbers of the boxes that are left, and how many are out.
use Rattle.std.specs.Prelude.{◌≡◌, ◌≤◌, ◌<◌, ℕ, suc, ◌+◌, ◌-◌, List, [], ◌∷◌, ◌++◌, Bool, true, false, if◌then◌else◌, bytes_eq, nat_eq, length, take, Option, Some, Result, slice_get}
use Rattle.config_tree.specs.Joining.{Entries}
use Rattle.config_tree.specs.declared.fault.FromFault.{FromFault}
use Rattle.config_tree.specs.declared.fault.SettingFault.{SettingFault}
use Rattle.foreign_parts.specs.Configuring.{Answers}

-- the boxes of one name: the numbers of those that are left, of which the last is drawn next, and how many were drawn and not given back
pub record Stock : Type 0 where
  pub name : List ℕ
  pub left : List ℕ
  pub out : ℕ

-- a box of this name was added at some time
abbrev pub is_known : List ℕ → List Stock → Bool
is_known k [] = false
is_known k (s ∷ ss) = if bytes_eq s.name k then true else is_known k ss

-- the numbers of the boxes of a name that are left
abbrev pub left_of : List ℕ → List Stock → List ℕ
left_of k [] = []
left_of k (s ∷ ss) = if bytes_eq s.name k then s.left else left_of k ss

-- how many boxes of a name were drawn and not given back
abbrev pub out_of : List ℕ → List Stock → ℕ
out_of k [] = 0
out_of k (s ∷ ss) = if bytes_eq s.name k then s.out else out_of k ss

-- a box more of a name, which may be a new one
abbrev pub one_more : ℕ → Stock → Stock
one_more n s = record { name = s.name; left = s.left ++ n ∷ []; out = s.out }

abbrev pub with_box : List ℕ → ℕ → List Stock → List Stock
with_box k n [] = record { name = k; left = n ∷ []; out = 0 } ∷ []
with_box k n (s ∷ ss) = if bytes_eq s.name k then one_more n s ∷ ss else s ∷ with_box k n ss

-- the place of a name, or how many names there are
abbrev pub place : List ℕ → List Stock → ℕ
place k [] = 0
place k (s ∷ ss) = if bytes_eq s.name k then 0 else suc (place k ss)

-- a change of the stock of a name
abbrev pub change : List ℕ → (Stock → Stock) → List Stock → List Stock
change k f [] = []
change k f (s ∷ ss) = if bytes_eq s.name k then f s ∷ ss else s ∷ change k f ss

-- the last box of a name is drawn
abbrev pub one_drawn : Stock → Stock
one_drawn s = record { name = s.name; left = take (length s.left - 1) s.left; out = s.out + 1 }

abbrev pub drawn : List ℕ → List Stock → List Stock
drawn k ss = change k one_drawn ss

-- a box of a name comes back
abbrev pub one_back : ℕ → Stock → Stock
one_back n s = record { name = s.name; left = s.left ++ n ∷ []; out = s.out - 1 }

abbrev pub given_back : List ℕ → ℕ → List Stock → List Stock
given_back k n ss = change k (one_back n) ss

-- how often a number stands among the boxes that are left
abbrev pub times_in : ℕ → List ℕ → ℕ
times_in n [] = 0
times_in n (m ∷ ms) = (if nat_eq n m then 1 else 0) + times_in n ms

abbrev pub times : ℕ → List Stock → ℕ
times n [] = 0
times n (s ∷ ss) = times_in n s.left + times n ss

-- each box has a number of its own, one of the first so many
abbrev pub AreNumbered : ℕ → List Stock → List Stock → Type 0
AreNumbered given fs os = (n : ℕ) → (times n fs + times n os ≤ 1) × (given ≤ n → times n fs + times n os ≡ 0)

-- the last of some numbers
abbrev pub IsLast : ℕ → List ℕ → Type 0
IsLast n ns = ns ≡ take (length ns - 1) ns ++ n ∷ []

-- what the boxes of a name refuse, each by its place, of names with what their boxes refuse
abbrev pub refusals_of : {R : Type 0} → List ℕ → List (List ℕ × List R) → List R
refusals_of k [] = []
refusals_of k (x ∷ xs) = if bytes_eq x.0 k then x.1 else refusals_of k xs

-- a number that a box has which isn't there
pub record IsOut (given : ℕ) (fs os : List Stock) (n : ℕ) : Type 0 where
  pub was_given : n < given
  pub is_gone : times n fs + times n os ≡ 0

-- what the box at a place answers to settings, by what those of its name refuse
pub record AnswersAt (refusals : List (Entries → Option SettingFault)) (at : ℕ) (entries : Entries) (result : Result (Unit {0}) FromFault) : Type 0 where
  pub refusal : Entries → Option SettingFault
  pub stands : slice_get refusals at ≡ Some refusal
  pub answers : Answers result (refusal entries)
