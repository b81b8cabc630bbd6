-- Reading one thing after the other, as a loop does.
use Rattle.std.proofs.Common.{◌≡◌, ℕ, suc, ◌-◌, ◌+◌, ◌<◌, List, [], ◌∷◌, ◌++◌, Result, Ok, Err, refl, sym, ap, ◌∙◌, append_assoc, arith}
use Rattle.crc_frame.specs.declared.stop.Stop.{Stop}
use Rattle.crc_frame.specs.declared.stop.Stop.TheVariants.{Left, Memory}
use Rattle.crc_frame.specs.Gives.{StopsAs}
use Rattle.crc_frame.specs.Fronts.{◌>>=◌, Reads, repeated}

-- what was read before, and what is still read
abbrev pub with_front : {X : Type 0} → List X → Result (List X × List ℕ) ℕ → Result (List X × List ℕ) ℕ
with_front front read = read >>= λ x. Ok (front ++ x.0, x.1)

pub regroup : {X : Type 0} (front : List X) (n : X) (read : Result (List X × List ℕ) ℕ) → with_front front (read >>= λ x. Ok (n ∷ x.0, x.1)) ≡ with_front (front ++ n ∷ []) read
regroup front n (Ok x) = ap (λ ns. Ok (ns, x.1)) (simp append_assoc)
regroup front n (Err f) = refl

pub stops_so : {X Y : Type 0} (stop : Stop) (front : List X) (read : Result Y ℕ) (rest : Y → Result (List X × List ℕ) ℕ) (total : Result (List X × List ℕ) ℕ) → StopsAs stop read → with_front front (read >>= rest) ≡ total → StopsAs stop total
stops_so Memory front read rest total h so_far = tt
stops_so (Left left) front read rest total h so_far = sym so_far ∙ rw h refl

module _ {X : Type 0} (read : Reads X) (count i : ℕ) (front : List X) (bytes : List ℕ) (total : Result (List X × List ℕ) ℕ) where
  pub repeats_on : (item : X) (after : List ℕ) → i < count → read bytes ≡ Ok (item, after)
      → with_front front (repeated read (count - i) bytes) ≡ total → with_front (front ++ item ∷ []) (repeated read (count - (i + 1)) after) ≡ total
  repeats_on item after lt h so_far =
      let k : count - i ≡ suc (count - (i + 1)) = omega arith in
      let one : with_front front (repeated read (count - i) bytes) ≡ with_front (front ++ item ∷ []) (repeated read (count - (i + 1)) after) = rw (k, h) (regroup front item (repeated read (count - (i + 1)) after)) in
      sym one ∙ so_far
