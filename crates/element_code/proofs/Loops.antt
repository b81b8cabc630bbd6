-- Reading members one after the other, as a loop does.
use Rattle.std.proofs.Common.{◌≡◌, ℕ, suc, ◌-◌, ◌+◌, ◌<◌, List, [], ◌∷◌, ◌++◌, Result, Ok, Option, Some, sym, ap, ◌∙◌, arith}
use Rattle.event_tree.specs.Values.{Members}
use Rattle.event_tree.specs.declared.value.Value.{Value}
use Rattle.crc_frame.specs.declared.stop.Stop.{Stop}
use Rattle.crc_frame.specs.Gives.{StopsAs}
use Rattle.crc_frame.specs.Fronts.{◌>>=◌, Reads}
use Rattle.crc_frame.proofs.Repeats.{with_front, regroup, stops_so}
use Rattle.element_code.specs.Reading.{key_at, members_at}

module _ (read : Reads Value) (count i : ℕ) (front : Members) (last : Option (List ℕ)) (bytes : List ℕ) (total : Result (Members × List ℕ) ℕ) (lt : i < count) (so_far : with_front front (members_at read last (count - i) bytes) ≡ total) where
  one_more : count - i ≡ suc (count - (i + 1))
  one_more = omega arith

  pub members_on : (key own : List ℕ) (value : Value) (after : List ℕ) → key_at last bytes ≡ Ok (key, own) → read own ≡ Ok (value, after) → with_front (front ++ (key, value) ∷ []) (members_at read (Some key) (count - (i + 1)) after) ≡ total
  members_on key own value after h g =
      let one : with_front front (members_at read last (suc (count - (i + 1))) bytes) ≡ with_front (front ++ (key, value) ∷ []) (members_at read (Some key) (count - (i + 1)) after) =
      rw (h, g) (regroup front (key, value) (members_at read (Some key) (count - (i + 1)) after)) in
      sym one ∙ ap (λ n. with_front front (members_at read last n bytes)) (sym one_more) ∙ so_far

  pub members_stop_key : (stop : Stop) → StopsAs stop (key_at last bytes) → StopsAs stop total
  members_stop_key stop h =
      stops_so stop front (key_at last bytes) (λ key. read key.1 >>= λ x. (members_at read (Some key.0) (count - (i + 1)) x.1 >>= λ ms. Ok ((key.0, x.0) ∷ ms.0, ms.1))) total h (ap (λ n. with_front front (members_at read last n bytes)) (sym one_more) ∙ so_far)
