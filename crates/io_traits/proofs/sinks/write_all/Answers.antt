use Rattle.std.proofs.Common.{◌≡◌, ◌-◌, ◌++◌, ℕ, List, length, take, drop, sym, ap, ◌∙◌, arith, append_assoc, take-append-drop}
use Rattle.std.proofs.lemmas.List.{take_rest}
use Rattle.io_traits.proofs.Growth.{grows_then}
use Rattle.io_traits.proofs.sinks.write_all.Goals as goal

-- the next few bytes go from the rest to what is done
split_more : (done rest : List ℕ) (n : ℕ) → done ++ rest ≡ (done ++ take n rest) ++ take (length rest - n) (drop n rest)
split_more done rest n = ap (λ t. done ++ t) (sym (take-append-drop n rest)) ∙ sym (append_assoc done (take n rest) (drop n rest)) ∙ ap (λ t. (done ++ take n rest) ++ t) (sym (take_rest rest n))

pub loop-rest-preserved : goal.loop-rest-preserved
loop-rest-preserved g c =
    let i = c.loop-rest.invariant in
    let rest = c.loop-rest.rest.now in
    record {
      done = i.done ++ take c.in_ok-count.count rest;
      whole = i.whole ∙ split_more i.done rest c.in_ok-count.count;
      grows = grows_then i.grows c.in_ok-count.ensures.taken;
      kept = omega (arith, i.kept, c.in_ok-count.ensures.kept);
      same = c.in_ok-count.ensures.cause.same (λ e. cc) ∙ i.same;
    }
