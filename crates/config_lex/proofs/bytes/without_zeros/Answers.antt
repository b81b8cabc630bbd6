use Rattle.std.proofs.Common.{◌≡◌, ◌∙◌, ◌-◌, suc, sym, ap, take, arith}
use Rattle.config_lex.specs.Bytes.{without_zeros}
use Rattle.config_lex.proofs.Scans.{zero_dropped, digit_kept}
use Rattle.config_lex.proofs.bytes.without_zeros.Goals as goal
use Rattle.config_lex.proofs.bytes.without_zeros.Goals.{then-loop-end-test+else-digits-end-eq48, else-loop-end-test}

pub loop-end-preserved : goal.loop-end-preserved
loop-end-preserved c =
    let ds = c.args.digits.now in
    let n = c.loop-end.end - 1 in
    let s : suc n ≡ c.loop-end.end = omega (arith, c.loop-end-test.true) in
    record {
      within = omega (arith, c.loop-end.invariant.within);
      same = sym (zero_dropped ds n (omega (arith, s, c.loop-end.invariant.within)) c.if-digits-end-eq48.true) ∙ ap (λ k. without_zeros (take k ds)) s ∙ c.loop-end.invariant.same;
    }

pub returns : goal.returns
returns c =
    let ds = c.args.digits.now in
    let n = c.loop-end.end - 1 in
    elim c.loop-end-test.branch [
      | then-loop-end-test+else-digits-end-eq48 w ↦
          let s : suc n ≡ c.loop-end.end = omega (arith, w.loop-end-test.true) in
          ap (λ k. take k ds) (sym s) ∙ sym (digit_kept ds n (omega (arith, s, c.loop-end.invariant.within)) w.if-digits-end-eq48.false) ∙ ap (λ k. without_zeros (take k ds)) s ∙ c.loop-end.invariant.same
      | else-loop-end-test w ↦
          let z : c.loop-end.end ≡ 0 = omega (arith, w.loop-end-test.false) in
          ap (λ k. take k ds) z ∙ ap (λ k. without_zeros (take k ds)) (sym z) ∙ c.loop-end.invariant.same
    ]
