use Rattle.std.proofs.Common.{sym, ap, ◌≡◌, ◌∙◌, ◌+◌, ◌==◌, drop, arith, get_or, true, false, not}
use Rattle.config_lex.specs.Bytes.{skip}
use Rattle.config_lex.proofs.Scans.{skip_inside, skip_blank, skip_comment, skip_stops, skip_ends, unequal_is, equal_is}
use Rattle.config_lex.proofs.bytes.skip.Goals as goal
use Rattle.config_lex.proofs.bytes.skip.Goals.{then-inside, else-inside+then-not-is_blank+else-byte-ne35, else-inside+else-not-is_blank}

pub returns-then-byte-ne35-clause-end : goal.returns-then-byte-ne35-clause-end
returns-then-byte-ne35-clause-end c =
    let b = c.args.bytes.now in
    let i = c.loop-at.at in
    let is : skip c.loop-at.inside (drop i b) ≡ skip false (drop i b) = ap (λ x. skip x (drop i b)) c.if-inside.false in
    omega (arith, c.loop-at.invariant, is, skip_stops b i c.loop-at-test.true (sym c.is_blank.ensures ∙ c.if-not-is_blank.true) (unequal_is (get_or b i 0) 35 c.if-byte-ne35.true))

pub loop-at-preserved : goal.loop-at-preserved
loop-at-preserved c =
    let b = c.args.bytes.now in
    let i = c.loop-at.at in
    elim c.if-inside.branch [
      | then-inside w ↦
          let is : skip c.loop-at.inside (drop i b) ≡ skip true (drop i b) = ap (λ x. skip x (drop i b)) w.if-inside.true in
          let then : skip c.if-inside.inside (drop (i + 1) b) ≡ skip (not (get_or b i 0 == 10)) (drop (i + 1) b) = ap (λ x. skip x (drop (i + 1) b)) w.inside-is in
          omega (arith, c.loop-at.invariant, is, then, skip_inside b i c.loop-at-test.true)
      | else-inside+then-not-is_blank+else-byte-ne35 w ↦
          let is : skip c.loop-at.inside (drop i b) ≡ skip false (drop i b) = ap (λ x. skip x (drop i b)) w.if-inside.false in
          let then : skip c.if-inside.inside (drop (i + 1) b) ≡ skip true (drop (i + 1) b) = ap (λ x. skip x (drop (i + 1) b)) w.inside-is in
          omega (arith, c.loop-at.invariant, is, then, skip_comment b i c.loop-at-test.true (sym w.is_blank.ensures ∙ w.if-not-is_blank.true) (equal_is (get_or b i 0) 35 w.if-byte-ne35.false))
      | else-inside+else-not-is_blank w ↦
          let is : skip c.loop-at.inside (drop i b) ≡ skip false (drop i b) = ap (λ x. skip x (drop i b)) w.if-inside.false in
          let then : skip c.if-inside.inside (drop (i + 1) b) ≡ skip false (drop (i + 1) b) = ap (λ x. skip x (drop (i + 1) b)) (w.inside-is ∙ w.if-inside.false) in
          omega (arith, c.loop-at.invariant, is, then, skip_blank b i c.loop-at-test.true (sym w.is_blank.ensures ∙ w.if-not-is_blank.false))
    ]

pub returns-clause-end : goal.returns-clause-end
returns-clause-end c =
    omega (arith, c.loop-at.invariant, c.loop-at.auto.at-end c.requires, c.loop-at-test.false, skip_ends c.loop-at.inside c.args.bytes.now c.loop-at.at c.loop-at-test.false)
