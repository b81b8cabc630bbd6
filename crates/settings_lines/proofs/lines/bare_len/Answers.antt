use Rattle.std.proofs.Common.{arith, sym, ◌∙◌, ◌≡◌, ◌<◌, length, get_or, refl, true, false}
use Rattle.std.specs.Prelude.{◌==◌, ◌&&◌}
use Rattle.std.proofs.Common.{eq-eqb}
use Rattle.std.proofs.lemmas.Bool.{ne_eqb}
use Rattle.settings_lines.proofs.Bare.{goes_blank, goes_other, still_blank}
use Rattle.settings_lines.proofs.lines.bare_len.Goals as goal
use Rattle.settings_lines.proofs.lines.bare_len.Goals.{then-not-behind_blank, else-not-behind_blank}

pub loop-at-preserved : goal.loop-at-preserved
loop-at-preserved c =
    let s = c.args.bytes.now in
    let at = c.loop-at.at in
    let byte = get_or s at 0 in
    let below : at < length s = omega arith in
    let on : (byte == 35 && c.loop-at.behind_blank) ≡ false = sym c.ends_bare.ensures ∙ c.if-ends_bare.false in
    elim c.if-not-behind_blank.branch [
      | then-not-behind_blank w ↦
          let other : (byte == 32) ≡ false = ne_eqb byte 32 w.if-not-behind_blank.true in (
            omega arith,
            λ less. absurd (omega arith),
            λ blank some. absurd (let bad : true ≡ false = sym blank ∙ other in cc),
            goes_other s c.loop-at.len c.if-not-behind_blank.len at byte c.loop-at.behind_blank below refl on other w.len-is ∙ c.loop-at.invariant.3,
          )
      | else-not-behind_blank w ↦
          let blank : (byte == 32) ≡ true = eq-eqb byte 32 w.if-not-behind_blank.false in (
            omega arith,
            λ less. still_blank s c.loop-at.len c.if-not-behind_blank.len at w.len-is c.loop-at.invariant.0 c.loop-at.invariant.1 blank,
            λ is some. omega arith,
            goes_blank s c.loop-at.len c.if-not-behind_blank.len at byte c.loop-at.behind_blank below refl on blank w.len-is ∙ c.loop-at.invariant.3,
          )
    ]
