use Rattle.std.proofs.Common.{◌≡◌, ◌≤◌, ◌+◌, ◌-◌, ap, get_or, ◌∙◌, sym, arith, subst, take, drop}
use Rattle.std.specs.List.{prefix_len}
use Rattle.std.specs.Char.{is_ascii_digit}
use Rattle.json.specs.Token.{number}
use Rattle.bulk_replies.specs.Compact.{Begins, Words}
use Rattle.bulk_replies.proofs.Lexemes.{zero_there, digits_there}
use Rattle.bulk_replies.proofs.Spots.{begins_word}
use Rattle.bulk_replies.proofs.compact.number.Goals as goal
use Rattle.bulk_replies.proofs.compact.number.Goals.{then-bytes-at-eq48, else-bytes-at-eq48}

pub returns : goal.returns
returns c =
    let d = c.args.text.now in
    let at = c.args.at in
    let end = c.if-bytes-at-eq48.end in
    let f = c.in_ok-next.ensures in
    let bytes = c.as_bytes-bytes in
    let same : get_or bytes.result.now at 0 ≡ get_or d at 0 = ap (λ t. get_or t at 0) bytes.ensures.value in
    let there : Words d at (number (take (end - at) (drop at d))) end = elim c.if-bytes-at-eq48.branch [
      | then-bytes-at-eq48 w ↦ subst (λ e. Words d at (number (take (e - at) (drop at d))) e) (sym w.end-is) (zero_there d at c.requires.within (omega (arith, w.if-bytes-at-eq48)))
      | else-bytes-at-eq48 w ↦
          let e = w.digits_end-end.result in
          let is : e ≡ at + 1 + prefix_len is_ascii_digit (drop (at + 1) d) = w.digits_end-end.ensures.value ∙ ap (λ t. at + 1 + prefix_len is_ascii_digit (drop (at + 1) t)) bytes.ensures.value in
          let low : 49 ≤ get_or d at 0 = omega (arith, w.if-bytes-at-eq48.false) in
          subst (λ e. Words d at (number (take (e - at) (drop at d))) e) (sym w.end-is) (digits_there d at c.requires.within e (omega (arith, w.digits_end-end.ensures.bound, bytes.ensures.len)) low c.requires.digit.1 is)
    ] in
    subst (λ s. Begins d at (number s) c.in_ok-next.next) (sym c.range.ensures.value) (begins_word d _ at end c.in_ok-next.next there f.0 f.1)
