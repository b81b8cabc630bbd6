use Rattle.std.proofs.Common.{◌≡◌, ◌-◌, ap, sym, subst, drop, take, arith, rules}
use Rattle.event_tree.specs.NumberTexts.{AreDigits, is_digit}
use Rattle.config_lex.specs.Bytes.{passing, without_zeros}
use Rattle.config_lex.specs.Laws.{places}
use Rattle.config_lex.proofs.NumberFronts.{front_digits, places_are_digits, kept_are_digits}
use Rattle.config_lex.proofs.bytes.number_of.Goals as goal

pub from_digits-requires-clause-whole : goal.from_digits-requires-clause-whole
from_digits-requires-clause-whole c =
    let from = c.sign_length-from.result in
    let behind = drop from c.args.bytes.now in
    let n : c.digits_end-end.result - from ≡ passing is_digit behind = omega (arith, c.digits_end-end.ensures.end) in
    subst AreDigits (sym (ap (λ k. take k behind) n)) (front_digits behind)

pub from_digits-requires-clause-places : goal.from_digits-requires-clause-places
from_digits-requires-clause-places c =
    let s = c.args.bytes.now in
    let is : c.without_zeros.result.now ≡ without_zeros (places s) = search rules in
    subst AreDigits (sym is) (kept_are_digits (places s) (places_are_digits s c.requires))
