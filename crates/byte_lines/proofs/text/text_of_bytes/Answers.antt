use Rattle.std.proofs.Common.{◌≡◌, ◌++◌, ℕ, List, [], ◌∷◌, length, sym, ap, ◌∙◌, arith, append-nil, rules}
use Rattle.byte_lines.specs.Text.{text_of}
use Rattle.byte_lines.proofs.Decoding.{text_of-nil}
use Rattle.byte_lines.proofs.text.text_of_bytes.Goals as goal

at_end : (text rest bytes : List ℕ) → text ++ text_of rest ≡ text_of bytes → length rest ≡ 0 → text ≡ text_of bytes
at_end text [] bytes so_far none = sym (ap (λ t. text ++ t) text_of-nil ∙ append-nil text) ∙ so_far
at_end text (b ∷ rest) bytes so_far none = absurd (omega arith)

pub returns : goal.returns
returns c = at_end _ c.loop-rest.rest.now _ c.loop-rest.invariant (search rules)
