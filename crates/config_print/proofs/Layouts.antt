-- Pieces one behind the other.
use Rattle.std.proofs.Common.{◌≡◌, List, [], ◌∷◌, ◌++◌, refl, sym, ap, ◌∙◌, append_assoc}
use Rattle.config_print.specs.Layout.{Piece, text_of, tokens_of}
use Rattle.config_print.specs.Tokens.{written}

pub text_both : (a b : List Piece) → text_of (a ++ b) ≡ text_of a ++ text_of b
text_both [] b = refl
text_both (p ∷ a) b = ap (λ s. p.0 ++ (written p.1 ++ s)) (text_both a b) ∙ ap (λ s. p.0 ++ s) (sym (append_assoc (written p.1) (text_of a) (text_of b))) ∙ sym (append_assoc p.0 (written p.1 ++ text_of a) (text_of b))

pub tokens_both : (a b : List Piece) → tokens_of (a ++ b) ≡ tokens_of a ++ tokens_of b
tokens_both [] b = refl
tokens_both (p ∷ a) b = ap (λ l. p.1 ∷ l) (tokens_both a b)
