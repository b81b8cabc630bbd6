-- A text with other blanks and comments between its tokens.
use Rattle.std.specs.Prelude.{◌≡◌, ◌==◌, ◌↔◌, true, ℕ, List, [], ◌++◌, length, Some}
use Rattle.std.specs.List.{list_any}
use Rattle.config_lex.specs.declared.context.Context.{Context}
use Rattle.config_lex.specs.declared.token.Token.{Token}
use Rattle.config_lex.specs.Laws.{IsGap, IsEnd}
use Rattle.config_lex.specs.Lexemes.{after_token, start, token_at, tokens}

-- A gap in the place of another: none for none alone, and one with a comment, which begins at a `#` (35), for one with a comment.
pub record IsInPlaceOf (old new : List ℕ) : Type 0 where
  pub was : IsGap old
  pub is : IsGap new
  pub none : (old ≡ []) ↔ (new ≡ [])
  pub comment : list_any (λ b. b == 35) old ≡ true → list_any (λ b. b == 35) new ≡ true

-- Behind the tokens that made this context, the second text is the first with other gaps in front of its tokens: of any number of them from the
-- first on, or of all of them and at its end.
pub data IsRespaced : Context → List ℕ → List ℕ → Type 0 where
  ends : {x : Context} {s t : List ℕ} → IsEnd s → IsEnd t → IsRespaced x s t
  stays : {x : Context} (old new rest : List ℕ) → IsInPlaceOf old new → IsRespaced x (old ++ rest) (new ++ rest)
  goes_on : {x : Context} (old new text s t : List ℕ) (y : Token) → IsInPlaceOf old new → token_at x (text ++ s) ≡ Some (y, length text) → IsRespaced (after_token x y) s t
      → IsRespaced x (old ++ (text ++ s)) (new ++ (text ++ t))

-- Blanks and comments change no token.
abbrev pub GapsChangeNoToken : Type 0
GapsChangeNoToken = (text other : List ℕ) → IsRespaced start text other → tokens text ≡ tokens other
