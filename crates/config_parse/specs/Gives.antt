-- What a function returned is what reading gives, unless memory ran out.
use Rattle.std.specs.Prelude.{◌≡◌, ◌∷◌, [], ℕ, List, length, Option, Some, None, Result, Ok, Err}
use Rattle.std.specs.Borrow.{Bor}
use Rattle.config_lex.specs.declared.token.Token.{Token}
use Rattle.config_lex.specs.declared.token.Lexeme.{Lexeme}
use Rattle.config_parse.specs.Verdicts as is
use Rattle.config_parse.specs.Read.{Read, Reader}
use Rattle.config_parse.specs.Seen.{tokens_of}
use Rattle.config_parse.specs.declared.error.ReadError.{ReadError}
use Rattle.config_parse.specs.declared.error.ReadError.TheVariants as errors

abbrev pub Fails : {A : Type 0} → ReadError → Read A → Type 0
Fails errors.Memory read = Unit {0}
Fails (errors.Syntax left) read = read ≡ Err (is.Syntax left)
Fails (errors.Deep left) read = read ≡ Err (is.Deep left)

-- what was made of the lexemes stands for what is read, and the tokens of those behind it are behind that
abbrev pub GivesRead : {A B : Type 0} → (A → B) → Result (A × Bor (List Lexeme)) ReadError → Read B → Type 0
GivesRead stands (Ok x) read = read ≡ Ok (stands x.0, tokens_of x.1.now)
GivesRead stands (Err e) read = Fails e read

abbrev pub GivesAs : {A B : Type 0} → (A → B) → Result (A × Bor (List Lexeme)) ReadError → Reader B → List Lexeme → Type 0
GivesAs stands result reader found = GivesRead stands result (reader (tokens_of found))

abbrev pub Gives : {A : Type 0} → Result (A × Bor (List Lexeme)) ReadError → Reader A → List Lexeme → Type 0
Gives result reader found = GivesRead (λ x. x) result (reader (tokens_of found))

-- the same of what was made in place
abbrev pub Fills : {A : Type 0} → A → Result (Bor (List Lexeme)) ReadError → Reader A → List Lexeme → Type 0
Fills made (Ok behind) reader found = reader (tokens_of found) ≡ Ok (made, tokens_of behind.now)
Fills made (Err e) reader found = Fails e (reader (tokens_of found))

-- and of a token of which nothing is made
abbrev pub Skips : Result (Bor (List Lexeme)) ReadError → Reader (Unit {0}) → List Lexeme → Type 0
Skips result reader found = Fills tt result reader found

-- the first token, and those behind it
abbrev pub IsFront : List Lexeme → Bor Token × Bor (List Lexeme) → Type 0
IsFront found p = tokens_of found ≡ p.0.now ∷ tokens_of p.1.now

-- no token is left, and that is the fault
abbrev pub IsEarlyEnd : List Lexeme → ReadError → Type 0
IsEarlyEnd found e = (tokens_of found ≡ []) × (e ≡ errors.Syntax 0)

-- no level is left for the one that the first token opens, and that is the fault
abbrev pub IsTooDeep : ℕ → List Lexeme → ReadError → Type 0
IsTooDeep depth found e = (depth ≡ 0) × (e ≡ errors.Deep (length (tokens_of found)))

-- a text that a token stands for
abbrev pub Finds : Option (Bor (List ℕ)) → Option (List ℕ) → Type 0
Finds None text = text ≡ None
Finds (Some found) text = text ≡ Some found.now
