-- Reading by descent: each symbol of the grammar's machine is read by itself, with the tokens behind it. The clauses of this crate's
-- private functions cite it.
use Rattle.std.specs.Prelude.{ℕ, zero, suc, List, [], ◌∷◌, length, map, Option, Some, None, Result, Ok, Err, Bool, true, false, if◌then◌else◌}
use Rattle.config_lex.specs.declared.token.Token.{Token}
use Rattle.config_lex.specs.declared.token.Token.TheVariants as t
use Rattle.config_lex.specs.declared.token.Word.TheVariants as w
use Rattle.config_tree.specs.declared.tree.SettingValue.{SettingValue}
use Rattle.config_tree.specs.declared.tree.Condition.{Condition}
use Rattle.config_tree.specs.declared.tree.Plugin.{Plugin}
use Rattle.config_tree.specs.declared.tree.Arm.{Arm}
use Rattle.config_tree.specs.declared.tree.Statement.{Statement}
use Rattle.config_tree.specs.declared.tree.Statement.TheVariants as s
use Rattle.config_tree.specs.declared.tree.Config.{Config}
use Rattle.config_tree.specs.Joining.{Entries, plugin_of, empty}
use Rattle.config_parse.specs.Words.{key, plugin_name}
use Rattle.config_parse.specs.Symbols.{Symbol}
use Rattle.config_parse.specs.Symbols as y
use Rattle.config_parse.specs.Machine.{Stack, Sem, Sems, Move, refuses, stays, opens, shuts, next, blank, rise, fresh, arm_of}
use Rattle.config_parse.specs.Verdicts.{Verdict}
use Rattle.config_parse.specs.Verdicts as is

-- what is read, and the tokens behind it
abbrev pub Read : Type 0 → Type 0
Read A = Result (A × List Token) Verdict

abbrev pub Reader : Type 0 → Type 0
Reader A = List Token → Read A

infixl 10 ◌>>=◌
abbrev pub ◌>>=◌ : {A B : Type 0} → Read A → (A × List Token → Read B) → Read B
(Ok x) >>= f = f x
(Err e) >>= f = Err e

abbrev pub refuse : {A : Type 0} → List Token → Read A
refuse ts = Err (is.Syntax (length ts))

-- how each symbol is read, in so many levels
abbrev pub Readers : Type 0
Readers = ℕ → (x : Symbol) → Reader (Sem x)

-- symbols, one behind the other
abbrev pub each : {B : Type 0} → Readers → ℕ → (k : Stack) → List Token → (Sems k → B) → Read B
each r d [] ts made = Ok (made tt, ts)
each r d (x ∷ k) ts made = r d x ts >>= λ a. each r (rise x d) k a.1 (λ p. made (a.0, p))

abbrev pub skipped : {X : Type 0} → Option X → Reader X
skipped None ts = refuse ts
skipped (Some v) ts = Ok (v, ts)

-- what a symbol's move makes of these tokens, of which those behind come behind the first
abbrev pub moved : {X : Type 0} → Readers → Move X → Option X → ℕ → List Token → Reader X
moved r refuses b d ts behind = skipped b ts
moved r (stays now made) b d ts behind = each r d now behind made
moved r (opens now made) b zero ts behind = Err (is.Deep (length ts))
moved r (opens now made) b (suc d) ts behind = each r d now behind made
moved r (shuts v) b d ts behind = Ok (v, behind)

-- the number bounds how often a token is taken
abbrev pub read_by : ℕ → Readers
read_by zero d x ts = refuse ts
read_by (suc n) d x [] = skipped (blank x) []
read_by (suc n) d x (z ∷ ts) = moved (read_by n) (next x z) (blank x) d (z ∷ ts) ts

-- a symbol at the front of the tokens
unfoldable pub read : Readers
read d x ts = read_by (suc (length ts)) d x ts

-- what is read behind something
abbrev pub behind : {A B : Type 0} → A → Reader (A → B) → Reader B
behind front r ts = r ts >>= λ f. Ok (f.0 front, f.1)

-- a token of which a test tells something
abbrev pub told : {A : Type 0} → Option A → List Token → Reader A
told None ts behind = refuse ts
told (Some a) ts behind = Ok (a, behind)

abbrev pub one : {A : Type 0} → (Token → Option A) → Reader A
one test [] = refuse []
one test (z ∷ ts) = told (test z) (z ∷ ts) ts

abbrev pub is_arrow : Token → Option (Unit {0})
is_arrow t.Arrow = Some tt
is_arrow _ = None

abbrev pub is_close_paren : Token → Option (Unit {0})
is_close_paren t.CloseParen = Some tt
is_close_paren _ = None

abbrev pub is_in : Token → Option (Unit {0})
is_in (t.Word w.In) = Some tt
is_in _ = None

abbrev pub keys_of : Entries → List (List ℕ)
keys_of front = map (λ e. e.0) front

-- the key that a token is, where none of the entries has it
abbrev pub fresh_key : Entries → Token → Option (List ℕ)
fresh_key front z = fresh (keys_of front) (key z)

-- the entries of a hash behind these, and the settings of a plugin
abbrev pub pairs : ℕ → Entries → Reader Entries
pairs d front ts = behind front (read d (y.Pairs (keys_of front))) ts

abbrev pub settings : ℕ → Entries → Reader Entries
settings d front ts = behind front (read d y.Settings) ts

unfoldable pub entry : ℕ → Reader SettingValue
entry d ts = one is_arrow ts >>= λ a. read d y.Value a.1

unfoldable pub plugin : ℕ → Reader Plugin
plugin d ts = one plugin_name ts >>= λ k. read d y.SettingsBlock k.1 >>= λ x. Ok (plugin_of k.0 x.0, x.1)

unfoldable pub compare : ℕ → Reader Condition
compare d ts = read d y.Operand ts >>= λ x. behind x.0 (read d y.Tail) x.1

unfoldable pub joined : ℕ → Reader Condition
joined d ts = read d y.Unary ts >>= λ x. behind x.0 (read d y.Ands) x.1

unfoldable pub condition : ℕ → Reader Condition
condition d ts = joined d ts >>= λ x. behind x.0 (read d y.Ors) x.1

unfoldable pub arm : ℕ → Reader Arm
arm d ts = condition d ts >>= λ x. read d y.Block x.1 >>= λ b. Ok (arm_of x.0 b.0, b.1)

unfoldable pub arms : ℕ → Reader (List Arm)
arms d ts = arm d ts >>= λ x. behind (x.0 ∷ []) (read d y.Otherwise) x.1

abbrev pub is_if : Token → Bool
is_if (t.Word w.If) = true
is_if _ = false

-- a branch or a plugin
unfoldable pub statement : ℕ → Reader Statement
statement d [] = refuse []
statement d (z ∷ ts) = if is_if z then (arms d ts >>= λ x. Ok (s.Branch x.0, x.1)) else (plugin d (z ∷ ts) >>= λ x. Ok (s.Plugin x.0, x.1))

-- what the whole is: the configuration, or the fault
abbrev pub whole : Read Config → Result Config Verdict
whole (Ok (config, [])) = Ok config
whole (Ok (config, z ∷ ts)) = Err (is.Syntax (length (z ∷ ts)))
whole (Err e) = Err e

abbrev pub descended : ℕ → List Token → Result Config Verdict
descended levels tokens = whole (behind empty (read levels y.Sections) tokens)
