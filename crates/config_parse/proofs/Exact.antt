-- Each stack can be completed, so where the machine is stuck, and only there, no configuration goes on.
use Rattle.std.proofs.Common.{◌≡◌, ℕ, zero, suc, ◌+◌, List, [], ◌∷◌, ◌++◌, length, Option, Some, None, Bool, true, false, ◌&&◌, refl, ap, sym, subst, ◌∙◌, arith, append_assoc, ◌⊎◌, inl, inr}
use Rattle.std.proofs.lemmas.List.{append-nil}
use Rattle.config_lex.specs.declared.token.Token.{Token}
use Rattle.config_lex.specs.declared.token.Token.TheVariants as t
use Rattle.config_lex.specs.declared.token.Word.TheVariants as w
use Rattle.config_tree.specs.declared.operators.Comparison.TheVariants as comparison
use Rattle.config_tree.specs.declared.tree.Config.{Config}
use Rattle.config_parse.specs.Grammar.{ReadsConfig}
use Rattle.config_tree.specs.Joining.{empty}
use Rattle.config_parse.specs.Viable.{Viable, IsFault}
use Rattle.config_parse.specs.Symbols.{Symbol}
use Rattle.config_parse.specs.Symbols as y
use Rattle.config_parse.specs.Verdicts as is
use Rattle.config_parse.specs.Machine.{Stack, Move, refuses, stays, opens, shuts, Step, stuck, deep, goes, verdict_from, step, act, go, next, blank, rise, may_end, ends, is_blank}
use Rattle.config_parse.proofs.Trees.{outcome, run_told}
use Rattle.config_parse.proofs.Takes.{is_refusal, refused, never, take_sections}
use Rattle.config_parse.proofs.Taken.{taken}

-- what completes a symbol
abbrev least : Symbol → List Token
least y.Value = t.Quoted [] ∷ []
least y.Nest = t.OpenBrace ∷ t.CloseBrace ∷ []
least y.Members = t.CloseBracket ∷ []
least y.More = t.CloseBracket ∷ []
least (y.Pairs keys) = t.CloseBrace ∷ []
least y.Arrow = t.Arrow ∷ []
least y.Settings = t.CloseBrace ∷ []
least y.SettingsBlock = t.OpenBrace ∷ t.CloseBrace ∷ []
least y.Literal = t.Quoted [] ∷ []
least y.Literals = t.CloseBracket ∷ []
least y.MoreLiterals = t.CloseBracket ∷ []
least y.Operand = t.Quoted [] ∷ []
least y.Tail = t.Comparison comparison.Equal ∷ t.Quoted [] ∷ []
least y.Pattern = t.Quoted [] ∷ []
least y.InWord = t.Word w.In ∷ []
least y.Unary = t.Quoted [] ∷ t.Comparison comparison.Equal ∷ t.Quoted [] ∷ []
least y.Ands = []
least y.Ors = []
least y.NotEnd = []
least y.CloseParen = t.CloseParen ∷ []
least y.Block = t.OpenBrace ∷ t.CloseBrace ∷ []
least y.Statements = t.CloseBrace ∷ []
least y.Otherwise = []
least y.ElseBody = t.OpenBrace ∷ t.CloseBrace ∷ []
least y.PluginsBlock = t.OpenBrace ∷ t.CloseBrace ∷ []
least y.Plugins = t.CloseBrace ∷ []
least y.Sections = []

abbrev finish : Stack → List Token
finish [] = []
finish (x ∷ k) = least x ++ finish k

-- no symbol for which nothing is least takes the first token
abbrev Plain : List Token → Type 0
Plain ts = (refused y.Ands ts ≡ true) × (refused y.Ors ts ≡ true) × (refused y.Otherwise ts ≡ true) × (refused y.Sections ts ≡ true)

finish_plain : (k : Stack) → Plain (finish k)
finish_plain [] = (refl, refl, refl, refl)
finish_plain (y.Ands ∷ k) = finish_plain k
finish_plain (y.Ors ∷ k) = finish_plain k
finish_plain (y.NotEnd ∷ k) = finish_plain k
finish_plain (y.Otherwise ∷ k) = finish_plain k
finish_plain (y.Sections ∷ k) = finish_plain k
finish_plain (y.Value ∷ k) = (refl, refl, refl, refl)
finish_plain (x ∷ k) = (refl, refl, refl, refl)

-- a symbol that may be left out is, where it doesn't take the token
skip : (x : Symbol) → is_blank (blank x) ≡ true → (d : ℕ) (k : Stack) (ts : List Token) → refused x ts ≡ true → verdict_from d (x ∷ k) ts ≡ verdict_from (rise x d) k ts
skip x b d k [] h = ap (λ b. ends (b && may_end k)) b
skip x b d k (z ∷ ts) h = at (next x z) (blank x) b h
  where
    at : {X : Type 0} (m : Move X) (o : Option X) → is_blank o ≡ true → is_refusal m ≡ true → go (act m o (rise x) d k (λ e. step e k z)) (suc (length ts)) (λ e j. verdict_from e j ts) ≡ verdict_from (rise x d) k (z ∷ ts)
    at refuses None i e = absurd (cc)
    at refuses (Some v) i e = refl
    at (stays now made) o i e = absurd (cc)
    at (opens now made) o i e = absurd (cc)
    at (shuts v) o i e = absurd (cc)

-- every stack can be completed, with one level to spare
completes : (k : Stack) (d : ℕ) → verdict_from (suc d) k (finish k) ≡ is.Reads
completes [] d = refl
completes (y.Value ∷ k) d = completes k d
completes (y.Nest ∷ k) d = completes k d
completes (y.Members ∷ k) d = completes k (suc d)
completes (y.More ∷ k) d = completes k (suc d)
completes (y.Pairs keys ∷ k) d = completes k (suc d)
completes (y.Arrow ∷ k) d = completes k d
completes (y.Settings ∷ k) d = completes k (suc d)
completes (y.SettingsBlock ∷ k) d = completes k d
completes (y.Literal ∷ k) d = completes k d
completes (y.Literals ∷ k) d = completes k (suc d)
completes (y.MoreLiterals ∷ k) d = completes k (suc d)
completes (y.Operand ∷ k) d = completes k d
completes (y.Tail ∷ k) d = completes k d
completes (y.Pattern ∷ k) d = completes k d
completes (y.InWord ∷ k) d = completes k d
completes (y.Unary ∷ k) d = completes k d
completes (y.Ands ∷ k) d = skip y.Ands refl (suc d) k (finish k) (finish_plain k).0 ∙ completes k d
completes (y.Ors ∷ k) d = skip y.Ors refl (suc d) k (finish k) (finish_plain k).1 ∙ completes k d
completes (y.NotEnd ∷ k) d = skip y.NotEnd refl (suc d) k (finish k) (never (finish k)) ∙ completes k (suc d)
completes (y.CloseParen ∷ k) d = completes k (suc d)
completes (y.Block ∷ k) d = completes k d
completes (y.Statements ∷ k) d = completes k (suc d)
completes (y.Otherwise ∷ k) d = skip y.Otherwise refl (suc d) k (finish k) (finish_plain k).2 ∙ completes k d
completes (y.ElseBody ∷ k) d = completes k d
completes (y.PluginsBlock ∷ k) d = completes k d
completes (y.Plugins ∷ k) d = completes k (suc d)
completes (y.Sections ∷ k) d = skip y.Sections refl (suc d) k (finish k) (finish_plain k).3 ∙ completes k d

-- the stack behind some tokens
abbrev pub onward : Step → (ℕ → Stack → Step) → Step
onward stuck f = stuck
onward deep f = deep
onward (goes d k) f = f d k

abbrev pub walk : ℕ → Stack → List Token → Step
walk d k [] = goes d k
walk d k (z ∷ ts) = onward (step d k z) (λ e j. walk e j ts)

walk_run : (d : ℕ) (k : Stack) (used : List Token) (e : ℕ) (j : Stack) (rest : List Token) → walk d k used ≡ goes e j → verdict_from d k (used ++ rest) ≡ verdict_from e j rest
walk_run d k [] e j rest h = let p : d ≡ e = cc in let q : k ≡ j = cc in ap (λ i. verdict_from i k rest) p ∙ ap (λ i. verdict_from e i rest) q
walk_run d k (z ∷ used) e j rest h = at (step d k z) (λ e_ j_ g. walk_run e_ j_ used e j rest g) h
  where
    at : (s : Step) → ((e_ : ℕ) (j_ : Stack) → walk e_ j_ used ≡ goes e j → verdict_from e_ j_ (used ++ rest) ≡ verdict_from e j rest) → onward s (λ e_ j_. walk e_ j_ used) ≡ goes e j
        → go s (suc (length (used ++ rest))) (λ e_ j_. verdict_from e_ j_ (used ++ rest)) ≡ verdict_from e j rest
    at stuck again f = absurd (cc)
    at deep again f = absurd (cc)
    at (goes e_ j_) again f = again e_ j_ f

-- more levels change nothing but Deep
rise_grows : (x : Symbol) (d : ℕ) → rise x (suc d) ≡ suc (rise x d)
rise_grows y.Members d = refl
rise_grows x d = refl

-- what a step is with one more level
abbrev Grown : Step → Step → Type 0
Grown stuck s = s ≡ stuck
Grown deep s = (j : Stack) × (s ≡ goes 0 j)
Grown (goes e j) s = s ≡ goes (suc e) j

act_grown : {X : Type 0} (m : Move X) (b : Option X) (up : ℕ → ℕ) (ups : (i : ℕ) → up (suc i) ≡ suc (up i)) (d : ℕ) (k : Stack) (pass : ℕ → Step) → ((i : ℕ) → Grown (pass i) (pass (suc i))) → Grown (act m b up d k pass) (act m b up (suc d) k pass)
act_grown (stays now made) b up ups d k pass again = refl
act_grown (opens now made) b up ups zero k pass again = (now ++ k, refl)
act_grown (opens now made) b up ups (suc d) k pass again = refl
act_grown (shuts v) b up ups d k pass again = ap (λ i. goes i k) (ups d)
act_grown refuses None up ups d k pass again = refl
act_grown refuses (Some v) up ups d k pass again = subst (λ i. Grown (pass (up d)) (pass i)) (sym (ups d)) (again (up d))

step_grown : (d : ℕ) (k : Stack) (z : Token) → Grown (step d k z) (step (suc d) k z)
step_grown d [] z = refl
step_grown d (x ∷ k) z = act_grown (next x z) (blank x) (rise x) (rise_grows x) d k (λ i. step i k z) (λ i. step_grown i k z)

step_grows : (d : ℕ) (k : Stack) (z : Token) (e : ℕ) (j : Stack) → step d k z ≡ goes e j → step (suc d) k z ≡ goes (suc e) j
step_grows d k z e j h = subst (λ s. Grown s (step (suc d) k z)) h (step_grown d k z)

step_stuck : (d : ℕ) (k : Stack) (z : Token) → step d k z ≡ stuck → step (suc d) k z ≡ stuck
step_stuck d k z h = subst (λ s. Grown s (step (suc d) k z)) h (step_grown d k z)

-- where the next token is too deep, one more level is enough, and it is used up
pub step_deep : (d : ℕ) (k : Stack) (z : Token) → step d k z ≡ deep → (j : Stack) × (step (suc d) k z ≡ goes 0 j)
step_deep d k z h = subst (λ s. Grown s (step (suc d) k z)) h (step_grown d k z)

pub walk_grows : (d : ℕ) (k : Stack) (used : List Token) (e : ℕ) (j : Stack) → walk d k used ≡ goes e j → walk (suc d) k used ≡ goes (suc e) j
walk_grows d k [] e j h = let p : d ≡ e = cc in let q : k ≡ j = cc in ap (λ i. goes (suc i) k) p ∙ ap (λ i. goes (suc e) i) q
walk_grows d k (z ∷ used) e j h = at (step d k z) refl (λ e_ j_ g. walk_grows e_ j_ used e j g) h
  where
    at : (s : Step) → step d k z ≡ s → ((e_ : ℕ) (j_ : Stack) → walk e_ j_ used ≡ goes e j → walk (suc e_) j_ used ≡ goes (suc e) j) → onward s (λ e_ j_. walk e_ j_ used) ≡ goes e j
        → onward (step (suc d) k z) (λ e_ j_. walk e_ j_ used) ≡ goes (suc e) j
    at stuck is again f = absurd (cc)
    at deep is again f = absurd (cc)
    at (goes e_ j_) is again f = ap (λ z. onward z (λ a b. walk a b used)) (step_grows d k z e_ j_ is) ∙ again e_ j_ f

run_grows : (d : ℕ) (k : Stack) (ts : List Token) → verdict_from d k ts ≡ is.Reads → verdict_from (suc d) k ts ≡ is.Reads
run_grows d k [] h = h
run_grows d k (z ∷ ts) h = at (step d k z) refl (λ e_ j_ g. run_grows e_ j_ ts g) h
  where
    at : (s : Step) → step d k z ≡ s → ((e_ : ℕ) (j_ : Stack) → verdict_from e_ j_ ts ≡ is.Reads → verdict_from (suc e_) j_ ts ≡ is.Reads) → go s (suc (length ts)) (λ e_ j_. verdict_from e_ j_ ts) ≡ is.Reads
        → go (step (suc d) k z) (suc (length ts)) (λ e_ j_. verdict_from e_ j_ ts) ≡ is.Reads
    at stuck is again f = absurd (cc)
    at deep is again f = absurd (cc)
    at (goes e_ j_) is again f = ap (λ z. go z (suc (length ts)) (λ a b. verdict_from a b ts)) (step_grows d k z e_ j_ is) ∙ again e_ j_ f

abbrev add : ℕ → ℕ → ℕ
add zero d = d
add (suc n) d = suc (add n d)

add_is : (n d : ℕ) → add n d ≡ n + d
add_is zero d = omega arith
add_is (suc n) d = let h = add_is n d in omega (arith, h)

walk_grows_by : (n d : ℕ) (k : Stack) (used : List Token) (e : ℕ) (j : Stack) → walk d k used ≡ goes e j → walk (add n d) k used ≡ goes (add n e) j
walk_grows_by zero d k used e j h = h
walk_grows_by (suc n) d k used e j h = walk_grows (add n d) k used (add n e) j (walk_grows_by n d k used e j h)

run_grows_by : (n d : ℕ) (k : Stack) (ts : List Token) → verdict_from d k ts ≡ is.Reads → verdict_from (add n d) k ts ≡ is.Reads
run_grows_by zero d k ts h = h
run_grows_by (suc n) d k ts h = run_grows (add n d) k ts (run_grows_by n d k ts h)

step_stuck_by : (n d : ℕ) (k : Stack) (z : Token) → step d k z ≡ stuck → step (add n d) k z ≡ stuck
step_stuck_by zero d k z h = h
step_stuck_by (suc n) d k z h = step_stuck (add n d) k z (step_stuck_by n d k z h)

-- where the machine stops, and why
abbrev Halts : ℕ → Stack → List Token → Type 0
Halts d k [] = Unit {0}
Halts d k (z ∷ ts) = (step d k z ≡ stuck) ⊎ (step d k z ≡ deep)

pub record Stop (d : ℕ) (k : Stack) (ts : List Token) : Type 0 where
  pub used : List Token
  pub rest : List Token
  pub level : ℕ
  pub stack : Stack
  pub whole : ts ≡ used ++ rest
  pub walked : walk d k used ≡ goes level stack
  pub halts : Halts level stack rest

stop : (d : ℕ) (k : Stack) (ts : List Token) → Stop d k ts
stop d k [] = record { used = []; rest = []; level = d; stack = k; whole = refl; walked = refl; halts = tt }
stop d k (z ∷ ts) = at (step d k z) refl (λ e j. stop e j ts)
  where
    at : (s : Step) → step d k z ≡ s → ((e : ℕ) (j : Stack) → Stop e j ts) → Stop d k (z ∷ ts)
    at stuck is again = record { used = []; rest = z ∷ ts; level = d; stack = k; whole = refl; walked = refl; halts = inl is }
    at deep is again = record { used = []; rest = z ∷ ts; level = d; stack = k; whole = refl; walked = refl; halts = inr is }
    at (goes e j) is again =
        let s = again e j in
        let w = ap (λ q. onward q (λ a b. walk a b s.used)) is ∙ s.walked in record { used = z ∷ s.used; rest = s.rest; level = s.level; stack = s.stack; whole = ap (λ l. z ∷ l) s.whole; walked = w; halts = s.halts }

pub stops : (d : ℕ) (k : Stack) (ts : List Token) → (s : Stop d k ts) × (verdict_from d k ts ≡ verdict_from s.level s.stack s.rest)
stops d k ts = let s = stop d k ts in (s, ap (verdict_from d k) s.whole ∙ walk_run d k s.used s.level s.stack s.rest s.walked)

-- what a syntax fault tells of the place where it stops, and what a level too many does
record Faults (d : ℕ) (k : Stack) (rest : List Token) (n : ℕ) : Type 0 where
  place : n ≡ length rest
  early : rest ≡ [] → may_end k ≡ false
  wrong : (z : Token) (behind : List Token) → rest ≡ z ∷ behind → step d k z ≡ stuck

faults : (d : ℕ) (k : Stack) (rest : List Token) (n : ℕ) → Halts d k rest → verdict_from d k rest ≡ is.Syntax n → Faults d k rest n
faults d k [] n h v = at (may_end k) refl v
  where
    at : (b : Bool) → may_end k ≡ b → ends b ≡ is.Syntax n → Faults d k [] n
    at true is f = absurd (cc)
    at false is f = record { place = cc; early = λ _. is; wrong = λ z behind e. absurd (cc) }
faults d k (z ∷ ts) n (inl e) v =
    let p : is.Syntax (suc (length ts)) ≡ is.Syntax n = sym (ap (λ q. go q (suc (length ts)) (λ a b. verdict_from a b ts)) e) ∙ v in
    record { place = cc; early = λ q. absurd (cc); wrong = λ x behind f. let q : z ≡ x = cc in subst (λ z. step d k z ≡ stuck) q e }
faults d k (z ∷ ts) n (inr e) v = let p : is.Deep (suc (length ts)) ≡ is.Syntax n = sym (ap (λ q. go q (suc (length ts)) (λ a b. verdict_from a b ts)) e) ∙ v in absurd (cc)

pub too_deep : (d : ℕ) (k : Stack) (rest : List Token) (n : ℕ) → Halts d k rest → verdict_from d k rest ≡ is.Deep n → (z : Token) × (behind : List Token) × (rest ≡ z ∷ behind) × (n ≡ length rest) × (step d k z ≡ deep)
too_deep d k [] n h v = absurd (at (may_end k) v)
  where
    at : (b : Bool) → ends b ≡ is.Deep n → ⊥
    at true f = absurd (cc)
    at false f = absurd (cc)
too_deep d k (z ∷ ts) n (inl e) v = let p : is.Syntax (suc (length ts)) ≡ is.Deep n = sym (ap (λ q. go q (suc (length ts)) (λ a b. verdict_from a b ts)) e) ∙ v in absurd (cc)
too_deep d k (z ∷ ts) n (inr e) v = let p : is.Deep (suc (length ts)) ≡ is.Deep n = sym (ap (λ q. go q (suc (length ts)) (λ a b. verdict_from a b ts)) e) ∙ v in (z, ts, refl, cc, e)

pub takes : (d : ℕ) (ts : List Token) (c : Config) → ReadsConfig d ts c → verdict_from d (y.Sections ∷ []) ts ≡ is.Reads
takes d ts c h = run_told d (y.Sections ∷ []) (λ p. p.0 empty) ts ∙ ap outcome (take_sections h)

pub viable : (d : ℕ) (used : List Token) (e : ℕ) (j : Stack) → walk d (y.Sections ∷ []) used ≡ goes e j → Viable used
viable d used e j h =
    let w = walk_grows d (y.Sections ∷ []) used e j h in
    let c = taken (suc d) (used ++ finish j) (walk_run (suc d) (y.Sections ∷ []) used (suc e) j (finish j) w ∙ completes j e) in
    record { levels = suc d; more = finish j; config = c.0; reads = c.1 }

comm : (a b : ℕ) → add a b ≡ add b a
comm a b = let p = add_is a b in let q = add_is b a in omega (arith, p, q)

pub is_fault : (d : ℕ) (ts : List Token) (n : ℕ) → verdict_from d (y.Sections ∷ []) ts ≡ is.Syntax n → IsFault ts n
is_fault d ts n h =
    let t = stops d (y.Sections ∷ []) ts in
    let s = t.0 in
    let f = faults s.level s.stack s.rest n s.halts (sym t.1 ∙ h) in
    let grown = λ (l : ℕ). walk_grows_by l d (y.Sections ∷ []) s.used s.level s.stack s.walked in
    record {
      used = s.used;
      rest = s.rest;
      whole = s.whole;
      place = f.place;
      stops = record {
        viable = viable d s.used s.level s.stack s.walked;
        early = λ e l c p.
            let a : verdict_from (add d l) (y.Sections ∷ []) s.used ≡ is.Reads = run_grows_by d l (y.Sections ∷ []) s.used (takes l s.used c p) in
            let b : verdict_from (add l d) (y.Sections ∷ []) s.used ≡ ends (may_end s.stack) = ap (verdict_from (add l d) (y.Sections ∷ [])) (sym (append-nil s.used)) ∙ walk_run (add l d) (y.Sections ∷ []) s.used (add l s.level) s.stack [] (grown l) in
            let w : is.Reads ≡ is.Syntax 0 = sym a ∙ ap (λ i. verdict_from i (y.Sections ∷ []) s.used) (comm d l) ∙ b ∙ ap ends (f.early e) in absurd (cc);
        wrong = λ z behind e v.
            let l = v.levels in
            let a = run_grows_by d l (y.Sections ∷ []) ((s.used ++ z ∷ []) ++ v.more) (takes l ((s.used ++ z ∷ []) ++ v.more) v.config v.reads) in
            let b = walk_run (add l d) (y.Sections ∷ []) s.used (add l s.level) s.stack (z ∷ v.more) (grown l) in
            let g = step_stuck_by l s.level s.stack z (f.wrong z behind e) in
            let w : is.Reads ≡ is.Syntax (suc (length v.more)) = sym a ∙ ap (λ i. verdict_from i (y.Sections ∷ []) ((s.used ++ z ∷ []) ++ v.more)) (comm d l)
            ∙ ap (verdict_from (add l d) (y.Sections ∷ [])) (append_assoc s.used (z ∷ []) v.more) ∙ b ∙ ap (λ z. go z (suc (length v.more)) (λ a_ b_. verdict_from a_ b_ v.more)) g in absurd (cc);
      };
    }
