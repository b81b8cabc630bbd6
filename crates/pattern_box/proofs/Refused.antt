-- What the parser refuses is no pattern.
use Rattle.std.proofs.Common.{◌≡◌, ◌≢◌, ℕ, ◌<◌, ◌≤◌, ◌&&◌, true, false, Bool, List, Option, Some, None, IfSome, chars, length, ⊎_elim, refl, ap, ◌∙◌, arith}
use Rattle.std.proofs.lemmas.Bool.Decides.{nat_tests}
use Rattle.std.specs.Prelude.{nat_le}
use Rattle.regex_hir.specs.Text.{is_some_and}
use Rattle.regex_syntax.specs.Grammar.{read}
use Rattle.regex_syntax.specs.Verdict.{default_config, Refuses}
use Rattle.regex_syntax.specs.declared.error.ErrorKind.{ErrorKind}
use Rattle.regex_syntax.specs.declared.error.ErrorKind.TheVariants.{OutOfMemory}
use Rattle.pattern_box.specs.declared.fault.PatternFault.{PatternFault}
use Rattle.pattern_box.specs.declared.fault.PatternFault.TheVariants.{BadPattern, Memory}
use Rattle.pattern_box.specs.Patterns.{is_pattern, IsRefusal}

and_false : (b : Bool) → b && false ≡ false
and_false true = refl
and_false false = refl

none_holds : {A : Type 0} (o : Option A) (test : A → Bool) → ((x : A) → o ≡ Some x → test x ≡ false) → is_some_and o test ≡ false
none_holds None test h = refl
none_holds (Some x) test h = h x refl

of_some : {A : Type 0} (o : Option A) (P : A → Type 0) (x : A) → o ≡ Some x → IfSome o P → P x
of_some o P x e h = rw e at h

pub past_limit : (text : List ℕ) → 65536 < length text → is_pattern text ≡ false
unfolding is_pattern
past_limit text past =
    let over : nat_le (length text) 65536 ≡ false = grind (arith, nat_tests) in
    ap (λ b. b && is_some_and (read default_config (chars text)) (λ found. nat_le found.0.depth 250)) over

pub refused_is_no_pattern : (text : List ℕ) (kind : ErrorKind) → kind ≢ OutOfMemory → Refuses default_config text kind → is_pattern text ≡ false
unfolding Refuses is_pattern
refused_is_no_pattern text kind other refuses =
    let found = read default_config (chars text) in
    let test_none : is_some_and found (λ found. nat_le found.0.depth 250) ≡ false =
    ⊎_elim
    (λ out. absurd (other out))
    (⊎_elim
    (λ none. ap (λ o. is_some_and o (λ found. nat_le found.0.depth 250)) none)
    (λ deep. none_holds found _ (λ x e. let past = of_some found _ x e deep.1 in grind (arith, nat_tests))))
    refuses in
    ap (λ b. nat_le (length text) 65536 && b) test_none ∙ and_false _

memory_is_other : ¬ (BadPattern ≡ Memory)
memory_is_other is = cc

-- the fault for an error of the parser
pub refusal_of_parser : (text : List ℕ) (kind : ErrorKind) (fault : PatternFault) → length text ≤ 65536 → Refuses default_config text kind →
    (kind ≡ OutOfMemory → fault ≡ Memory) → (kind ≢ OutOfMemory → fault ≡ BadPattern) → IsRefusal text fault
refusal_of_parser text kind BadPattern small refuses memory refused =
    refused_is_no_pattern text kind (λ out. memory_is_other (memory out)) refuses
refusal_of_parser text kind Memory small refuses memory refused = small
