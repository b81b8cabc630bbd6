use Rattle.std.proofs.Common.{◌≡◌, ◌≢◌, ◌∙◌, ap, sym, refl, subst, true, map, List, [], ◌∷◌, Err, inl, inr}
use Rattle.std.specs.Prelude.{string_bytes}
use Rattle.clap.specs.Walk.{Text, Row}
use Rattle.clap.specs.Simple.{App, is_simple, matches_of, app_of}
use Rattle.clap.specs.Faults.{fault_of, is_simple_and_free}
use Rattle.clap.specs.Kinds.{Kinds, HasKind}
use Rattle.clap.specs.Values.{kind_of}
use Rattle.clap.specs.declared.error.Error.{Error}
use Rattle.clap.specs.declared.error.kind.ErrorKind.TheVariants as kind
use Rattle.logstash_settings.specs.Command.{app, faults, found}
use Rattle.logstash_settings.specs.Words.{Answer, Gives, answer, taken, rows}
use Rattle.logstash_settings.specs.declared.fault.WordsFault.TheVariants as fault
use Rattle.logstash_settings.proofs.words.read_words.Goals as goal

simple : is_simple app ≡ true
simple = refl

free : is_simple_and_free app ≡ true
free = refl

-- words without a fault, and with one
accepted : (ks : Kinds) (xs : List Row) → ks ≡ [] → taken xs ≡ answer ks xs
accepted ks xs none = ap (λ k. answer k xs) (sym none)

refused : (ks : Kinds) (xs : List Row) → ks ≢ [] → answer ks xs ≡ Err fault.Unread
refused [] xs some = absurd (some refl)
refused (k ∷ ks) xs some = refl

-- an error that isn't want of memory has a kind
some_kind : (ks : Kinds) (e : Error) → HasKind ks e → ¬ (kind_of e ≡ kind.OutOfMemory) → ks ≢ []
some_kind (k ∷ ks) e has other = λ none. absurd (cc)
some_kind [] e (inl memory) other = λ none. other memory
some_kind [] e (inr among) other = λ none. among

pub returns-in-Ok-try_get_matches_from : goal.returns-in-Ok-try_get_matches_from
unfolding faults found
returns-in-Ok-try_get_matches_from c =
    let app_is : app_of c.in-Ok.command ≡ app = rw c.in-Ok.is at c.command.ensures in
    let words : List Text = map string_bytes c.args.words.now in
    let parse = c.try_get_matches_from.ensures in
    let is = c.in-Ok-try_get_matches_from.is in
    let kinds : fault_of (app_of c.in-Ok.command) words ≡ [] = rw is at (parse.kinds (ap is_simple_and_free app_is ∙ free)) in
    let has = (rw is at parse.matches) (ap is_simple app_is ∙ simple) in
    let none : faults words ≡ [] = ap (λ (a : App). fault_of a words) (sym app_is) ∙ kinds in
    let same : rows c.in-Ok-try_get_matches_from.matches ≡ found words = has.0 ∙ ap (λ (a : App). matches_of a words) app_is in
    subst (λ (said : Answer). Gives c.taken.result said) (ap taken same ∙ accepted (faults words) (found words) none) c.taken.ensures

pub returns : goal.returns
unfolding faults found
returns c =
    let app_is : app_of c.in-Ok.command ≡ app = rw c.in-Ok.is at c.command.ensures in
    let words : List Text = map string_bytes c.args.words.now in
    let has : HasKind (fault_of (app_of c.in-Ok.command) words) c.in-Err.error = rw c.in-Err.is at (c.try_get_matches_from.ensures.kinds (ap is_simple_and_free app_is ∙ free)) in
    let among : HasKind (fault_of app words) c.in-Err.error = subst (λ (a : App). HasKind (fault_of a words) c.in-Err.error) app_is has in
    let other : ¬ (kind_of c.in-Err.error ≡ kind.OutOfMemory) = λ memory. c.in_default-kind.not-OutOfMemory (c.kind.ensures ∙ memory) in
    refused (faults words) (found words) (some_kind (fault_of app words) c.in-Err.error among other)
