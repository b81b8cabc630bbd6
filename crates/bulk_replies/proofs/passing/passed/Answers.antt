use Rattle.std.proofs.Common.{◌≡◌, ◌∷◌, ℕ, Some, None, ap, ◌∙◌, arith}
use Rattle.json.specs.Json.{value}
use Rattle.json.specs.Reads.{token_of}
use Rattle.json.proofs.Grammar.{value_is}
use Rattle.serde_json.specs.Data.{number}
use Rattle.serde_json.specs.Read.{converted, of_json}
use Rattle.bulk_replies.specs.Taken.{Refuses}
use Rattle.bulk_replies.proofs.Readings.{reads_boolean, reads_nothing, reads_null, reads_number_deep, reads_string, refuses_number, yields_first, yields_none}
use Rattle.bulk_replies.proofs.passing.passed.Goals as goal

pub returns-in_err-token : goal.returns-in_err-token
returns-in_err-token c old new y =
    let is : c.args.token ≡ None = grind arith in
    let none : (depth : ℕ) → Refuses depth old = λ depth. reads_nothing depth old (yields_none old new c.args.token is y) in
    grind (arith, none)

pub returns-in-Some : goal.returns-in-Some
returns-in-Some c old new y =
    let is : c.args.token ≡ Some c.in_ok-token.token = grind arith in
    let n = reads_number_deep c.in-Number.text.now new old _ (yields_first old new c.args.token _ is y ∙ ap (λ t. token_of t ∷ new) c.in-Number.is) c.in-Some.ensures in
    (number n.0, n.1)

pub returns-in-None : goal.returns-in-None
returns-in-None c old new y =
    let is : c.args.token ≡ Some c.in_ok-token.token = grind arith in
    λ depth. refuses_number depth c.in-Number.text.now new old (yields_first old new c.args.token _ is y ∙ ap (λ t. token_of t ∷ new) c.in-Number.is) c.in-None.ensures

pub returns-in-String : goal.returns-in-String
returns-in-String c old new y =
    let is : c.args.token ≡ Some c.in_ok-token.token = grind arith in
    (_, λ depth. reads_string depth c.in-String.field-0.now new old (yields_first old new c.args.token _ is y ∙ ap (λ t. token_of t ∷ new) c.in-String.is))

pub returns-in-Bool : goal.returns-in-Bool
returns-in-Bool c old new y =
    let is : c.args.token ≡ Some c.in_ok-token.token = grind arith in
    (_, λ depth. reads_boolean depth c.in-Bool.field-0 new old (yields_first old new c.args.token _ is y ∙ ap (λ t. token_of t ∷ new) c.in-Bool.is))

pub returns-in-Null : goal.returns-in-Null
returns-in-Null c old new y =
    let is : c.args.token ≡ Some c.in_ok-token.token = grind arith in
    (_, λ depth. reads_null depth new old (yields_first old new c.args.token _ is y ∙ ap (λ t. token_of t ∷ new) c.in-Null.is))

pub returns-in-EndObject : goal.returns-in-EndObject
returns-in-EndObject c old new y =
    let is : c.args.token ≡ Some c.in_ok-token.token = grind arith in
    let first : old ≡ token_of c.in_ok-token.token ∷ new = yields_first old new c.args.token _ is y in
    let none : (depth : ℕ) → value depth old ≡ None = λ depth. rw (value_is depth old, first) (grind arith) in
    λ depth. ap (converted of_json) (none depth)
