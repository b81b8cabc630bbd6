use Rattle.std.proofs.Common.{◌≡◌, ◌∷◌, None, refl, ap, arith, inl, inr}
use Rattle.json.specs.Json.{value}
use Rattle.json.specs.Reads.{token_of}
use Rattle.json.proofs.Grammar.{value_is}
use Rattle.serde_json.specs.Data.{number}
use Rattle.serde_json.specs.Read.{converted, of_json}
use Rattle.bulk_replies.proofs.Readings.{no_level, reads_boolean, reads_nothing, reads_null, reads_number, reads_string, refuses_number}
use Rattle.bulk_replies.proofs.passing.take.Goals as goal

pub returns-in_err-token : goal.returns-in_err-token
returns-in_err-token g c = let none = λ (sure : g.T.Passes.sure). reads_nothing c.args.depth (g.T.Passes.left c.args.reader.now) (grind arith) in grind (arith, none)

pub returns-then-depth-eq0 : goal.returns-then-depth-eq0
returns-then-depth-eq0 g c =
    let first : g.T.Passes.left c.args.reader.now ≡ token_of c.in_ok-token.token ∷ g.T.Passes.left c.next.new.self = grind arith in
    λ sure. no_level _ _ _ _ (omega arith) first (inl (ap token_of c.in-BeginArray.is))

pub returns-then-depth-eq0-2 : goal.returns-then-depth-eq0-2
returns-then-depth-eq0-2 g c =
    let first : g.T.Passes.left c.args.reader.now ≡ token_of c.in_ok-token.token ∷ g.T.Passes.left c.next.new.self = grind arith in
    λ sure. no_level _ _ _ _ (omega arith) first (inr (ap token_of c.in-BeginObject.is))

pub returns-in-String : goal.returns-in-String
returns-in-String g c =
    let first : g.T.Passes.left c.args.reader.now ≡ token_of c.in_ok-token.token ∷ g.T.Passes.left c.next.new.self = grind arith in
    (_, reads_string _ c.in-String.text.now _ _ (grind (arith, first)), (tt, refl, refl))

pub returns-in-Some : goal.returns-in-Some
returns-in-Some g c =
    let first : g.T.Passes.left c.args.reader.now ≡ token_of c.in_ok-token.token ∷ g.T.Passes.left c.next.new.self = grind arith in
    let n = reads_number c.args.depth c.in-Number.text.now (g.T.Passes.left c.next.new.self) (g.T.Passes.left c.args.reader.now) _ (grind (arith, first)) c.in-Some.ensures in
    (number n.0, n.1, (tt, refl, n.2))

pub returns-in-None : goal.returns-in-None
returns-in-None g c =
    let first : g.T.Passes.left c.args.reader.now ≡ token_of c.in_ok-token.token ∷ g.T.Passes.left c.next.new.self = grind arith in
    λ sure. refuses_number _ c.in-Number.text.now (g.T.Passes.left c.next.new.self) _ (grind (arith, first)) c.in-None.ensures

pub returns-in-Bool : goal.returns-in-Bool
returns-in-Bool g c =
    let first : g.T.Passes.left c.args.reader.now ≡ token_of c.in_ok-token.token ∷ g.T.Passes.left c.next.new.self = grind arith in
    (_, reads_boolean _ c.in-Bool.field-0 _ _ (grind (arith, first)), (tt, refl, refl))

pub returns-in-Null : goal.returns-in-Null
returns-in-Null g c =
    let first : g.T.Passes.left c.args.reader.now ≡ token_of c.in_ok-token.token ∷ g.T.Passes.left c.next.new.self = grind arith in
    (_, reads_null _ _ _ (grind (arith, first)), (tt, refl, refl))

pub returns-in-EndObject : goal.returns-in-EndObject
returns-in-EndObject g c =
    let first : g.T.Passes.left c.args.reader.now ≡ token_of c.in_ok-token.token ∷ g.T.Passes.left c.next.new.self = grind arith in
    let none : value c.args.depth (g.T.Passes.left c.args.reader.now) ≡ None = rw (value_is c.args.depth (g.T.Passes.left c.args.reader.now), first) (grind arith) in
    λ sure. ap (converted of_json) none
