-- What was found of an item.
use Rattle.std.specs.Prelude.{◌≡◌, ℕ, List, map, codes, Option, Some, None, option_map, option_and_then, Result, MatchResult, ⊤}
use Rattle.json.specs.Token.{Token}
use Rattle.json.specs.Json.{if_last, value}
use Rattle.serde_json.specs.Data.{Data, Members, no_members, member}
use Rattle.serde_json.specs.Find.{as_array, get}
use Rattle.serde_json.specs.Read.{max_depth, of_json}
use Rattle.bulk_replies.specs.Answers.{Answer, answers_in, items_answers, reason_in, said_of, status_in, text_at}
use Rattle.bulk_replies.specs.declared.item.Only.{Only}
use Rattle.bulk_replies.specs.declared.item.Only.TheVariants.{Nothing, One, Several}
use Rattle.bulk_replies.specs.declared.item.Saying.{Saying}
use Rattle.bulk_replies.specs.declared.item.Texts.{Texts}
use Rattle.bulk_replies.specs.declared.item_result.ItemResult.{ItemResult}

-- what the items of a body say
abbrev pub said_in : Data → Option (List ItemResult)
said_in d = option_map (map said_of) (option_and_then items_answers (option_and_then as_array (get (codes "items") d)))

-- what all the tokens of a body say of so many events
abbrev pub tokens_said : ℕ → List Token → Option (List ItemResult)
tokens_said count ts = option_map (map said_of) (option_and_then (answers_in count) (option_and_then of_json (option_and_then (λ p. if_last p.0 p.1) (value max_depth ts))))

-- they say this, or nothing, if an error is sure; another fault says nothing
abbrev pub Answered : {E : Type 0} → E → Type 0 → ℕ → List Token → Result (Option (List ItemResult)) E → Type 0
Answered fault sure count ts r = MatchResult r (λ said. said ≡ tokens_said count ts) (λ e. (e ≡ fault → ⊥) → sure → None ≡ tokens_said count ts)

abbrev pub answer_of : Option Saying → Option Answer
answer_of None = None
answer_of (Some s) = option_map (λ n. record { status = n; reason = s.reason.now }) s.status

abbrev pub IsSaying : Data → Saying → Type 0
IsSaying d s = (s.status ≡ status_in d) × (s.reason.now ≡ reason_in d)

abbrev pub AreTexts : Data → Texts → Type 0
AreTexts d t = (option_map (λ s. s.now) t.reason ≡ text_at (codes "reason") d) × (option_map (λ s. s.now) t.kind ≡ text_at (codes "type") d)

abbrev pub AreSeveral : Members → Type 0
AreSeveral no_members = ⊥
AreSeveral (member k d no_members) = ⊥
AreSeveral (member k d (member l e ms)) = ⊤

-- these members: none, one, or several
abbrev pub IsOnly : Members → Only → Type 0
IsOnly ms Nothing = ms ≡ no_members
IsOnly ms (One key s) = (d : Data) × (ms ≡ member key.now d no_members) × IsSaying d s
IsOnly ms Several = AreSeveral ms
