-- The items of a reply, one by one.
use Rattle.std.proofs.Common.{◌≡◌, List, [], ◌∷◌, ◌++◌, map, refl, sym, ap, ◌∙◌, Option, Some, None, append_assoc, append-nil}
use Rattle.std.specs.Prelude.{option_map, option_and_then}
use Rattle.serde_json.specs.Data.{Data, Items, no_items, item}
use Rattle.bulk_replies.specs.Answers.{Answer, said_of, item_answer, items_answers}
use Rattle.bulk_replies.specs.declared.item_result.ItemResult.{ItemResult}

abbrev pub items_said : Items → Option (List ItemResult)
items_said ds = option_map (map said_of) (items_answers ds)

-- what was said, and behind it what the rest says
abbrev behind : Option (List ItemResult) → Option (List ItemResult) → Option (List ItemResult)
behind said rest = option_and_then (λ s. option_map (λ more. s ++ more) rest) said

-- with any further items, those before them say this
abbrev pub SaidSoFar : (Items → Items) → Option (List ItemResult) → Type 0
SaidSoFar before said = (ds : Items) → items_said (before ds) ≡ behind said (items_said ds)

abbrev pub with_one : Option (List ItemResult) → Option ItemResult → Option (List ItemResult)
with_one said one = option_and_then (λ s. option_map (λ x. s ++ x ∷ []) one) said

with_answer : (said : Option (List ItemResult)) (a : Option Answer) → option_and_then (λ s. option_map (λ x. s ++ said_of x ∷ []) a) said ≡ with_one said (option_map said_of a)
with_answer None a = refl
with_answer (Some s) None = refl
with_answer (Some s) (Some a) = refl

start : (rest : Option (List ItemResult)) → rest ≡ behind (Some []) rest
start None = refl
start (Some more) = refl

pub said_start : (said : List ItemResult) → said ≡ [] → SaidSoFar (λ ds. ds) (Some said)
said_start said is ds = start (items_said ds) ∙ ap (λ s. behind (Some s) (items_said ds)) (sym is)

one_more : (said : Option (List ItemResult)) (a : Option Answer) (rest : Option (List Answer)) → behind said (option_map (map said_of) (option_and_then (λ x. option_map (λ more. x ∷ more) rest) a)) ≡ behind (with_one said (option_map said_of a)) (option_map (map said_of) rest)
one_more None a rest = refl
one_more (Some s) None rest = refl
one_more (Some s) (Some a) None = refl
one_more (Some s) (Some a) (Some more) = ap Some (sym (append_assoc s (said_of a ∷ []) (map said_of more)))

said_more : (before : Items → Items) (said more : Option (List ItemResult)) (one : Option ItemResult) (d : Data) → SaidSoFar before said → one ≡ option_map said_of (item_answer d) → more ≡ with_one said one → SaidSoFar (λ ds. before (item d ds)) more
said_more before said more one d so_far says is ds =
    so_far (item d ds) ∙ one_more said (item_answer d) (items_answers ds) ∙ ap (λ s. behind (with_one said s) (items_said ds)) (sym says) ∙ ap (λ s. behind s (items_said ds)) (sym is)

pub said_added : (before : Items → Items) (said more : Option (List ItemResult)) (one : Option Answer) (d : Data) → SaidSoFar before said → one ≡ item_answer d
    → more ≡ option_and_then (λ s. option_map (λ a. s ++ said_of a ∷ []) one) said → SaidSoFar (λ ds. before (item d ds)) more
said_added before said more one d so_far says is = said_more before said more (option_map said_of one) d so_far (ap (option_map said_of) says) (is ∙ with_answer said one)

all : (said : Option (List ItemResult)) → behind said (Some []) ≡ said
all None = refl
all (Some s) = ap Some (append-nil s)

pub said_all : (before : Items → Items) (said : Option (List ItemResult)) → SaidSoFar before said → said ≡ items_said (before no_items)
said_all before said so_far = sym (so_far no_items ∙ all said)
