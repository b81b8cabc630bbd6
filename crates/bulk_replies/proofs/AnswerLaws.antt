-- What is always true of what a good reply says.
use Rattle.std.proofs.Common.{◌≡◌, ◌≤◌, ℕ, zero, suc, List, length, refl, sym, ap, ◌∙◌, codes, Option, Some, None, Bool, true, false, if◌then◌else◌, arith}
use Rattle.std.specs.Prelude.{◌==◌, option_and_then}
use Rattle.std.proofs.lemmas.Option.{none-some}
use Rattle.std.proofs.lemmas.Bool.{eqb-true}
use Rattle.std.proofs.lemmas.List.{length-take}
use Rattle.serde_json.specs.Data.{Data}
use Rattle.serde_json.specs.Find.{get, as_array}
use Rattle.serde_json.specs.Read.{read}
use Rattle.bulk_replies.specs.Answers.{Answer, answers_in, counted, cut, ends_at, items_answers, last_end}
use Rattle.bulk_replies.specs.Replies.{IsGood}

-- there is one answer for each event
counted_case : (b : Bool) (count : ℕ) (found answers : List Answer) → (length found == count) ≡ b → (if b then Some found else None) ≡ Some answers → length answers ≡ count
counted_case true count found answers one is = let same : found ≡ answers = cc in ap length (sym same) ∙ eqb-true (length found) count one
counted_case false count found answers one is = absurd (none-some answers is)

from_list : (count : ℕ) (found : Option (List Answer)) (answers : List Answer) → option_and_then (counted count) found ≡ Some answers → length answers ≡ count
from_list count None answers is = absurd (none-some answers is)
from_list count (Some found) answers is = counted_case (length found == count) count found answers refl is

from_data : (count : ℕ) (found : Option Data) (answers : List Answer) → option_and_then (answers_in count) found ≡ Some answers → length answers ≡ count
from_data count None answers is = absurd (none-some answers is)
from_data count (Some d) answers is = from_list count (option_and_then items_answers (option_and_then as_array (get (codes "items") d))) answers is

pub good_length : (count : ℕ) (reply : List ℕ) (answers : List Answer) → IsGood count reply answers → length answers ≡ count
good_length count reply answers good = from_data count (read good.body) answers good.says

-- a reason isn't longer than what is kept of it
end_case : (b : Bool) (n last : ℕ) → last ≤ n → (if b then suc n else last) ≤ suc n
end_case true n last below = omega arith
end_case false n last below = omega arith

end_within : (s : List ℕ) (n : ℕ) → last_end s n ≤ n
unfolding last_end
end_within s zero = omega arith
end_within s (suc n) = end_case (ends_at s (suc n)) n (last_end s n) (end_within s n)

pub cut_within : (s : List ℕ) → length (cut s) ≤ 65536
cut_within s = omega (arith, end_within s 65536, length-take (last_end s 65536) s)
