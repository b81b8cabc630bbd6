-- What the body of a reply of Elasticsearch's bulk API says of each event.
use Rattle.std.specs.Prelude.{ℕ, zero, suc, ◌==◌, ◌&&◌, ◌||◌, nat_lt, nat_le, List, [], ◌∷◌, length, take, slice_index, Bool, if◌then◌else◌, codes, Option, Some, None, option_map, option_and_then, unwrap_or}
use Rattle.serde_json.specs.Data.{Data, Items, no_items, item, Members, no_members, member}
use Rattle.serde_json.specs.Find.{get, as_array, as_number, as_object, as_str, as_u64}
use Rattle.serde_json.specs.Read.{read}
use Rattle.bulk_replies.specs.declared.item_result.ItemResult.{ItemResult}
use Rattle.bulk_replies.specs.declared.item_result.ItemResult.TheVariants.{Took, Rejected, Retry}

-- the status of an item, and why the event was refused
pub record Answer : Type 0 where
  pub status : ℕ
  pub reason : List ℕ

-- the value of an object that has one key
abbrev pub only_member : Members → Option Data
only_member no_members = None
only_member (member k d no_members) = Some d
only_member (member k d (member l e ms)) = None

abbrev pub only_value : Data → Option Data
only_value d = option_and_then only_member (as_object d)

-- a whole number of at most 65,535
abbrev small : ℕ → Option ℕ
small n = if nat_le n 65535 then Some n else None

abbrev pub status_in : Data → Option ℕ
status_in d = option_and_then small (option_and_then as_u64 (option_and_then as_number (get (codes "status") d)))

abbrev pub text_at : List ℕ → Data → Option (List ℕ)
text_at k d = option_and_then as_str (get k d)

abbrev first_text : Option (List ℕ) → List ℕ → List ℕ
first_text (Some s) other = s
first_text None other = other

-- what an error says: its `reason`, else its `type`, else nothing
abbrev pub error_text : Data → List ℕ
error_text d = first_text (text_at (codes "reason") d) (first_text (text_at (codes "type") d) [])

abbrev pub reason_in : Data → List ℕ
reason_in d = unwrap_or (option_map error_text (get (codes "error") d)) []

-- what an item says: its one key has an object with a status
abbrev pub item_answer : Data → Option Answer
item_answer d = option_and_then (λ inner. option_map (λ n. record { status = n; reason = reason_in inner }) (status_in inner)) (only_value d)

abbrev pub items_answers : Items → Option (List Answer)
items_answers no_items = Some []
items_answers (item d ds) = option_and_then (λ a. option_map (λ rest. a ∷ rest) (items_answers ds)) (item_answer d)

-- one for each event
abbrev pub counted : ℕ → List Answer → Option (List Answer)
counted count answers = if length answers == count then Some answers else None

abbrev pub answers_in : ℕ → Data → Option (List Answer)
answers_in count d = option_and_then (counted count) (option_and_then items_answers (option_and_then as_array (get (codes "items") d)))

-- what a body says of so many events
abbrev pub answers_of : ℕ → List ℕ → Option (List Answer)
answers_of count body = option_and_then (answers_in count) (read body)

-- a character of the text ends there, or none stands in front
abbrev pub ends_at : List ℕ → ℕ → Bool
ends_at s n = nat_le n (length s) && ((n == length s) || nat_lt (slice_index s n) 128 || nat_le 192 (slice_index s n))

-- the last such place up to n
unfoldable pub last_end : List ℕ → ℕ → ℕ
last_end s zero = zero
last_end s (suc n) = if ends_at s (suc n) then suc n else last_end s n

-- as many whole characters from the front as 65,536 bytes hold
abbrev pub cut : List ℕ → List ℕ
cut s = take (last_end s 65536) s

-- 2xx: it was taken; 400 and 404: it is refused for good; any other: it may be sent again
abbrev pub said_of : Answer → ItemResult
said_of a =
    if nat_le 200 a.status && nat_le a.status 299 then Took
    else (if (a.status == 400) || (a.status == 404) then Rejected a.status (cut a.reason) else Retry)
