-- Objects whose members all stand at the root of their event, most of them as they are.
use Rattle.std.specs.Prelude.{◌≡◌, ℕ, ℤ, List, [], ◌∷◌, Bool, true, false, not, codes, Option, Some, None, option_map}
use Rattle.std.specs.List.{list_any}
use Rattle.plain_data.specs.Members.{get_member, insert_member}
use Rattle.event_tree.specs.Values.{Members}
use Rattle.event_tree.specs.Paths.{over}
use Rattle.event_tree.specs.declared.value.Value.{Value, out-Value}
use Rattle.event_tree.specs.declared.value.Value.TheOpen.{Value-F}
use Rattle.event_tree.specs.declared.value.Value.TheVariants as v
use Rattle.event_times.specs.Decoded.{is_other, moment_in}
use Rattle.in_lines.specs.Polls.{Received}

abbrev pub is_text_list_in : Value-F Value → Bool
is_text_list_in Value-F.Null = false
is_text_list_in (Value-F.Bool b) = false
is_text_list_in (Value-F.Num n) = false
is_text_list_in (Value-F.Text s) = false
is_text_list_in (Value-F.Time t) = false
is_text_list_in (Value-F.List xs) = not (list_any is_other xs)
is_text_list_in (Value-F.Object ms) = false

-- a list of texts
abbrev pub is_text_list : Value → Bool
is_text_list x = is_text_list_in (out-Value x)

-- the time that a member names, none where there is no such member; and nothing where it names none
abbrev pub named_time : Option Value → Option (Option ℤ)
named_time None = Some None
named_time (Some x) = option_map (λ t. Some t) (moment_in x)

-- Each member is the field of its name, as it is but for the time that one names. No other member is made of the line or of metadata.
pub record IsPlain (ms : Members) (time : Option ℤ) : Type 0 where
  pub no_metadata : get_member (codes "@metadata") ms ≡ None
  pub no_event : get_member (codes "event") ms ≡ None
  pub tags : over is_text_list true (get_member (codes "tags") ms) ≡ true
  pub time_is : named_time (get_member (codes "@timestamp") ms) ≡ Some time

-- with a member that is added where there is none of its name
abbrev pub missing : List ℕ → Value → Members → Members
missing k x ms = over (λ old. ms) (insert_member k x ms) (get_member k ms)

-- with the time that a member names as a time
abbrev pub timed : Option ℤ → Members → Members
timed None ms = ms
timed (Some t) ms = insert_member (codes "@timestamp") (v.Time t) ms

-- plain members with what each event has beside, and with the line
abbrev pub completed : Received → Option ℤ → Members → Members
completed r time ms =
    insert_member (codes "event") (v.Object ((codes "original", v.Text r.line) ∷ []))
    (missing (codes "@timestamp") (v.Time r.moment)
    (missing (codes "@version") (v.Text (codes "1"))
    (timed time ms)))
