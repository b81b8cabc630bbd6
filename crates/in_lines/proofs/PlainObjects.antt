-- What an object with plain members is as an event.
use Rattle.std.proofs.Common.{◌≡◌, ◌≢◌, ℕ, List, [], ◌∷◌, ◌++◌, Bool, true, false, not, if◌then◌else◌, codes, Option, Some, None, option_map, refl, sym, ap, subst, ◌∙◌, arith, rules}
use Rattle.std.specs.Prelude.{ℤ, pos, bytes_eq, is_some, IfOk, IfSome, Result, Ok, Err}
use Rattle.std.specs.Map.{keys_of}
use Rattle.std.specs.List.{list_any}
use Rattle.std.proofs.lemmas.Slice.Eq.{bytes_eq-Decides}
use Rattle.plain_data.specs.Keys.{text_cmp, same_key, Below}
use Rattle.plain_data.specs.Members.{Rises, get_member, set_member, insert_member}
use Rattle.plain_data.proofs.KeyLemmas.{order_cases, same_from_Equal, text_cmp-self, same_key-other}
use Rattle.plain_data.proofs.MemberLemmas.{get_member-below, Rises-insert_member}
use Rattle.plain_data.proofs.ChangeLemmas.{insert_member-found, get_member-insert_member-other}
use Rattle.event_tree.specs.Values.{Members}
use Rattle.event_tree.specs.Paths.{over, wrap}
use Rattle.event_tree.specs.Events.{Ev, Way, to, both, limited}
use Rattle.event_tree.specs.declared.value.Value.{Value, out-Value, roll-Value, roll-out-Value}
use Rattle.event_tree.specs.declared.value.Value.TheOpen.{Value-F}
use Rattle.event_tree.specs.declared.value.Value.TheVariants as v
use Rattle.event_text.specs.Options.{each_done, set_at, tagged}
use Rattle.event_times.specs.Decoded.{failure_tags, are_tags, is_other, moment_in, named, placed, placed_tags, placed_time}
use Rattle.in_lines.specs.Decoding.{with_member, set_missing, object_event, original}
use Rattle.in_lines.specs.Plain.{IsPlain, completed, is_text_list, is_text_list_in, missing, named_time, timed}
use Rattle.in_lines.specs.Polls.{Received}
use Rattle.in_lines.proofs.AtOnce.{whole, Fits, IsAtName, AreAtNames, kept, value_kept, all_put, kept_set, kept_without, put_new, missing_is, missing_before, missing_other, fits_before, limited_fits, timestamp}

abbrev metadata : List ℕ
metadata = codes "@metadata"

abbrev tags_key : List ℕ
tags_key = codes "tags"

abbrev version : List ℕ
version = codes "@version"

abbrev event_key : List ℕ
event_key = codes "event"

differ : (k l : List ℕ) → bytes_eq k l ≡ false → k ≢ l
differ k l other same = absurd (search (sym other ∙ (bytes_eq-Decides k l).1 same, rules))

unequal : (k l : List ℕ) → k ≢ l → bytes_eq k l ≡ false
unequal k l other = by (bytes_eq k l) refl
  where
    by : (b : Bool) → bytes_eq k l ≡ b → b ≡ false
    by true is = absurd (other ((bytes_eq-Decides k l).0 is))
    by false is = refl

-- ---- a list of texts

text_list_in : (f : Value-F Value) → is_text_list_in f ≡ true → placed_tags (roll-Value f) ≡ (named tags_key, roll-Value f)
text_list_in Value-F.Null is = absurd (search (is, rules))
text_list_in (Value-F.Bool b) is = absurd (search (is, rules))
text_list_in (Value-F.Num n) is = absurd (search (is, rules))
text_list_in (Value-F.Text s) is = absurd (search (is, rules))
text_list_in (Value-F.Time t) is = absurd (search (is, rules))
text_list_in (Value-F.List xs) is =
    subst (λ x. placed_tags x ≡ (named tags_key, x)) (sym (v.rolls-List xs)) (rw (v.outs-List xs) (rw is refl))
text_list_in (Value-F.Object ms) is = absurd (search (is, rules))

text_list : (x : Value) → is_text_list x ≡ true → placed_tags x ≡ (named tags_key, x)
text_list x is = subst (λ y. placed_tags y ≡ (named tags_key, y)) (roll-out-Value x) (text_list_in (out-Value x) is)

tags_in : (f : Value-F Value) → is_text_list_in f ≡ true → are_tags (roll-Value f) ≡ true
tags_in Value-F.Null is = absurd (search (is, rules))
tags_in (Value-F.Bool b) is = absurd (search (is, rules))
tags_in (Value-F.Num n) is = absurd (search (is, rules))
tags_in (Value-F.Text s) is = absurd (search (is, rules))
tags_in (Value-F.Time t) is = absurd (search (is, rules))
tags_in (Value-F.List xs) is = subst (λ x. are_tags x ≡ true) (sym (v.rolls-List xs)) (rw (v.outs-List xs) is)
tags_in (Value-F.Object ms) is = absurd (search (is, rules))

text_list_tags : (x : Value) → is_text_list x ≡ true → are_tags x ≡ true
text_list_tags x is = subst (λ y. are_tags y ≡ true) (roll-out-Value x) (tags_in (out-Value x) is)

-- ---- plain members stand at their names

-- what is asked of plain members, where the time is this
record Asked (t : ℤ) (ms : Members) : Type 0 where
  rises : Rises ms
  no_metadata : get_member metadata ms ≡ None
  time : (x : Value) → get_member timestamp ms ≡ Some x → moment_in x ≡ Some t
  tags : (x : Value) → get_member tags_key ms ≡ Some x → is_text_list x ≡ true

found_first : (m : List ℕ × Value) (ms : Members) (k : List ℕ) → m.0 ≡ k → get_member k (m ∷ ms) ≡ Some m.1
found_first m ms k same = subst (λ l. get_member l (m ∷ ms) ≡ Some m.1) same (rw (text_cmp-self m.0) refl)

found_behind : (m : List ℕ × Value) (ms : Members) (k : List ℕ) (x : Value) → Rises (m ∷ ms) → get_member k ms ≡ Some x → get_member k (m ∷ ms) ≡ Some x
found_behind m ms k x rises found = order_cases (text_cmp k m.0)
    (λ e. rw e found)
    (λ e. let none = get_member-below k ms (subst (λ l. Below l (keys_of ms)) (sym (same_from_Equal k m.0 e)) rises.0) in absurd (search (sym none ∙ found, rules)))
    (λ e. rw e found)

none_behind : (m : List ℕ × Value) (ms : Members) (k : List ℕ) → get_member k (m ∷ ms) ≡ None → get_member k ms ≡ None
none_behind m ms k none = order_cases (text_cmp k m.0)
    (λ e. rw e at none)
    (λ e. absurd (search ((rw e at none), rules)))
    (λ e. rw e at none)

asked_behind : (t : ℤ) (m : List ℕ × Value) (ms : Members) → Asked t (m ∷ ms) → Asked t ms
asked_behind t m ms a = record {
  rises = a.rises.1;
  no_metadata = none_behind m ms metadata a.no_metadata;
  time = λ x found. a.time x (found_behind m ms timestamp x a.rises found);
  tags = λ x found. a.tags x (found_behind m ms tags_key x a.rises found);
}

module _ (t : ℤ) (m : List ℕ × Value) (ms : Members) (a : Asked t (m ∷ ms)) where
  other : bytes_eq m.0 metadata ≡ false
  other = unequal m.0 metadata (λ same. absurd (search (sym (found_first m ms metadata same) ∙ a.no_metadata, rules)))

  as_time : bytes_eq m.0 timestamp ≡ true → placed m ≡ Some (named m.0, value_kept t m.0 m.1)
  as_time is =
      let same : m.0 ≡ timestamp = (bytes_eq-Decides m.0 timestamp).0 is in
      let moment = a.time m.1 (found_first m ms timestamp same) in
      let first : placed m ≡ Some (placed_time m.1) = rw is refl in
      let then_is : placed_time m.1 ≡ (named timestamp, v.Time t) = rw moment refl in
      let kept_is : value_kept t m.0 m.1 ≡ v.Time t = subst (λ k. value_kept t k m.1 ≡ v.Time t) (sym same) refl in
      first ∙ ap Some then_is ∙ ap (λ k. Some (named k, v.Time t)) (sym same) ∙ ap (λ x. Some (named m.0, x)) (sym kept_is)

  no_time : bytes_eq m.0 timestamp ≡ false → value_kept t m.0 m.1 ≡ m.1
  no_time is = let o : same_key timestamp m.0 ≡ false = same_key-other timestamp m.0 (λ same. differ m.0 timestamp is (sym same)) in rw o refl

  as_tags : bytes_eq m.0 timestamp ≡ false → bytes_eq m.0 tags_key ≡ true → placed m ≡ Some (named m.0, value_kept t m.0 m.1)
  as_tags is tags_is =
      let same : m.0 ≡ tags_key = (bytes_eq-Decides m.0 tags_key).0 tags_is in
      let first : placed m ≡ Some (placed_tags m.1) = rw (is, tags_is) refl in
      first ∙ ap Some (text_list m.1 (a.tags m.1 (found_first m ms tags_key same)))
      ∙ ap (λ k. Some (named k, m.1)) (sym same) ∙ ap (λ x. Some (named m.0, x)) (sym (no_time is))

  as_field : bytes_eq m.0 timestamp ≡ false → bytes_eq m.0 tags_key ≡ false → placed m ≡ Some (named m.0, value_kept t m.0 m.1)
  as_field is tags_is =
      let first : placed m ≡ Some (named m.0, m.1) = rw (is, tags_is, other) refl in
      first ∙ ap (λ x. Some (named m.0, x)) (sym (no_time is))

  at_name : IsAtName t m
  at_name = record { other = other; placed_is = by (bytes_eq m.0 timestamp) (bytes_eq m.0 tags_key) refl refl }
    where
      by : (b c : Bool) → bytes_eq m.0 timestamp ≡ b → bytes_eq m.0 tags_key ≡ c → placed m ≡ Some (named m.0, value_kept t m.0 m.1)
      by true c is tags_is = as_time is
      by false true is tags_is = as_tags is tags_is
      by false false is tags_is = as_field is tags_is

at_names : (t : ℤ) (ms : Members) → Asked t ms → AreAtNames t ms
at_names t [] a = tt
at_names t (m ∷ ms) a = (at_name t m ms a, at_names t ms (asked_behind t m ms a))

-- ---- the event

no_failure : (ms : Members) (time : Option ℤ) → IsPlain ms time → failure_tags ms ≡ []
no_failure ms time plain = by (get_member timestamp ms) (get_member tags_key ms) refl refl plain.time_is plain.tags
  where
    no_time_tag : (x : Value) (o : Option ℤ) → moment_in x ≡ o → option_map (λ t. Some t) o ≡ Some time → not (is_some (moment_in x)) ≡ false
    no_time_tag x None is said = absurd (search (said, rules))
    no_time_tag x (Some t) is said = rw is refl

    no_tags : (x : Value) → is_text_list x ≡ true → not (are_tags x) ≡ false
    no_tags x is = ap not (text_list_tags x is)

    by : (o p : Option Value) → get_member timestamp ms ≡ o → get_member tags_key ms ≡ p → named_time o ≡ Some time → over is_text_list true p ≡ true → failure_tags ms ≡ []
    by None None e f said listed = rw (e, f) refl
    by None (Some y) e f said listed = rw (e, f) (rw (no_tags y listed) refl)
    by (Some x) None e f said listed = rw (e, f) (rw (no_time_tag x (moment_in x) refl said) refl)
    by (Some x) (Some y) e f said listed = rw (e, f) (rw (no_time_tag x (moment_in x) refl said, no_tags y listed) refl)

-- the members as they are put: the time as such, where there is one
record AsPut (ms : Members) (time : Option ℤ) : Type 0 where
  moment : ℤ
  asked : Asked moment ms
  same : kept moment ms ≡ timed time ms

as_put : (ms : Members) (time : Option ℤ) → Rises ms → IsPlain ms time → AsPut ms time
as_put ms time rises plain = by (get_member timestamp ms) time refl plain.time_is
  where
    tags_asked : (x : Value) → get_member tags_key ms ≡ Some x → is_text_list x ≡ true
    tags_asked x found = ap (over is_text_list true) (sym found) ∙ plain.tags

    timed_at : (x : Value) (o : Option ℤ) (time : Option ℤ) → get_member timestamp ms ≡ Some x → moment_in x ≡ o → option_map (λ t. Some t) o ≡ Some time → AsPut ms time
    timed_at x None time found is said = absurd (search (said, rules))
    timed_at x (Some t) time found is said =
        let time_is : Some t ≡ time = search (said, rules) in
        subst (AsPut ms) time_is (record {
          moment = t;
          asked = record {
            rises = rises;
            no_metadata = plain.no_metadata;
            time = λ y there. let same : y ≡ x = search ((sym there ∙ found), rules) in ap moment_in same ∙ is;
            tags = tags_asked;
          };
          same = kept_set t ms rises ∙ sym (insert_member-found timestamp (v.Time t) ms x rises found);
        })

    by : (o : Option Value) (time : Option ℤ) → get_member timestamp ms ≡ o → named_time o ≡ Some time → AsPut ms time
    by None time none said =
        let time_is : None ≡ time = search (said, rules) in
        subst (AsPut ms) time_is (record {
          moment = pos 0;
          asked = record {
            rises = rises;
            no_metadata = plain.no_metadata;
            time = λ y there. absurd (search (sym none ∙ there, rules));
            tags = tags_asked;
          };
          same = kept_without (pos 0) ms none;
        })
    by (Some x) time found said = timed_at x (moment_in x) time found refl said

module _ (r : Received) (ms : Members) (time : Option ℤ) (rises : Rises ms) (plain : IsPlain ms time) (fits : Fits (completed r time ms)) where
  abbrev ms-1 : Members
  ms-1 = timed time ms

  abbrev ms-2 : Members
  ms-2 = missing version (v.Text (codes "1")) ms-1

  abbrev ms-3 : Members
  ms-3 = missing timestamp (v.Time r.moment) ms-2

  no_event-1 : get_member event_key ms-1 ≡ None
  no_event-1 = by time
    where
      by : (o : Option ℤ) → get_member event_key (timed o ms) ≡ None
      by None = plain.no_event
      by (Some t) = get_member-insert_member-other timestamp event_key (differ timestamp event_key refl) (v.Time t) ms ∙ plain.no_event

  no_event : get_member event_key ms-3 ≡ None
  no_event = missing_other timestamp event_key (v.Time r.moment) ms-2 (differ timestamp event_key refl)
      ∙ missing_other version event_key (v.Text (codes "1")) ms-1 (differ version event_key refl) ∙ no_event-1

  fits-3 : Fits ms-3
  fits-3 = fits_before event_key ms-3 (v.Object ((codes "original", v.Text r.line) ∷ [])) no_event fits

  fits-2 : Fits ms-2
  fits-2 = missing_before timestamp (v.Time r.moment) ms-2 fits-3

  fits-1 : Fits ms-1
  fits-1 = missing_before version (v.Text (codes "1")) ms-1 fits-2

  put-1 : each_done with_member ms (whole []) ≡ whole ms-1
  put-1 =
      let p = as_put ms time rises plain in
      all_put p.moment [] ms (at_names p.moment ms p.asked)
      (subst Rises (sym p.same) rises-1) (subst Fits (sym p.same) fits-1) ∙ ap whole p.same
    where
      rises-1 : Rises ms-1
      rises-1 = by time
        where
          by : (o : Option ℤ) → Rises (timed o ms)
          by None = rises
          by (Some t) = Rises-insert_member timestamp (v.Time t) ms rises

  pub plain_is : object_event r ms ≡ whole (completed r time ms)
  plain_is =
      ap (λ e. set_at original (v.Text r.line) (set_missing (named timestamp) (v.Time r.moment) (set_missing (named version) (v.Text (codes "1")) (each_done tagged (failure_tags ms) e)))) put-1
      ∙ ap (λ ts. set_at original (v.Text r.line) (set_missing (named timestamp) (v.Time r.moment) (set_missing (named version) (v.Text (codes "1")) (each_done tagged ts (whole ms-1))))) (no_failure ms time plain)
      ∙ ap (λ e. set_at original (v.Text r.line) (set_missing (named timestamp) (v.Time r.moment) e)) (missing_is version (v.Text (codes "1")) ms-1 refl fits-2)
      ∙ ap (set_at original (v.Text r.line)) (missing_is timestamp (v.Time r.moment) ms-2 refl fits-3)
      ∙ put_new event_key (codes "original" ∷ []) (v.Text r.line) ms-3 no_event fits

-- what was made of the completed members, where an event can have them
made_at_once : (r : Received) (ms now : Members) (time : Option ℤ) (e : Ev) → Rises ms → IsPlain ms time → now ≡ completed r time ms
    → e ≡ whole now → limited (Some e) ≡ Ok e → e ≡ object_event r ms
made_at_once r ms now time e rises plain is made ok =
    let same : e ≡ whole (completed r time ms) = made ∙ ap whole is in
    let fits : Fits (completed r time ms) = limited_fits (completed r time ms) e (subst (λ x. limited (Some x) ≡ Ok e) same ok) in
    same ∙ sym (plain_is r ms time rises plain fits)

pub each_made : {E : Type 0} (found : Result (Option Ev) E) (r : Received) (ms now : Members) (time : Option ℤ) → Rises ms → IsPlain ms time → now ≡ completed r time ms
    → IfOk found (λ o. IfSome o (λ e. (e ≡ whole now) × (limited (Some e) ≡ Ok e))) → IfOk found (λ o. IfSome o (λ e. e ≡ object_event r ms))
each_made (Err fault) r ms now time rises plain is said = tt
each_made (Ok None) r ms now time rises plain is said = tt
each_made (Ok (Some e)) r ms now time rises plain is said = made_at_once r ms now time e rises plain is said.0 said.1
