-- What holds of the parts of a sound value.
use Rattle.std.proofs.Common.{◌≡◌, ◌↔◌, ℕ, ℤ, zero, suc, List, [], ◌∷◌, Bool, true, false, Option, Some, None, option_and_then, sym, ap, subst, ◌∙◌, rules, slice_get}
use Rattle.std.proofs.lemmas.Option.{same_Some}
use Rattle.std.specs.Str.{IsUtf8}
use Rattle.plain_data.specs.Calendar.{IsMoment}
use Rattle.event_tree.specs.Number.{Num}
use Rattle.event_tree.specs.Values.{Members}
use Rattle.event_tree.specs.Sound.{sound, members_sound}
use Rattle.event_tree.specs.Paths.{step, at}
use Rattle.event_tree.specs.Events.{Ev, IsEvent, to, event_at}
use Rattle.event_tree.specs.declared.value.Value.{Value}
use Rattle.event_tree.specs.declared.value.Value.TheVariants as v
use Rattle.event_tree.proofs.Sounds.{sound-Num, sound-Text, sound-Time, sound_number, sound_text, sound_time, number_is, number_true, text_is, moment_is, values_of, key_of, value_of, rest_of}
use Rattle.event_text.specs.ValueLaws.{IsNumber, IsSoundMember}
use Rattle.event_text.proofs.TakeGets.{step_sound}

pub text_holds : (s : List ℕ) → (sound (v.Text s) ≡ true) ↔ IsUtf8 s
text_holds s = (λ h. text_is s (sym (sound-Text s) ∙ h), sound_text s)

pub number_holds : (n : Num) → (sound (v.Num n) ≡ true) ↔ IsNumber n
number_holds n = (λ h. number_is n (sym (sound-Num n) ∙ h), λ is. sound_number n (number_true n is.0 is.1))

pub time_holds : (t : ℤ) → (sound (v.Time t) ≡ true) ↔ IsMoment t
time_holds t = (λ h. moment_is t (sym (sound-Time t) ∙ h), sound_time t)

members_hold : (ms : Members) (i : ℕ) (m : List ℕ × Value) → members_sound ms ≡ true → slice_get ms i ≡ Some m → IsSoundMember m
members_hold [] i m a h = absurd (search (h, rules))
members_hold (n ∷ ms) zero m a h = subst IsSoundMember (same_Some n m h) (text_is n.0 (key_of n ms a), value_of n ms a)
members_hold (n ∷ ms) (suc i) m a h = members_hold ms i m (rest_of n ms a) h

pub member_holds : (ms : Members) (i : ℕ) (m : List ℕ × Value) → sound (v.Object ms) ≡ true → slice_get ms i ≡ Some m → IsSoundMember m
member_holds ms i m a h = members_hold ms i m (values_of ms a) h

found_sound : (more : Value → Option Value) (o : Option Value) (e : Value) → ((x : Value) → o ≡ Some x → sound x ≡ true) → ((x : Value) → sound x ≡ true → more x ≡ Some e → sound e ≡ true) → option_and_then more o ≡ Some e → sound e ≡ true
found_sound more None e each on k = absurd (search (k, rules))
found_sound more (Some x) e each on k = on x (each x (λ i. Some x)) k

at_sound : (ps : List (List ℕ)) (d e : Value) → sound d ≡ true → at ps d ≡ Some e → sound e ≡ true
at_sound [] d e a h = ap sound (sym (same_Some d e h)) ∙ a
at_sound (p ∷ ps) d e a h = found_sound (at ps) (step p d) e (λ x was. step_sound p d x a was) (λ x b k. at_sound ps x e b k) h

pub got_sound : (meta : Bool) (ps : List (List ℕ)) (event : Ev) (d : Value) → IsEvent event → event_at (to meta ps) event ≡ Some d → sound d ≡ true
got_sound true ps event d is h = at_sound ps event.meta d is.meta_sound h
got_sound false ps event d is h = at_sound ps event.fields d is.fields_sound h
