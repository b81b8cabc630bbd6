-- A line that is given, as an event.
use Rattle.std.proofs.Common.{◌≡◌, ◌<◌, ◌≤◌, ◌+◌, inl, inr, ℕ, ℤ, List, [], ◌∷◌, ◌++◌, length, take, drop, sym, ap, ◌∙◌, arith, subst, length-take, length-drop}
use Rattle.std.proofs.lemmas.List.{take-append-drop, take_all, drop_all}
use Rattle.byte_lines.specs.Text.{text_of}
use Rattle.byte_lines.specs.Unread.{Unread, lines_left}
use Rattle.byte_lines.proofs.Giving.{lines_left-nil}
use Rattle.event_tree.specs.Events.{Ev}
use Rattle.in_lines.specs.Polls.{Poll, Received}
use Rattle.in_lines.specs.Readings.{IsReading}
use Rattle.in_lines.proofs.Reading.{line_given, last_given}
use Rattle.in_file.specs.Held.{IsLast, IsFirst, passed}
use Rattle.in_file.specs.Views.{Watched}
use Rattle.in_file.specs.Looks.{HasRead, GaveEvent, event_from}
use Rattle.in_file.proofs.Holding.{whole_first, last_first}

module _ (u : Unread) (says n : ℕ) (some : 0 < u.limit) where
  -- what the line says
  abbrev pub text : List ℕ
  text = text_of (take says u.bytes)

  none_behind : IsLast u says n → drop n u.bytes ≡ []
  none_behind l = drop_all n u.bytes (omega (arith, l.bytes_all))

  all_said : IsLast u says n → take says u.bytes ≡ u.bytes
  all_said l = take_all says u.bytes (omega (arith, l.says_all))

  pub first_is : IsFirst u says n → lines_left u ≡ text ∷ lines_left (passed n u)
  first_is (inl w) = whole_first u says n some w ∙ ap (λ t. text_of t ∷ lines_left (passed n u)) w.content
  first_is (inr l) =
      last_first u says n l ∙ ap (λ t. text_of t ∷ []) (sym (all_said l))
      ∙ ap (λ ls. text ∷ ls) (sym (ap (λ b. lines_left (record u { bytes = b })) (none_behind l) ∙ lines_left-nil u.limit u.ended some))

  -- so one is held
  pub is_held : IsFirst u says n → lines_left u ≡ [] → ⊥
  is_held first none = let held : text ∷ lines_left (passed n u) ≡ [] = sym (first_is first) ∙ none in absurd cc

  pub reading_on : (polls : List Poll) (given : List Received) (moment : ℤ) → IsFirst u says n → IsReading polls given u moment
      → IsReading polls (given ++ record { line = text; moment = moment } ∷ []) (passed n u) moment
  reading_on polls given moment (inl w) is =
      subst (λ t. IsReading polls (given ++ record { line = text_of t; moment = moment } ∷ []) (passed n u) moment) w.content (line_given polls given u moment w.line (drop n u.bytes) some is w.is w.whole)
  reading_on polls given moment (inr l) is =
      subst (λ t. IsReading polls (given ++ record { line = text_of t; moment = moment } ∷ []) (passed n u) moment) (sym (all_said l))
      (subst (λ b. IsReading polls (given ++ record { line = text_of u.bytes; moment = moment } ∷ []) (record u { bytes = b }) moment) (sym (none_behind l))
      (last_given polls given u moment some is l.free l.short l.some l.at_end))

-- the bytes in front and those behind them
pub front_of : (n : ℕ) (bytes : List ℕ) → bytes ≡ take n bytes ++ drop n bytes
front_of n bytes = sym (take-append-drop n bytes)

-- the event of the first line was given
pub gave_so : (w after : Watched) (event : Ev) (says n : ℕ) → 0 < w.unread.limit → IsFirst w.unread says n → n ≤ length w.unread.bytes
    → event ≡ event_from w.path w.codec (record { line = text_of (take says w.unread.bytes); moment = w.moment }) → after ≡ record w { behind = w.behind + n; unread = passed n w.unread }
    → GaveEvent event w after
gave_so w after event says n some first within event_is after_is =
    let bytes = take n w.unread.bytes in
    let long : length bytes ≡ n = length-take n w.unread.bytes ∙ omega (arith, within) in
    let held = sym (ap (λ (v : Watched). v.unread) after_is) in
    let line = text_of (take says w.unread.bytes) in
    record {
      line = line;
      event_is = event_is;
      first = first_is w.unread says n some first ∙ ap (λ u. line ∷ lines_left u) held;
      bytes = bytes;
      whole = front_of n w.unread.bytes ∙ ap (λ (u : Unread). bytes ++ u.bytes) held;
      after_is = after_is ∙ ap (λ k. record w { behind = w.behind + k; unread = passed n w.unread }) (sym long) ∙ ap (λ (u : Unread). record w { behind = w.behind + length bytes; unread = record w.unread { bytes = u.bytes } }) held;
      read = λ polls given h. subst (HasRead polls (given ++ record { line = line; moment = w.moment } ∷ [])) (sym after_is) (record {
        reading = reading_on w.unread says n some polls given w.moment first h.reading;
        places = let l = length-drop n w.unread.bytes in omega (arith, l, within, h.places);
      });
    }
