-- Which step comes next, and when none is left.
use Rattle.std.specs.Prelude.{◌≡◌, ◌⊎◌, ◌<◌, nat_lt, Bool, true, false, Option, Some, None, if◌then◌else◌}
use Rattle.std.specs.Option.{option_map}
use Rattle.line_machine.specs.declared.calls.Act.{Act}
use Rattle.line_machine.specs.declared.calls.Act.TheVariants as act
use Rattle.line_machine.specs.declared.summary.Summary.{Summary}

abbrev pub or_else : Option Act → Option Act → Option Act
or_else (Some x) other = Some x
or_else None other = other

abbrev pub when : Bool → Act → Option Act
when b x = if b then Some x else None

-- the first that the summary shows, in this order
abbrev pub next_of : Summary → Option Act
next_of s =
    or_else (when s.take act.Take) (or_else (option_map act.Deliver s.deliver) (or_else (option_map act.Acknowledge s.finished) (or_else (option_map act.Answer s.answer)
    (or_else (when s.due act.Mark) (or_else (option_map act.Assure s.assure) (or_else (when s.purge act.Purge) (or_else (when s.whole_batch act.Read)
    (or_else (option_map act.Accept s.held) (or_else (when (nat_lt 0 s.unread) act.Read) (or_else (when s.uncovered act.Mark) (option_map act.Accept s.poll)))))))))))

-- the summary shows that the step can be made
abbrev pub IsPossible : Summary → Act → Type 0
IsPossible s act.Take = s.take ≡ true
IsPossible s (act.Deliver batch) = s.deliver ≡ Some batch
IsPossible s (act.Acknowledge batch) = s.finished ≡ Some batch
IsPossible s (act.Answer link) = s.answer ≡ Some link
IsPossible s act.Mark = (s.due ≡ true) ⊎ (s.uncovered ≡ true)
IsPossible s (act.Assure input) = s.assure ≡ Some input
IsPossible s act.Purge = s.purge ≡ true
IsPossible s (act.Accept input) = (s.held ≡ Some input) ⊎ (s.poll ≡ Some input)
IsPossible s act.Read = (s.whole_batch ≡ true) ⊎ (0 < s.unread)

-- it shows none
pub record IsAtRest (s : Summary) : Type 0 where
  pub take : s.take ≡ false
  pub deliver : s.deliver ≡ None
  pub finished : s.finished ≡ None
  pub answer : s.answer ≡ None
  pub due : s.due ≡ false
  pub assure : s.assure ≡ None
  pub purge : s.purge ≡ false
  pub whole_batch : s.whole_batch ≡ false
  pub held : s.held ≡ None
  pub unread : s.unread ≡ 0
  pub uncovered : s.uncovered ≡ false
  pub poll : s.poll ≡ None
