use Rattle.std.proofs.Common.{sym, ◌∙◌}
use Rattle.event_tree.proofs.Sounds.{sound-List, items_sound-get, rises_of}
use Rattle.event_text.proofs.ValueLemmas.{text_holds, number_holds, time_holds, member_holds}
use Rattle.event_text.proofs.value_laws.sound_values_hold.Goals as goal

pub returns-clause-text : goal.returns-clause-text
returns-clause-text c = text_holds

pub returns-clause-number : goal.returns-clause-number
returns-clause-number c = number_holds

pub returns-clause-time : goal.returns-clause-time
returns-clause-time c = time_holds

pub returns-clause-item : goal.returns-clause-item
returns-clause-item c items at item a h = items_sound-get items at item (sym (sound-List items) ∙ a) h

pub returns-clause-rises : goal.returns-clause-rises
returns-clause-rises c = rises_of

pub returns-clause-member : goal.returns-clause-member
returns-clause-member c = member_holds
