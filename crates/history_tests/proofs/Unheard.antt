-- Where no answer is heard, none is in the mail.
use Rattle.std.proofs.Common.{◌≡◌, List, [], ◌∷◌, refl, subst}
use Rattle.pipeline_bus.specs.declared.parcel.Answer.{Answer}
use Rattle.pipeline_bus.specs.declared.parcel.Heard.TheVariants.{Assured}
use Rattle.history_book.proofs.Mailing.{deliveries_are_answered}
use Rattle.history_book.specs.Deeds.{Deed, Tell, Send, Hear, HeardFrom, Mail, no_mail, mail_told, mail_next, mail_after, heard_on}
use Rattle.history_book.specs.Entries.{Entry, Accept, Mark, Assure, Read, Back, Shed, Deliver, Letters, Ack, Purge, Adopt, Opened}
use Rattle.history_book.specs.Lists.{IsIn}
use Rattle.history_tests.specs.Unanswered.{HearsNone, UnansweredIsNotLegal}

told_none : (m : Mail) (entry : Entry) → m.heard ≡ [] → (mail_told m entry).heard ≡ []
told_none m (Opened rows limit policy) e = refl
told_none m (Accept input parcel number event) e = e
told_none m (Mark front) e = e
told_none m (Assure input front) e = e
told_none m (Read batch generation numbers) e = e
told_none m (Back batch verdicts) e = e
told_none m (Shed batch older newer) e = e
told_none m (Deliver batch at events fates) e = e
told_none m (Letters batch letters) e = e
told_none m (Ack batch) e = e
told_none m (Purge page) e = e
told_none m (Adopt generation config draws) e = e

none_heard : (m : Mail) (deeds : List Deed) → HearsNone deeds → m.heard ≡ [] → (mail_after m deeds).heard ≡ []
none_heard m [] hears e = e
none_heard m (Tell entry ∷ deeds) hears e = none_heard (mail_told m entry) deeds hears (told_none m entry e)
none_heard m (Send address parcel ∷ deeds) hears e = none_heard (mail_next m (Send address parcel)) deeds hears e
none_heard m (Hear address answer ∷ deeds) hears e = absurd hears

pub unanswered_is_not_legal : UnansweredIsNotLegal
unanswered_is_not_legal makes earlier deeds before batch address events fates rest hears is none legal =
    let a = deliveries_are_answered makes earlier deeds legal before batch address events fates rest is none in
    let x : Answer = record { number = a.parcel.number; answer = Assured } in
    absurd (subst (λ (hs : List HeardFrom). IsIn x (heard_on address hs)) (none_heard no_mail deeds hears refl) a.heard)
