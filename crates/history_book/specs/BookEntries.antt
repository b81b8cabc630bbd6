-- The entries of a history that lent entries and kept ones stand for.
use Rattle.std.specs.Prelude.{map, Option, Some, None}
use Rattle.queue_core.specs.Unread.{told}
use Rattle.history_book.specs.Entries.{ParcelAt, Entry, Accept, Mark, Assure, Read, Back, Shed, Deliver, Letters, Ack, Purge, Adopt, Opened}
use Rattle.history_book.specs.declared.entry.ParcelAt.{ParcelAt as LentParcel}
use Rattle.history_book.specs.declared.entry.Entry.{Entry as LentEntry}
use Rattle.history_book.specs.declared.entry.Entry.TheVariants as lent
use Rattle.history_book.specs.declared.kept.KeptEntry.{KeptEntry}
use Rattle.history_book.specs.declared.kept.KeptEntry.TheVariants as kept

abbrev pub parcel_of : Option LentParcel → Option ParcelAt
parcel_of None = None
parcel_of (Some p) = Some (record { place = p.place; number = p.number })

abbrev pub entry_of : LentEntry → Entry
entry_of (lent.Accept input parcel number event) = Accept input (parcel_of parcel) number event.now
entry_of (lent.Mark front) = Mark front
entry_of (lent.Assure input front) = Assure input front
entry_of (lent.Read batch generation numbers) = Read batch generation numbers.now
entry_of (lent.Back batch verdicts) = Back batch verdicts.now
entry_of (lent.Shed batch older newer) = Shed batch older newer.now
entry_of (lent.Deliver batch place events fates) = Deliver batch place.now events.now fates.now
entry_of (lent.Letters batch letters) = Letters batch letters.now
entry_of (lent.Ack batch) = Ack batch
entry_of (lent.Purge page) = Purge page
entry_of (lent.Adopt generation config draws) = Adopt generation config.now draws.now
entry_of (lent.Opened rows limit policy) = Opened (map told rows.now) limit policy

abbrev pub kept_of : KeptEntry → Entry
kept_of (kept.Accept input parcel number event) = Accept input (parcel_of parcel) number event
kept_of (kept.Mark front) = Mark front
kept_of (kept.Assure input front) = Assure input front
kept_of (kept.Read batch generation numbers) = Read batch generation numbers
kept_of (kept.Back batch verdicts) = Back batch verdicts
kept_of (kept.Shed batch older newer) = Shed batch older newer
kept_of (kept.Deliver batch place events fates) = Deliver batch place events fates
kept_of (kept.Letters batch letters) = Letters batch letters
kept_of (kept.Ack batch) = Ack batch
kept_of (kept.Purge page) = Purge page
kept_of (kept.Adopt generation config draws) = Adopt generation config draws
kept_of (kept.Opened rows limit policy) = Opened (map told rows) limit policy
