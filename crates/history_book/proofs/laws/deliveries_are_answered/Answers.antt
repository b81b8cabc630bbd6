use Rattle.history_book.proofs.Mailing.{legal_deeds_tell, fronts_are_legal, deliveries_are_answered}
use Rattle.history_book.proofs.laws.deliveries_are_answered.Goals as goal

pub returns-clause-told : goal.returns-clause-told
returns-clause-told c = legal_deeds_tell

pub returns-clause-fronts : goal.returns-clause-fronts
returns-clause-fronts c = fronts_are_legal

pub returns-clause-answered : goal.returns-clause-answered
returns-clause-answered c = deliveries_are_answered
