use Rattle.event_json.proofs.WrittenNumbers.{number_text_reads}
use Rattle.event_text.proofs.LawLemmas.{text_reads}
use Rattle.event_text.proofs.laws.number_texts_read_back.Goals as goal

pub returns-clause-reads : goal.returns-clause-reads
returns-clause-reads c n fits = number_text_reads n fits

pub returns-clause-only : goal.returns-clause-only
returns-clause-only c n r least fits reads_least h = text_reads n r least fits reads_least h
