use Rattle.std.proofs.Common.{Some, sym, ◌∙◌, ap}
use Rattle.line_links.specs.SenderTables.{WaitsOn}
use Rattle.line_links.proofs.sender.AddressSender.deliver.Goals as goal

pub returns-in-Some-NotListening-clause-waits : goal.returns-in-Some-NotListening-clause-waits
returns-in-Some-NotListening-clause-waits c waits = WaitsOn.Not_listening c.in-Some.number (sym c.in-Some-NotListening.ensures.answer ∙ ap Some c.in-Some-NotListening.field-0-is)
