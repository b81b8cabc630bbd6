-- Why something that is kept in files of a store was not read, by the fault of a call below.
use Rattle.io_traits.specs.declared.faults.ListFault.{ListFault}
use Rattle.io_traits.specs.declared.faults.ListFault.TheVariants.{Failed as ListFailed, Memory as NoMemory}
use Rattle.io_traits.specs.declared.queue_faults.QueueFault.{QueueFault}
use Rattle.io_traits.specs.declared.queue_faults.QueueFault.TheVariants.{Fault, Memory}

-- after a list of names
abbrev pub by_list : ListFault → QueueFault
by_list ListFailed = Fault
by_list NoMemory = Memory
