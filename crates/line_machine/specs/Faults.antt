-- What a fault of a line's queue, and one of its dead letters, is to the line.
use Rattle.io_traits.specs.declared.queue_faults.QueueFault.{QueueFault}
use Rattle.io_traits.specs.declared.queue_faults.QueueFault.TheVariants as queue
use Rattle.dead_letters.specs.declared.faults.DeadFault.{DeadFault}
use Rattle.dead_letters.specs.declared.faults.DeadFault.TheVariants as dead
use Rattle.line_machine.specs.declared.calls.LineFault.{LineFault}
use Rattle.line_machine.specs.declared.calls.LineFault.TheVariants as fault

abbrev pub of_queue_fault : QueueFault → LineFault
of_queue_fault queue.Fault = fault.Store
of_queue_fault (queue.Damaged damage) = fault.Damaged damage
of_queue_fault queue.Memory = fault.Memory

abbrev pub of_dead_fault : DeadFault → LineFault
of_dead_fault (dead.Full size added limit) = fault.DeadFull size added limit
of_dead_fault dead.Memory = fault.Memory
of_dead_fault dead.Fault = fault.Store
