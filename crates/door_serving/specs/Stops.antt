-- How a session is told to have stopped.
use Rattle.turn_desk.specs.declared.faults.AskFault.{AskFault}
use Rattle.turn_desk.specs.declared.faults.AskFault.TheVariants as fault
use Rattle.session_core.specs.declared.stops.Stop.{Stop}
use Rattle.session_core.specs.declared.stops.Stop.TheVariants as stop
use Rattle.link_doors.specs.declared.listeners.Leave.{Leave}
use Rattle.link_doors.specs.declared.listeners.Leave.TheVariants as leave

-- a session stops so where the desk refuses the step of a call
abbrev pub stop_of : AskFault → Stop
stop_of fault.Worn = stop.Worn
stop_of (fault.Full bytes) = stop.Full bytes
stop_of fault.Memory = stop.Memory

-- a connection whose session stopped so is given back as one that left so
abbrev pub leave_of : Stop → Leave
leave_of stop.ReadFault = leave.ReadFault
leave_of stop.WriteFault = leave.WriteFault
leave_of (stop.Full bytes) = leave.Full bytes
leave_of stop.Worn = leave.Worn
leave_of stop.Memory = leave.Memory
leave_of _ = leave.Whole
