use Rattle.host_command.proofs.fault_lines.write_host_line.Goals as goal

pub returns-in-CannotBind-clause-all : goal.returns-in-CannotBind-clause-all
returns-in-CannotBind-clause-all g c = rw c.in-CannotBind.is c.put_line.ensures.all

pub returns-in-CannotAccept-clause-all : goal.returns-in-CannotAccept-clause-all
returns-in-CannotAccept-clause-all g c = rw c.in-CannotAccept.is c.put_line-in-CannotAccept.ensures.all
