use Rattle.host_command.proofs.fault_lines.put_registry_line.Goals as goal

pub returns-in-NotObject-clause-all : goal.returns-in-NotObject-clause-all
returns-in-NotObject-clause-all g c = rw c.in-NotObject.is c.put_line-in-NotObject.ensures.all
