-- Faults of files, as a trait names them.
use Rattle.loadfed_tables.specs.declared.fault.TableFault.{TableFault}

-- a fault of a file
abbrev pub Fault : Type 0
Fault = TableFault
