-- Ports by name.
use Rattle.std.specs.Prelude.{ℕ, List, ◌++◌, codes}
use Rattle.plan_names.specs.declared.port.PortName.{PortName}

-- a port, as federate.port
abbrev pub printed_port : PortName → List ℕ
printed_port p = p.federate ++ (codes "." ++ p.port)
