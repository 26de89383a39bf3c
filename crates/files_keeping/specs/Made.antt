-- How devices stand that are made.
use Rattle.files_keeping.specs.declared.standing.Standing.{Standing}
use Rattle.files_keeping.specs.declared.machine.MachineDevice.{MachineDevice}
use Rattle.files_keeping.specs.declared.memory_device.MemoryDevice.{MemoryDevice}

-- how the machine's stands
abbrev pub machine_standing : MachineDevice → Standing
machine_standing device = device.standing

-- how one in memory stands
abbrev pub memory_standing : MemoryDevice → Standing
memory_standing device = device.standing
