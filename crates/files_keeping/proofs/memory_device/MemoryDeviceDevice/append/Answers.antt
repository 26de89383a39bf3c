use Rattle.files_keeping.proofs.Memory.{part_leaves}
use Rattle.files_keeping.proofs.memory_device.MemoryDeviceDevice.append.Goals as goal

pub returns-then-not-succeeds-clause-leaves : goal.returns-then-not-succeeds-clause-leaves
returns-then-not-succeeds-clause-leaves c known =
    part_leaves c.args.self.now.start.items c.args.bytes.now c.written.result c.args.self.now.calls.items c.append_noted.new.calls.items c.append_noted.ensures.perhaps
