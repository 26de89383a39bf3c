use Rattle.std.proofs.Common.{take}
use Rattle.expand_documents.specs.Entries.{members_of_entries}
use Rattle.expand_documents.specs.Naming.{AreNamed, IsSetting}
use Rattle.expand_documents.proofs.naming.set.Given as goal

abbrev pub invariant-loop-setting : goal.invariant-loop-setting
invariant-loop-setting l = AreNamed (IsSetting l.names l.defaults) (members_of_entries (take l.setting-index l.settings)) l.set.items
