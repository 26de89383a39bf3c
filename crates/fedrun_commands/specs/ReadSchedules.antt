-- A schedule that was read to be looked at.
use Rattle.std.specs.Prelude.{Option, None, Some}
use Rattle.fedrun_lint.specs.Answered.{GivenFile}
use Rattle.fedrun_commands.specs.Linted.{file_of}
use Rattle.fedrun_commands.specs.declared.linting.ScheduleFile.{ScheduleFile}

-- it by its name, with the bytes that were read, if there is one
abbrev pub schedule_of : Option ScheduleFile → Option GivenFile
schedule_of None = None
schedule_of (Some file) = Some (file_of file.name.now file.bytes)
