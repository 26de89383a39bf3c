-- Requests as schedules that are played, and as runs: what is to be printed of these.
use Rattle.wires.specs.declared.terms.Terms.{Terms}
use Rattle.fedrun_run.specs.declared.output.RunOutput.TheVariants as of_run
use Rattle.fedrun_words.specs.declared.request.DrawScheduleRequest.{DrawScheduleRequest}
use Rattle.fedrun_words.specs.declared.request.FramesRequest.{FramesRequest}
use Rattle.fedrun_words.specs.declared.request.RecordRequest.{RecordRequest}
use Rattle.fedrun_words.specs.declared.request.ReplayRequest.{ReplayRequest}
use Rattle.fedrun_words.specs.declared.request.RunRequest.{RunRequest}
use Rattle.fedrun_words.specs.declared.request.TraceRequest.{TraceRequest}
use Rattle.fedrun_commands.specs.declared.play.Play.{Play}
use Rattle.fedrun_commands.specs.declared.play.PlayOutput.TheVariants as of_play
use Rattle.fedrun_commands.specs.declared.running.Run.{Run}

-- a replay
abbrev pub as_replay : ReplayRequest → Play
as_replay asked = record {
  federation = asked.federation;
  inputs = asked.inputs;
  schedule = asked.schedule;
  until_stuck = asked.until_stuck;
  output = of_play.Rows asked.format;
}

-- a schedule of which frames are printed
abbrev pub as_frames : FramesRequest → Play
as_frames asked = record {
  federation = asked.federation;
  inputs = asked.inputs;
  schedule = asked.schedule;
  until_stuck = asked.until_stuck;
  output = of_play.Frames;
}

-- a schedule of which a trace is printed
abbrev pub as_trace : TraceRequest → Play
as_trace asked = record {
  federation = asked.federation;
  inputs = asked.inputs;
  schedule = asked.schedule;
  until_stuck = asked.until_stuck;
  output = of_play.Trace;
}

-- a schedule that is drawn, or some of its steps
abbrev pub as_picture : DrawScheduleRequest → Play
as_picture asked = record {
  federation = asked.federation;
  inputs = asked.inputs;
  schedule = asked.schedule;
  until_stuck = asked.until_stuck;
  output = of_play.Picture (record { from = asked.from; to = asked.to });
}

-- a run of which rows are printed
abbrev pub as_rows : RunRequest → Run
as_rows asked = record {
  federation = asked.federation;
  inputs = asked.inputs;
  terms = record { turns = asked.turns; frames = asked.frames };
  output = of_run.Rows asked.format;
}

-- a run that is recorded
abbrev pub as_steps : RecordRequest → Run
as_steps asked = record {
  federation = asked.federation;
  inputs = asked.inputs;
  terms = record { turns = asked.turns; frames = asked.frames };
  output = of_run.Steps;
}
