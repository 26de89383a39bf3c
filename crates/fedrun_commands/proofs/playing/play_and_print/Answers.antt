use Rattle.std.proofs.Common.{[], ◌∷◌, ◌++◌, inl, inr, subst}
use Rattle.std.proofs.lemmas.Result.{on_ok_weaker, IfErr-weaker}
use Rattle.fedrun_files.specs.Answers.{Answers, given}
use Rattle.fedrun_files.proofs.InTurn.{answered_in_turn}
use Rattle.fedrun_files.specs.Refused.{asked_sources}
use Rattle.fedrun_commands.specs.Refused.{IsScheduleFault}
use Rattle.fedrun_commands.specs.Schedules.{IsSchedule}
use Rattle.fedrun_commands.proofs.InTurn.{schedule_fault_after}
use Rattle.fedrun_commands.proofs.playing.play_and_print.Goals as goal

pub returns-in-Err-read_schedule-clause-stands : goal.returns-in-Err-read_schedule-clause-stands
returns-in-Err-read_schedule-clause-stands g c =
    let fault = c.in-Err-read_schedule.fault in
    let asked = asked_sources c.args.play.now.federation.now c.args.play.now.inputs.now in
    let before = g.F.Files.answers c.args.files.now in
    let mid = g.F.Files.answers c.read_sources.new.files in
    let after = g.F.Files.answers c.read_schedule.new.files in
    inr (record {
      sources = c.in-Ok.sources;
      sources_are = c.in-Ok.ensures.ok;
      holds = inl (
          subst (λ contents. IsScheduleFault c.in-Ok.sources.plan c.args.play.now.schedule contents (λ later. Answers before after (asked ++ later)) fault) c.in-Ok.ensures.same
          (schedule_fault_after (λ later come. answered_in_turn before mid after asked later c.in-Ok.ensures.asked come) c.in-Ok.sources.plan c.args.play.now.schedule
          (g.F.Files.contents c.read_sources.new.files) fault c.in-Err-read_schedule.ensures.err)
          );
    })

pub returns-clause-stands : goal.returns-clause-stands
returns-clause-stands g c =
    let asked = asked_sources c.args.play.now.federation.now c.args.play.now.inputs.now in
    let before = g.F.Files.answers c.args.files.now in
    let mid = g.F.Files.answers c.read_sources.new.files in
    let after = g.F.Files.answers c.read_schedule.new.files in
    let all : Answers before after (asked ++ given c.args.play.now.schedule.now ∷ [])
    = answered_in_turn before mid after asked (given c.args.play.now.schedule.now ∷ []) c.in-Ok.ensures.asked c.in-Ok-read_schedule.ensures.asked in
    let there : IsSchedule (g.F.Files.contents c.args.files.now c.args.play.now.schedule.now) c.in-Ok.sources.plan c.in-Ok-read_schedule.script =
    subst (λ contents. IsSchedule (contents c.args.play.now.schedule.now) c.in-Ok.sources.plan c.in-Ok-read_schedule.script) c.in-Ok.ensures.same c.in-Ok-read_schedule.ensures.ok in
    IfErr-weaker c.print_played.result _ _
    (λ fault stands. inr (record {
      sources = c.in-Ok.sources;
      sources_are = c.in-Ok.ensures.ok;
      holds = inr (all, record { script = c.in-Ok-read_schedule.script; script_is = there; holds = stands });
    }))
    c.print_played.ensures.stands

pub returns-clause-ok : goal.returns-clause-ok
returns-clause-ok g c =
    let there : IsSchedule (g.F.Files.contents c.args.files.now c.args.play.now.schedule.now) c.in-Ok.sources.plan c.in-Ok-read_schedule.script =
    subst (λ contents. IsSchedule (contents c.args.play.now.schedule.now) c.in-Ok.sources.plan c.in-Ok-read_schedule.script) c.in-Ok.ensures.same c.in-Ok-read_schedule.ensures.ok in
    on_ok_weaker c.print_played.result
    (λ printed. record {
      sources = c.in-Ok.sources;
      sources_are = c.in-Ok.ensures.ok;
      holds = record { script = c.in-Ok-read_schedule.script; script_is = there; holds = printed };
    })
    c.print_played.ensures.ok

pub returns-in-Err-clause-stands : goal.returns-in-Err-clause-stands
returns-in-Err-clause-stands g c = inl c.in-Err.ensures.err
