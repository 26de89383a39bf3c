use Rattle.std.proofs.Common.{◌∙◌, sym, map}
use Rattle.std.proofs.lemmas.List.{length-map}
use Rattle.recorder_search.proofs.Findings.{all_there, stuck_there}
use Rattle.recorder_search.proofs.searching.find.Goals as goal

pub returns-in-Some : goal.returns-in-Some
returns-in-Some g c initial before =
    let reading = c.in_ok-read_all.ensures.reading initial before in
    let sized = c.read_all.auto.read ∙ c.requires.sized ∙ sym (length-map c.args.journals.now (λ j. j.now)) in
    let blocked = rw (← c.read_all.auto.read) at c.in_ok-read_all.ensures.blocked in (
      reading.0,
      stuck_there g.M.StepMaker.motion initial (map (λ j. j.now) c.args.journals.now)
          (record { state = c.read_all.new.step_maker; read = c.read_all.new.read }) reading.0 reading.1 c.in-Some.node c.in-Some.event sized blocked c.in-Some.ensures,
      reading.1.made,
    )

pub returns-in-None : goal.returns-in-None
returns-in-None g c initial before =
    let reading = c.in_ok-read_all.ensures.reading initial before in (
      reading.0,
      all_there g.M.StepMaker.motion initial (map (λ j. j.now) c.args.journals.now)
          (record { state = c.read_all.new.step_maker; read = c.read_all.new.read }) reading.0 reading.1 c.in-None.ensures,
      reading.1.made,
    )
