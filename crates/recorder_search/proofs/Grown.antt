-- Journals that grew: what was read of them stays read.
use Rattle.std.proofs.Common.{◌≡◌, ◌∙◌, ◌+◌, List, [], length, get_or, take, sym, ap, arith}
use Rattle.std.proofs.lemmas.List.{take-append-le, length-append}
use Rattle.node.specs.declared.event.Event.{Event}
use Rattle.recorder_search.specs.Motion.{Motion}
use Rattle.recorder_search.specs.Journals.{place_of}
use Rattle.recorder_search.specs.Reading.{Position, IsReading, GrewTo}

-- what is read of journals is read of longer ones
pub longer_read : {State : Type 0} (motion : Motion State) (initial : State) (journals longer : List (List Event)) (p : Position State) →
    GrewTo journals longer → IsReading motion initial journals p → IsReading motion initial longer p
longer_read motion initial journals longer p grew reading = (
  reading.0,
  record {
    made = reading.1.made;
    each = reading.1.each;
    none_forgets = reading.1.none_forgets;
    within = λ place.
        let more : length (get_or longer place []) ≡ length (get_or journals place []) + length (grew place).0 =
        ap length (grew place).1 ∙ length-append (get_or journals place []) (grew place).0 in
        omega (arith, more, reading.1.within place);
    events = λ node.
        let place = place_of node in
        reading.1.events node
        ∙ sym (ap (λ j. take (get_or p.read place 0) j) (grew place).1
        ∙ take-append-le (get_or p.read place 0) (get_or journals place []) (grew place).0 (reading.1.within place));
  },
)
