-- How times, tags and delays are printed.
use Rattle.std.specs.Prelude.{ℕ, ◌^◌, ◌/◌, ◌%◌, List, ◌++◌, codes, if◌then◌else◌, nat_eq, nat_lt}
use Rattle.std.specs.Fmt.{decimal}
use Rattle.tag.specs.LogicalTime.{LogicalTime}

-- in the greatest unit that divides it; 0 has none
abbrev pub printed_time : ℕ → List ℕ
printed_time time =
    if nat_eq time 0 then codes "0"
    else (if nat_eq (time % 1_000_000_000) 0 then decimal (time / 1_000_000_000) ++ codes " s"
    else (if nat_eq (time % 1_000_000) 0 then decimal (time / 1_000_000) ++ codes " ms"
    else (if nat_eq (time % 1_000) 0 then decimal (time / 1_000) ++ codes " us"
    else decimal time ++ codes " ns")))

-- time and microstep, or FOREVER
abbrev pub printed_tag : LogicalTime → List ℕ
printed_tag g =
    if nat_lt g.time (2 ^ 62)
    then codes "(" ++ (printed_time g.time ++ (codes ", " ++ (decimal g.microstep ++ codes ")")))
    else codes "FOREVER"
