-- Times as text: milliseconds as seconds, and the time of day.
use Rattle.std.specs.Prelude.{ℕ, ◌/◌, ◌%◌, List, ◌++◌, codes}
use Rattle.std.specs.Fmt.{decimal}

-- ms as seconds with three decimals
abbrev pub seconds_text : ℕ → List ℕ
seconds_text millis =
    decimal (millis / 1000) ++ (codes "." ++ (decimal (millis / 100 % 10) ++ (decimal (millis / 10 % 10)
    ++ (decimal (millis % 10) ++ codes " s"))))

-- ms as seconds with one decimal
abbrev pub tenths_text : ℕ → List ℕ
tenths_text millis = decimal (millis / 1000) ++ (codes "." ++ (decimal (millis / 100 % 10) ++ codes " s"))

-- a number below 100, with two digits
abbrev pub digits_text : ℕ → List ℕ
digits_text count = decimal (count / 10 % 10) ++ decimal (count % 10)

-- the time of day, so many seconds after a day began
abbrev pub day_text : ℕ → List ℕ
day_text seconds =
    digits_text (seconds / 3600 % 24) ++ (codes ":" ++ (digits_text (seconds / 60 % 60)
    ++ (codes ":" ++ (digits_text (seconds % 60) ++ codes " UTC"))))
