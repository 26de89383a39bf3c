-- What a temporary file says by which a report's name is reserved.
use Rattle.std.specs.Prelude.{ℕ, List, codes}

-- for whoever finds it
abbrev pub note : List ℕ
note =
    codes "This name is kept for the report of a node without a log (--sync no). Where none runs, remove this file.\n"
