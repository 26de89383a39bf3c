-- Steps up to one and from one on, where there may be fewer.
use Rattle.std.proofs.Common.{◌≡◌, ℕ, List, length, take, drop, min}
use Rattle.std.proofs.lemmas.List.{take_min, drop_min}
use Rattle.fedrun_replay.specs.Play.{Made}

pub first_ones : (n : ℕ) (made : List Made) → take (min n (length made)) made ≡ take n made
first_ones n made = take_min n made

pub later_ones : (n : ℕ) (made : List Made) → drop (min n (length made)) made ≡ drop n made
later_ones n made = drop_min n made
