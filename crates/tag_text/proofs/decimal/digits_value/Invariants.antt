use Rattle.std.proofs.Common.{◌≡◌, ◌^◌, ◌<◌, take}
use Rattle.std.specs.Str.Parse.{digits_value}
use Rattle.tag_text.proofs.decimal.digits_value.Given as goal

-- the number of the digits so far
abbrev pub invariant-loop-digit : goal.invariant-loop-digit
invariant-loop-digit l = record { fits : l.number < 2 ^ 64; number : l.number ≡ digits_value 10 (take l.digit-index l.digits) }
