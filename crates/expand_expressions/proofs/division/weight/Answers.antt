use Rattle.std.proofs.Common.{◌^◌, ◌<◌, ◌∙◌, ap, to_z, w64, arith}
use Rattle.std.proofs.lemmas.Int.{to_z_pos}
use Rattle.std.proofs.lemmas.Nat.{one_shl}
use Rattle.std.proofs.Math.Pow.{pow-lt}
use Rattle.expand_expressions.proofs.division.weight.Goals as goal

pub returns : goal.returns
returns c =
    let within : c.args.bit < 63 = c.requires in
    ap (λ n. to_z w64 n) (one_shl c.args.bit 64 (omega arith)) ∙ to_z_pos w64 (2 ^ c.args.bit) (pow-lt within)
