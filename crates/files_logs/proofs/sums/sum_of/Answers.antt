use Rattle.std.proofs.Common.{◌≡◌, rules, w64, Fits}
use Rattle.std.specs.Hash.DefaultHasher as sip
use Rattle.files_logs.proofs.Pieces.{summed}
use Rattle.files_logs.proofs.sums.sum_of.Goals as goal

pub returns : goal.returns
returns c =
    let fits : Fits w64 c.finish.result = search rules in
    let hashed : c.finish.result ≡ sip.finish (sip.write sip.initial c.args.bytes.now) = search rules in
    summed c.args.bytes.now c.finish.result fits.fits hashed
