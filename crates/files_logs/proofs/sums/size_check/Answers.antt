use Rattle.std.proofs.Common.{◌≡◌, rules, w64, Fits}
use Rattle.std.specs.Hash.DefaultHasher as sip
use Rattle.byteorder.specs.Endian.{big_bytes}
use Rattle.files_logs.proofs.Pieces.{checked}
use Rattle.files_logs.proofs.sums.size_check.Goals as goal

pub returns : goal.returns
returns c =
    let fits : Fits w64 c.finish.result = search rules in
    let hashed : c.finish.result ≡ sip.finish (sip.write (sip.write sip.initial (big_bytes 8 c.args.before)) (big_bytes 4 c.args.size)) = search rules in
    checked c.args.before c.args.size c.finish.result fits.fits hashed
