use Rattle.std.proofs.Common.{◌≡◌, length, rules, w64, Fits}
use Rattle.std.specs.Hash.DefaultHasher as sip
use Rattle.byteorder.specs.Endian.{big_bytes}
use Rattle.files_logs.proofs.Pieces.{block_summed}
use Rattle.files_logs.proofs.sums.block_sum.Goals as goal

pub returns : goal.returns
returns c =
    let fits : Fits w64 c.finish.result = search rules in
    let hashed : c.finish.result ≡ sip.finish (sip.write (sip.write (sip.write sip.initial (big_bytes 8 c.args.before)) (big_bytes 4 (length c.args.said.now))) c.args.said.now) = search rules in
    block_summed c.args.before c.finish.result c.args.said.now fits.fits hashed
