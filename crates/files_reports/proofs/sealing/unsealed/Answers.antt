use Rattle.std.proofs.Common.{◌≢◌, sym, ◌∙◌, arith}
use Rattle.std.proofs.lemmas.Bool.{false≢true}
use Rattle.sha2.specs.Sha256.{sha256}
use Rattle.files_reports.proofs.Ends.{unsealed, long_enough}
use Rattle.files_reports.proofs.sealing.unsealed.Goals as goal

pub returns-then-bytes-lt-DIGEST_SIZE : goal.returns-then-bytes-lt-DIGEST_SIZE
returns-then-bytes-lt-DIGEST_SIZE c = λ content e. absurd (omega (arith, c.if-bytes-lt-DIGEST_SIZE.true, long_enough c.args.bytes.now content e))

pub returns-else-is_digest : goal.returns-else-is_digest
returns-else-is_digest c =
    let apart : c.split_at.result.1.now ≢ sha256 c.split_at.result.0.now = λ same. false≢true (sym c.if-is_digest.false ∙ c.is_digest.ensures.1 same) in
    unsealed c.args.bytes.now c.split_at.result.0.now c.split_at.result.1.now c.split_at.ensures.front c.split_at.ensures.back apart
