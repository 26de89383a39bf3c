use Rattle.loadfed.specs.Loaded.{HasLoadFault}
use Rattle.fedrun_files.specs.Refused.{federation_unread, federation_unloaded}
use Rattle.fedrun_files.proofs.KnownFiles.{unloaded_file}
use Rattle.fedrun_files.proofs.reading.read_federation_and_bytes.Goals as goal

pub returns-clause-err : goal.returns-clause-err
returns-clause-err g c =
    federation_unloaded c.in_ok-bytes.ensures.asked (unloaded_file HasLoadFault (g.F.Files.contents c.args.files.now c.args.name.now)
    c.in_ok-bytes.bytes.items c.as_slice.result.now c.in-Err.fault c.in_ok-bytes.ensures.ok c.as_slice.ensures.value c.in-Err.ensures.outcome)
