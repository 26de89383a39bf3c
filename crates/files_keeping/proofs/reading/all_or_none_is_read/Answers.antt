use Rattle.std.proofs.Common.{ℕ, List}
use Rattle.files_keeping.specs.Disk.{HasTail}
use Rattle.files_keeping.specs.Reading.{IsReadAs}
use Rattle.files_keeping.proofs.Moments.{weaker}
use Rattle.files_keeping.proofs.ReadAs.{read_so}
use Rattle.files_keeping.proofs.reading.all_or_none_is_read.Goals as goal

pub returns : goal.returns
returns g c read kept bytes old new reads so =
    let tears = g.D.Device.tears in
    weaker g.D.Device.moment g.D.Device.left old new (λ left. HasTail tears kept bytes left) (λ left. IsReadAs read kept bytes left) so (λ left tail. read_so tears read kept bytes left reads tail)
