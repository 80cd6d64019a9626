use Rattle.link_doors.proofs.AddressLaws.{addresses-read-back}
use Rattle.link_doors.proofs.addresses.addresses_read_back.Goals as goal

pub returns : goal.returns
returns c = addresses-read-back
