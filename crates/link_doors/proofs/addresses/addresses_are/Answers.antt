use Rattle.link_doors.proofs.AddressLaws.{addresses-are}
use Rattle.link_doors.proofs.addresses.addresses_are.Goals as goal

pub returns : goal.returns
returns c = addresses-are
