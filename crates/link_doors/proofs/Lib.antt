pub mod AddressParts
pub mod AddressLaws
