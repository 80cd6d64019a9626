pub mod Faults
pub mod Follows
pub mod FollowsType
pub mod Refuses
pub mod RefusesType
