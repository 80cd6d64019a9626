pub mod RealLinks
pub mod RealDoors
