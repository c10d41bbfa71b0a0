pub mod Promises
pub mod OtherPromises
pub mod More
pub mod Demand1
pub mod Demands
pub mod Trips
