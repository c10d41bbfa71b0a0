pub mod Promises
pub mod Trips
pub mod OtherPromises
pub mod Demand1
pub mod Demands
