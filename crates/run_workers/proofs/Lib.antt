mod Telling
mod Unprinted
mod Sinces
mod Handing
mod Turning
mod Ending
mod Idle
mod Records
pub mod Working
mod Spreading
mod Leaving
mod Picking
