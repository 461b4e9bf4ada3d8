mod Ends
mod FrameLines
mod Front
mod Json
mod Naming
mod Outcomes
mod Relayed
mod Told
