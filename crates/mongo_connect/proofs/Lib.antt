mod Ends
mod FirstLine
mod Recalled
mod Recorded
