mod Asking
mod Begun
mod LinkNumbers
mod Looping
mod Opening
mod Stepping
