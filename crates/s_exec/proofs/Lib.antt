mod Loops
mod Peer
mod PatternBytes
