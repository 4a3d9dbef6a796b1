pub mod Octets
pub mod Sum
pub mod Pseudo
pub mod Ipv4
pub mod Udp
pub mod Segment
pub mod Positions
