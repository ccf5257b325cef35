pub mod OneShortest
pub mod ShortestSpelling
pub mod LengthOctets
