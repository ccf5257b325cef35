pub mod NextOctet
