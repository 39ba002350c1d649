pub mod Format12
