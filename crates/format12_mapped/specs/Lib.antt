pub mod Mapped12
