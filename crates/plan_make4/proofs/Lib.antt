pub mod Making4Laws
