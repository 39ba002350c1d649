pub mod Making12Laws
