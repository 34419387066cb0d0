pub mod ZeroTableau
