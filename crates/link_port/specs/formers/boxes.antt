pub mod Box
