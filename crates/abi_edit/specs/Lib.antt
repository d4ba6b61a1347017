pub mod EditExports
