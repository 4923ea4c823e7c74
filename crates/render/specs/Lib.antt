pub mod Render
pub mod WrittenCode
pub mod LinesCode
