pub mod IndexSet
pub mod Rules
pub mod Laws
