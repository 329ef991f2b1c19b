pub mod Model
pub mod Store
pub mod Turn
pub mod Ready
