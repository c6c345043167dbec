-- Document 01's sections, in its order; demand 3's rivals stand beside the cost that it compares.
pub mod Model
pub mod Cost
pub mod Rival
pub mod Dual
