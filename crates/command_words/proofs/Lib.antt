pub mod BuildLemmas
pub mod NumberLemmas
pub mod ParseLemmas
pub mod RowLemmas
