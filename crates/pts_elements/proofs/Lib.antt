pub mod IntoCells
pub mod RangeCells
pub mod Singles
