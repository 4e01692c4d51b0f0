pub mod WrittenCells
