pub mod ListedItems
pub mod MadeRows
