-- An index that holds one key for each row, of rows of any kind.
pub use Rattle.sorted_list.specs.Rows.{IsIndexOf}
