pub mod ShortBytes
