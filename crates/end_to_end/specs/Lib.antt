pub mod HandedBack
pub mod Previewed
pub mod Editions
pub mod Carried
pub mod Shortened
