pub mod Answers
pub mod Encoded
pub mod Written
pub mod Printed
