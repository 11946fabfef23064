pub mod Forms
pub mod Rules
pub mod Legal
pub mod Spread
pub mod Given
pub mod Books
pub mod Printed
