pub mod Numbers
pub mod Printed
pub mod RoundTrip
pub mod Examples
