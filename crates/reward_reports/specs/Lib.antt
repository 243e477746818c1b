pub mod Printed
pub mod Reports
