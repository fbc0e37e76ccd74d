-- "Worked by hand", the starred cases.
pub mod Table
