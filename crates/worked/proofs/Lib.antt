-- The starred cases are as the paper says.
pub mod Table
