-- The laws of ids and counters, which callers cite.
pub mod IdsLaws
