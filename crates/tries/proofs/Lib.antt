-- Laws of what the helpers decide, and of what `remaining` says in numbers.
pub mod TriesKeyed
pub mod TriesSays
