pub mod PlugLemmas
