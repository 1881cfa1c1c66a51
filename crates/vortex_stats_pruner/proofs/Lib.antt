pub mod PruningLemmas
