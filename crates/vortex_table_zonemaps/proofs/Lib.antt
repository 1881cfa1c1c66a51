mod Binding
mod Columns
mod Held
mod Paths
mod ViewLemmas
