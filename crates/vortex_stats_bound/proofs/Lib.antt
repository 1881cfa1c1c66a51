mod Examples
mod Scalars
mod Unions
